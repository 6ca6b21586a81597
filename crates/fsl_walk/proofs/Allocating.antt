-- Allocations of atomic locations: leave to write comes with leave to update, or with permissions for all parts.
use Rattle.std.proofs.Common.{◌≡◌, ℕ, zero, suc, ◌+◌, ◌≤◌, ◌==◌, Bool, true, false, ◌&&◌, if◌then◌else◌, List, [], ◌∷◌, ◌++◌, slice_get, slice_set, Option, Some, None, ℤ, pos, negsuc, refl, sym, ap, subst, ◌∙◌, arith}
use Rattle.std.specs.Prelude.{◌<ℤ◌}
use Rattle.std.specs.Ordering.{int_eq}
use Rattle.std.proofs.lemmas.Bool.{and_parts, and_from, eqb-true, eq-eqb}
use Rattle.fsl_base.specs.declared.span.Span.{Span}
use Rattle.fsl_core.specs.declared.act.Act.TheOpen.{Act-F}
use Rattle.fsl_core.specs.declared.act.Stmt.{Stmt}
use Rattle.fsl_core.specs.declared.assertion.Inst.{Inst}
use Rattle.fsl_core.specs.declared.label.Label.TheVariants as label
use Rattle.fsl_core.specs.declared.mode.AllocKind.TheVariants as kind
use Rattle.fsl_core.specs.declared.mode.Rung.TheVariants.{Plain, Up, Down, Msg}
use Rattle.fsl_core.specs.declared.need.Need.TheVariants as need
use Rattle.fsl_core.specs.declared.scope.Scope.{Scope}
use Rattle.fsl_core.specs.declared.scope.Sight.TheVariants as sight
use Rattle.fsl_core.specs.Moves.{act_move}
use Rattle.fsl_core.specs.Scopes.{with_sight}
use Rattle.fsl_core.specs.logic.States.{State}
use Rattle.fsl_core.specs.logic.Terms.{expr_of}
use Rattle.fsl_core.specs.logic.Assertions.{asrt_of}
use Rattle.fsl_core.specs.logic.Locations.{setting_of}
use Rattle.fsl_core.specs.logic.Producing.{inst_of}
use Rattle.fsl_core.specs.logic.Accesses.{alloc_at}
use Rattle.fsl_core.specs.logic.Paths.{Ends, each}
use Rattle.fsl_lin.specs.Numbers.{Numbers}
use Rattle.fsl_meaning.specs.Heaps.{Key, Key as key, Heap, some_of, Claim as claim, Knows}
use Rattle.fsl_meaning.proofs.Deciding.{equal, is_equal}
use Rattle.fsl_asserted.specs.Exact.{exact_all}
use Rattle.fsl_kept.specs.Atomics.{count_by, permissions_from, leave_heap, leave_claim}
use Rattle.fsl_kept.proofs.Atomics.{atomic_alloc_fits}
use Rattle.fsl_own.specs.Owning.{Deal, Known}
use Rattle.fsl_own.specs.Atoms.{Atom, Points, Init, Rel, Acq, RmwAcq, Tok, Auth, Says, IsFor}
use Rattle.fsl_good.specs.Pieces.{Piece, plain, AllSay, IsPossible}
use Rattle.fsl_good.specs.Good.{acquisitions}
use Rattle.fsl_held.specs.Heaps.{heap_of, ground_of, same_numbers, same_leave, or_else, or_this, out_by, out_in}
use Rattle.fsl_held.proofs.Heaps.{heap_more}
use Rattle.fsl_held.proofs.Fronts.{front_is_kept}
use Rattle.fsl_walk.specs.Stances.{AllDerived, Activation, config_of, IsGood, IsGoodMove, Runs}
use Rattle.fsl_walk.specs.Walks.{IsClosed}
use Rattle.fsl_walk.proofs.Slots.{sees_same, closed_one}
use Rattle.fsl_walk.proofs.Rounds.{kept_less, kept_then, frame_fits, left_within, right_within}
use Rattle.fsl_walk.proofs.Steps.{each_lands, good_possible}
use Rattle.fsl_walk.proofs.Showing.{At, frame_of, line_self, good_placed}
use Rattle.fsl_walk.proofs.Cells.{positive}

-- ---- what comes with the location is known

numbers_self : (xs : List ℤ) → same_numbers xs xs ≡ true
numbers_self [] = refl
numbers_self (x ∷ xs) = and_from (int_eq x x) (same_numbers xs xs) (is_equal x x refl) (numbers_self xs)

pub leave_self : (l : ℤ) (i : ℕ) (xs : List ℤ) → same_leave l i xs l i xs ≡ true
leave_self l i xs = and_from (int_eq l l) (i == i && same_numbers xs xs) (is_equal l l refl) (and_from (i == i) (same_numbers xs xs) (eq-eqb i i refl) (numbers_self xs))

if_true : (b c : Bool) → b ≡ true → (if b then true else c) ≡ true
if_true true c e = refl
if_true false c e = absurd (cc)

-- ---- values that were read: none

-- a location for read-modify-writes has no permissions
none_read : (k : Known) (l : ℤ) (d : Deal) (xs : List Piece) (q : ℕ) → k.deals l ≡ Some d → d.rmw ≡ true → AllSay k xs → out_in xs l q ≡ None
none_read k l d [] q deal rmw says = refl
none_read k l d (x ∷ xs) q deal rmw says = one x.atom says.0 (none_read k l d xs q deal rmw says.1)
  where
    by_case : (c : ℤ) (i : ℕ) (ys : List ℤ) (p : ℕ) (o : List ℤ) (t : Bool) → (int_eq l c && q == p) ≡ t → IsFor k c false i ys → out_in xs l q ≡ None → or_else (if t then Some o else None)
        (out_in xs l q) ≡ None
    by_case c i ys p o false e s r = r
    by_case c i ys p o true e s r = absurd (
        let f : l ≡ c = equal l c (and_parts (int_eq l c) (q == p) e).0 in
        let g : Some d ≡ Some (record { rmw = false; inv = i; args = ys }) = sym deal ∙ ap k.deals f ∙ s in
        let h : d ≡ record { rmw = false; inv = i; args = ys } = cc in
        let j : true ≡ false = sym rmw ∙ ap (λ (z : Deal). z.rmw) h in
        cc)

    one : (y : Atom) → Says k y → out_in xs l q ≡ None → or_else (out_by y l q) (out_in xs l q) ≡ None
    one (Acq c i ys p o) s r = by_case c i ys p o (int_eq l c && q == p) refl s.0 r
    one (Points c n v) s r = r
    one (Init c) s r = r
    one (Rel c i ys) s r = r
    one (RmwAcq c i ys) s r = r
    one (Tok b n) s r = r
    one (Auth b n) s r = r

-- a number above all parts for which there are permissions
abbrev above_one : Atom → ℕ
above_one (Acq c i ys p o) = suc p
above_one _ = 0

abbrev above : List Piece → ℕ
above [] = 0
above (x ∷ xs) = above_one x.atom + above xs

none_above : (l : ℤ) (xs : List Piece) (q : ℕ) → above xs ≤ q → out_in xs l q ≡ None
none_above l [] q h = refl
none_above l (x ∷ xs) q h = one x.atom h (none_above l xs q (omega (arith, h)))
  where
    by_case : (p : ℕ) (o : List ℤ) (a b : Bool) → b ≡ (q == p) → suc p + above xs ≤ q → out_in xs l q ≡ None → or_else (if a && b then Some o else None) (out_in xs l q) ≡ None
    by_case p o false b e h r = r
    by_case p o true false e h r = r
    by_case p o true true e h r = absurd (let f : q ≡ p = eqb-true q p (sym e) in omega (arith, f, h))

    one : (y : Atom) → above_one y + above xs ≤ q → out_in xs l q ≡ None → or_else (out_by y l q) (out_in xs l q) ≡ None
    one (Acq c i ys p o) h r = by_case p o (int_eq l c) (q == p) refl h r
    one (Points c n v) h r = r
    one (Init c) h r = r
    one (Rel c i ys) h r = r
    one (RmwAcq c i ys) h r = r
    one (Tok b n) h r = r
    one (Auth b n) h r = r

-- new permissions say that nothing was read; of parts that have none, nothing is said
none_new : (l : ℤ) (i : ℕ) (args : List ℤ) (n q : ℕ) (xs : List Piece) → (n ≤ q → out_in xs l q ≡ None) → or_this (out_in (acquisitions l i args n ++ xs) l q) [] ≡ []
none_new l i args zero q xs h = ap (λ (o : Option (List ℤ)). or_this o []) (h (omega arith))
none_new l i args (suc n) q xs h = by_case (int_eq l l) (q == n) (is_equal l l refl) refl (λ other. none_new l i args n q xs (λ le. h (next le other)))
  where
    next : n ≤ q → (q ≡ n → ⊥) → suc n ≤ q
    next le other = omega (arith, le, other)

    by_case : (a b : Bool) → a ≡ true → (q == n) ≡ b → ((q ≡ n → ⊥) → or_this (out_in (acquisitions l i args n ++ xs) l q) [] ≡ [])
        → or_this (or_else (if a && b then Some [] else None) (out_in (acquisitions l i args n ++ xs) l q)) [] ≡ []
    by_case true true e f r = refl
    by_case true false e f r = r (λ same. absurd (let g : (q == n) ≡ true = eq-eqb q n same in let j : true ≡ false = sym g ∙ f in cc))
    by_case false b e f r = absurd (cc)

-- ---- permissions as a heap

line_end : (a : ℕ) → a + 0 ≡ 0 + a
line_end a = omega arith

line_last : (a b c : ℕ) → a + (b + c) ≡ (a + b) + c
line_last a b c = omega arith

part_first : (p : ℕ) → p ≡ p + 0
part_first p = omega arith

part_next : (p n : ℕ) → (p + 1) + n ≡ p + suc n
part_next p n = omega arith

permissions_last : (l : ℤ) (p n : ℕ) (k : Key) → permissions_from l p (suc n) k ≡ permissions_from l p n k + some_of (key.Permission l (p + n)) 1 k
permissions_last l p zero k = line_end (some_of (key.Permission l p) 1 k) ∙ ap (λ (q : ℕ). 0 + some_of (key.Permission l q) 1 k) (part_first p)
permissions_last l p (suc n) k =
    let one = some_of (key.Permission l p) 1 k in
    ap (λ (m : ℕ). one + m) (permissions_last l (p + 1) n k)
    ∙ line_last one (permissions_from l (p + 1) n k) (some_of (key.Permission l ((p + 1) + n)) 1 k)
    ∙ ap (λ (q : ℕ). (one + permissions_from l (p + 1) n k) + some_of (key.Permission l q) 1 k) (part_next p n)

line_zero : (n : ℕ) → n + 0 ≡ n
line_zero n = omega arith

pub permission_heap : (l : ℤ) (i : ℕ) (args : List ℤ) (p : ℕ) (o : List ℤ) (k : Key) → heap_of (plain (Acq l i args p o) ∷ []) k ≡ some_of (key.Permission l p) 1 k
permission_heap l i args p o (key.Cell Plain c) = refl
permission_heap l i args p o (key.Cell Up c) = refl
permission_heap l i args p o (key.Cell Down c) = refl
permission_heap l i args p o (key.Cell Msg c) = refl
permission_heap l i args p o (key.Permission c q) = line_zero (if int_eq l c && p == q then 1 else 0)
permission_heap l i args p o (key.Tokens (pos b)) = refl
permission_heap l i args p o (key.Tokens (negsuc b)) = refl
permission_heap l i args p o (key.Bank (pos b)) = refl
permission_heap l i args p o (key.Bank (negsuc b)) = refl

none_heap : (k : Key) → heap_of [] k ≡ 0
none_heap (key.Cell Plain c) = refl
none_heap (key.Cell Up c) = refl
none_heap (key.Cell Down c) = refl
none_heap (key.Cell Msg c) = refl
none_heap (key.Permission c q) = refl
none_heap (key.Tokens (pos b)) = refl
none_heap (key.Tokens (negsuc b)) = refl
none_heap (key.Bank (pos b)) = refl
none_heap (key.Bank (negsuc b)) = refl

line_turn : (a b c d e : ℕ) → a ≡ b + c → b ≡ d → c ≡ e → a ≡ e + d
line_turn a b c d e p q r = omega arith

none_plus : (n : ℕ) → 0 + n ≡ n
none_plus n = omega arith

acquisitions_heap : (l : ℤ) (i : ℕ) (args : List ℤ) (n : ℕ) (k : Key) → heap_of (acquisitions l i args n) k ≡ permissions_from l 0 n k
acquisitions_heap l i args zero k = none_heap k
acquisitions_heap l i args (suc n) k =
    line_turn (heap_of (acquisitions l i args (suc n)) k) (heap_of (plain (Acq l i args n []) ∷ []) k) (heap_of (acquisitions l i args n) k) (some_of (key.Permission l n) 1 k)
    (permissions_from l 0 n k)
    (heap_more (plain (Acq l i args n []) ∷ []) (acquisitions l i args n) k) (permission_heap l i args n [] k) (acquisitions_heap l i args n k)
    ∙ ap (λ (q : ℕ). permissions_from l 0 n k + some_of (key.Permission l q) 1 k) (sym (none_plus n))
    ∙ sym (permissions_last l 0 n k)

line_grow : (a b c d : ℕ) → a ≤ b → d ≡ b + c → a ≤ d
line_grow a b c d h e = omega arith

line_suc : (e n : ℕ) → suc (e + n) ≡ suc e + n
line_suc e n = omega arith

more_permissions : (l : ℤ) (n e : ℕ) (k : Key) → permissions_from l 0 n k ≤ permissions_from l 0 (e + n) k
more_permissions l n zero k = subst (λ (m : ℕ). permissions_from l 0 n k ≤ permissions_from l 0 m k) (sym (none_plus n)) (line_self (permissions_from l 0 n k))
more_permissions l n (suc e) k =
    subst (λ (m : ℕ). permissions_from l 0 n k ≤ permissions_from l 0 m k) (line_suc e n)
    (line_grow (permissions_from l 0 n k) (permissions_from l 0 (e + n) k) (some_of (key.Permission l (0 + (e + n))) 1 k) (permissions_from l 0 (suc (e + n)) k) (more_permissions l n e k)
    (permissions_last l 0 (e + n) k))

-- ---- the new location

line_made : (a f x y m u : ℕ) → y ≡ f + x → a ≤ f → m + u ≤ x → (a + m) + u ≤ y
line_made a f x y m u e g h = omega arith

made_goes : {scope : Scope} {Q : List ℤ → Type 0} {base : List Piece} {under : Heap} {xs : List Piece} {slots env : List ℤ} {v : Numbers} {s : State}
    (u : Activation) (m : ℕ) (after : Ends) (rest : List Stmt) (slot : ℕ) (rmw : Bool) (inst : Inst) (at : Span) (loc : ℤ) (ys : List Piece) → pos 0 <ℤ loc
    → IsClosed Q (slot ∷ []) → Runs u m after rest (with_sight slot sight.Local scope) Q base under → At scope Q base under xs slots env v s
    → AllDerived (each at (alloc_at (setting_of asrt_of u.program) slot rmw (inst_of expr_of inst) s) (λ x. after))
    → Knows (ground_of (ys ++ xs)) (claim.MayWrite loc inst.inv (exact_all inst.args slots)) → Knows (ground_of (ys ++ xs)) (leave_claim rmw loc inst.inv (exact_all inst.args slots))
    → ((q : ℕ) → or_this (out_in (ys ++ xs) loc q) [] ≡ []) → ((k : Key) → leave_heap u.program rmw inst.inv loc k ≤ heap_of ys k) → IsPossible (ys ++ xs)
    → IsGood u m (config_of u rest (slice_set env slot loc)) (ys ++ xs)
made_goes {scope = scope} {Q = Q} {under = under} {xs = xs} {slots = slots} {env = env} u m after rest slot rmw inst at loc ys some closed runs here d writes may fresh less possible =
    let mine = here.stance.mine in
    let new = leave_heap u.program rmw inst.inv loc in
    let f = front_is_kept ys xs possible in
    let fits = frame_fits mine (kept_less mine (heap_of xs) (left_within mine under (heap_of xs) here.stance.parts) f.behind) here.stance.fits in
    let landed = each_lands at (λ x. after) (atomic_alloc_fits u.program slot rmw inst loc (λ k. new k + mine k) fits (positive loc some) writes may fresh (λ k. line_self (new k + mine k))) d in
    runs m (line_self m) (ys ++ xs) (slice_set slots slot loc) (slice_set env slot loc) landed.numbers landed.state
    (kept_then here.kept (kept_less under (heap_of xs) (right_within mine under (heap_of xs) here.stance.parts) f.behind))
    (record {
      mine = λ k. new k + mine k;
      fits = landed.is;
      parts = λ k. line_made (new k) (heap_of ys k) (heap_of xs k) (heap_of (ys ++ xs) k) (mine k) (under k) (f.sum k) (less k) (here.stance.parts k);
    })
    (sees_same scope env slots slot sight.Local loc here.matches) (closed_one Q slots slot loc closed here.holds) landed.derived

line_nothing : (n : ℕ) → 0 ≤ n
line_nothing n = omega arith

line_above : (a b c : ℕ) → suc (a + b) ≤ c → a ≤ c
line_above a b c h = omega arith

line_less : (a b c d : ℕ) → a ≤ b → c ≡ d + b → a ≤ c
line_less a b c d h e = omega arith

pub atomic_alloc_moves : {scope : Scope} {Q : List ℤ → Type 0} {base : List Piece} {under : Heap} {xs : List Piece} {slots env : List ℤ} {v : Numbers} {s : State}
    (u : Activation) (m : ℕ) (after : Ends) (stmt : Stmt) (rest : List Stmt) (slot : ℕ) (rmw : Bool) (inst : Inst) (at : Span)
    → IsClosed Q (slot ∷ []) → Runs u m after rest (with_sight slot sight.Local scope) Q base under → At scope Q base under xs slots env v s
    → AllDerived (each at (alloc_at (setting_of asrt_of u.program) slot rmw (inst_of expr_of inst) s) (λ x. after))
    → IsGoodMove u m (act_move u.program (Act-F.AllocAt slot rmw inst) stmt (frame_of u rest env) u.below) xs
atomic_alloc_moves {xs = xs} {slots = slots} {env = env} u m after stmt rest slot true inst at closed runs here d =
    let args = exact_all inst.args slots in
    good_placed u m (need.Alloc kind.Rmw) (λ loc. label.Alloc kind.Rmw loc) (λ loc. config_of u rest (slice_set env slot loc)) xs (λ n. absurd (cc)) (λ loc some.
    let ys = plain (Rel loc inst.inv args) ∷ plain (RmwAcq loc inst.inv args) ∷ [] in (
      inst.inv,
      args,
      good_possible u m (config_of u rest (slice_set env slot loc)) (ys ++ xs) (λ f. absurd (cc)) (λ possible.
          made_goes u m after rest slot true inst at loc ys some closed runs here d
          (if_true (same_leave loc inst.inv args loc inst.inv args) _ (leave_self loc inst.inv args)) (if_true (same_leave loc inst.inv args loc inst.inv args) _ (leave_self loc inst.inv args))
          (λ q. ap (λ (o : Option (List ℤ)). or_this o []) (none_read possible.known loc (record { rmw = true; inv = inst.inv; args = args }) xs q possible.agree.1.0 refl possible.agree.1.1))
          (λ k. line_nothing (heap_of ys k)) possible),
    ))
atomic_alloc_moves {xs = xs} {slots = slots} {env = env} u m after stmt rest slot false inst at closed runs here d =
    let args = exact_all inst.args slots in
    let parts = count_by (slice_get u.program.invs inst.inv) in
    let count = suc (above xs + parts) in
    good_placed u m (need.Alloc kind.Acq) (λ loc. label.Alloc kind.Acq loc) (λ loc. config_of u rest (slice_set env slot loc)) xs (λ n. absurd (cc)) (λ loc some.
    let ys = plain (Rel loc inst.inv args) ∷ acquisitions loc inst.inv args count in (
      inst.inv,
      args,
      count,
      good_possible u m (config_of u rest (slice_set env slot loc)) (ys ++ xs) (λ f. absurd (cc)) (λ possible.
          made_goes u m after rest slot false inst at loc ys some closed runs here d
          (if_true (same_leave loc inst.inv args loc inst.inv args) _ (leave_self loc inst.inv args)) (if_true (same_leave loc inst.inv args loc inst.inv args) _ (leave_self loc inst.inv args))
          (λ q. none_new loc inst.inv args count q xs (λ le. none_above loc xs q (line_above (above xs) parts q le)))
          (λ k. line_less (permissions_from loc 0 parts k) (heap_of (acquisitions loc inst.inv args count) k) (heap_of ys k) (heap_of (plain (Rel loc inst.inv args) ∷ []) k)
          (subst (λ (n : ℕ). permissions_from loc 0 parts k ≤ n) (sym (acquisitions_heap loc inst.inv args count k))
          (subst (λ (j : ℕ). permissions_from loc 0 parts k ≤ permissions_from loc 0 j k) (sym (line_suc (above xs) parts)) (more_permissions loc parts (suc (above xs)) k)))
          (heap_more (plain (Rel loc inst.inv args) ∷ []) (acquisitions loc inst.inv args count) k)) possible),
    ))
