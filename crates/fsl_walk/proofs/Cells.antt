-- Statements on cells: a new one, one that is read, one that is written and one that is freed.
use Rattle.std.proofs.Common.{◌≡◌, ℕ, ◌+◌, ◌-◌, ◌≤◌, Bool, true, false, if◌then◌else◌, List, [], ◌∷◌, Option, Some, None, ℤ, pos, negsuc, ◌+ℤ◌, ◌≤ℤ◌, slice_set, refl, sym, subst, arith}
use Rattle.std.specs.Prelude.{◌<ℤ◌}
use Rattle.std.specs.Ordering.{int_eq}
use Rattle.std.proofs.lemmas.Int.{ints}
use Rattle.fsl_base.specs.declared.span.Span.{Span}
use Rattle.fsl_core.specs.declared.act.Act.TheOpen.{Act-F}
use Rattle.fsl_core.specs.declared.act.Stmt.{Stmt}
use Rattle.fsl_core.specs.declared.expr.Expr.{Expr}
use Rattle.fsl_core.specs.declared.label.Label.TheVariants as label
use Rattle.fsl_core.specs.declared.mode.AllocKind.TheVariants as kind
use Rattle.fsl_core.specs.declared.mode.Mode.TheVariants.{Na}
use Rattle.fsl_core.specs.declared.mode.Rung.{Rung}
use Rattle.fsl_core.specs.declared.mode.Rung.TheVariants.{Plain, Up, Down, Msg}
use Rattle.fsl_core.specs.declared.need.Need.TheVariants as need
use Rattle.fsl_core.specs.declared.scope.Scope.{Scope}
use Rattle.fsl_core.specs.declared.scope.Sight.TheVariants as sight
use Rattle.fsl_core.specs.Moves.{showing, given, read_reply, act_move}
use Rattle.fsl_core.specs.Scopes.{reads, with_sight}
use Rattle.fsl_core.specs.Values.{value_of}
use Rattle.fsl_core.specs.logic.States.{State}
use Rattle.fsl_core.specs.logic.Terms.{expr_of}
use Rattle.fsl_core.specs.logic.Accesses.{alloc_na, load_na, store_na, free}
use Rattle.fsl_core.specs.logic.Paths.{Ends, each}
use Rattle.fsl_lin.specs.Numbers.{Numbers}
use Rattle.fsl_meaning.specs.Heaps.{Key, Key as key, Heap, some_of, less, Holds, Ground, Claim, Claim as claim, Needs, Agrees}
use Rattle.fsl_meaning.specs.States.{All, Fits}
use Rattle.fsl_meaning.proofs.Heaps.{some_less}
use Rattle.fsl_meaning.proofs.Deciding.{equal, is_equal}
use Rattle.fsl_meaning.proofs.Kept.{fits_kept}
use Rattle.fsl_kept.specs.Changes.{grounded, storing}
use Rattle.fsl_kept.specs.Results.{Stores}
use Rattle.fsl_kept.proofs.Locals.{alloc_fits, load_fits, store_fits, free_fits}
use Rattle.fsl_own.specs.Owning.{full}
use Rattle.fsl_own.specs.Atoms.{Points}
use Rattle.fsl_good.specs.Pieces.{Piece, plain, IsPossible}
use Rattle.fsl_held.specs.Heaps.{heap_of, truth_of, ground_of, value_in, or_else, Kept}
use Rattle.fsl_held.specs.Parts.{TakesCell}
use Rattle.fsl_held.proofs.Cells.{cell_is_taken, cell_is_read}
use Rattle.fsl_held.proofs.Fronts.{front_is_kept}
use Rattle.fsl_walk.specs.Stances.{AllDerived, Activation, config_of, IsGoodMove, Stance, Runs}
use Rattle.fsl_walk.specs.Walks.{IsClosed}
use Rattle.fsl_walk.proofs.Slots.{sees_same, closed_one}
use Rattle.fsl_walk.proofs.Rounds.{kept_less, kept_then, frame_fits, bounded, left_within, right_within}
use Rattle.fsl_walk.proofs.Steps.{Landed, each_lands, good_possible, good_given}
use Rattle.fsl_walk.proofs.Showing.{At, line_self, frame_of, good_shown, good_placed, good_read, read_is}

-- ---- a share of a cell as a heap

plus_none : (n : ℕ) → n + 0 ≡ n
plus_none n = omega arith

pub points_heap : (c : ℤ) (n : ℕ) (o : Option ℤ) (k : Key) → heap_of (plain (Points c n o) ∷ []) k ≡ some_of (key.Cell Plain c) n k
points_heap c n o (key.Cell Plain l) = plus_none (if int_eq c l then n else 0)
points_heap c n o (key.Cell Up l) = refl
points_heap c n o (key.Cell Down l) = refl
points_heap c n o (key.Cell Msg l) = refl
points_heap c n o (key.Permission l part) = refl
points_heap c n o (key.Tokens (pos b)) = refl
points_heap c n o (key.Tokens (negsuc b)) = refl
points_heap c n o (key.Bank (pos b)) = refl
points_heap c n o (key.Bank (negsuc b)) = refl

line_front : (all front rest some : ℕ) → all ≡ front + rest → front ≡ some → all ≡ some + rest
line_front all front rest some e f = omega arith

-- a share in front of others
front_sum : (c : ℤ) (n : ℕ) (o : Option ℤ) (xs : List Piece) → IsPossible (plain (Points c n o) ∷ xs) → (k : Key)
    → heap_of (plain (Points c n o) ∷ xs) k ≡ some_of (key.Cell Plain c) n k + heap_of xs k
front_sum c n o xs possible k =
    line_front (heap_of (plain (Points c n o) ∷ xs) k) (heap_of (plain (Points c n o) ∷ []) k) (heap_of xs k) (some_of (key.Cell Plain c) n k)
    ((front_is_kept (plain (Points c n o) ∷ []) xs possible).sum k) (points_heap c n o k)

-- ---- a new cell

line_more : (a m u h : ℕ) → m + u ≤ h → (a + m) + u ≤ a + h
line_more a m u h le = omega arith

line_same : (a m u h g : ℕ) → g ≡ a + h → m + u ≤ h → (a + m) + u ≤ g
line_same a m u h g e le = omega arith

holds_plus : (a m : Heap) → Holds a m (λ k. a k + m k)
holds_plus a m k = line_self (a k + m k)

pub positive : (loc : ℤ) → pos 0 <ℤ loc → (pos 1 +ℤ pos 0) ≤ℤ loc
positive (pos n) h = omega (arith, ints)
positive (negsuc n) h = absurd (omega (arith, ints))

alloc_stance : {under : Heap} {xs : List Piece} {slots : List ℤ} {v : Numbers} {s : State} (u : Activation) (after : Ends) (slot : ℕ) (at : Span) (loc : ℤ) → pos 0 <ℤ loc
    → Stance xs under slots v s → AllDerived (each at (alloc_na slot s) (λ x. after)) → IsPossible (plain (Points loc full None) ∷ xs)
    → Landed s.next v (λ (x : Unit {0}) t w. Stance (plain (Points loc full None) ∷ xs) under (slice_set slots slot loc) w t) (λ x. after)
alloc_stance {under = under} {xs = xs} {slots = slots} u after slot at loc some stance d possible =
    let ys = plain (Points loc full None) ∷ xs in
    let new = some_of (key.Cell Plain loc) full in
    let behind = (front_is_kept (plain (Points loc full None) ∷ []) xs possible).behind in
    let fits = frame_fits stance.mine (kept_less stance.mine (heap_of xs) (left_within stance.mine under (heap_of xs) stance.parts) behind) stance.fits in
    let landed = each_lands at (λ x. after) (alloc_fits slot loc (λ k. new k + stance.mine k) fits (positive loc some) (holds_plus new stance.mine)) d in
    record {
      gives = landed.gives;
      state = landed.state;
      numbers = landed.numbers;
      grows = landed.grows;
      is = record {
        mine = λ k. new k + stance.mine k;
        fits = landed.is;
        parts = λ k. line_same (new k) (stance.mine k) (under k) (heap_of xs k) (heap_of ys k) (front_sum loc full None xs possible k) (stance.parts k);
      };
      derived = landed.derived;
    }

pub alloc_moves : {scope : Scope} {Q : List ℤ → Type 0} {base : List Piece} {under : Heap} {xs : List Piece} {slots env : List ℤ} {v : Numbers} {s : State}
    (u : Activation) (m : ℕ) (after : Ends) (stmt : Stmt) (rest : List Stmt) (slot : ℕ) (at : Span)
    → IsClosed Q (slot ∷ []) → Runs u m after rest (with_sight slot sight.Local scope) Q base under → At scope Q base under xs slots env v s
    → AllDerived (each at (alloc_na slot s) (λ x. after)) → IsGoodMove u m (act_move u.program (Act-F.AllocNa slot) stmt (frame_of u rest env) u.below) xs
alloc_moves {scope = scope} {Q = Q} {under = under} {xs = xs} {slots = slots} {env = env} u m after stmt rest slot at closed runs here d =
    good_placed u m (need.Alloc kind.Na) (λ loc. label.Alloc kind.Na loc) (λ loc. config_of u rest (slice_set env slot loc)) xs (λ n. absurd (cc)) (λ loc some.
    good_possible u m (config_of u rest (slice_set env slot loc)) (plain (Points loc full None) ∷ xs) (λ f. absurd (cc)) (λ possible.
    let landed = alloc_stance u after slot at loc some here.stance d possible in
    let behind = (front_is_kept (plain (Points loc full None) ∷ []) xs possible).behind in
    runs m (line_self m) (plain (Points loc full None) ∷ xs) (slice_set slots slot loc) (slice_set env slot loc) landed.numbers landed.state
    (kept_then here.kept (kept_less under (heap_of xs) (right_within here.stance.mine under (heap_of xs) here.stance.parts) behind)) landed.is
    (sees_same scope env slots slot sight.Local loc here.matches) (closed_one Q slots slot loc closed here.holds) landed.derived))

-- ---- a cell is read

line_there : (a m u h : ℕ) → a ≤ m → m + u ≤ h → a ≤ h
line_there a m u h l p = omega arith

pub load_moves : {scope : Scope} {Q : List ℤ → Type 0} {base : List Piece} {under : Heap} {xs : List Piece} {slots env : List ℤ} {v : Numbers} {s : State}
    (u : Activation) (m : ℕ) (after : Ends) (stmt : Stmt) (rest : List Stmt) (slot : ℕ) (e : Expr) (at : Span)
    → reads scope e ≡ true → IsClosed Q (slot ∷ []) → Runs u m after rest (with_sight slot sight.Local scope) Q base under → At scope Q base under xs slots env v s
    → AllDerived (each at (load_na slot (expr_of e) s) (λ x. after)) → IsGoodMove u m (act_move u.program (Act-F.Load slot Na e) stmt (frame_of u rest env) u.below) xs
load_moves {scope = scope} {Q = Q} {under = under} {xs = xs} {slots = slots} {env = env} u m after stmt rest slot e at reads closed runs here d =
    let mine = here.stance.mine in
    let landed = each_lands at (λ x. after) (load_fits slot e here.stance.fits) d in
    let loads = landed.is in
    good_given u m (value_of e env)
    (λ loc. record { need = need.Load Na loc; answered = λ r. read_reply r (λ y. showing (label.Load Na loc y) (config_of u rest (slice_set env slot y))) }) xs (λ loc is.
    let same = read_is e loc here.matches reads is in
    let some : 1 ≤ mine (key.Cell Plain loc) = subst (λ (l : ℤ). 1 ≤ mine (key.Cell Plain l)) same loads.some in
    let says : value_in xs loc ≡ Some loads.value = subst (λ (l : ℤ). value_in xs l ≡ Some loads.value) same loads.is in
    let read = cell_is_read loc loads.value xs here.possible
    (line_there 1 (mine (key.Cell Plain loc)) (under (key.Cell Plain loc)) (heap_of xs (key.Cell Plain loc)) some (here.stance.parts (key.Cell Plain loc))) says in
    good_read u m (need.Load Na loc) (λ y. label.Load Na loc y) (λ y. config_of u rest (slice_set env slot y)) xs (λ n. absurd (cc)) (λ y. record {
      share = read.share;
      value = loads.value;
      owns = read.owns;
      next = λ is_value.
          runs m (line_self m) xs (slice_set slots slot y) (slice_set env slot y) landed.numbers landed.state here.kept
          (record { mine = mine; fits = subst (λ (z : ℤ). Fits (slice_set slots slot z) (All (ground_of xs) mine) landed.numbers landed.state) (sym is_value) loads.fits; parts = here.stance.parts })
          (sees_same scope env slots slot sight.Local y here.matches) (closed_one Q slots slot y closed here.holds) landed.derived;
    }))

-- ---- a cell is taken

line_under : (s m u h r : ℕ) → s ≤ m → m + u ≤ h → h ≡ r + s → u ≤ r
line_under s m u h r le p e = omega arith

line_kept : (s m u h r g : ℕ) → m + u ≤ h → h ≡ r + s → g ≡ s + r → m + u ≤ g
line_kept s m u h r g p e f = omega arith

line_gone : (s m u h r : ℕ) → s ≤ m → m + u ≤ h → h ≡ r + s → (m - s) + u ≤ r
line_gone s m u h r le p e = omega arith

line_other : (s m u h r : ℕ) → s ≡ 0 → 1 ≤ m → m + u ≤ h → h ≡ r + s → 1 ≤ r
line_other s m u h r z le p e = omega arith

-- what is left of the frames' part
under_left : (c : ℤ) (mine under : Heap) (xs : List Piece) (taken : TakesCell c xs) → full ≤ mine (key.Cell Plain c) → Holds mine under (heap_of xs) → (k : Key) → under k ≤ heap_of taken.rest k
under_left c mine under xs taken whole parts k =
    line_under (some_of (key.Cell Plain c) full k) (mine k) (under k) (heap_of xs k) (heap_of taken.rest k) (some_less (key.Cell Plain c) full mine whole k) (parts k) (taken.left k)

-- of all else, what the state has a part of is in the rest
mine_left : (c : ℤ) (mine under : Heap) (xs : List Piece) (taken : TakesCell c xs) (k : Key) → some_of (key.Cell Plain c) full k ≡ 0 → Holds mine under (heap_of xs) → 1 ≤ mine k
    → 1 ≤ heap_of taken.rest k
mine_left c mine under xs taken k none parts some =
    line_other (some_of (key.Cell Plain c) full k) (mine k) (under k) (heap_of xs k) (heap_of taken.rest k) none some (parts k) (taken.left k)

other_none : (b : Bool) (n : ℕ) → b ≡ false → ◌≡◌ {A = ℕ} (if b then n else 0) 0
other_none true n e = absurd (cc)
other_none false n e = refl

turned : (a b : ℤ) → int_eq a b ≡ false → int_eq b a ≡ false
turned a b e = by_case (int_eq b a) refl
  where
    by_case : (x : Bool) → int_eq b a ≡ x → x ≡ false
    by_case false f = refl
    by_case true f = let g : int_eq a b ≡ true = subst (λ (z : ℤ). int_eq z b ≡ true) (equal b a f) (is_equal b b refl) in cc

apart_key : (c l : ℤ) (r : Rung) → int_eq l c ≡ false → some_of (key.Cell Plain c) full (key.Cell r l) ≡ 0
apart_key c l Plain e = other_none (int_eq c l) full (turned l c e)
apart_key c l Up e = refl
apart_key c l Down e = refl
apart_key c l Msg e = refl

-- the pieces with the cell again, at a new value
abbrev stored : (c x : ℤ) (xs : List Piece) → TakesCell c xs → List Piece
stored c x xs taken = plain (Points c full (Some x)) ∷ taken.rest

rest_kept : (c x : ℤ) (xs : List Piece) (taken : TakesCell c xs) → IsPossible (stored c x xs taken) → Kept xs (heap_of taken.rest) (stored c x xs taken)
rest_kept c x xs taken possible = kept_then taken.kept (front_is_kept (plain (Points c full (Some x)) ∷ []) taken.rest possible).behind

stored_value : (c x l z : ℤ) (said left : Option ℤ) (b : Bool) → int_eq l c ≡ b → (int_eq l c ≡ false → said ≡ Some z → left ≡ Some z)
    → (if b then Some x else said) ≡ Some z → or_else (if b then Some x else None) left ≡ Some z
stored_value c x l z said left true e other is = is
stored_value c x l z said left false e other is = other e is

stored_agrees : (c x : ℤ) (mine under : Heap) (xs : List Piece) (taken : TakesCell c xs) → IsPossible (stored c x xs taken) → Holds mine under (heap_of xs)
    → Agrees (storing c x (truth_of xs)) (truth_of (stored c x xs taken)) mine
stored_agrees c x mine under xs taken possible parts = record {
  value = λ r l z some is.
      stored_value c x l z (value_in xs l) (value_in taken.rest l) (int_eq l c) refl
      (λ e said. taken.kept.agrees.value r l z (mine_left c mine under xs taken (key.Cell r l) (apart_key c l r e) parts some) said) is;
  out = λ l p some. (rest_kept c x xs taken possible).agrees.out l p (mine_left c mine under xs taken (key.Permission l p) refl parts some);
  bank = λ b some. (rest_kept c x xs taken possible).agrees.bank b (mine_left c mine under xs taken (key.Bank b) refl parts some);
}

stored_needs : (c : ℤ) (mine under : Heap) (xs : List Piece) (taken : TakesCell c xs) → Holds mine under (heap_of xs) → (d : Claim) → Needs mine d → Needs (heap_of taken.rest) d
stored_needs c mine under xs taken parts (claim.IsInit r l) n = tt
stored_needs c mine under xs taken parts (claim.MayWrite l i ys) n = tt
stored_needs c mine under xs taken parts (claim.MayRead l i ys) n = (n.0, mine_left c mine under xs taken (key.Permission l n.0) refl parts n.1)
stored_needs c mine under xs taken parts (claim.MayUpdate l i ys) n = tt

store_stance : {under mine : Heap} {xs : List Piece} {slots : List ℤ} {w : Numbers} {s : State} (c x : ℤ) (taken : TakesCell c xs)
    → Stores slots c mine mine (grounded (ground_of xs) (storing c x (truth_of xs))) s w → Holds mine under (heap_of xs) → IsPossible (stored c x xs taken)
    → Stance (stored c x xs taken) under slots w s
store_stance {under = under} {mine = mine} {xs = xs} c x taken stores parts possible = record {
  mine = mine;
  fits = fits_kept (ground_of (stored c x xs taken))
      (record { more = λ d needs known. (rest_kept c x xs taken possible).knows.more d (stored_needs c mine under xs taken parts d needs) known })
      (stored_agrees c x mine under xs taken possible parts) stores.fits;
  parts = λ k. line_kept (some_of (key.Cell Plain c) full k) (mine k) (under k) (heap_of xs k) (heap_of taken.rest k) (heap_of (stored c x xs taken) k) (parts k) (taken.left k)
      (front_sum c full (Some x) taken.rest possible k);
}

whole_there : (c : ℤ) (mine under : Heap) (xs : List Piece) → full ≤ mine (key.Cell Plain c) → Holds mine under (heap_of xs) → full ≤ heap_of xs (key.Cell Plain c)
whole_there c mine under xs whole parts = line_there full (mine (key.Cell Plain c)) (under (key.Cell Plain c)) (heap_of xs (key.Cell Plain c)) whole (parts (key.Cell Plain c))

store_as : (g : Ground) {slots : List ℤ} {h : Heap} {s : State} {w : Numbers} {a b x y : ℤ} → a ≡ b → x ≡ y
    → Stores slots a h h (grounded g (storing a x g.truth)) s w → Stores slots b h h (grounded g (storing b y g.truth)) s w
store_as g {slots = slots} {h = h} {s = s} {w = w} {a = a} {b = b} {x = x} {y = y} p q stores =
    subst (λ (c : ℤ). Stores slots c h h (grounded g (storing c y g.truth)) s w) p (subst (λ (z : ℤ). Stores slots a h h (grounded g (storing a z g.truth)) s w) q stores)

pub store_moves : {scope : Scope} {Q : List ℤ → Type 0} {base : List Piece} {under : Heap} {xs : List Piece} {slots env : List ℤ} {v : Numbers} {s : State}
    (u : Activation) (m : ℕ) (after : Ends) (stmt : Stmt) (rest : List Stmt) (e f : Expr) (at : Span)
    → reads scope e ≡ true → reads scope f ≡ true → Runs u m after rest scope Q base under → At scope Q base under xs slots env v s
    → AllDerived (each at (store_na (expr_of e) (expr_of f) s) (λ x. after)) → IsGoodMove u m (act_move u.program (Act-F.Store Na e f) stmt (frame_of u rest env) u.below) xs
store_moves {under = under} {xs = xs} {slots = slots} {env = env} u m after stmt rest e f at reads_e reads_f runs here d =
    let mine = here.stance.mine in
    let parts = here.stance.parts in
    let landed = each_lands at (λ x. after) (store_fits e f (bounded xs mine here.possible (left_within mine under (heap_of xs) parts)) here.stance.fits) d in
    good_given u m (value_of e env)
    (λ loc. given (value_of f env) (λ x. record { need = need.Store Na loc x; answered = λ r. showing (label.Store Na loc x) (config_of u rest env) })) xs (λ loc is_loc.
    good_given u m (value_of f env) (λ x. record { need = need.Store Na loc x; answered = λ r. showing (label.Store Na loc x) (config_of u rest env) }) xs (λ x is.
    let stores = store_as (ground_of xs) (read_is e loc here.matches reads_e is_loc) (read_is f x here.matches reads_f is) landed.is in
    let taken = cell_is_taken loc xs here.possible (whole_there loc mine under xs stores.whole parts) in
    good_shown u m (need.Store Na loc x) (label.Store Na loc x) (config_of u rest env) xs (λ n. absurd (cc)) (record {
      share = full;
      old = taken.old;
      rest = taken.rest;
      gives = taken.gives;
      whole = line_self full;
      next = good_possible u m (config_of u rest env) (stored loc x xs taken) (λ g. absurd (cc)) (λ possible.
          runs m (line_self m) (stored loc x xs taken) slots env landed.numbers landed.state
          (kept_then here.kept (kept_less under (heap_of taken.rest) (under_left loc mine under xs taken stores.whole parts) (rest_kept loc x xs taken possible)))
          (store_stance loc x taken stores parts possible) here.matches here.holds landed.derived);
    })))

-- ---- a cell is freed

free_stance : {under mine : Heap} {xs : List Piece} {slots : List ℤ} {w : Numbers} {s : State} (c : ℤ) (taken : TakesCell c xs)
    → Stores slots c mine (less mine (key.Cell Plain c) full) (ground_of xs) s w → Holds mine under (heap_of xs) → Stance taken.rest under slots w s
free_stance {under = under} {mine = mine} {xs = xs} c taken stores parts =
    let left = less mine (key.Cell Plain c) full in
    let holds : Holds left under (heap_of taken.rest) = λ k.
    line_gone (some_of (key.Cell Plain c) full k) (mine k) (under k) (heap_of xs k) (heap_of taken.rest k) (some_less (key.Cell Plain c) full mine stores.whole k) (parts k) (taken.left k) in
    record { mine = left; fits = frame_fits left (kept_less left (heap_of taken.rest) (left_within left under (heap_of taken.rest) holds) taken.kept) stores.fits; parts = holds }

pub free_moves : {scope : Scope} {Q : List ℤ → Type 0} {base : List Piece} {under : Heap} {xs : List Piece} {slots env : List ℤ} {v : Numbers} {s : State}
    (u : Activation) (m : ℕ) (after : Ends) (stmt : Stmt) (rest : List Stmt) (e : Expr) (at : Span)
    → reads scope e ≡ true → Runs u m after rest scope Q base under → At scope Q base under xs slots env v s
    → AllDerived (each at (free (expr_of e) s) (λ x. after)) → IsGoodMove u m (act_move u.program (Act-F.Free e) stmt (frame_of u rest env) u.below) xs
free_moves {under = under} {xs = xs} {slots = slots} {env = env} u m after stmt rest e at reads runs here d =
    let mine = here.stance.mine in
    let parts = here.stance.parts in
    let landed = each_lands at (λ x. after) (free_fits e here.stance.fits) d in
    good_given u m (value_of e env) (λ loc. record { need = need.Free loc; answered = λ r. showing (label.Free loc) (config_of u rest env) }) xs (λ loc is.
    let stores = subst (λ (c : ℤ). Stores slots c mine (less mine (key.Cell Plain c) full) (ground_of xs) landed.state landed.numbers) (read_is e loc here.matches reads is) landed.is in
    let taken = cell_is_taken loc xs here.possible (whole_there loc mine under xs stores.whole parts) in
    good_shown u m (need.Free loc) (label.Free loc) (config_of u rest env) xs (λ n. absurd (cc)) (record {
      share = full;
      old = taken.old;
      rest = taken.rest;
      gives = taken.gives;
      whole = line_self full;
      next = runs m (line_self m) taken.rest slots env landed.numbers landed.state
          (kept_then here.kept (kept_less under (heap_of taken.rest) (under_left loc mine under xs taken stores.whole parts) taken.kept))
          (free_stance loc taken stores parts) here.matches here.holds landed.derived;
    }))
