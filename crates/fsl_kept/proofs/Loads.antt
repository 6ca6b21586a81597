-- Atomic loads: each permission for the location gains its part of the message's, unless the value was read before.
use Rattle.std.proofs.Common.{◌≡◌, ◌⊎◌, inl, inr, ℕ, zero, suc, ◌+◌, ◌≤◌, ◌==◌, Bool, true, false, ◌&&◌, ◌||◌, List, [], ◌∷◌, ◌++◌, length, Option, Some, None, ℤ, slice_get, refl, ap, sym, subst, ◌∙◌, arith}
use Rattle.std.specs.Ordering.{int_eq}
use Rattle.std.specs.List.{list_any}
use Rattle.std.specs.Prelude.{slice_set}
use Rattle.std.proofs.lemmas.Bool.{and_parts, and_from, or_left, or_right, or_cases, eqb-true, cases_eq}
use Rattle.fsl_core.specs.declared.chunk.Chunk.{Chunk}
use Rattle.fsl_core.specs.declared.chunk.Chunk.TheVariants as chunk
use Rattle.fsl_core.specs.declared.mode.Rung.{Rung}
use Rattle.fsl_core.specs.logic.States.{State, Branches, give}
use Rattle.fsl_core.specs.logic.Deciding.{proves_equal}
use Rattle.fsl_core.specs.logic.Assertions.{Assertion, asrt_of}
use Rattle.fsl_core.specs.logic.Chunks.{leave, Permission}
use Rattle.fsl_core.specs.logic.Producing.{chosen}
use Rattle.fsl_core.specs.logic.Locations.{Piece, produce_part}
use Rattle.fsl_core.specs.logic.Accesses.{permission_at, is_excluded}
use Rattle.fsl_lin.specs.Combination.{Combination}
use Rattle.fsl_lin.specs.Numbers.{Numbers}
use Rattle.fsl_lin.specs.declared.fact.Fact.{Fact}
use Rattle.fsl_meaning.specs.Means.{Means, AllMean}
use Rattle.fsl_meaning.specs.Heaps.{Key, Key as key, Heap, Holds, Truth, Ground, AllKnown, IsBounded, Agrees, all_in}
use Rattle.fsl_meaning.specs.States.{Owning, All, Fits}
use Rattle.fsl_meaning.specs.Branches.{Lands}
use Rattle.fsl_meaning.proofs.Terms.{means_more, all_more, all_head, all_tail}
use Rattle.fsl_meaning.proofs.Calculus.{lands_then, lands_give, lands_as, lands_end}
use Rattle.fsl_meaning.proofs.Deciding.{equal, is_equal, picked_equal, lands_sides}
use Rattle.fsl_meaning.proofs.Readings.{when_is, nothing_read, acq_chunk}
use Rattle.fsl_asserted.specs.Needs.{Need, asks}
use Rattle.fsl_asserted.specs.Fitting.{Gains}
use Rattle.fsl_asserted.proofs.Asking.{some_is}
use Rattle.fsl_asserted.proofs.Stays.{asks_stay}
use Rattle.fsl_asserted.proofs.Trees.{produce_fits}
use Rattle.fsl_kept.specs.Changes.{grounded}
use Rattle.fsl_kept.specs.Parts.{Part, EachPiece, ArePieces}
use Rattle.fsl_kept.specs.Atomics.{marking, Pool, pooled, IsReady, AllReady, Gained}
use Rattle.fsl_kept.proofs.Locals.{if_other, if_same}

-- ---- values that were read

pub any_false : (x : ℤ) (xs ys : List ℤ) → all_in xs ys ≡ true → (b : Bool) → list_any (int_eq x) xs ≡ b → list_any (int_eq x) ys ≡ false → b ≡ false
any_false x xs ys h false e k = refl
any_false x [] ys h true e k = absurd (let d : false ≡ true = e in cc)
any_false x (z ∷ zs) ys h true e k =
    let p = and_parts (list_any (int_eq z) ys) (all_in zs ys) h in
    elim (or_cases (int_eq x z) (list_any (int_eq x) zs) e) [
      | inl i ↦ absurd (let d : list_any (int_eq x) ys ≡ true = subst (λ (y : ℤ). list_any (int_eq y) ys ≡ true) (sym (equal x z i)) p.0 in let f : false ≡ true = sym k ∙ d in cc)
      | inr j ↦ any_false x zs ys p.1 true j k
    ]

or_true : (b c : Bool) → b ≡ true → true ≡ (b || c)
or_true true c e = refl
or_true false c e = absurd (cc)

or_false : (b c : Bool) → b ≡ false → c ≡ (b || c)
or_false true c e = absurd (cc)
or_false false c e = refl

excluded_by : {slots : List ℤ} {own : Owning} {v : Numbers} {s : State} (b c d : Bool) (rest : State → Branches Bool) → b ≡ c → Fits slots own v s
    → Lands s.next v (λ e t w. (e ≡ d) × Fits slots own w t) (rest s) → Lands s.next v (λ e t w. (e ≡ (c || d)) × Fits slots own w t) (chosen (give true) rest b s)
excluded_by {s = s} true c d rest e fit l = lands_give true s (or_true c d (sym e), fit)
excluded_by false c d rest e fit l = lands_as l (λ f t w r a. (a.0 ∙ or_false c d (sym e), a.1))

-- whether y is one of those that are excluded
pub lands_excluded : {slots : List ℤ} {own : Owning} {v : Numbers} {s : State} {y : ℤ} (x : Combination) (ts : List Combination) (xs : List ℤ) → Fits slots own v s → Means s.next v x y → AllMean s.next v ts xs
    → Lands s.next v (λ b t w. (b ≡ list_any (int_eq y) xs) × Fits slots own w t) (is_excluded x ts s)
lands_excluded {s = s} x [] [] fit h all = lands_give false s (refl, fit)
lands_excluded x [] (z ∷ zs) fit h all = absurd all.each
lands_excluded x (t ∷ ts) [] fit h all = absurd all.each
lands_excluded {y = y} x (t ∷ ts) (z ∷ zs) fit h all =
    lands_end _ (lands_then (lands_sides (picked_equal x t fit h (all_head all))) (λ b u w r a.
    excluded_by b (int_eq y z) (list_any (int_eq y) zs) (is_excluded x ts) a.0 a.1 (lands_excluded x ts zs a.1 (means_more r h) (all_more r (all_tail all)))))

-- ---- what stands at a place

pub record IsPlaced {C : Type 0} (cs : List C) (place : ℕ) (c : C) : Type 0 where
  pub before : List C
  pub behind : List C
  pub list : cs ≡ before ++ c ∷ behind
  pub long : length before ≡ place

pub placed_is : {C : Type 0} (cs : List C) (place : ℕ) (c : C) → slice_get cs place ≡ Some c → IsPlaced cs place c
placed_is [] place c h = absurd (let d : None ≡ Some c = h in cc)
placed_is (b ∷ bs) zero c h = let e : Some b ≡ Some c = h in record { before = []; behind = bs; list = ap (λ (z : _). z ∷ bs) (some_is e); long = refl }
placed_is {C = C} (b ∷ bs) (suc place) c h =
    let p = placed_is bs place c h in
    record { before = b ∷ p.before; behind = p.behind; list = ap (λ (zs : List C). b ∷ zs) p.list; long = ap suc p.long }

pub set_between : {C : Type 0} (before behind : List C) (c d : C) → slice_set (before ++ c ∷ behind) (length before) d ≡ before ++ d ∷ behind
set_between [] behind c d = refl
set_between {C = C} (b ∷ bs) behind c d = ap (λ (zs : List C). b ∷ zs) (set_between bs behind c d)

pub permission_read : (at : Combination) (facts : List Fact) (c : Chunk) (x : Permission) → permission_at at facts c ≡ Some x → (c ≡ acq_chunk x) × (proves_equal facts x.leave.at at ≡ true)
permission_read at facts (chunk.Points r a share value) x h = nothing_read _ x h
permission_read at facts (chunk.Init r a) x h = nothing_read _ x h
permission_read at facts (chunk.Rel a inv args) x h = nothing_read _ x h
permission_read at facts (chunk.Acq a inv args part out) x h =
    let m : Permission = record { leave = leave a inv args; part = part; out = out } in
    let p = when_is (proves_equal facts a at) m x h in
    (ap acq_chunk p.1, subst (λ (z : Permission). proves_equal facts z.leave.at at ≡ true) p.1 p.0)
permission_read at facts (chunk.RmwAcq a inv args) x h = nothing_read _ x h
permission_read at facts (chunk.Tok bank n) x h = nothing_read _ x h
permission_read at facts (chunk.Auth bank n) x h = nothing_read _ x h

-- ---- parts of a pool

line_pool : (n r p m : ℕ) → n + r ≡ p → m + (n + r) ≡ m + p
line_pool n r p m e = omega arith

line_swap : (n m r p : ℕ) → n + r ≡ p → n + (m + r) ≡ m + p
line_swap n m r p e = omega arith

pub pooled_out : (os : Pool) (q : ℕ) (n : Need) → slice_get os q ≡ Some (Some n) → (k : Key) → n.heap k + pooled (slice_set os q None) k ≡ pooled os k
pooled_out [] q n e k = absurd (let d : None ≡ Some (Some n) = e in cc)
pooled_out (o ∷ os) zero n e k = let same : o ≡ Some n = some_is e in sym (ap (λ (z : Option Need). pooled (z ∷ os) k) same)
pooled_out (None ∷ os) (suc q) n e k = pooled_out os q n e k
pooled_out (Some m ∷ os) (suc q) n e k = line_swap (n.heap k) (m.heap k) (pooled (slice_set os q None) k) (pooled os k) (pooled_out os q n e k)

other_place : {C : Type 0} (cs : List C) (q p : ℕ) (d : C) → (p ≡ q → ⊥) → slice_get (slice_set cs q d) p ≡ slice_get cs p
other_place [] q p d h = refl
other_place (c ∷ cs) zero zero d h = absurd (h refl)
other_place (c ∷ cs) zero (suc p) d h = refl
other_place (c ∷ cs) (suc q) zero d h = refl
other_place (c ∷ cs) (suc q) (suc p) d h = other_place cs q p d (λ e. h (ap suc e))

piece_at : (n : ℕ) (v : Numbers) (xs : List Piece) (ps : List Part) (q : ℕ) (p : Part) → EachPiece n v xs ps → slice_get ps q ≡ Some p
    → (x : Piece) × (slice_get xs q ≡ Some x) × (x.asrt ≡ asrt_of p.asrt) × AllMean n v x.env p.numbers
piece_at n v [] [] q p h e = absurd (let d : None ≡ Some p = e in cc)
piece_at n v [] (r ∷ rs) q p h e = absurd h
piece_at n v (x ∷ xs) [] q p h e = absurd h
piece_at n v (x ∷ xs) (r ∷ rs) zero p h e =
    let same : r ≡ p = some_is e in
    (x, refl, h.0 ∙ ap (λ (z : Part). asrt_of z.asrt) same, subst (λ (z : Part). AllMean n v x.env z.numbers) same h.1)
piece_at n v (x ∷ xs) (r ∷ rs) (suc q) p h e = piece_at n v xs rs q p h.2 e

-- ---- marks

marked_by : (t : Truth) (loc l y : ℤ) (q p : ℕ) (b : Bool) → (int_eq l loc && p == q) ≡ b → ((l ≡ loc) × (p ≡ q) → ⊥) → (marking loc q y t).out l p ≡ t.out l p
marked_by t loc l y q p true e h = let a = and_parts (int_eq l loc) (p == q) e in absurd (h (equal l loc a.0, eqb-true p q a.1))
marked_by t loc l y q p false e h = if_other (int_eq l loc && p == q) (y ∷ t.out l p) (t.out l p) e

pub marked_agrees : (t : Truth) (h : Heap) (loc y : ℤ) (q : ℕ) → (1 ≤ h (key.Permission loc q) → ⊥) → Agrees t (marking loc q y t) h
marked_agrees t h loc y q none = record {
  value = λ r l x some e. e;
  out = λ l p some. marked_by t loc l y q p (int_eq l loc && p == q) refl (λ same. none (subst (λ (k : Key). 1 ≤ h k) (λ i. key.Permission (same.0 i) (same.1 i)) some));
  bank = λ b some. refl;
}

eqb_self : (n : ℕ) → (n == n) ≡ true
eqb_self n = grind arith

pub marked_is : (t : Truth) (loc y : ℤ) (q : ℕ) → (marking loc q y t).out loc q ≡ y ∷ t.out loc q
marked_is t loc y q = if_same (int_eq loc loc && q == q) (y ∷ t.out loc q) (t.out loc q) (and_from (int_eq loc loc) (q == q) (is_equal loc loc refl) (eqb_self q))

pub any_last : (y : ℤ) (xs : List ℤ) → list_any (int_eq y) (xs ++ y ∷ []) ≡ true
any_last y [] = or_left (int_eq y y) false (is_equal y y refl)
any_last y (x ∷ xs) = or_right (int_eq y x) (list_any (int_eq y) (xs ++ y ∷ [])) (any_last y xs)

any_more : (x y : ℤ) (xs : List ℤ) → list_any (int_eq x) xs ≡ true → list_any (int_eq x) (xs ++ y ∷ []) ≡ true
any_more x y [] h = absurd (let d : false ≡ true = h in cc)
any_more x y (z ∷ zs) h = elim (or_cases (int_eq x z) (list_any (int_eq x) zs) h) [
  | inl i ↦ or_left (int_eq x z) (list_any (int_eq x) (zs ++ y ∷ [])) i
  | inr j ↦ or_right (int_eq x z) (list_any (int_eq x) (zs ++ y ∷ [])) (any_more x y zs j)
]

pub in_more : (y : ℤ) (xs ys : List ℤ) → all_in xs ys ≡ true → all_in xs (ys ++ y ∷ []) ≡ true
in_more y [] ys h = refl
in_more y (x ∷ xs) ys h =
    let p = and_parts (list_any (int_eq x) ys) (all_in xs ys) h in
    and_from (list_any (int_eq x) (ys ++ y ∷ [])) (all_in xs (ys ++ y ∷ [])) (any_more x y ys p.0) (in_more y xs ys p.1)

-- ---- a permission gains

pub line_one : (m r h p a : ℕ) → 1 ≤ m → m + r ≤ h → h + p ≤ a → a ≤ 1 → 1 ≤ r → ⊥
line_one m r h p a i j k l n = omega arith

pub line_pooled : (m r h n o p a : ℕ) → 1 ≤ m → m + r ≤ h → n + o ≡ p → h + p ≤ a → a ≤ 1 → 1 ≤ n → ⊥
line_pooled m r h n o p a i j e k l q = omega arith

pub line_mine : (m r h p a : ℕ) → 1 ≤ m → m + r ≤ h → h + p ≤ a → 1 ≤ a
line_mine m r h p a i j k = omega arith

pub line_grown : (n o p h a : ℕ) → n + o ≡ p → h + p ≤ a → (n + h) + o ≤ a
line_grown n o p h a e l = omega arith

pub line_mid : (n o p h a : ℕ) → n + o ≡ p → h + p ≤ a → n + h ≤ a
line_mid n o p h a e l = omega arith

pub line_self : (a : ℕ) → a ≤ a
line_self a = omega arith

ready_by : (g : Ground) (rung : Rung) (loc y : ℤ) (parts : List Part) (os : Pool) (more : Heap) (q p : ℕ) → ((n : Need) (r : ℕ) → slice_get os r ≡ Some (Some n) → 1 ≤ n.heap (key.Permission loc q) → ⊥)
    → AllReady g rung loc y parts os more → 1 ≤ more (key.Permission loc p) → list_any (int_eq y) ((marking loc q y g.truth).out loc p) ≡ false → (p ≡ q) ⊎ (p ≡ q → ⊥)
    → IsReady (grounded g (marking loc q y g.truth)) rung parts (slice_set os q None) p
ready_by g rung loc y parts os more q p none all some fresh (inl e) =
    let d : list_any (int_eq y) ((marking loc q y g.truth).out loc q) ≡ false = subst (λ (z : ℕ). list_any (int_eq y) ((marking loc q y g.truth).out loc z) ≡ false) e fresh in
    let f : list_any (int_eq y) (y ∷ g.truth.out loc q) ≡ false = subst (λ (xs : List ℤ). list_any (int_eq y) xs ≡ false) (marked_is g.truth loc y q) d in
    let i : list_any (int_eq y) (y ∷ g.truth.out loc q) ≡ true = or_left (int_eq y y) (list_any (int_eq y) (g.truth.out loc q)) (is_equal y y refl) in
    absurd (let j : false ≡ true = sym f ∙ i in cc)
ready_by g rung loc y parts os more q p none all some fresh (inr d) =
    let same : (marking loc q y g.truth).out loc p ≡ g.truth.out loc p = marked_by g.truth loc loc y q p (int_eq loc loc && p == q) refl (λ e. d e.1) in
    let old : list_any (int_eq y) (g.truth.out loc p) ≡ false = subst (λ (xs : List ℤ). list_any (int_eq y) xs ≡ false) same fresh in
    let r = all.ready p some old in
    record {
      part = r.part;
      is = r.is;
      need = r.need;
      there = other_place os q p None d ∙ r.there;
      asked = asks_stay g.truth (marking loc q y g.truth) r.part.asrt rung r.part.numbers r.need r.asked (marked_agrees g.truth r.need.heap loc y q (none r.need p r.there));
      known = r.known;
    }

pub ready_kept : (g : Ground) (rung : Rung) (loc y : ℤ) (parts : List Part) (os : Pool) (more : Heap) (q : ℕ) → ((n : Need) (r : ℕ) → slice_get os r ≡ Some (Some n) → 1 ≤ n.heap (key.Permission loc q) → ⊥)
    → AllReady g rung loc y parts os more → AllReady (grounded g (marking loc q y g.truth)) rung loc y parts (slice_set os q None) more
ready_kept g rung loc y parts os more q none all = record { ready = λ p some fresh. ready_by g rung loc y parts os more q p none all some fresh (cases_eq p q) }

pub marked_bounds : (t : Truth) (h : Heap) (loc y : ℤ) (q : ℕ) → IsBounded t h → IsBounded (marking loc q y t) h
marked_bounds t h loc y q b = record { cells = b.cells; tokens = b.tokens; alone = b.alone; once = b.once }

-- nothing is gained
pub gained_none : {g : Ground} {slots : List ℤ} {loc y : ℤ} {os : Pool} {more h : Heap} {s : State} {w : Numbers} → Fits slots (All g h) w s → Holds h (pooled os) more → Gained g slots loc y os more s w
gained_none {h = h} fit within = record { taken = []; were = tt; grown = h; within = within; fits = fit }

-- the piece of a part, produced
pub part_lands : {g : Ground} {slots : List ℤ} {v : Numbers} {s : State} {h : Heap} (rung : Rung) (xs : List Piece) (ps : List Part) (q : ℕ) (p : Part) (n : Need) (more : Heap) → Fits slots (All g h) v s
    → ArePieces s.next v xs ps → slice_get ps q ≡ Some p → asks g.truth p.asrt rung p.numbers ≡ Some n → AllKnown g n.claims → Holds n.heap h more → IsBounded g.truth more
    → Lands s.next v (λ u t w. Fits slots (All g more) w t) (produce_part rung (slice_get xs q) s)
part_lands {g = g} {slots = slots} {v = v} {s = s} {h = h} rung xs ps q p n more fit are is asked known holds bounds =
    let x = piece_at s.next v xs ps q p are.each is in
    let produced : Lands s.next v (Gains g slots more n.env) (x.0.asrt.produce rung x.0.env s) =
    subst (λ (a : Assertion). Lands s.next v (Gains g slots more n.env) (a.produce rung x.0.env s)) (sym x.2)
    (produce_fits g p.asrt rung n h more slots v s x.0.env p.numbers fit x.3 asked known holds bounds) in
    subst (λ (o : Option Piece). Lands s.next v (λ u t w. Fits slots (All g more) w t) (produce_part rung o s)) (sym x.1)
    (lands_then produced (λ e t w r gains. lands_give tt t gains.fits))
