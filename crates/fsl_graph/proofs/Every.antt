-- Tests of each member of a list with its number, and of places in modification order.
use Rattle.std.proofs.Common.{◌≡◌, ◌+◌, ℕ, zero, suc, Bool, true, false, not, ◌&&◌, ◌||◌, inl, inr, List, [], ◌∷◌, Option, Some, None, slice_get, ℤ, ◌<ℤ◌, pos, negsuc, nat_lt, subst, sym, refl, ◌∙◌, arith}
use Rattle.std.proofs.lemmas.Bool.{and_parts, or_cases, not-true, eq-eqb, ltb-true}
use Rattle.std.proofs.lemmas.Int.{ints}
use Rattle.fsl_graph.specs.declared.graph.Graph.{Graph}
use Rattle.fsl_graph.specs.declared.graph.Order.{Order}
use Rattle.fsl_graph.specs.Places.{Listed}
use Rattle.fsl_graph.specs.Consistent.{HasOrders}
use Rattle.fsl_graph.specs.Edges.{is_number}
use Rattle.fsl_graph.proofs.Places.{one_entry}

-- each member, with its number from n on, passes
abbrev pub every : {A : Type 0} → (ℕ → A → Bool) → ℕ → List A → Bool
every f n [] = true
every f n (x ∷ xs) = f n x && every f (suc n) xs

every_from : {A : Type 0} (f : ℕ → A → Bool) (n b i : ℕ) (xs : List A) (x : A) → every f n xs ≡ true → slice_get xs i ≡ Some x → b ≡ n + i → f b x ≡ true
every_from f n b i [] x h p e = absurd (let g : None ≡ Some x = p in cc)
every_from f n b zero (y ∷ ys) x h p e =
    let g : Some y ≡ Some x = p in
    let s : y ≡ x = cc in
    let m : n ≡ b = omega arith in
    let t = (and_parts (f n y) (every f (suc n) ys) h).0 in
    cc
every_from f n b (suc i) (y ∷ ys) x h p e = every_from f (suc n) b i ys x (and_parts (f n y) (every f (suc n) ys) h).1 p (omega arith)

pub every_at : {A : Type 0} (f : ℕ → A → Bool) (i : ℕ) (xs : List A) (x : A) → every f 0 xs ≡ true → slice_get xs i ≡ Some x → f i x ≡ true
every_at f i xs x h p = every_from f 0 i i xs x h p (omega arith)

-- where the first test passes, the second does
pub implies : (a b : Bool) → (not a || b) ≡ true → a ≡ true → b ≡ true
implies a b h t = elim (or_cases (not a) b h) [ inl n ↦ absurd (let f = not-true a n in cc) | inr k ↦ k ]

-- where p and q stand at two places of one location, the places compare so
abbrev pub compared : (ℕ → ℕ → Bool) → Option ℕ → Option ℕ → ℕ → ℕ → ℕ → ℕ → Bool
compared cmp p q j s k t = not (is_number s p) || (not (is_number t q) || cmp j k)

abbrev pub second : (ℕ → ℕ → Bool) → Option ℕ → Option ℕ → List ℕ → ℕ → ℕ → Bool
second cmp p q writes j s = every (compared cmp p q j s) 0 writes

abbrev pub placed : (ℕ → ℕ → Bool) → List Order → Option ℕ → Option ℕ → Bool
placed cmp mo p q = every (λ i order. every (second cmp p q order.writes) 0 order.writes) 0 mo

pub placed_at : (g : Graph) → HasOrders g → (cmp : ℕ → ℕ → Bool) (p q : Option ℕ) (l : ℤ) (s t j k : ℕ) → placed cmp g.mo p q ≡ true
    → p ≡ Some s → q ≡ Some t → (x : Listed g l s j) (y : Listed g l t k) → cmp x.index y.index ≡ true
placed_at g o cmp p q l s t j k h a b x y =
    let e : x.entry ≡ y.entry = one_entry g o x.entry y.entry x.order y.order x.is y.is (x.loc ∙ sym y.loc) in
    let m = x.is in
    let n = y.is in
    let same : y.order ≡ x.order = cc in
    let there = subst (λ (z : Order). slice_get z.writes y.index ≡ Some t) same y.there in
    let one = every_at (λ i order. every (second cmp p q order.writes) 0 order.writes) x.entry g.mo x.order h x.is in
    let two = every_at (second cmp p q x.order.writes) x.index x.order.writes s one x.there in
    let three = every_at (compared cmp p q x.index s) y.index x.order.writes t two there in
    implies (is_number t q) (cmp x.index y.index)
    (implies (is_number s p) (not (is_number t q) || cmp x.index y.index) three (subst (λ (z : Option ℕ). is_number s z ≡ true) (sym a) (eq-eqb s s refl)))
    (subst (λ (z : Option ℕ). is_number t z ≡ true) (sym b) (eq-eqb t t refl))

-- positive locations in order
abbrev pub is_below : ℤ → ℤ → Bool
is_below (pos a) (pos b) = nat_lt a b
is_below (pos a) (negsuc b) = false
is_below (negsuc a) b = false

pub below_true : (a b : ℤ) → is_below a b ≡ true → a <ℤ b
below_true (pos a) (pos b) h = let l = ltb-true a b h in omega (arith, ints)
below_true (pos a) (negsuc b) h = absurd (let f : false ≡ true = h in cc)
below_true (negsuc a) b h = absurd (let f : false ≡ true = h in cc)
