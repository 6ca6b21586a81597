-- The difference of two terms that are nodes: it is an edge, and the table says whether it is proved.
use Rattle.std.proofs.Common.{◌≡◌, ℕ, zero, suc, ◌<◌, ◌≤◌, Bool, true, false, cond, not, ◌&&◌, ◌||◌, eqb, inl, inr, List, [], ◌∷◌, Option, Some, None, ℤ, pos, negsuc, neg_ℤ, int_le, int_lt, ◌≤ℤ◌, ◌+ℤ◌, ◌-ℤ◌, refl, ap, sym, subst, ◌∙◌, arith}
use Rattle.std.specs.Ordering.{int_eq}
use Rattle.std.proofs.Math.Dec.{eqb-suc-zero}
use Rattle.std.proofs.lemmas.Int.{ints}
use Rattle.std.proofs.lemmas.Bool.{and_parts, and_from, or_parts, or_cases, or_left, cases_eq, eqb-true, eq-eqb, ne_eqb, false_from_ne_true}
use Rattle.fsl_lin.specs.declared.edge.Edge.{Edge}
use Rattle.fsl_lin.specs.declared.equation.Equation.{Equation}
use Rattle.fsl_lin.specs.declared.fact.Fact.{Fact}
use Rattle.fsl_lin.specs.Combination.{Combination}
use Rattle.fsl_lin.specs.Numbers.{Numbers, most, none, part, gapped, opposite, same_above, is_constant}
use Rattle.fsl_lin.specs.Rows.{Row, AtPivots, normal}
use Rattle.fsl_lin.specs.Equations.{rows_of}
use Rattle.fsl_lin.specs.Walks.{least, feasible}
use Rattle.fsl_lin.specs.Facts.{end_at, ends, edge_from, edge_of, edges, rows, kept, by_constant, by_bound, at_most, proves_normal, proves_le, proves_is, is_zero, refuted_bound, refuted_equation, absurd_facts}
use Rattle.fsl_lin.proofs.Arrays.{most_is}
use Rattle.fsl_lin.proofs.Reduced.{at_each, at_both}
use Rattle.fsl_bounds.proofs.Least.{least_closed}
use Rattle.fsl_pure.specs.Nodes.{IsNode, IsFree, IsLevel, AreNodes, unit}
use Rattle.fsl_pure.specs.Table.{contradict}
use Rattle.fsl_pure.proofs.Linear.{normal_free, normal_opposite}
use Rattle.fsl_pure.proofs.Proving.{equal, constant_no_edge, clear_feasible, difference_proved, other_proved}

-- the numbers of the difference of two nodes
abbrev pub IsDifference : ℕ → ℕ → Numbers → Type 0
IsDifference x y n = (s : ℕ) → n (suc s) ≡ unit x (suc s) -ℤ unit y (suc s)

-- a node up to a place, 0 where it lies past it
abbrev up_to : ℕ → ℕ → ℕ
up_to zero x = 0
up_to (suc k) x = cond (eqb (suc k) x) (suc k) (up_to k x)

up_to_past : (k x : ℕ) → k < x → up_to k x ≡ 0
up_to_past zero x h = refl
up_to_past (suc k) x h =
    ap (λ b. cond b (suc k) (up_to k x)) (ne_eqb (suc k) x (λ e. omega arith)) ∙ up_to_past k x (omega arith)

up_to_is : (k x : ℕ) → x ≤ k → up_to k x ≡ x
up_to_is zero x h = omega arith
up_to_is (suc k) x h =
    elim (cases_eq (suc k) x) [
      | inl e ↦ ap (λ b. cond b (suc k) (up_to k x)) (eq-eqb (suc k) x e) ∙ e
      | inr d ↦ ap (λ b. cond b (suc k) (up_to k x)) (ne_eqb (suc k) x d) ∙ up_to_is k x (omega arith)
    ]

end_step : (at x y : ℕ) (b c : Bool) → (b ≡ true → x ≡ 0) → (c ≡ true → y ≡ 0) → (b ≡ true → c ≡ true → ⊥)
    → end_at (cond b (pos 1) (pos 0) -ℤ cond c (pos 1) (pos 0)) at (Some (x, y)) ≡ Some (cond b at x, cond c at y)
end_step at x y true true h k d = absurd (d refl refl)
end_step at x y true false h k d = rw (h refl) refl
end_step at x y false true h k d = rw (k refl) refl
end_step at x y false false h k d = refl

ends_are : (x y : ℕ) (n : Numbers) → (x ≡ y → ⊥) → IsDifference x y n → (k : ℕ) → ends k n ≡ Some (up_to k x, up_to k y)
ends_are x y n d h zero = refl
ends_are x y n d h (suc k) =
    (λ i. end_at (h k i) (suc k) (ends_are x y n d h k i))
    ∙ end_step (suc k) (up_to k x) (up_to k y) (eqb (suc k) x) (eqb (suc k) y)
    (λ t. let e = eqb-true (suc k) x t in up_to_past k x (omega arith)) (λ t. let e = eqb-true (suc k) y t in up_to_past k y (omega arith))
    (λ t u. d (sym (eqb-true (suc k) x t) ∙ eqb-true (suc k) y u))

not_both : (x y : ℕ) → (x ≡ y → ⊥) → (eqb x 0 && eqb y 0) ≡ false
not_both zero zero d = absurd (d refl)
not_both zero (suc y) d = ap (λ b. eqb 0 0 && b) (eqb-suc-zero y)
not_both (suc x) y d = ap (λ b. b && eqb y 0) (eqb-suc-zero x)

-- the difference of two nodes is the edge between them
edge_is : (x y : ℕ) (n : Numbers) → x ≤ 512 → y ≤ 512 → (x ≡ y → ⊥) → IsDifference x y n
    → edge_of n ≡ Some (let e : Edge = record { from = x; to = y; bound = neg_ℤ (n 0) } in e)
edge_is x y n few few' d h =
    let m = most_is in
    ap (edge_from (n 0)) (ends_are x y n d h most
    ∙ (λ i. Some (up_to_is most x (let l : x ≤ most = omega arith in l) i, up_to_is most y (let l : y ≤ most = omega arith in l) i)))
    ∙ ap (λ b. cond b None (Some (let e : Edge = record { from = x; to = y; bound = neg_ℤ (n 0) } in e))) (not_both x y d)

-- the difference of a node and itself is a constant
line_same : (z w : ℤ) → z ≡ w -ℤ w → z ≡ pos 0
line_same z w h = omega (arith, ints)

is_zero_int : (z : ℤ) → z ≡ pos 0 → int_eq z (pos 0) ≡ true
is_zero_int z h = ap (λ (w : ℤ). int_eq w (pos 0)) h

constant_above : (x : ℕ) (n : Numbers) → IsDifference x x n → (k : ℕ) → same_above k n none ≡ true
constant_above x n h zero = refl
constant_above x n h (suc k) =
    and_from (int_eq (n (suc k)) (pos 0)) (same_above k n none) (is_zero_int (n (suc k)) (line_same (n (suc k)) (unit x (suc k)) (h k))) (constant_above x n h k)

same_through : (k : ℕ) (b n : Numbers) → same_above k b n ≡ true → same_above k n none ≡ true → same_above k b none ≡ true
same_through zero b n h l = refl
same_through (suc k) b n h l =
    let p = and_parts (int_eq (b (suc k)) (n (suc k))) (same_above k b n) h in
    let q = and_parts (int_eq (n (suc k)) (pos 0)) (same_above k n none) l in
    and_from (int_eq (b (suc k)) (pos 0)) (same_above k b none)
    (ap (λ (z : ℤ). int_eq z (pos 0)) (equal (b (suc k)) (n (suc k)) p.0) ∙ q.0) (same_through k b n p.1 q.1)

second_false : (a b : Bool) → a ≡ true → (a && b) ≡ false → b ≡ false
second_false true b h k = k
second_false false b h k = absurd (let g : false ≡ true = h in cc)

line_below : (x y : ℤ) → int_le x y ≡ true → int_lt (pos 0) y ≡ false → int_le x (pos 0) ≡ true
line_below x y h k = grind (arith, ints)

-- a kept bound that is a constant is at most 0
by_bound_constant : (ns : List Numbers) (n : Numbers) → refuted_bound ns ≡ false → is_constant n ≡ true → by_bound ns n ≡ true → int_le (n 0) (pos 0) ≡ true
by_bound_constant [] n r c t = absurd (let g : false ≡ true = t in cc)
by_bound_constant (b ∷ ns) n r c t =
    let p = or_parts (is_constant b && int_lt (pos 0) (b 0)) (refuted_bound ns) r in
    elim (or_cases (same_above most b n && int_le (n 0) (b 0)) (by_bound ns n) t) [
      | inl o ↦
          let q = and_parts (same_above most b n) (int_le (n 0) (b 0)) o in
          line_below (n 0) (b 0) q.1 (second_false (is_constant b) (int_lt (pos 0) (b 0)) (same_through most b n q.0 c) p.0)
      | inr o ↦ by_bound_constant ns n p.1 c o
    ]

only_first : (c l b : Bool) → c ≡ true → (b ≡ true → l ≡ true) → ((c && l) || b) ≡ l
only_first true true b h k = refl
only_first true false true h k = absurd (let g : false ≡ true = k refl in cc)
only_first true false false h k = refl
only_first false l b h k = absurd (let g : false ≡ true = h in cc)

turned_about : (c : ℤ) → int_le c (pos 0) ≡ int_le (pos 0) (neg_ℤ c)
turned_about (pos zero) = refl
turned_about (pos (suc n)) = false_from_ne_true (int_le (pos (suc n)) (pos 0)) (λ t. let h : pos (suc n) ≤ℤ pos 0 = grind (arith, ints) in omega (arith, ints))
turned_about (negsuc n) = let h : int_le (pos 0) (pos (suc n)) ≡ true = grind (arith, ints) in sym h

same_proved : (ns : List Numbers) (x : ℕ) (n : Numbers) → contradict ns ≡ false → is_constant n ≡ true
    → proves_normal ns n ≡ at_most (least (edges ns) x x) (neg_ℤ (n 0))
same_proved ns x n clear c =
    let p = or_parts (refuted_bound ns) (not (feasible (edges ns))) clear in
    other_proved ns n (constant_no_edge n c)
    ∙ only_first (is_constant n) (int_le (n 0) (pos 0)) (by_bound ns n) c (by_bound_constant ns n p.0 c)
    ∙ turned_about (n 0)
    ∙ sym (ap (λ (o : Option ℤ). at_most o (neg_ℤ (n 0))) ((least_closed (edges ns) (clear_feasible ns clear)).start x))

-- a difference of nodes is proved exactly where the table says so
between_proved : (ns : List Numbers) (x y : ℕ) (n : Numbers) → contradict ns ≡ false → x ≤ 512 → y ≤ 512 → IsDifference x y n
    → proves_normal ns n ≡ at_most (least (edges ns) x y) (neg_ℤ (n 0))
between_proved ns x y n clear few few' h =
    elim (cases_eq x y) [
      | inl e ↦
          let same : IsDifference x x n = subst (λ (z : ℕ). IsDifference x z n) (sym e) h in
          same_proved ns x n clear (constant_above x n same most) ∙ ap (λ (z : ℕ). at_most (least (edges ns) x z) (neg_ℤ (n 0))) e
      | inr d ↦ difference_proved ns n (record { from = x; to = y; bound = neg_ℤ (n 0) }) clear (edge_is x y n few few' d h)
    ]

difference_of : (x y : ℕ) (a b : Combination) (gap : ℤ) → IsNode x a → IsNode y b → IsDifference x y (gapped (part a) (part b) gap)
difference_of x y a b gap h k s = λ i. h.each s i -ℤ k.each s i

line_level : (z w v : ℤ) → z ≡ w -ℤ v → w ≡ v → z ≡ pos 0
line_level z w v h k = omega (arith, ints)

level_zero : (x y : ℕ) (n : Numbers) → IsDifference x y n → (p : ℕ) → IsLevel x y p → n p ≡ pos 0
level_zero x y n h zero l = absurd l
level_zero x y n h (suc s) l = line_level (n (suc s)) (unit x (suc s)) (unit y (suc s)) (h s) l

line_bound : (a b g : ℤ) → neg_ℤ ((a -ℤ b) +ℤ g) ≡ (b -ℤ a) -ℤ g
line_bound a b g = omega (arith, ints)

-- the difference of two nodes, by facts that are not absurd
pub nodes_proved : (fs : List Fact) (x y : ℕ) (a b : Combination) (gap : ℤ) → absurd_facts fs ≡ false → AreNodes (rows fs) x y a b
    → proves_le fs (gapped (part a) (part b) gap) ≡ at_most (least (edges (kept fs)) x y) ((b.rest -ℤ a.rest) -ℤ gap)
nodes_proved fs x y a b gap clear h =
    let n : Numbers = gapped (part a) (part b) gap in
    let is : IsDifference x y n = difference_of x y a b gap h.first h.second in
    let free : AtPivots (λ p. n p ≡ pos 0) (rows fs) = at_each (IsLevel x y) (λ p. n p ≡ pos 0) (rows fs) (level_zero x y n is) h.level in
    ap (proves_normal (kept fs)) (normal_free (rows fs) n free)
    ∙ between_proved (kept fs) x y n (or_parts (refuted_equation fs) (contradict (kept fs)) clear).1 h.first.few h.second.few is
    ∙ ap (at_most (least (edges (kept fs)) x y)) (line_bound a.rest b.rest gap)

level_turned : (x y p : ℕ) → IsLevel x y p → IsLevel y x p
level_turned x y zero h = h
level_turned x y (suc s) h = sym h

nodes_turned : (rs : List Row) (x y : ℕ) (a b : Combination) → AreNodes rs x y a b → AreNodes rs y x b a
nodes_turned rs x y a b h = record { first = h.second; second = h.first; level = at_each (IsLevel x y) (IsLevel y x) rs (level_turned x y) h.level }

line_turned : (a b : ℤ) → neg_ℤ ((a -ℤ b) +ℤ pos 0) ≡ (b -ℤ a) +ℤ pos 0
line_turned a b = omega (arith, ints)

line_turned_above : (a b : ℤ) → neg_ℤ (a -ℤ b) ≡ b -ℤ a
line_turned_above a b = omega (arith, ints)

gapped_turned : (a b : Numbers) (i : ℕ) → opposite (gapped a b (pos 0)) i ≡ gapped b a (pos 0) i
gapped_turned a b zero = line_turned (a 0) (b 0)
gapped_turned a b (suc s) = line_turned_above (a (suc s)) (b (suc s))

zero_above : (k : ℕ) (n : Numbers) → same_above k n none ≡ true → same_above k (opposite n) none ≡ true
zero_above zero n h = refl
zero_above (suc k) n h =
    let p = and_parts (int_eq (n (suc k)) (pos 0)) (same_above k n none) h in
    and_from (int_eq (neg_ℤ (n (suc k))) (pos 0)) (same_above k (opposite n) none)
    (ap (λ (z : ℤ). int_eq (neg_ℤ z) (pos 0)) (equal (n (suc k)) (pos 0) p.0)) (zero_above k n p.1)

zero_opposite : (n : Numbers) → is_zero n ≡ true → is_zero (opposite n) ≡ true
zero_opposite n h =
    let p = and_parts (is_constant n) (int_eq (n 0) (pos 0)) h in
    and_from (is_constant (opposite n)) (int_eq (neg_ℤ (n 0)) (pos 0)) (zero_above most n p.0)
    (ap (λ (z : ℤ). int_eq (neg_ℤ z) (pos 0)) (equal (n 0) (pos 0) p.1))

zero_proved : (ns : List Numbers) (n : Numbers) → is_zero n ≡ true → proves_normal ns n ≡ true
zero_proved ns n h =
    let p = and_parts (is_constant n) (int_eq (n 0) (pos 0)) h in
    or_left (by_constant n) _ (and_from (is_constant n) (int_le (n 0) (pos 0)) p.0 (ap (λ (z : ℤ). int_le z (pos 0)) (equal (n 0) (pos 0) p.1)))

both_alone : (z p q : Bool) → (z ≡ true → p ≡ true) → (z ≡ true → q ≡ true) → (z || (p && q)) ≡ (p && q)
both_alone true p q h k = sym (and_from p q (h refl) (k refl))
both_alone false p q h k = refl

-- equality is proved both ways, also where it is by 0
proved_both : (fs : List Fact) (t : Numbers) → proves_is fs t ≡ (proves_le fs t && proves_le fs (opposite t))
proved_both fs t =
    let m : Numbers = normal (rows fs) t in
    both_alone (is_zero m) (proves_le fs t) (proves_le fs (opposite t)) (zero_proved (kept fs) m)
    (λ z. ap (proves_normal (kept fs)) (normal_opposite (rows fs) t) ∙ zero_proved (kept fs) (opposite m) (zero_opposite m z))

-- the same of equality
pub nodes_equal : (fs : List Fact) (x y : ℕ) (a b : Combination) → absurd_facts fs ≡ false → AreNodes (rows fs) x y a b
    → proves_is fs (gapped (part a) (part b) (pos 0))
    ≡ (at_most (least (edges (kept fs)) x y) ((b.rest -ℤ a.rest) -ℤ pos 0) && at_most (least (edges (kept fs)) y x) ((a.rest -ℤ b.rest) -ℤ pos 0))
nodes_equal fs x y a b clear h =
    let there = nodes_proved fs x y a b (pos 0) clear h in
    let back = ap (proves_le fs) (λ j i. gapped_turned (part a) (part b) i j) ∙ nodes_proved fs y x b a (pos 0) clear (nodes_turned (rows fs) x y a b h) in
    proved_both fs (gapped (part a) (part b) (pos 0)) ∙ (λ i. there i && back i)

level_one : (x : ℕ) (es : List Equation) → AtPivots (IsLevel x x) (rows_of es)
level_one x [] = tt
level_one x (e ∷ es) = (refl, level_one x es)

free_level : (x y p : ℕ) → IsFree x p × IsFree y p → IsLevel x y p
free_level x y zero h = h.0
free_level x y (suc s) h =
    ap (λ b. cond b (pos 1) (pos 0)) (ne_eqb (suc s) x h.0) ∙ sym (ap (λ b. cond b (pos 1) (pos 0)) (ne_eqb (suc s) y h.1))

-- a node is level with itself
pub same_level : (es : List Equation) (x y : ℕ) → x ≡ y → AtPivots (IsLevel x y) (rows_of es)
same_level es x y e = subst (λ (z : ℕ). AtPivots (IsLevel x z) (rows_of es)) e (level_one x es)

-- nodes of no pivots are level
pub all_level : (x y : ℕ) (rs : List Row) → AtPivots (IsFree x) rs → AtPivots (IsFree y) rs → AtPivots (IsLevel x y) rs
all_level x y rs h k = at_each (λ p. IsFree x p × IsFree y p) (IsLevel x y) rs (free_level x y) (at_both (IsFree x) (IsFree y) rs h k)

pub both_there : (p q : Bool) → p ≡ true → q ≡ (p && q)
both_there true q h = refl
both_there false q h = absurd (let g : false ≡ true = h in cc)

pub both_not : (p q : Bool) → p ≡ false → p ≡ (p && q)
both_not true q h = absurd (let g : true ≡ false = h in cc)
both_not false q h = refl
