-- What is proved follows from the facts.
use Rattle.std.proofs.Common.{◌≡◌, suc, Bool, true, false, not, ◌&&◌, ◌||◌, inl, inr, List, [], ◌∷◌, Option, Some, None, ℤ, pos, ◌+ℤ◌, ◌-ℤ◌, ◌≤ℤ◌, neg_ℤ, int_le, int_lt, refl, sym, subst, ◌∙◌, arith}
use Rattle.std.specs.Ordering.{int_eq}
use Rattle.std.proofs.lemmas.Int.{ints}
use Rattle.std.proofs.lemmas.Bool.{and_parts, or_cases}
use Rattle.std.proofs.lemmas.Bool.Decides.{Decides-int_eq}
use Rattle.fsl_lin.specs.declared.edge.Edge.{Edge}
use Rattle.fsl_lin.specs.declared.fact.Fact.{Fact}
use Rattle.fsl_lin.specs.declared.fact.Fact.TheVariants.{Le, Is}
use Rattle.fsl_lin.specs.Numbers.{Numbers, most, part, opposite, gapped, same_above, is_constant}
use Rattle.fsl_lin.specs.Rows.{normal}
use Rattle.fsl_lin.specs.Walks.{feasible}
use Rattle.fsl_lin.specs.Values.{value_of, AllHold, Follows}
use Rattle.fsl_lin.specs.Facts.{rows, kept, edges, edge_of, by_constant, by_bound, walks, proves_normal, proves_le, proves_is, is_zero, refuted_bound, refuted_equation, absurd_facts}
use Rattle.fsl_pure.proofs.Proving.{equal}
use Rattle.fsl_pure.proofs.Sound.{AllAtMost, value_normal, value_opposite, value_gapped, rows_hold, kept_hold, constant_value, bound_value}
use Rattle.fsl_pure.proofs.Walked.{edges_hold, edges_feasible, walk_value}

line_constant : (x n : ℤ) → x ≡ n → int_le n (pos 0) ≡ true → x ≤ℤ pos 0
line_constant x n h k = let l : n ≤ℤ pos 0 = grind (arith, ints) in omega (arith, ints)

line_le : (a b : ℤ) → int_le a b ≡ true → a ≤ℤ b
line_le a b h = grind (arith, ints)

bound_sound : (v n : Numbers) (ns : List Numbers) → v 0 ≡ pos 1 → AllAtMost v ns → by_bound ns n ≡ true → value_of v n ≤ℤ pos 0
bound_sound v n [] one h t = absurd (let g : false ≡ true = t in cc)
bound_sound v n (b ∷ ns) one h t =
    elim (or_cases (same_above most b n && int_le (n 0) (b 0)) (by_bound ns n) t) [
      | inl o ↦ let p = and_parts (same_above most b n) (int_le (n 0) (b 0)) o in bound_value v b n one p.0 (line_le (n 0) (b 0) p.1) h.0
      | inr r ↦ bound_sound v n ns one h.1 r
    ]

walk_sound : (v n : Numbers) (ns : List Numbers) (o : Option Edge) → v 0 ≡ pos 1 → edge_of n ≡ o → AllAtMost v ns → walks (edges ns) o ≡ true → value_of v n ≤ℤ pos 0
walk_sound v n ns None one is h t = absurd (let g : false ≡ true = t in cc)
walk_sound v n ns (Some e) one is h t = walk_value v n (edges ns) e one is (edges_hold v ns one h) t

normal_sound : (v n : Numbers) (ns : List Numbers) → v 0 ≡ pos 1 → AllAtMost v ns → proves_normal ns n ≡ true → value_of v n ≤ℤ pos 0
normal_sound v n ns one h t =
    elim (or_cases (by_constant n) (by_bound ns n || walks (edges ns) (edge_of n)) t) [
      | inl c ↦ let p = and_parts (is_constant n) (int_le (n 0) (pos 0)) c in line_constant (value_of v n) (n 0) (constant_value v n one p.0) p.1
      | inr r ↦ elim (or_cases (by_bound ns n) (walks (edges ns) (edge_of n)) r) [
        | inl b ↦ bound_sound v n ns one h b
        | inr w ↦ walk_sound v n ns (edge_of n) one refl h w
      ]
    ]

-- what is proved to be at most 0 is
le_value : (fs : List Fact) (t : Numbers) → proves_le fs t ≡ true → Follows fs (λ v. value_of v t ≤ℤ pos 0)
le_value fs t h v one all =
    subst (λ (x : ℤ). x ≤ℤ pos 0) (value_normal (suc most) v (rows fs) t (rows_hold v fs all))
    (normal_sound v (normal (rows fs) t) (kept fs) one (kept_hold v fs all) h)

line_gap : (x y g w : ℤ) → w ≡ (x -ℤ y) +ℤ g → w ≤ℤ pos 0 → (x +ℤ g) ≤ℤ y
line_gap x y g w h k = omega (arith, ints)

pub le_follows : (fs : List Fact) (a b : Numbers) (gap : ℤ) → proves_le fs (gapped a b gap) ≡ true
    → Follows fs (λ v. (value_of v a +ℤ gap) ≤ℤ value_of v b)
le_follows fs a b gap h v one all =
    line_gap (value_of v a) (value_of v b) gap (value_of v (gapped a b gap)) (value_gapped most v a b gap one) (le_value fs (gapped a b gap) h v one all)

line_equal : (x y w : ℤ) → w ≡ (x -ℤ y) +ℤ pos 0 → w ≡ pos 0 → x ≡ y
line_equal x y w h k = omega (arith, ints)

line_both : (w o : ℤ) → o ≡ neg_ℤ w → w ≤ℤ pos 0 → o ≤ℤ pos 0 → w ≡ pos 0
line_both w o h k l = omega (arith, ints)

is_value : (fs : List Fact) (t : Numbers) → proves_is fs t ≡ true → Follows fs (λ v. value_of v t ≡ pos 0)
is_value fs t h v one all =
    elim (or_cases (is_zero (normal (rows fs) t)) (proves_le fs t && proves_le fs (opposite t)) h) [
      | inl z ↦
          let p = and_parts (is_constant (normal (rows fs) t)) (int_eq (normal (rows fs) t 0) (pos 0)) z in
          sym (value_normal (suc most) v (rows fs) t (rows_hold v fs all)) ∙ constant_value v (normal (rows fs) t) one p.0 ∙ equal (normal (rows fs) t 0) (pos 0) p.1
      | inr r ↦
          let p = and_parts (proves_le fs t) (proves_le fs (opposite t)) r in
          line_both (value_of v t) (value_of v (opposite t)) (value_opposite (suc most) v t) (le_value fs t p.0 v one all) (le_value fs (opposite t) p.1 v one all)
    ]

pub eq_follows : (fs : List Fact) (a b : Numbers) → proves_is fs (gapped a b (pos 0)) ≡ true → Follows fs (λ v. value_of v a ≡ value_of v b)
eq_follows fs a b h v one all =
    line_equal (value_of v a) (value_of v b) (value_of v (gapped a b (pos 0))) (value_gapped most v a b (pos 0) one) (is_value fs (gapped a b (pos 0)) h v one all)

line_positive : (x n : ℤ) → x ≡ n → int_lt (pos 0) n ≡ true → x ≤ℤ pos 0 → ⊥
line_positive x n h k l =
    let m : n ≤ℤ pos 0 = omega (arith, ints) in
    let f : int_lt (pos 0) n ≡ false = grind (arith, ints) in
    let g : false ≡ true = sym f ∙ k in
    cc

bounds_clear : (v : Numbers) (ns : List Numbers) → v 0 ≡ pos 1 → AllAtMost v ns → refuted_bound ns ≡ true → ⊥
bounds_clear v [] one h t = let g : false ≡ true = t in cc
bounds_clear v (n ∷ ns) one h t =
    elim (or_cases (is_constant n && int_lt (pos 0) (n 0)) (refuted_bound ns) t) [
      | inl c ↦ let p = and_parts (is_constant n) (int_lt (pos 0) (n 0)) c in line_positive (value_of v n) (n 0) (constant_value v n one p.0) p.1 h.0
      | inr r ↦ bounds_clear v ns one h.1 r
    ]

not_equal : (x y : ℤ) → x ≡ y → not (int_eq x y) ≡ true → ⊥
not_equal x y h k =
    let t : int_eq x y ≡ true = (Decides-int_eq x y).1 h in
    let g : not true ≡ true = subst (λ (b : Bool). not b ≡ true) t k in
    let f : false ≡ true = g in
    cc

equations_clear : (v : Numbers) (fs : List Fact) → v 0 ≡ pos 1 → AllHold v fs → refuted_equation fs ≡ true → ⊥
equations_clear v [] one h t = let g : false ≡ true = t in cc
equations_clear v (Le t ∷ fs) one h r = equations_clear v fs one h.1 r
equations_clear v (Is t ∷ fs) one h r =
    elim (or_cases (is_constant (normal (rows fs) (part t)) && not (int_eq (normal (rows fs) (part t) 0) (pos 0))) (refuted_equation fs) r) [
      | inl c ↦
          let p = and_parts (is_constant (normal (rows fs) (part t))) (not (int_eq (normal (rows fs) (part t) 0) (pos 0))) c in
          not_equal (normal (rows fs) (part t) 0) (pos 0)
          (sym (constant_value v (normal (rows fs) (part t)) one p.0) ∙ value_normal (suc most) v (rows fs) (part t) (rows_hold v fs h.1) ∙ h.0) p.1
      | inr s ↦ equations_clear v fs one h.1 s
    ]

walks_clear : (v : Numbers) (ns : List Numbers) → v 0 ≡ pos 1 → AllAtMost v ns → not (feasible (edges ns)) ≡ true → ⊥
walks_clear v ns one h t =
    let f : feasible (edges ns) ≡ true = edges_feasible v (edges ns) (edges_hold v ns one h) in
    let g : not true ≡ true = subst (λ (b : Bool). not b ≡ true) f t in
    let e : false ≡ true = g in
    cc

-- absurd facts have no valuation
pub absurd_follows : (fs : List Fact) → absurd_facts fs ≡ true → Follows fs (λ v. ⊥)
absurd_follows fs h v one all =
    elim (or_cases (refuted_equation fs) (refuted_bound (kept fs) || not (feasible (edges (kept fs)))) h) [
      | inl e ↦ equations_clear v fs one all e
      | inr r ↦ elim (or_cases (refuted_bound (kept fs)) (not (feasible (edges (kept fs)))) r) [
        | inl b ↦ bounds_clear v (kept fs) one (kept_hold v fs all) b
        | inr w ↦ walks_clear v (kept fs) one (kept_hold v fs all) w
      ]
    ]
