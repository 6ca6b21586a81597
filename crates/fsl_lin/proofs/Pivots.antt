-- The pivot of an equation, and the equations that are kept with it.
use Rattle.std.proofs.Common.{◌≡◌, ℕ, zero, suc, ◌<◌, ◌≤◌, ◌^◌, Bool, true, false, cond, ◌⊎◌, inl, inr, List, [], ◌∷◌, Option, Some, None, ℤ, pos, negsuc, ◌*ℤ◌, refl, ap, ◌∙◌, arith}
use Rattle.std.proofs.lemmas.Bool.{and_from, eqb-true}
use Rattle.std.proofs.Math.IntN.{zero-*ℤ}
use Rattle.fsl_lin.specs.declared.equation.Equation.{Equation}
use Rattle.fsl_lin.specs.Combination.{Combination, IsKept, is_within}
use Rattle.fsl_lin.specs.Numbers.{Numbers, most, part, fits, within_above}
use Rattle.fsl_lin.specs.Rows.{Row, IsReduced, normal, is_unit, pivot_below, turned, extended, rows_fit}
use Rattle.fsl_lin.specs.Equations.{AreNarrow, rows_of}
use Rattle.fsl_lin.proofs.Kept.{each_within, terms_within, rest_within}
use Rattle.fsl_lin.proofs.Reduced.{at_each, normal_is_normal, reduced_after}

pub record IsPivot (k : ℕ) (n : Numbers) (p : ℕ) : Type 0 where
  pub unit : is_unit (n p) ≡ true
  pub low : 0 < p
  pub high : p ≤ k

picked : (b : Bool) (q p : ℕ) (o : Option ℕ) → cond b (Some q) o ≡ Some p → ((b ≡ true) × (p ≡ q)) ⊎ (o ≡ Some p)
picked true q p o h = inl (refl, cc)
picked false q p o h = inr h

pub pivot_is : (k : ℕ) (n : Numbers) (p : ℕ) → pivot_below k n ≡ Some p → IsPivot k n p
pivot_is zero n p h = absurd (let g : None ≡ Some p = h in cc)
pivot_is (suc k) n p h =
    elim (picked (is_unit (n (suc k))) (suc k) p (pivot_below k n) h) [
      | inl a ↦ record { unit = ap (λ (q : ℕ). is_unit (n q)) a.1 ∙ a.0; low = let e = a.1 in omega arith; high = let e = a.1 in omega arith }
      | inr o ↦ let r : IsPivot k n p = pivot_is k n p o in record { unit = r.unit; low = r.low; high = let l = r.high in omega arith }
    ]

unit_square : (x : ℤ) → is_unit x ≡ true → x *ℤ x ≡ pos 1
unit_square (pos n) h = ap (λ (m : ℕ). pos m *ℤ pos m) (eqb-true n 1 h)
unit_square (negsuc n) h = ap (λ (m : ℕ). negsuc m *ℤ negsuc m) (eqb-true n 0 h)

-- one more equation in normal form, at its pivot, leaves the equations reduced
pub reduced_extended : (rs : List Row) (t : Numbers) (p : ℕ) → IsReduced rs → is_unit (normal rs t p) ≡ true → IsReduced (extended rs (normal rs t) (Some p))
reduced_extended rs t p h u =
    reduced_after p (turned p (normal rs t)) rs (unit_square (normal rs t p) u)
    (at_each (λ q. normal rs t q ≡ pos 0) (λ q. turned p (normal rs t) q ≡ pos 0) rs
    (λ q e. ap (λ (z : ℤ). z *ℤ normal rs t p) e ∙ zero-*ℤ (normal rs t p)) (normal_is_normal rs t h).free)
    h

above_each : (b k : ℕ) (n : Numbers) → ((s : ℕ) → is_within b (n (suc s)) ≡ true) → within_above b k n ≡ true
above_each b zero n h = refl
above_each b (suc k) n h = and_from (is_within b (n (suc k))) (within_above b k n) (h k) (above_each b k n h)

kept_fits : (c : Combination) → IsKept c → fits (part c) ≡ true
kept_fits c kept =
    and_from (is_within (2 ^ 90) c.rest) (within_above (2 ^ 24) most (part c)) (rest_within c kept)
    (above_each (2 ^ 24) most (part c) (λ s. each_within (2 ^ 24) c.terms s (terms_within c kept)))

pub rows_kept_fit : (es : List Equation) → AreNarrow es → rows_fit (rows_of es) ≡ true
rows_kept_fit [] h = refl
rows_kept_fit (e ∷ es) h = and_from (fits (part e.lin)) (rows_fit (rows_of es)) (kept_fits e.lin h.1) (rows_kept_fit es h.2)
