-- What is asked of a solver: what it proves follows from the facts, and what it calls absurd can't be met.
use Rattle.std.specs.Prelude.{◌≡◌, true, List, ℤ, pos, ◌+ℤ◌, ◌≤ℤ◌}
use Rattle.fsl_lin.specs.declared.fact.Fact.{Fact}
use Rattle.fsl_lin.specs.Numbers.{Numbers, gapped, is_constant}
use Rattle.fsl_lin.specs.Rows.{normal}
use Rattle.fsl_lin.specs.Facts.{rows, proves_le, proves_is, absurd_facts}
use Rattle.fsl_lin.specs.Values.{value_of, Follows}

pub record IsSound : Type 0 where
  pub at_most : (fs : List Fact) (a b : Numbers) (gap : ℤ) → proves_le fs (gapped a b gap) ≡ true → Follows fs (λ v. (value_of v a +ℤ gap) ≤ℤ value_of v b)
  pub equal : (fs : List Fact) (a b : Numbers) → proves_is fs (gapped a b (pos 0)) ≡ true → Follows fs (λ v. value_of v a ≡ value_of v b)
  pub none : (fs : List Fact) → absurd_facts fs ≡ true → Follows fs (λ v. ⊥)
  pub same : (fs : List Fact) (t : Numbers) → Follows fs (λ v. value_of v (normal (rows fs) t) ≡ value_of v t)  -- a normal form
  pub constant : (v n : Numbers) → v 0 ≡ pos 1 → is_constant n ≡ true → value_of v n ≡ n 0
