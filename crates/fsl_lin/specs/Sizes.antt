-- Whole numbers of bounded size.
use Rattle.std.specs.Prelude.{ℕ, ℤ, pos, neg_ℤ, ◌≤ℤ◌}

-- |x| <= bound
pub record IsSize (bound : ℕ) (x : ℤ) : Type 0 where
  pub low : neg_ℤ (pos bound) ≤ℤ x
  pub high : x ≤ℤ pos bound
