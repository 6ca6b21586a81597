-- What expressions and conditions are read as: numbers and truth values of the numbers of the variables.
use Rattle.std.specs.Prelude.{◌≡◌, ℕ, Bool, true, false, List, Some, ℤ, pos}
use Rattle.fsl_core.specs.declared.expr.CmpOp.{CmpOp}
use Rattle.fsl_core.specs.Values.{compared}
use Rattle.fsl_core.specs.logic.States.{Env}
use Rattle.fsl_core.specs.logic.Terms.{Expression}
use Rattle.fsl_core.specs.logic.Deciding.{Condition, always, never, compares}
use Rattle.fsl_lin.specs.Combination.{Combination}
use Rattle.fsl_lin.specs.Numbers.{Numbers}
use Rattle.fsl_lin.specs.declared.fact.Fact.{Fact}
use Rattle.fsl_meaning.specs.Means.{Means, AllMean, HoldAll}

-- where an expression has a term, the term is the number that f says of the variables' numbers
pub record IsRead (e : Expression) (f : List ℤ → ℤ) : Type 0 where
  pub means : (n : ℕ) (v : Numbers) (facts : List Fact) (env : Env) (xs : List ℤ) (t : Combination) → v 0 ≡ pos 1 → HoldAll n v facts → AllMean n v env xs
      → e.term facts env ≡ Some t → Means n v t (f xs)

pub record IsCompared (op : CmpOp) (l r : Expression) (f : List ℤ → Bool) : Type 0 where
  pub left : List ℤ → ℤ
  pub right : List ℤ → ℤ
  pub left_is : IsRead l left
  pub right_is : IsRead r right
  pub is : (xs : List ℤ) → f xs ≡ compared op (left xs) (right xs)

-- a condition holds where f says so
abbrev pub IsJudged : Condition → (List ℤ → Bool) → Type 0
IsJudged always f = (xs : List ℤ) → f xs ≡ true
IsJudged never f = (xs : List ℤ) → f xs ≡ false
IsJudged (compares op l r) f = IsCompared op l r f
