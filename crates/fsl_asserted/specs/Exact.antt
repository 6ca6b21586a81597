-- The number of an expression where the variables have numbers, without the range of a run: it is there for every
-- expression. The result stands behind the variables.
use Rattle.std.specs.Prelude.{Bool, true, false, List, [], ◌∷◌, map, ℤ, pos, negsuc, ◌*ℤ◌, get_or}
use Rattle.fsl_core.specs.declared.expr.Expr.{Expr}
use Rattle.fsl_core.specs.declared.expr.Expr.TheOpen.{Expr-F, Part-F}
use Rattle.fsl_core.specs.declared.expr.Expr.TheFolds.{fold-Expr}
use Rattle.fsl_core.specs.declared.expr.Cond.{Cond}
use Rattle.fsl_core.specs.declared.expr.Cond.TheVariants as cond
use Rattle.fsl_core.specs.Values.{plus_or_minus, compared}

abbrev pub Number : Type 0
Number = List ℤ → ℤ

abbrev pub last_number : ℤ → List ℤ → ℤ
last_number x [] = x
last_number x (y ∷ ys) = last_number y ys

abbrev pub exact_sum : List ℤ → ℤ → List (Bool × Number) → ℤ
exact_sum xs sum [] = sum
exact_sum xs sum (p ∷ ps) = exact_sum xs (plus_or_minus p.0 sum (p.1 xs)) ps

abbrev pub exact_product : List ℤ → ℤ → List Number → ℤ
exact_product xs product [] = product
exact_product xs product (f ∷ fs) = exact_product xs (product *ℤ f xs) fs

abbrev pub exact_step : Expr-F Number (Bool × Number) → Number
exact_step (Expr-F.Const n) xs = n
exact_step (Expr-F.Var slot) xs = get_or xs slot (pos 0)
exact_step Expr-F.Result_ xs = last_number (pos 0) xs
exact_step (Expr-F.Neg e) xs = e xs *ℤ negsuc 0
exact_step (Expr-F.Sum parts) xs = exact_sum xs (pos 0) parts
exact_step (Expr-F.Product factors) xs = exact_product xs (pos 1) factors

abbrev pub exact_part : Part-F Number (Bool × Number) → Bool × Number
exact_part p = (p.minus, p.e)

abbrev pub exact : Expr → Number
exact = fold-Expr Number (Bool × Number) exact_step exact_part

abbrev pub exact_all : List Expr → List ℤ → List ℤ
exact_all es xs = map (λ e. exact e xs) es

abbrev pub exact_cond : Cond → List ℤ → Bool
exact_cond cond.Yes xs = true
exact_cond cond.No xs = false
exact_cond (cond.Cmp op l r) xs = compared op (exact l xs) (exact r xs)
