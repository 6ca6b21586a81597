-- The value of an expression and of a condition where the variables have values: whole numbers from
-- -2^63 to 2^63-1, and `None` where a constant or a result leaves them.
use Rattle.std.specs.Prelude.{◌^◌, nat_lt, Bool, true, false, not, List, [], ◌∷◌, slice_get, ℤ, pos, negsuc, ◌+ℤ◌, ◌-ℤ◌, ◌*ℤ◌, neg_ℤ, Option, Some, None, if◌then◌else◌, int_lt, int_le}
use Rattle.std.specs.Ordering.{int_eq}
use Rattle.fsl_core.specs.declared.expr.Expr.{Expr}
use Rattle.fsl_core.specs.declared.expr.Expr.TheOpen.{Expr-F, Part-F}
use Rattle.fsl_core.specs.declared.expr.Expr.TheFolds.{fold-Expr, fold-Part}
use Rattle.fsl_core.specs.declared.expr.Part.{Part}
use Rattle.fsl_core.specs.declared.expr.Cond.{Cond}
use Rattle.fsl_core.specs.declared.expr.Cond.TheVariants as cond
use Rattle.fsl_core.specs.declared.expr.CmpOp.{CmpOp}
use Rattle.fsl_core.specs.declared.expr.CmpOp.TheVariants as cmp_op

-- the number, unless it leaves -2^63 .. 2^63-1 (`negsuc n` is -n-1)
abbrev pub in_range : ℤ → Option ℤ
in_range (pos n) = if nat_lt n (2 ^ 63) then Some (pos n) else None
in_range (negsuc n) = if nat_lt n (2 ^ 63) then Some (negsuc n) else None

-- a step that needs a value
abbrev pub with_value : {A B : Type 0} → Option A → (A → Option B) → Option B
with_value None f = None
with_value (Some v) f = f v

-- a value as a function of the variables' values
abbrev pub Value : Type 0
Value = List ℤ → Option ℤ

-- one more part of a sum
abbrev pub plus_or_minus : Bool → ℤ → ℤ → ℤ
plus_or_minus true sum v = sum -ℤ v
plus_or_minus false sum v = sum +ℤ v

-- parts (with whether they are subtracted) added to `sum` from the left
abbrev pub sum_from : List ℤ → ℤ → List (Bool × Value) → Option ℤ
sum_from env sum [] = Some sum
sum_from env sum (p ∷ ps) = with_value (p.1 env) (λ v. with_value (in_range (plus_or_minus p.0 sum v)) (λ s. sum_from env s ps))

-- factors multiplied with `product` from the left
abbrev pub product_from : List ℤ → ℤ → List Value → Option ℤ
product_from env product [] = Some product
product_from env product (f ∷ fs) = with_value (f env) (λ v. with_value (in_range (product *ℤ v)) (λ p. product_from env p fs))

abbrev pub value_step : Expr-F Value (Bool × Value) → Value
value_step (Expr-F.Const n) env = in_range n
value_step (Expr-F.Var slot) env = slice_get env slot
value_step Expr-F.Result_ env = None
value_step (Expr-F.Neg e) env = with_value (e env) (λ v. in_range (neg_ℤ v))
value_step (Expr-F.Sum parts) env = sum_from env (pos 0) parts
value_step (Expr-F.Product factors) env = product_from env (pos 1) factors

abbrev pub part_step : Part-F Value (Bool × Value) → Bool × Value
part_step p = (p.minus, p.e)

-- the value of an expression
abbrev pub value_of : Expr → Value
value_of = fold-Expr Value (Bool × Value) value_step part_step

abbrev pub compared : CmpOp → ℤ → ℤ → Bool
compared cmp_op.Eq l r = int_eq l r
compared cmp_op.Ne l r = not (int_eq l r)
compared cmp_op.Lt l r = int_lt l r
compared cmp_op.Le l r = int_le l r
compared cmp_op.Gt l r = int_lt r l
compared cmp_op.Ge l r = int_le r l

-- whether a condition holds; `None` where a side has no value
abbrev pub holds_of : Cond → List ℤ → Option Bool
holds_of cond.Yes env = Some true
holds_of cond.No env = Some false
holds_of (cond.Cmp op l r) env = with_value (value_of l env) (λ v. with_value (value_of r env) (λ w. Some (compared op v w)))

-- whether a part is subtracted, and its value
abbrev pub part_of : Part → Bool × Value
part_of = fold-Part Value (Bool × Value) value_step part_step
