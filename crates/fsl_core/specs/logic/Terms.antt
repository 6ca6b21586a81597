-- The term of an expression: a whole-number combination of symbols, where it is one. A product is a term where one
-- side is a number by what is known. Each number of a term, and of those on the way, stays within its bound.
use Rattle.std.specs.Prelude.{Bool, true, false, List, [], ◌∷◌, map, Option, Some, None, ℤ, pos, negsuc, get_or, if◌then◌else◌}
use Rattle.std.specs.List.{list_any}
use Rattle.fsl_core.specs.declared.expr.Expr.{Expr}
use Rattle.fsl_core.specs.declared.expr.Expr.TheOpen.{Expr-F, Part-F}
use Rattle.fsl_core.specs.declared.expr.Expr.TheFolds.{fold-Expr}
use Rattle.fsl_core.specs.declared.verdict.Kind.TheVariants as kind
use Rattle.fsl_core.specs.logic.States.{Env, Rule, ◌>>=◌, give, demand_some}
use Rattle.fsl_lin.specs.Combination.{Combination, plus, minus, times, constant, is_narrow}
use Rattle.fsl_lin.specs.Facts.{rows}
use Rattle.fsl_lin.specs.Numbers.{Numbers, part, is_constant}
use Rattle.fsl_lin.specs.Rows.{normal}
use Rattle.fsl_lin.specs.declared.fact.Fact.{Fact}

-- `None` where an expression is no term
abbrev pub Term : Type 0
Term = List Fact → Env → Option Combination

abbrev pub with_term : Option Combination → (Combination → Option Combination) → Option Combination
with_term None f = None
with_term (Some t) f = f t

abbrev pub narrow : Combination → Option Combination
narrow t = if is_narrow t then Some t else None

abbrev pub signed : Bool → Combination → Combination → Combination
signed true a b = minus a b
signed false a b = plus a b

abbrev pub last_or : Combination → Env → Combination
last_or t [] = t
last_or t (u ∷ us) = last_or u us

abbrev pub number_of : Numbers → Option ℤ
number_of n = if is_constant n then Some (n 0) else None

-- the number that a term is by the facts
abbrev pub constant_of : List Fact → Combination → Option ℤ
constant_of facts t = number_of (normal (rows facts) (part t))

-- the number on one side times the other side; the left one where both are numbers
abbrev pub multiplied : Option ℤ → Option ℤ → Combination → Combination → Option Combination
multiplied (Some k) r a b = narrow (times k b)
multiplied None (Some k) a b = narrow (times k a)
multiplied None None a b = None

-- parts and factors from the left
abbrev pub sum_from : List Fact → Env → Combination → List (Bool × Term) → Option Combination
sum_from facts env sum [] = Some sum
sum_from facts env sum (p ∷ ps) =
    with_term (p.1 facts env) (λ t. with_term (narrow (signed p.0 sum t)) (λ s. sum_from facts env s ps))

abbrev pub product_from : List Fact → Env → Combination → List Term → Option Combination
product_from facts env product [] = Some product
product_from facts env product (p ∷ ps) =
    with_term (p facts env) (λ t.
    with_term (multiplied (constant_of facts product) (constant_of facts t) product t) (λ s. product_from facts env s ps))

-- an expression: its term, and whether it speaks of the result of the procedure
pub record Expression : Type 0 where
  pub term : Term
  pub says : Bool

abbrev pub signed_term : Bool × Expression → Bool × Term
signed_term p = (p.0, p.1.term)

-- the result is the last item of an environment, behind the variables
abbrev pub expr_step : Expr-F Expression (Bool × Expression) → Expression
expr_step (Expr-F.Const n) = record { term = λ facts env. narrow (constant n); says = false }
expr_step (Expr-F.Var slot) = record { term = λ facts env. Some (get_or env slot (constant (pos 0))); says = false }
expr_step Expr-F.Result_ = record { term = λ facts env. Some (last_or (constant (pos 0)) env); says = true }
expr_step (Expr-F.Neg e) = record { term = λ facts env. with_term (e.term facts env) (λ t. narrow (times (negsuc 0) t)); says = e.says }
expr_step (Expr-F.Sum parts) = record {
  term = λ facts env. sum_from facts env (constant (pos 0)) (map signed_term parts);
  says = list_any (λ p. p.1.says) parts;
}
expr_step (Expr-F.Product factors) = record {
  term = λ facts env. product_from facts env (constant (pos 1)) (map (λ e. e.term) factors);
  says = list_any (λ e. e.says) factors;
}

abbrev pub part_step : Part-F Expression (Bool × Expression) → Bool × Expression
part_step p = (p.minus, p.e)

abbrev pub expr_of : Expr → Expression
expr_of = fold-Expr Expression (Bool × Expression) expr_step part_step

-- the term of an expression is needed
abbrev pub term : Expression → Env → Rule Combination
term e env = λ s. demand_some kind.Term (e.term s.facts env) s

-- those of several, from left to right
abbrev pub terms : List Expression → Env → Rule (List Combination)
terms [] env = give []
terms (e ∷ es) env = do
  t ← term e env
  ts ← terms es env
  give (t ∷ ts)

-- a combination that has to keep within the bounds
abbrev pub fitting : Combination → Rule Combination
fitting t = demand_some kind.Term (narrow t)
