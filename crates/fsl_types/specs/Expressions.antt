-- Expressions, conditions, arguments and uses: what they are over numbered variables, and their faults. They declare
-- nothing.
use Rattle.std.specs.Prelude.{ℕ, Bool, true, false, List, [], ◌∷◌, length, map, drop, Option, Some, None, pos, neg_ℤ, ◌==◌}
use Rattle.fsl_base.specs.declared.span.Span.{Span}
use Rattle.fsl_core.specs.declared.assertion.Inst.{Inst}
use Rattle.fsl_core.specs.declared.expr.Cond.{Cond}
use Rattle.fsl_core.specs.declared.expr.Cond.TheVariants as cond
use Rattle.fsl_core.specs.declared.expr.CmpOp.{CmpOp}
use Rattle.fsl_core.specs.declared.expr.CmpOp.TheVariants as op
use Rattle.fsl_core.specs.declared.expr.Expr.{Expr}
use Rattle.fsl_core.specs.declared.expr.Expr.TheVariants as expr
use Rattle.fsl_core.specs.declared.expr.Part.{Part}
use Rattle.fsl_tree.specs.declared.expression.Addend.{Addend}
use Rattle.fsl_tree.specs.declared.expression.Arguments.{Arguments}
use Rattle.fsl_tree.specs.declared.expression.Comparison.{Comparison}
use Rattle.fsl_tree.specs.declared.expression.Comparison.TheVariants as comparisons
use Rattle.fsl_tree.specs.declared.expression.Condition.{Condition}
use Rattle.fsl_tree.specs.declared.expression.Condition.TheVariants as conditions
use Rattle.fsl_tree.specs.declared.expression.Expression.{Expression}
use Rattle.fsl_tree.specs.declared.expression.Factor.{Factor}
use Rattle.fsl_tree.specs.declared.expression.Factor.TheFolds.{fold-Factor, fold-Addend, fold-Expression, fold-Multiplier, fold-Term}
use Rattle.fsl_tree.specs.declared.expression.Factor.TheOpen.{Factor-F, Addend-F, Expression-F, Multiplier-F, Term-F}
use Rattle.fsl_tree.specs.declared.expression.Factor.TheViews.{out-Factor, out-Term, out-Expression}
use Rattle.fsl_tree.specs.declared.expression.Multiplier.{Multiplier}
use Rattle.fsl_tree.specs.declared.expression.NextArgument.{NextArgument}
use Rattle.fsl_tree.specs.declared.expression.Sign.{Sign}
use Rattle.fsl_tree.specs.declared.expression.Sign.TheVariants as signs
use Rattle.fsl_tree.specs.declared.expression.Term.{Term}
use Rattle.fsl_tree.specs.declared.expression.Use.{Use}
use Rattle.fsl_types.specs.declared.fault.Fault.{Fault}
use Rattle.fsl_types.specs.declared.occurrence.Due.{Due}
use Rattle.fsl_types.specs.declared.occurrence.Due.TheVariants as due
use Rattle.fsl_types.specs.declared.occurrence.Occurrence.TheVariants as occurrence
use Rattle.fsl_types.specs.declared.scope.Scope.{Scope}
use Rattle.fsl_types.specs.declared.variable.Signature.{Signature}
use Rattle.fsl_types.specs.Names.{Names, Signatures, found, slot_at, sort_at, text_at}
use Rattle.fsl_types.specs.Resolvers.{noted, one_more}

-- ---- numbered expressions

-- a factor, and its number where it is a number alone
pub record Numbered : Type 0 where
  pub e : Expr
  pub number : Option ℕ

-- `-` directly before a number is one constant
abbrev pub negated : Option ℕ → Expr → Expr
negated (Some n) e = expr.Const (neg_ℤ (pos n))
negated None e = expr.Neg e

abbrev pub factor_step : List ℕ → Names → Factor-F Numbered Part Expr Expr Expr → Numbered
factor_step bytes names (Factor-F.Number place value) = record { e = expr.Const (pos value); number = Some value }
factor_step bytes names (Factor-F.Name place) = record { e = expr.Var (slot_at bytes names place); number = None }
factor_step bytes names (Factor-F.Outcome place) = record { e = expr.Result_; number = None }
factor_step bytes names (Factor-F.Negative minus factor) = record { e = negated factor.number factor.e; number = None }
factor_step bytes names (Factor-F.Group start inside end) = record { e = inside; number = None }

abbrev pub is_minus : Sign → Bool
is_minus (signs.Plus place) = false
is_minus (signs.Minus place) = true

abbrev pub addend_step : Addend-F Numbered Part Expr Expr Expr → Part
addend_step a = record { minus = is_minus a.sign; e = a.term }

-- one part is no sum, and one factor no product
abbrev pub sum_of : Expr → List Part → Expr
sum_of first [] = first
sum_of first (p ∷ ps) = expr.Sum (record { minus = false; e = first } ∷ p ∷ ps)

abbrev pub product_of : Expr → List Expr → Expr
product_of first [] = first
product_of first (e ∷ es) = expr.Product (first ∷ e ∷ es)

abbrev pub expression_step : Expression-F Numbered Part Expr Expr Expr → Expr
expression_step e = sum_of e.first e.more

abbrev pub multiplier_step : Multiplier-F Numbered Part Expr Expr Expr → Expr
multiplier_step m = m.factor.e

abbrev pub term_step : Term-F Numbered Part Expr Expr Expr → Expr
term_step t = product_of t.first.e t.more

abbrev pub factor_of : List ℕ → Names → Factor → Numbered
factor_of bytes names = fold-Factor Numbered Part Expr Expr Expr (factor_step bytes names) addend_step expression_step multiplier_step term_step

abbrev pub addend_of : List ℕ → Names → Addend → Part
addend_of bytes names = fold-Addend Numbered Part Expr Expr Expr (factor_step bytes names) addend_step expression_step multiplier_step term_step

abbrev pub expression_of : List ℕ → Names → Expression → Expr
expression_of bytes names = fold-Expression Numbered Part Expr Expr Expr (factor_step bytes names) addend_step expression_step multiplier_step term_step

abbrev pub multiplier_of : List ℕ → Names → Multiplier → Expr
multiplier_of bytes names = fold-Multiplier Numbered Part Expr Expr Expr (factor_step bytes names) addend_step expression_step multiplier_step term_step

abbrev pub term_of : List ℕ → Names → Term → Expr
term_of bytes names = fold-Term Numbered Part Expr Expr Expr (factor_step bytes names) addend_step expression_step multiplier_step term_step

abbrev pub operator_of : Comparison → CmpOp
operator_of (comparisons.Equal place) = op.Eq
operator_of (comparisons.NotEqual place) = op.Ne
operator_of (comparisons.Less place) = op.Lt
operator_of (comparisons.AtMost place) = op.Le
operator_of (comparisons.Greater place) = op.Gt
operator_of (comparisons.AtLeast place) = op.Ge

abbrev pub condition_of : List ℕ → Names → Condition → Cond
condition_of bytes names (conditions.Always place) = cond.Yes
condition_of bytes names (conditions.Never place) = cond.No
condition_of bytes names (conditions.Compared left comparison right) =
    cond.Cmp (operator_of comparison) (expression_of bytes names left) (expression_of bytes names right)

abbrev pub next_value : NextArgument → Expression
next_value next = next.value

abbrev pub arguments_of : Option Arguments → List Expression
arguments_of None = []
arguments_of (Some a) = a.first ∷ map next_value a.more

abbrev pub numbered_arguments : List ℕ → Names → Option Arguments → List Expr
numbered_arguments bytes names arguments = map (expression_of bytes names) (arguments_of arguments)

abbrev pub number_of : Option Signature → ℕ
number_of None = 0
number_of (Some signature) = signature.number

abbrev pub signature_at : List ℕ → Signatures → Span → Option Signature
signature_at bytes signatures place = found (text_at bytes place) signatures

-- an invariant with its arguments
abbrev pub instance_of : List ℕ → Signatures → Names → Use → Inst
instance_of bytes signatures names u =
    record { inv = number_of (signature_at bytes signatures u.name); args = numbered_arguments bytes names u.arguments }

-- ---- faults

-- what comes to the faults so far
abbrev pub Judged : Type 0
Judged = List Fault → List Fault

abbrev pub in_turn : List Judged → Judged
in_turn [] faults = faults
in_turn (j ∷ js) faults = in_turn js (j faults)

-- where names are looked up, and whether `result` may stand there
pub record Sight : Type 0 where
  pub bytes : List ℕ
  pub names : Names
  pub in_ensures : Bool

abbrev pub sight_of : Scope → Sight
sight_of scope = record { bytes = scope.bytes.now; names = scope.names.now; in_ensures = scope.in_ensures }

-- a variable's name, where something is due
abbrev pub judged_name : Sight → Due → Span → Judged
judged_name sight wanted place = noted (occurrence.Variable place wanted (sort_at sight.bytes sight.names place))

abbrev pub factor_judged : Sight → Due → Factor-F Judged Judged Judged Judged Judged → Judged
factor_judged sight wanted (Factor-F.Number place value) faults = faults
factor_judged sight wanted (Factor-F.Name place) faults = judged_name sight wanted place faults
factor_judged sight wanted (Factor-F.Outcome place) faults = noted (occurrence.Outcome place sight.in_ensures) faults
factor_judged sight wanted (Factor-F.Negative minus factor) faults = factor faults
factor_judged sight wanted (Factor-F.Group start inside end) faults = inside faults

abbrev pub addend_judged : Addend-F Judged Judged Judged Judged Judged → Judged
addend_judged a faults = a.term faults

abbrev pub expression_judged : Expression-F Judged Judged Judged Judged Judged → Judged
expression_judged e faults = in_turn e.more (e.first faults)

abbrev pub multiplier_judged : Multiplier-F Judged Judged Judged Judged Judged → Judged
multiplier_judged m faults = m.factor faults

abbrev pub term_judged : Term-F Judged Judged Judged Judged Judged → Judged
term_judged t faults = in_turn t.more (t.first faults)

abbrev pub judged_factor : Sight → Due → Factor → Judged
judged_factor sight wanted = fold-Factor Judged Judged Judged Judged Judged (factor_judged sight wanted) addend_judged expression_judged multiplier_judged term_judged

abbrev pub judged_addend : Sight → Due → Addend → Judged
judged_addend sight wanted = fold-Addend Judged Judged Judged Judged Judged (factor_judged sight wanted) addend_judged expression_judged multiplier_judged term_judged

abbrev pub judged_expression : Sight → Due → Expression → Judged
judged_expression sight wanted = fold-Expression Judged Judged Judged Judged Judged (factor_judged sight wanted) addend_judged expression_judged multiplier_judged term_judged

abbrev pub judged_multiplier : Sight → Due → Multiplier → Judged
judged_multiplier sight wanted = fold-Multiplier Judged Judged Judged Judged Judged (factor_judged sight wanted) addend_judged expression_judged multiplier_judged term_judged

abbrev pub judged_term : Sight → Due → Term → Judged
judged_term sight wanted = fold-Term Judged Judged Judged Judged Judged (factor_judged sight wanted) addend_judged expression_judged multiplier_judged term_judged

abbrev pub judged_number : Sight → Expression → Judged
judged_number sight e = judged_expression sight due.Number e

abbrev pub judged_condition : Sight → Condition → Judged
judged_condition sight (conditions.Always place) faults = faults
judged_condition sight (conditions.Never place) faults = faults
judged_condition sight (conditions.Compared left comparison right) faults = judged_number sight right (judged_number sight left faults)

-- ---- arguments

abbrev pub first_place_of_factor : Factor-F Factor Addend Expression Multiplier Term → Span
first_place_of_factor (Factor-F.Number place value) = place
first_place_of_factor (Factor-F.Name place) = place
first_place_of_factor (Factor-F.Outcome place) = place
first_place_of_factor (Factor-F.Negative minus factor) = minus
first_place_of_factor (Factor-F.Group start inside end) = start

abbrev pub first_factor : Expression → Factor-F Factor Addend Expression Multiplier Term
first_factor e = out-Factor (out-Term (out-Expression e).first).first

-- the first token of an expression
abbrev pub first_place : Expression → Span
first_place e = first_place_of_factor (first_factor e)

abbrev pub only_name : List Addend → List Multiplier → Factor-F Factor Addend Expression Multiplier Term → Option Span
only_name [] [] (Factor-F.Name place) = Some place
only_name _ _ _ = None

-- the name that an expression is alone
abbrev pub name_alone : Expression → Option Span
name_alone e = only_name (out-Expression e).more (out-Term (out-Expression e).first).more (first_factor e)

-- a bank is given by its name alone
abbrev pub judged_bank : Sight → Expression → Option Span → Judged
judged_bank sight e (Some place) faults = judged_name sight due.Bank place faults
judged_bank sight e None faults = noted (occurrence.Compound (first_place e)) faults

abbrev pub judged_argument : Sight → Due → Expression → Judged
judged_argument sight due.Bank e faults = judged_bank sight e (name_alone e) faults
judged_argument sight wanted e faults = judged_expression sight wanted e faults

-- what is due for the first of these parameters, each a bank or not; either is where there is none
abbrev pub first_due : List Bool → Due
first_due [] = due.Any
first_due (true ∷ banks) = due.Bank
first_due (false ∷ banks) = due.Number

abbrev pub judged_arguments : Sight → List Bool → List Expression → Judged
judged_arguments sight banks [] faults = faults
judged_arguments sight banks (e ∷ es) faults =
    judged_arguments sight (drop 1 banks) es (judged_argument sight (first_due banks) e faults)

abbrev pub banks_of : Option Signature → List Bool
banks_of None = []
banks_of (Some signature) = signature.banks

-- whether there are as many arguments as parameters, where these are known
abbrev pub fits : Option Arguments → Option Signature → Option Bool
fits arguments None = None
fits arguments (Some signature) = Some (length (arguments_of arguments) == length signature.banks)

-- a use of an invariant or a procedure
abbrev pub judged_use : Sight → Option Signature → Use → Judged
judged_use sight signature u faults =
    judged_arguments sight (banks_of signature) (arguments_of u.arguments) (
    noted (occurrence.Used u.name (fits u.arguments signature)) faults)

-- the excluded values of an `Acq`, of which there may be 16
abbrev pub judged_excluded : Sight → ℕ → List Expression → Judged
judged_excluded sight before [] faults = faults
judged_excluded sight before (e ∷ es) faults =
    judged_excluded sight (one_more 16 before) es (judged_number sight e (noted (occurrence.Excluded (first_place e) before) faults))
