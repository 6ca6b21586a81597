-- The same of expressions, comparisons and uses.
use Rattle.std.proofs.Common.{◌≡◌, ◌∷◌, Option, Some, None, refl, subst}
use Rattle.fsl_token.specs.declared.kind.TokenKind.TheVariants as kind
use Rattle.fsl_tree.specs.declared.expression.Sign.{Sign}
use Rattle.fsl_tree.specs.declared.expression.Sign.TheVariants as signs
use Rattle.fsl_tree.specs.declared.expression.Comparison.{Comparison}
use Rattle.fsl_tree.specs.declared.expression.Comparison.TheVariants as comparisons
use Rattle.fsl_tree.specs.declared.expression.Condition.{Condition}
use Rattle.fsl_tree.specs.declared.expression.Condition.TheVariants as conditions
use Rattle.fsl_tree.specs.declared.expression.Arguments.{Arguments}
use Rattle.fsl_tree.specs.declared.expression.NextArgument.{NextArgument}
use Rattle.fsl_tree.specs.declared.expression.Use.{Use}
use Rattle.fsl_tree.specs.declared.expression.Factor.{Factor, map-Factor}
use Rattle.fsl_tree.specs.declared.expression.Addend.{Addend, map-Addend}
use Rattle.fsl_tree.specs.declared.expression.Expression.{Expression, map-Expression}
use Rattle.fsl_tree.specs.declared.expression.Multiplier.{Multiplier, map-Multiplier}
use Rattle.fsl_tree.specs.declared.expression.Term.{Term, map-Term}
use Rattle.fsl_tree.specs.declared.expression.Factor.TheOpen.{Factor-F, Addend-F, Expression-F, Multiplier-F, Term-F}
use Rattle.fsl_tree.specs.declared.expression.Factor.TheViews.{roll-Factor, roll-Addend, roll-Expression, roll-Multiplier, roll-Term}
use Rattle.fsl_tree.specs.declared.expression.Factor.TheFolds.{ind-Expression}
use Rattle.fsl_tree.specs.SpelledExpressions.{sign_token, factor, addend, expression, multiplier, term, comparison_token, condition, next_argument, arguments, optional_arguments, usage}
use Rattle.fsl_tree.proofs.Layers.{FactorLayer, factor_layer, factor_spells, AddendLayer, addend_layer, addend_spells, ExpressionLayer, expression_layer, expression_spells, MultiplierLayer, multiplier_layer, multiplier_spells, TermLayer, term_layer, term_spells}
use Rattle.fsl_tree.proofs.Again.{Again, With, token, number, and_then, made, nothing, many, each}

pub sign_again : (w : Sign) → Again (λ (x : Sign) after. sign_token x ∷ after) w
sign_again (signs.Plus place) = made (token kind.Plus place) (λ t. signs.Plus t) (λ t after. refl)
sign_again (signs.Minus place) = made (token kind.Minus place) (λ t. signs.Minus t) (λ t after. refl)

-- ---- one level, whose parts are such parts

abbrev FactorParts : Type 0
FactorParts = Factor-F (With Factor factor) (With Addend addend) (With Expression expression) (With Multiplier multiplier) (With Term term)

abbrev bare_factor : FactorParts → FactorLayer
bare_factor y = map-Factor (With Factor factor) (With Addend addend) (With Expression expression) (With Multiplier multiplier) (With Term term) Factor Addend Expression Multiplier Term (λ p. p.0) (λ p. p.0) (λ p. p.0) (λ p. p.0) (λ p. p.0) y

factor_parts : (y : FactorParts) → Again factor_layer (bare_factor y)
factor_parts (Factor-F.Number place value) = made (number value place) (λ t. Factor-F.Number t value) (λ t after. refl)
factor_parts (Factor-F.Name place) = made (token kind.Name place) (λ t. Factor-F.Name t) (λ t after. refl)
factor_parts (Factor-F.Outcome place) = made (token kind.ResultWord place) (λ t. Factor-F.Outcome t) (λ t after. refl)
factor_parts (Factor-F.Negative minus f) = made (and_then (token kind.Minus minus) f.1) (λ t. Factor-F.Negative t.0 t.1) (λ t after. refl)
factor_parts (Factor-F.Group start inside end) = made (and_then (token kind.OpenParen start) (and_then inside.1 (token kind.CloseParen end))) (λ t. Factor-F.Group t.0 t.1.0 t.1.1) (λ t after. refl)

factor_rolled : (x : FactorLayer) (y : FactorParts) → bare_factor y ≡ x → Again factor (roll-Factor x)
factor_rolled x y is = made (subst (Again factor_layer) is (factor_parts y)) roll-Factor factor_spells

abbrev AddendParts : Type 0
AddendParts = Addend-F (With Factor factor) (With Addend addend) (With Expression expression) (With Multiplier multiplier) (With Term term)

abbrev bare_addend : AddendParts → AddendLayer
bare_addend y = map-Addend (With Factor factor) (With Addend addend) (With Expression expression) (With Multiplier multiplier) (With Term term) Factor Addend Expression Multiplier Term (λ p. p.0) (λ p. p.0) (λ p. p.0) (λ p. p.0) (λ p. p.0) y

addend_parts : (y : AddendParts) → Again addend_layer (bare_addend y)
addend_parts y = made (and_then (sign_again y.sign) y.term.1) (λ t. record { sign = t.0; term = t.1 }) (λ t after. refl)

addend_rolled : (x : AddendLayer) (y : AddendParts) → bare_addend y ≡ x → Again addend (roll-Addend x)
addend_rolled x y is = made (subst (Again addend_layer) is (addend_parts y)) roll-Addend addend_spells

abbrev ExpressionParts : Type 0
ExpressionParts = Expression-F (With Factor factor) (With Addend addend) (With Expression expression) (With Multiplier multiplier) (With Term term)

abbrev bare_expression : ExpressionParts → ExpressionLayer
bare_expression y = map-Expression (With Factor factor) (With Addend addend) (With Expression expression) (With Multiplier multiplier) (With Term term) Factor Addend Expression Multiplier Term (λ p. p.0) (λ p. p.0) (λ p. p.0) (λ p. p.0) (λ p. p.0) y

expression_parts : (y : ExpressionParts) → Again expression_layer (bare_expression y)
expression_parts y = made (and_then y.first.1 (many y.more)) (λ t. record { first = t.0; more = t.1 }) (λ t after. refl)

expression_rolled : (x : ExpressionLayer) (y : ExpressionParts) → bare_expression y ≡ x → Again expression (roll-Expression x)
expression_rolled x y is = made (subst (Again expression_layer) is (expression_parts y)) roll-Expression expression_spells

abbrev MultiplierParts : Type 0
MultiplierParts = Multiplier-F (With Factor factor) (With Addend addend) (With Expression expression) (With Multiplier multiplier) (With Term term)

abbrev bare_multiplier : MultiplierParts → MultiplierLayer
bare_multiplier y = map-Multiplier (With Factor factor) (With Addend addend) (With Expression expression) (With Multiplier multiplier) (With Term term) Factor Addend Expression Multiplier Term (λ p. p.0) (λ p. p.0) (λ p. p.0) (λ p. p.0) (λ p. p.0) y

multiplier_parts : (y : MultiplierParts) → Again multiplier_layer (bare_multiplier y)
multiplier_parts y = made (and_then (token kind.Star y.star) y.factor.1) (λ t. record { star = t.0; factor = t.1 }) (λ t after. refl)

multiplier_rolled : (x : MultiplierLayer) (y : MultiplierParts) → bare_multiplier y ≡ x → Again multiplier (roll-Multiplier x)
multiplier_rolled x y is = made (subst (Again multiplier_layer) is (multiplier_parts y)) roll-Multiplier multiplier_spells

abbrev TermParts : Type 0
TermParts = Term-F (With Factor factor) (With Addend addend) (With Expression expression) (With Multiplier multiplier) (With Term term)

abbrev bare_term : TermParts → TermLayer
bare_term y = map-Term (With Factor factor) (With Addend addend) (With Expression expression) (With Multiplier multiplier) (With Term term) Factor Addend Expression Multiplier Term (λ p. p.0) (λ p. p.0) (λ p. p.0) (λ p. p.0) (λ p. p.0) y

term_parts : (y : TermParts) → Again term_layer (bare_term y)
term_parts y = made (and_then y.first.1 (many y.more)) (λ t. record { first = t.0; more = t.1 }) (λ t after. refl)

term_rolled : (x : TermLayer) (y : TermParts) → bare_term y ≡ x → Again term (roll-Term x)
term_rolled x y is = made (subst (Again term_layer) is (term_parts y)) roll-Term term_spells

pub expression_again : (e : Expression) → Again expression e
expression_again = ind-Expression (Again factor) (Again addend) (Again expression) (Again multiplier) (Again term) factor_rolled addend_rolled expression_rolled multiplier_rolled term_rolled

-- ---- comparisons, arguments and uses

pub comparison_again : (w : Comparison) → Again (λ (x : Comparison) after. comparison_token x ∷ after) w
comparison_again (comparisons.Equal place) = made (token kind.Equal place) (λ t. comparisons.Equal t) (λ t after. refl)
comparison_again (comparisons.NotEqual place) = made (token kind.NotEqual place) (λ t. comparisons.NotEqual t) (λ t after. refl)
comparison_again (comparisons.Less place) = made (token kind.Less place) (λ t. comparisons.Less t) (λ t after. refl)
comparison_again (comparisons.AtMost place) = made (token kind.AtMost place) (λ t. comparisons.AtMost t) (λ t after. refl)
comparison_again (comparisons.Greater place) = made (token kind.Greater place) (λ t. comparisons.Greater t) (λ t after. refl)
comparison_again (comparisons.AtLeast place) = made (token kind.AtLeast place) (λ t. comparisons.AtLeast t) (λ t after. refl)

pub condition_again : (c : Condition) → Again condition c
condition_again (conditions.Always place) = made (token kind.True place) (λ t. conditions.Always t) (λ t after. refl)
condition_again (conditions.Never place) = made (token kind.False place) (λ t. conditions.Never t) (λ t after. refl)
condition_again (conditions.Compared left comparison right) = made (and_then (expression_again left) (and_then (comparison_again comparison) (expression_again right))) (λ t. conditions.Compared t.0 t.1.0 t.1.1) (λ t after. refl)

next_argument_again : (a : NextArgument) → Again next_argument a
next_argument_again a = made (and_then (token kind.Comma a.comma) (expression_again a.value)) (λ t. record { comma = t.0; value = t.1 }) (λ t after. refl)

arguments_again : (a : Arguments) → Again arguments a
arguments_again a = made (and_then (expression_again a.first) (each next_argument_again a.more)) (λ t. record { first = t.0; more = t.1 }) (λ t after. refl)

pub optional_arguments_again : (a : Option Arguments) → Again optional_arguments a
optional_arguments_again None = nothing None (λ after. refl)
optional_arguments_again (Some a) = made (arguments_again a) (λ t. Some t) (λ t after. refl)

pub usage_again : (u : Use) → Again usage u
usage_again u = made (and_then (token kind.Name u.name) (and_then (token kind.OpenParen u.open) (and_then (optional_arguments_again u.arguments) (token kind.CloseParen u.close)))) (λ t. record { name = t.0; «open» = t.1.0; arguments = t.1.1.0; close = t.1.1.1 }) (λ t after. refl)
