-- The same of expressions and uses.
use Rattle.std.proofs.Common.{ℕ, zero, suc, ◌-◌, ◌||◌, List, [], refl, Option, Some, None}
use Rattle.fsl_tree.specs.SpelledExpressions.{sign_token, factor, addend, expression, multiplier, term, comparison_token, condition, next_argument, arguments, optional_arguments, usage}
use Rattle.fsl_tree.specs.declared.expression.Sign.{Sign}
use Rattle.fsl_tree.specs.declared.expression.Expression.{Expression}
use Rattle.fsl_tree.specs.declared.expression.Addend.{Addend}
use Rattle.fsl_tree.specs.declared.expression.Term.{Term}
use Rattle.fsl_tree.specs.declared.expression.Multiplier.{Multiplier}
use Rattle.fsl_tree.specs.declared.expression.Factor.{Factor}
use Rattle.fsl_tree.specs.declared.expression.Factor.TheOpen.{Factor-F}
use Rattle.fsl_tree.specs.declared.expression.Factor.TheViews.{roll-Factor, roll-Multiplier, roll-Term, roll-Addend, roll-Expression}
use Rattle.fsl_tree.specs.declared.expression.Comparison.{Comparison}
use Rattle.fsl_tree.specs.declared.expression.Condition.{Condition}
use Rattle.fsl_tree.specs.declared.expression.Arguments.{Arguments}
use Rattle.fsl_tree.specs.declared.expression.Use.{Use}
use Rattle.fsl_grammar.specs.Heads.{is_next, is_number_next}
use Rattle.fsl_grammar.specs.Readers.{Wrong, Reader}
use Rattle.fsl_grammar.specs.ReadExpressions.{read_sign, read_multiplier, read_term, is_sign_next, read_addend, read_expression_of, read_negative, read_group, read_factor_of, read_factor, read_expression, read_comparison, read_compared, read_condition, read_next_argument, read_arguments, read_optional_arguments, read_usage}
use Rattle.fsl_token.specs.declared.kind.TokenKind.TheVariants as kind
use Rattle.fsl_tree.specs.declared.expression.Sign.TheVariants as signs
use Rattle.fsl_tree.specs.declared.expression.Comparison.TheVariants as comparisons
use Rattle.fsl_tree.specs.declared.expression.Condition.TheVariants as conditions
use Rattle.fsl_grammar.proofs.Layers.{factor_spells, addend_spells, expression_spells, multiplier_spells, term_spells}
use Rattle.fsl_grammar.proofs.Layers.{AddendLayer, ExpressionLayer, MultiplierLayer, TermLayer}
use Rattle.fsl_base.specs.declared.span.Span.{Span}
use Rattle.fsl_grammar.proofs.Shortest.{some_factor, some_term, some_expression}
use Rattle.fsl_grammar.proofs.Sound.{one}
use Rattle.fsl_grammar.proofs.Begun.{complete_by, done_by, AllGo, complete, done, fails, and_then, when, nowhere, take_goes, number_goes, open_goes, many_of_goes}

pub sign_goes : AllGo (one sign_token) read_sign
unfolding read_sign
sign_goes ts =
    when (is_next kind.Plus ts) (and_then (take_goes kind.Plus ts) (λ place. complete (signs.Plus place) _ (λ after. refl)) (λ place l1.
    done (signs.Plus place) (λ after. refl)))
    (and_then (take_goes kind.Minus ts) (λ place. complete (signs.Minus place) _ (λ after. refl)) (λ place l1.
    done (signs.Minus place) (λ after. refl)))

abbrev multiplier_made : Span → Factor → MultiplierLayer
multiplier_made star f =
    record { star = star; factor = f }

pub multiplier_goes : (reader : Reader Factor) → AllGo factor reader → AllGo multiplier (read_multiplier reader)
unfolding read_multiplier
multiplier_goes reader each ts =
    and_then (take_goes kind.Star ts) (λ star. complete_by roll-Multiplier multiplier_spells (multiplier_made star some_factor) _ (λ after. refl))
    (λ star l1.
    and_then (each l1) (λ f. complete_by roll-Multiplier multiplier_spells (multiplier_made star f) _ (λ after. refl)) (λ f l2.
    done_by roll-Multiplier multiplier_spells (multiplier_made star f) (λ after. refl)))

abbrev term_made : Factor → List Multiplier → TermLayer
term_made first more =
    record { first = first; more = more }

pub term_goes : (reader : Reader Factor) → AllGo factor reader → AllGo term (read_term reader)
unfolding read_term
term_goes reader each ts =
    and_then (each ts) (λ first. complete_by roll-Term term_spells (term_made first []) _ (λ after. refl)) (λ first l1.
    and_then (many_of_goes (is_next kind.Star) (multiplier_goes reader each) l1)
    (λ more. complete_by roll-Term term_spells (term_made first more) _ (λ after. refl)) (λ more l2.
    done_by roll-Term term_spells (term_made first more) (λ after. refl)))

abbrev addend_made : Sign → Term → AddendLayer
addend_made sign term =
    record { sign = sign; term = term }

pub addend_goes : (reader : Reader Factor) → AllGo factor reader → AllGo addend (read_addend reader)
unfolding read_addend
addend_goes reader each ts =
    and_then (sign_goes ts) (λ sign. complete_by roll-Addend addend_spells (addend_made sign some_term) _ (λ after. refl)) (λ sign l1.
    and_then (term_goes reader each l1) (λ term. complete_by roll-Addend addend_spells (addend_made sign term) _ (λ after. refl)) (λ term l2.
    done_by roll-Addend addend_spells (addend_made sign term) (λ after. refl)))

abbrev expression_of_made : Term → List Addend → ExpressionLayer
expression_of_made first more =
    record { first = first; more = more }

pub expression_of_goes : (reader : Reader Factor) → AllGo factor reader → AllGo expression (read_expression_of reader)
unfolding read_expression_of
expression_of_goes reader each ts =
    and_then (term_goes reader each ts) (λ first. complete_by roll-Expression expression_spells (expression_of_made first []) _ (λ after. refl))
    (λ first l1.
    and_then (many_of_goes is_sign_next (addend_goes reader each) l1)
    (λ more. complete_by roll-Expression expression_spells (expression_of_made first more) _ (λ after. refl)) (λ more l2.
    done_by roll-Expression expression_spells (expression_of_made first more) (λ after. refl)))

pub negative_goes : (room : ℕ) (inner : Reader Factor) → AllGo factor inner → AllGo factor (read_negative room inner)
unfolding read_negative
negative_goes room inner each ts =
    and_then (open_goes kind.Minus room ts) (λ minus. complete_by roll-Factor factor_spells (Factor-F.Negative minus some_factor) _
    (λ after. refl)) (λ minus l1.
    and_then (each l1) (λ factor. complete_by roll-Factor factor_spells (Factor-F.Negative minus factor) _ (λ after. refl)) (λ factor l2.
    done_by roll-Factor factor_spells (Factor-F.Negative minus factor) (λ after. refl)))

pub group_goes : (room : ℕ) (inner : Reader Factor) → AllGo factor inner → AllGo factor (read_group room inner)
unfolding read_group
group_goes room inner each ts =
    and_then (open_goes kind.OpenParen room ts) (λ start. complete_by roll-Factor factor_spells (Factor-F.Group start some_expression nowhere) _
    (λ after. refl)) (λ start l1.
    and_then (expression_of_goes inner each l1) (λ inside. complete_by roll-Factor factor_spells (Factor-F.Group start inside nowhere) _
    (λ after. refl)) (λ inside l2.
    and_then (take_goes kind.CloseParen l2) (λ end. complete_by roll-Factor factor_spells (Factor-F.Group start inside end) _ (λ after. refl))
    (λ end l3.
    done_by roll-Factor factor_spells (Factor-F.Group start inside end) (λ after. refl))))

pub factor_of_goes : (room : ℕ) (inner : Reader Factor) → AllGo factor inner → AllGo factor (read_factor_of room inner)
factor_of_goes room inner each ts =
    when (is_number_next ts) (and_then (number_goes ts) (λ n. complete_by roll-Factor factor_spells (Factor-F.Number n.place n.value) _
    (λ after. refl)) (λ n l1.
    done_by roll-Factor factor_spells (Factor-F.Number n.place n.value) (λ after. refl)))
    (when (is_next kind.Name ts) (and_then (take_goes kind.Name ts) (λ place. complete_by roll-Factor factor_spells (Factor-F.Name place) _
    (λ after. refl)) (λ place l1.
    done_by roll-Factor factor_spells (Factor-F.Name place) (λ after. refl)))
    (when (is_next kind.ResultWord ts) (and_then (take_goes kind.ResultWord ts)
    (λ place. complete_by roll-Factor factor_spells (Factor-F.Outcome place) _ (λ after. refl)) (λ place l1.
    done_by roll-Factor factor_spells (Factor-F.Outcome place) (λ after. refl)))
    (when (is_next kind.Minus ts) (negative_goes room inner each ts)
    (group_goes room inner each ts))))

pub factor_goes : (room : ℕ) → AllGo factor (read_factor room)
factor_goes zero = factor_of_goes 0 (λ tokens. Wrong tokens) (fails some_factor)
factor_goes (suc room) = factor_of_goes (suc room) (read_factor room) (factor_goes room)

pub expression_goes : (room : ℕ) → AllGo expression (read_expression room)
expression_goes room = expression_of_goes (read_factor room) (factor_goes room)

pub comparison_goes : AllGo (one comparison_token) read_comparison
unfolding read_comparison
comparison_goes ts =
    when (is_next kind.Equal ts) (and_then (take_goes kind.Equal ts) (λ place. complete (comparisons.Equal place) _ (λ after. refl)) (λ place l1.
    done (comparisons.Equal place) (λ after. refl)))
    (when (is_next kind.NotEqual ts) (and_then (take_goes kind.NotEqual ts) (λ place. complete (comparisons.NotEqual place) _ (λ after. refl))
    (λ place l1.
    done (comparisons.NotEqual place) (λ after. refl)))
    (when (is_next kind.Less ts) (and_then (take_goes kind.Less ts) (λ place. complete (comparisons.Less place) _ (λ after. refl)) (λ place l1.
    done (comparisons.Less place) (λ after. refl)))
    (when (is_next kind.AtMost ts) (and_then (take_goes kind.AtMost ts) (λ place. complete (comparisons.AtMost place) _ (λ after. refl)) (λ place l1.
    done (comparisons.AtMost place) (λ after. refl)))
    (when (is_next kind.Greater ts) (and_then (take_goes kind.Greater ts) (λ place. complete (comparisons.Greater place) _ (λ after. refl))
    (λ place l1.
    done (comparisons.Greater place) (λ after. refl)))
    (and_then (take_goes kind.AtLeast ts) (λ place. complete (comparisons.AtLeast place) _ (λ after. refl)) (λ place l1.
    done (comparisons.AtLeast place) (λ after. refl)))))))

abbrev compared_made : Expression → Comparison → Expression → Condition
compared_made left_side comparison right =
    conditions.Compared left_side comparison right

pub compared_goes : (room : ℕ) → AllGo condition (read_compared room)
unfolding read_compared
compared_goes room ts =
    and_then (expression_goes room ts) (λ left_side. complete (compared_made left_side (comparisons.Equal nowhere) some_expression) _
    (λ after. refl)) (λ left_side l1.
    and_then (comparison_goes l1) (λ comparison. complete (compared_made left_side comparison some_expression) _ (λ after. refl))
    (λ comparison l2.
    and_then (expression_goes room l2) (λ right. complete (compared_made left_side comparison right) _ (λ after. refl)) (λ right l3.
    done (compared_made left_side comparison right) (λ after. refl))))

pub condition_goes : (room : ℕ) → AllGo condition (read_condition room)
unfolding read_condition
condition_goes room ts =
    when (is_next kind.True ts) (and_then (take_goes kind.True ts) (λ place. complete (conditions.Always place) _ (λ after. refl)) (λ place l1.
    done (conditions.Always place) (λ after. refl)))
    (when (is_next kind.False ts) (and_then (take_goes kind.False ts) (λ place. complete (conditions.Never place) _ (λ after. refl)) (λ place l1.
    done (conditions.Never place) (λ after. refl)))
    (compared_goes room ts))

pub next_argument_goes : (room : ℕ) → AllGo next_argument (read_next_argument room)
unfolding read_next_argument
next_argument_goes room ts =
    and_then (take_goes kind.Comma ts) (λ comma. complete (record { comma = comma; value = some_expression }) _ (λ after. refl)) (λ comma l1.
    and_then (expression_goes room l1) (λ value. complete (record { comma = comma; value = value }) _ (λ after. refl)) (λ value l2.
    done (record { comma = comma; value = value }) (λ after. refl)))

pub arguments_goes : (room : ℕ) → AllGo arguments (read_arguments room)
unfolding read_arguments
arguments_goes room ts =
    and_then (expression_goes room ts) (λ first. complete (record { first = first; more = [] }) _ (λ after. refl)) (λ first l1.
    and_then (many_of_goes (is_next kind.Comma) (next_argument_goes room) l1) (λ more. complete (record { first = first; more = more }) _
    (λ after. refl)) (λ more l2.
    done (record { first = first; more = more }) (λ after. refl)))

pub optional_arguments_goes : (room : ℕ) → AllGo optional_arguments (read_optional_arguments room)
unfolding read_optional_arguments
optional_arguments_goes room ts =
    when (is_next kind.CloseParen ts || is_next kind.CloseBrace ts) (done None (λ after. refl))
    (and_then (arguments_goes room ts) (λ a. complete (Some a) _ (λ after. refl)) (λ a l1.
    done (Some a) (λ after. refl)))

abbrev usage_made : Span → Span → Option Arguments → Span → Use
usage_made name start given end =
    record { name = name; «open» = start; arguments = given; close = end }

pub usage_goes : (room : ℕ) → AllGo usage (read_usage room)
unfolding read_usage
usage_goes room ts =
    and_then (take_goes kind.Name ts) (λ name. complete (usage_made name nowhere None nowhere) _ (λ after. refl)) (λ name l1.
    and_then (open_goes kind.OpenParen room l1) (λ start. complete (usage_made name start None nowhere) _ (λ after. refl)) (λ start l2.
    and_then (optional_arguments_goes (room - 1) l2) (λ given. complete (usage_made name start given nowhere) _ (λ after. refl)) (λ given l3.
    and_then (take_goes kind.CloseParen l3) (λ end. complete (usage_made name start given end) _ (λ after. refl)) (λ end l4.
    done (usage_made name start given end) (λ after. refl)))))
