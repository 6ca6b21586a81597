-- How expressions are read.
use Rattle.std.specs.Prelude.{ℕ, zero, suc, ◌-◌, Bool, if◌then◌else◌, ◌||◌, Option, Some, None, length}
use Rattle.fsl_token.specs.declared.kind.TokenKind.{TokenKind}
use Rattle.fsl_token.specs.declared.kind.TokenKind.TheVariants as kind
use Rattle.fsl_tree.specs.SpelledExpressions.{Tokens}
use Rattle.fsl_tree.specs.declared.expression.Sign.{Sign}
use Rattle.fsl_tree.specs.declared.expression.Sign.TheVariants as signs
use Rattle.fsl_tree.specs.declared.expression.Expression.{Expression}
use Rattle.fsl_tree.specs.declared.expression.Addend.{Addend}
use Rattle.fsl_tree.specs.declared.expression.Term.{Term}
use Rattle.fsl_tree.specs.declared.expression.Multiplier.{Multiplier}
use Rattle.fsl_tree.specs.declared.expression.Factor.{Factor}
use Rattle.fsl_tree.specs.declared.expression.Factor.TheOpen.{Factor-F}
use Rattle.fsl_tree.specs.declared.expression.Factor.TheViews.{roll-Factor, roll-Multiplier, roll-Term, roll-Addend, roll-Expression}
use Rattle.fsl_tree.specs.declared.expression.Comparison.{Comparison}
use Rattle.fsl_tree.specs.declared.expression.Comparison.TheVariants as comparisons
use Rattle.fsl_tree.specs.declared.expression.Condition.{Condition}
use Rattle.fsl_tree.specs.declared.expression.Condition.TheVariants as conditions
use Rattle.fsl_tree.specs.declared.expression.Arguments.{Arguments}
use Rattle.fsl_tree.specs.declared.expression.NextArgument.{NextArgument}
use Rattle.fsl_tree.specs.declared.expression.Use.{Use}
use Rattle.fsl_grammar.specs.Heads.{is_next, is_number_next}
use Rattle.fsl_grammar.specs.Readers.{Outcome, Found, Wrong, Reader, bind, take, open_at, number, many_of}

unfoldable pub read_sign : Reader Sign
read_sign tokens =
    if is_next kind.Plus tokens then bind (take kind.Plus tokens) (λ place left. Found (signs.Plus place) left)
    else bind (take kind.Minus tokens) (λ place left. Found (signs.Minus place) left)

-- ---- what holds factors, given how they are read

unfoldable pub read_multiplier : Reader Factor → Reader Multiplier
read_multiplier factor tokens =
    bind (take kind.Star tokens) (λ star left. bind (factor left) (λ f left. Found (roll-Multiplier (record { star = star; factor = f })) left))

unfoldable pub read_term : Reader Factor → Reader Term
read_term factor tokens =
    bind (factor tokens) (λ first left. bind (many_of (is_next kind.Star) (read_multiplier factor) left)
    (λ more left. Found (roll-Term (record { first = first; more = more })) left))

abbrev pub is_sign_next : Tokens → Bool
is_sign_next tokens = is_next kind.Plus tokens || is_next kind.Minus tokens

unfoldable pub read_addend : Reader Factor → Reader Addend
read_addend factor tokens =
    bind (read_sign tokens) (λ sign left. bind (read_term factor left) (λ term left. Found (roll-Addend (record { sign = sign; term = term })) left))

unfoldable pub read_expression_of : Reader Factor → Reader Expression
read_expression_of factor tokens =
    bind (read_term factor tokens) (λ first left. bind (many_of is_sign_next (read_addend factor) left)
    (λ more left. Found (roll-Expression (record { first = first; more = more })) left))

-- ---- factors, given how those with one level less room are read

unfoldable pub read_negative : ℕ → Reader Factor → Reader Factor
read_negative room inner tokens =
    bind (open_at kind.Minus room tokens) (λ minus left. bind (inner left) (λ factor left. Found (roll-Factor (Factor-F.Negative minus factor)) left))

unfoldable pub read_group : ℕ → Reader Factor → Reader Factor
read_group room inner tokens =
    bind (open_at kind.OpenParen room tokens) (λ start left. bind (read_expression_of inner left) (λ inside left.
    bind (take kind.CloseParen left) (λ end left. Found (roll-Factor (Factor-F.Group start inside end)) left)))

abbrev pub read_factor_of : ℕ → Reader Factor → Reader Factor
read_factor_of room inner tokens =
    if is_number_next tokens then bind (number tokens) (λ n left. Found (roll-Factor (Factor-F.Number n.place n.value)) left)
    else (if is_next kind.Name tokens then bind (take kind.Name tokens) (λ place left. Found (roll-Factor (Factor-F.Name place)) left)
    else (if is_next kind.ResultWord tokens then bind (take kind.ResultWord tokens) (λ place left. Found (roll-Factor (Factor-F.Outcome place)) left)
    else (if is_next kind.Minus tokens then read_negative room inner tokens
    else read_group room inner tokens)))

-- with room for so many levels
abbrev pub read_factor : ℕ → Reader Factor
read_factor zero = read_factor_of 0 (λ tokens. Wrong tokens)
read_factor (suc room) = read_factor_of (suc room) (read_factor room)

abbrev pub read_expression : ℕ → Reader Expression
read_expression room = read_expression_of (read_factor room)

-- ---- comparisons, conditions, arguments and uses

unfoldable pub read_comparison : Reader Comparison
read_comparison tokens =
    if is_next kind.Equal tokens then bind (take kind.Equal tokens) (λ place left. Found (comparisons.Equal place) left)
    else (if is_next kind.NotEqual tokens then bind (take kind.NotEqual tokens) (λ place left. Found (comparisons.NotEqual place) left)
    else (if is_next kind.Less tokens then bind (take kind.Less tokens) (λ place left. Found (comparisons.Less place) left)
    else (if is_next kind.AtMost tokens then bind (take kind.AtMost tokens) (λ place left. Found (comparisons.AtMost place) left)
    else (if is_next kind.Greater tokens then bind (take kind.Greater tokens) (λ place left. Found (comparisons.Greater place) left)
    else bind (take kind.AtLeast tokens) (λ place left. Found (comparisons.AtLeast place) left)))))

unfoldable pub read_compared : ℕ → Reader Condition
read_compared room tokens =
    bind (read_expression room tokens) (λ left_side left. bind (read_comparison left) (λ comparison left.
    bind (read_expression room left) (λ right left. Found (conditions.Compared left_side comparison right) left)))

unfoldable pub read_condition : ℕ → Reader Condition
read_condition room tokens =
    if is_next kind.True tokens then bind (take kind.True tokens) (λ place left. Found (conditions.Always place) left)
    else (if is_next kind.False tokens then bind (take kind.False tokens) (λ place left. Found (conditions.Never place) left)
    else read_compared room tokens)

unfoldable pub read_next_argument : ℕ → Reader NextArgument
read_next_argument room tokens =
    bind (take kind.Comma tokens) (λ comma left. bind (read_expression room left) (λ value left. Found (record { comma = comma; value = value }) left))

unfoldable pub read_arguments : ℕ → Reader Arguments
read_arguments room tokens =
    bind (read_expression room tokens) (λ first left. bind (many_of (is_next kind.Comma) (read_next_argument room) left)
    (λ more left. Found (record { first = first; more = more }) left))

unfoldable pub read_optional_arguments : ℕ → Reader (Option Arguments)
read_optional_arguments room tokens =
    if is_next kind.CloseParen tokens || is_next kind.CloseBrace tokens then Found None tokens
    else bind (read_arguments room tokens) (λ a left. Found (Some a) left)

unfoldable pub read_usage : ℕ → Reader Use
read_usage room tokens =
    bind (take kind.Name tokens) (λ name left. bind (open_at kind.OpenParen room left) (λ start left.
    bind (read_optional_arguments (room - 1) left) (λ given left. bind (take kind.CloseParen left) (λ end left.
    Found (record { name = name; «open» = start; arguments = given; close = end }) left))))
