-- The tokens of expressions, comparisons and uses. Each definition puts the tokens of a part of the
-- tree, in their order, in front of those that follow it.
use Rattle.std.specs.Prelude.{ℕ, List, [], ◌∷◌, Option, Some, None, map}
use Rattle.fsl_base.specs.declared.span.Span.{Span}
use Rattle.fsl_token.specs.declared.kind.Token.{Token}
use Rattle.fsl_token.specs.declared.kind.TokenKind.{TokenKind}
use Rattle.fsl_token.specs.declared.kind.TokenKind.TheVariants as kind
use Rattle.fsl_tree.specs.declared.expression.Sign.{Sign}
use Rattle.fsl_tree.specs.declared.expression.Sign.TheVariants as signs
use Rattle.fsl_tree.specs.declared.expression.Comparison.{Comparison}
use Rattle.fsl_tree.specs.declared.expression.Comparison.TheVariants as comparisons
use Rattle.fsl_tree.specs.declared.expression.Condition.{Condition}
use Rattle.fsl_tree.specs.declared.expression.Condition.TheVariants as conditions
use Rattle.fsl_tree.specs.declared.expression.Arguments.{Arguments}
use Rattle.fsl_tree.specs.declared.expression.NextArgument.{NextArgument}
use Rattle.fsl_tree.specs.declared.expression.Use.{Use}
use Rattle.fsl_tree.specs.declared.expression.Factor.{Factor}
use Rattle.fsl_tree.specs.declared.expression.Expression.{Expression}
use Rattle.fsl_tree.specs.declared.expression.Addend.{Addend}
use Rattle.fsl_tree.specs.declared.expression.Term.{Term}
use Rattle.fsl_tree.specs.declared.expression.Multiplier.{Multiplier}
use Rattle.fsl_tree.specs.declared.expression.Factor.TheOpen.{Factor-F, Addend-F, Expression-F, Multiplier-F, Term-F}
use Rattle.fsl_tree.specs.declared.expression.Factor.TheFolds.{fold-Factor, fold-Addend, fold-Expression, fold-Multiplier, fold-Term}

abbrev pub Tokens : Type 0
Tokens = List Token

-- what the tokens that follow a part of the tree are together with the part's own
abbrev pub Spelled : Type 0
Spelled = Tokens → Tokens

-- a reserved word, a symbol or a name at a place
abbrev pub fixed : TokenKind → Span → Token
fixed which place = record { kind = which; span = place; number = 0 }

abbrev pub numeral : Span → ℕ → Token
numeral place value = record { kind = kind.Number; span = place; number = value }

-- one part after the other
abbrev pub all : List Spelled → Spelled
all [] after = after
all (part ∷ parts) after = part (all parts after)

abbrev pub sign_token : Sign → Token
sign_token (signs.Plus place) = fixed kind.Plus place
sign_token (signs.Minus place) = fixed kind.Minus place

-- ---- one level of an expression, with the tokens of each part in its place

abbrev pub factor_step : Factor-F Spelled Spelled Spelled Spelled Spelled → Spelled
factor_step (Factor-F.Number place value) after = numeral place value ∷ after
factor_step (Factor-F.Name place) after = fixed kind.Name place ∷ after
factor_step (Factor-F.Outcome place) after = fixed kind.ResultWord place ∷ after
factor_step (Factor-F.Negative minus factor) after = fixed kind.Minus minus ∷ factor after
factor_step (Factor-F.Group start inside end) after = fixed kind.OpenParen start ∷ inside (fixed kind.CloseParen end ∷ after)

abbrev pub addend_step : Addend-F Spelled Spelled Spelled Spelled Spelled → Spelled
addend_step a after = sign_token a.sign ∷ a.term after

abbrev pub expression_step : Expression-F Spelled Spelled Spelled Spelled Spelled → Spelled
expression_step e after = e.first (all e.more after)

abbrev pub multiplier_step : Multiplier-F Spelled Spelled Spelled Spelled Spelled → Spelled
multiplier_step m after = fixed kind.Star m.star ∷ m.factor after

abbrev pub term_step : Term-F Spelled Spelled Spelled Spelled Spelled → Spelled
term_step t after = t.first (all t.more after)

-- ---- expressions

unfoldable pub factor : Factor → Spelled
factor = fold-Factor Spelled Spelled Spelled Spelled Spelled factor_step addend_step expression_step multiplier_step term_step

unfoldable pub addend : Addend → Spelled
addend = fold-Addend Spelled Spelled Spelled Spelled Spelled factor_step addend_step expression_step multiplier_step term_step

unfoldable pub expression : Expression → Spelled
expression = fold-Expression Spelled Spelled Spelled Spelled Spelled factor_step addend_step expression_step multiplier_step term_step

unfoldable pub multiplier : Multiplier → Spelled
multiplier = fold-Multiplier Spelled Spelled Spelled Spelled Spelled factor_step addend_step expression_step multiplier_step term_step

unfoldable pub term : Term → Spelled
term = fold-Term Spelled Spelled Spelled Spelled Spelled factor_step addend_step expression_step multiplier_step term_step

-- ---- comparisons, arguments and uses

abbrev pub comparison_token : Comparison → Token
comparison_token (comparisons.Equal place) = fixed kind.Equal place
comparison_token (comparisons.NotEqual place) = fixed kind.NotEqual place
comparison_token (comparisons.Less place) = fixed kind.Less place
comparison_token (comparisons.AtMost place) = fixed kind.AtMost place
comparison_token (comparisons.Greater place) = fixed kind.Greater place
comparison_token (comparisons.AtLeast place) = fixed kind.AtLeast place

abbrev pub condition : Condition → Spelled
condition (conditions.Always place) after = fixed kind.True place ∷ after
condition (conditions.Never place) after = fixed kind.False place ∷ after
condition (conditions.Compared left comparison right) after = expression left (comparison_token comparison ∷ expression right after)

abbrev pub next_argument : NextArgument → Spelled
next_argument a after = fixed kind.Comma a.comma ∷ expression a.value after

abbrev pub arguments : Arguments → Spelled
arguments a after = expression a.first (all (map next_argument a.more) after)

abbrev pub optional_arguments : Option Arguments → Spelled
optional_arguments None after = after
optional_arguments (Some a) after = arguments a after

abbrev pub usage : Use → Spelled
usage u after =
    fixed kind.Name u.name ∷ fixed kind.OpenParen u.open ∷ optional_arguments u.arguments (fixed kind.CloseParen u.close ∷ after)

-- ---- groups that several productions share

-- `"(" expression ")"`
abbrev pub grouped : Span → Expression → Span → Spelled
grouped start inside end after = fixed kind.OpenParen start ∷ expression inside (fixed kind.CloseParen end ∷ after)

-- `"(" condition ")"`
abbrev pub tested : Span → Condition → Span → Spelled
tested start holds end after = fixed kind.OpenParen start ∷ condition holds (fixed kind.CloseParen end ∷ after)

-- `"(" expression "," expression ")"`
abbrev pub pair : Span → Expression → Span → Expression → Span → Spelled
pair start first comma second end after =
    fixed kind.OpenParen start ∷ expression first (fixed kind.Comma comma ∷ expression second (fixed kind.CloseParen end ∷ after))

-- `"(" expression "," use ")"`
abbrev pub held : Span → Expression → Span → Use → Span → Spelled
held start location comma invariant end after =
    fixed kind.OpenParen start ∷ expression location (fixed kind.Comma comma ∷ usage invariant (fixed kind.CloseParen end ∷ after))

-- `"{" [ arguments ] "}"`
abbrev pub excluded_set : Span → Option Arguments → Span → Spelled
excluded_set start excluded end after = fixed kind.OpenBrace start ∷ optional_arguments excluded (fixed kind.CloseBrace end ∷ after)
