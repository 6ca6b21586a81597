-- The tokens of groups that several productions share.
use Rattle.std.specs.Prelude.{ℕ, ◌+◌, List, [], ◌∷◌, Option, Some, None, max}
use Rattle.fsl_token.specs.declared.kind.TokenKind.{TokenKind}
use Rattle.fsl_token.specs.declared.kind.TokenKind.TheVariants as kind
use Rattle.fsl_tree.specs.SpelledExpressions.{Spelled, fixed, expression, condition, next_argument, optional_arguments, usage}
use Rattle.fsl_tree.specs.Spelling.{optional_parameters}
use Rattle.fsl_tree.specs.Nesting.{in_expression, in_condition, in_next_argument, in_arguments, in_use, in_assertion, in_optional_clause}
use Rattle.fsl_grammar.specs.declared.groups.Enclosed.{Enclosed}
use Rattle.fsl_grammar.specs.declared.groups.Test.{Test}
use Rattle.fsl_grammar.specs.declared.groups.Held.{Held}
use Rattle.fsl_grammar.specs.declared.groups.ExcludedSet.{ExcludedSet}
use Rattle.fsl_grammar.specs.declared.groups.Permission.{Permission}
use Rattle.fsl_grammar.specs.declared.groups.Pair.{Pair}
use Rattle.fsl_grammar.specs.declared.groups.Triple.{Triple}
use Rattle.fsl_grammar.specs.declared.groups.Header.{Header}
use Rattle.fsl_grammar.specs.declared.groups.Arm.{Arm}
use Rattle.fsl_grammar.specs.ReadDeclarations.{Contract}
use Rattle.fsl_tree.specs.SpelledAssertions.{assertion}
use Rattle.fsl_tree.specs.SpelledStatements.{optional_clause}

abbrev pub enclosed : TokenKind → Enclosed → Spelled
enclosed word e after = fixed word e.word ∷ fixed kind.OpenParen e.open ∷ expression e.expression (fixed kind.CloseParen e.close ∷ after)

abbrev pub in_enclosed : Enclosed → ℕ
in_enclosed e = 1 + in_expression e.expression

abbrev pub test : TokenKind → Test → Spelled
test word t after = fixed word t.word ∷ fixed kind.OpenParen t.open ∷ condition t.condition (fixed kind.CloseParen t.close ∷ after)

abbrev pub in_test : Test → ℕ
in_test t = 1 + in_condition t.condition

abbrev pub held : Held → Spelled
held h after = expression h.location (fixed kind.Comma h.comma ∷ usage h.invariant after)

abbrev pub in_held : Held → ℕ
in_held h = max (in_expression h.location) (in_use h.invariant)

abbrev pub excluded_set : ExcludedSet → Spelled
excluded_set s after = fixed kind.OpenBrace s.open ∷ optional_arguments s.excluded (fixed kind.CloseBrace s.close ∷ after)

abbrev pub in_excluded_set : ExcludedSet → ℕ
in_excluded_set s = 1 + in_arguments s.excluded

abbrev pub permission : TokenKind → Permission → Spelled
permission word p after = fixed word p.word ∷ fixed kind.OpenParen p.open ∷ held p.held (fixed kind.CloseParen p.close ∷ after)

abbrev pub in_permission : Permission → ℕ
in_permission p = 1 + in_held p.held

abbrev pub pair : Pair → Spelled
pair p after = fixed kind.OpenParen p.open ∷ expression p.location (next_argument p.value (fixed kind.CloseParen p.close ∷ after))

abbrev pub in_pair : Pair → ℕ
in_pair p = 1 + max (in_expression p.location) (in_next_argument p.value)

abbrev pub triple : Triple → Spelled
triple t after =
    fixed kind.OpenParen t.open ∷ expression t.location (next_argument t.expected (next_argument t.new (fixed kind.CloseParen t.close ∷ after)))

abbrev pub in_triple : Triple → ℕ
in_triple t = 1 + max (in_expression t.location) (max (in_next_argument t.expected) (in_next_argument t.new))

abbrev pub header : TokenKind → Header → Spelled
header word h after =
    fixed word h.word ∷ fixed kind.Name h.name ∷ fixed kind.OpenParen h.open ∷ optional_parameters h.parameters (fixed kind.CloseParen h.close ∷ after)

abbrev pub arm : Arm → Spelled
arm a after = fixed kind.OpenBrace a.open ∷ assertion a.assertion (fixed kind.CloseBrace a.close ∷ after)

abbrev pub in_arm : Arm → ℕ
in_arm a = 1 + in_assertion a.assertion

abbrev pub contract : Contract → Spelled
contract c after = optional_clause kind.Requires c.requires_clause (optional_clause kind.Ensures c.ensures_clause after)

abbrev pub in_contract : Contract → ℕ
in_contract c = max (in_optional_clause c.requires_clause) (in_optional_clause c.ensures_clause)
