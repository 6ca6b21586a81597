-- How the groups that several productions share are read.
use Rattle.std.specs.Prelude.{ℕ, ◌-◌, Option, Some, None}
use Rattle.fsl_token.specs.declared.kind.TokenKind.{TokenKind}
use Rattle.fsl_token.specs.declared.kind.TokenKind.TheVariants as kind
use Rattle.fsl_grammar.specs.declared.groups.Enclosed.{Enclosed}
use Rattle.fsl_grammar.specs.declared.groups.Test.{Test}
use Rattle.fsl_grammar.specs.declared.groups.Held.{Held}
use Rattle.fsl_grammar.specs.declared.groups.ExcludedSet.{ExcludedSet}
use Rattle.fsl_grammar.specs.declared.groups.Pair.{Pair}
use Rattle.fsl_grammar.specs.declared.groups.Triple.{Triple}
use Rattle.fsl_grammar.specs.Readers.{Outcome, Found, Reader, bind, take, open_at}
use Rattle.fsl_grammar.specs.ReadExpressions.{read_expression, read_condition, read_next_argument, read_optional_arguments, read_usage}

unfoldable pub read_enclosed : TokenKind → ℕ → Reader Enclosed
read_enclosed word room tokens =
    bind (take word tokens) (λ place left. bind (open_at kind.OpenParen room left) (λ start left.
    bind (read_expression (room - 1) left) (λ inside left. bind (take kind.CloseParen left) (λ end left.
    Found (record { word = place; «open» = start; expression = inside; close = end }) left))))

unfoldable pub read_test : TokenKind → ℕ → Reader Test
read_test word room tokens =
    bind (take word tokens) (λ place left. bind (open_at kind.OpenParen room left) (λ start left.
    bind (read_condition (room - 1) left) (λ inside left. bind (take kind.CloseParen left) (λ end left.
    Found (record { word = place; «open» = start; condition = inside; close = end }) left))))

unfoldable pub read_held : ℕ → Reader Held
read_held room tokens =
    bind (read_expression room tokens) (λ location left. bind (take kind.Comma left) (λ comma left.
    bind (read_usage room left) (λ invariant left. Found (record { location = location; comma = comma; invariant = invariant }) left)))

unfoldable pub read_excluded_set : ℕ → Reader ExcludedSet
read_excluded_set room tokens =
    bind (open_at kind.OpenBrace room tokens) (λ start left. bind (read_optional_arguments (room - 1) left) (λ excluded left.
    bind (take kind.CloseBrace left) (λ end left. Found (record { «open» = start; excluded = excluded; close = end }) left)))

unfoldable pub read_pair : ℕ → Reader Pair
read_pair room tokens =
    bind (open_at kind.OpenParen room tokens) (λ start left. bind (read_expression (room - 1) left) (λ location left.
    bind (read_next_argument (room - 1) left) (λ value left. bind (take kind.CloseParen left) (λ end left.
    Found (record { «open» = start; location = location; value = value; close = end }) left))))

unfoldable pub read_triple : ℕ → Reader Triple
read_triple room tokens =
    bind (open_at kind.OpenParen room tokens) (λ start left. bind (read_expression (room - 1) left) (λ location left.
    bind (read_next_argument (room - 1) left) (λ expected left. bind (read_next_argument (room - 1) left) (λ new left.
    bind (take kind.CloseParen left) (λ end left.
    Found (record { «open» = start; location = location; expected = expected; new = new; close = end }) left)))))
