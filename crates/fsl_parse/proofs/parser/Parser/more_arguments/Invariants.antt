use Rattle.std.proofs.Common.{◌≤◌, length}
use Rattle.fsl_token.specs.declared.kind.TokenKind.TheVariants as kind
use Rattle.fsl_grammar.specs.Heads.{is_next}
use Rattle.fsl_grammar.specs.ReadExpressions.{read_next_argument}
use Rattle.fsl_grammar.proofs.Turns.{Going}
use Rattle.fsl_parse.proofs.parser.Parser.more_arguments.Given as goal

abbrev pub invariant-arguments : goal.invariant-arguments
invariant-arguments l = record {
  shorter : length l.self.rest.now ≤ length l.fn.self.rest.now;
  going : Going (is_next kind.Comma) (read_next_argument l.room) l.fn.self.rest.now l.more l.self.rest.now;
}

abbrev pub decreases-arguments : goal.decreases-arguments
decreases-arguments l = length l.self.rest.now
