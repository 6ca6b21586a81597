use Rattle.std.proofs.Common.{◌≤◌, length}
use Rattle.fsl_token.specs.declared.kind.TokenKind.TheVariants as kind
use Rattle.fsl_grammar.specs.Heads.{is_next}
use Rattle.fsl_grammar.specs.ReadStatements.{read_parallel_call}
use Rattle.fsl_grammar.proofs.Turns.{Going}
use Rattle.fsl_parse.proofs.parser.Parser.parallel_calls.Given as goal

abbrev pub invariant-calls : goal.invariant-calls
invariant-calls l = record {
  shorter : length l.self.rest.now ≤ length l.fn.self.rest.now;
  going : Going (is_next kind.Name) (read_parallel_call l.room) l.fn.self.rest.now l.more l.self.rest.now;
}

abbrev pub decreases-calls : goal.decreases-calls
decreases-calls l = length l.self.rest.now
