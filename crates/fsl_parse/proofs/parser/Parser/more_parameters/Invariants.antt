use Rattle.std.proofs.Common.{◌≤◌, length}
use Rattle.fsl_token.specs.declared.kind.TokenKind.TheVariants as kind
use Rattle.fsl_grammar.specs.Heads.{is_next}
use Rattle.fsl_grammar.specs.ReadDeclarations.{read_next_parameter}
use Rattle.fsl_grammar.proofs.Turns.{Going}
use Rattle.fsl_parse.proofs.parser.Parser.more_parameters.Given as goal

abbrev pub invariant-parameters : goal.invariant-parameters
invariant-parameters l = record {
  shorter : length l.self.rest.now ≤ length l.fn.self.rest.now;
  going : Going (is_next kind.Comma) read_next_parameter l.fn.self.rest.now l.more l.self.rest.now;
}

abbrev pub decreases-parameters : goal.decreases-parameters
decreases-parameters l = length l.self.rest.now
