use Rattle.std.proofs.Common.{◌≤◌, length}
use Rattle.fsl_token.specs.declared.kind.TokenKind.TheVariants as kind
use Rattle.fsl_grammar.specs.Heads.{is_next}
use Rattle.fsl_grammar.specs.ReadAssertions.{read_part}
use Rattle.fsl_grammar.proofs.Turns.{Going}
use Rattle.fsl_parse.proofs.parser.Parser.more_parts.Given as goal

abbrev pub invariant-parts : goal.invariant-parts
invariant-parts l = record {
  shorter : length l.self.rest.now ≤ length l.fn.self.rest.now;
  going : Going (is_next kind.OpenBrace) (read_part l.room) l.fn.self.rest.now l.more l.self.rest.now;
}

abbrev pub decreases-parts : goal.decreases-parts
decreases-parts l = length l.self.rest.now
