use Rattle.std.proofs.Common.{length}
use Rattle.fsl_grammar.specs.ReadDeclarations.{read_declaration}
use Rattle.fsl_grammar.specs.Heads.{is_more}
use Rattle.fsl_grammar.proofs.Turns.{Going}
use Rattle.fsl_parse.proofs.parser.Parser.declarations.Given as goal

abbrev pub invariant-declarations : goal.invariant-declarations
invariant-declarations l = record {
  going : Going is_more (read_declaration l.room) l.fn.self.rest.now l.more l.self.rest.now;
}

abbrev pub decreases-declarations : goal.decreases-declarations
decreases-declarations l = length l.self.rest.now
