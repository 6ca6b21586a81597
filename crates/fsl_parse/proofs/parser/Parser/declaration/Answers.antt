use Rattle.std.proofs.Common.{◌≡◌, ◌∙◌, sym}
use Rattle.fsl_grammar.specs.ReadDeclarations.{read_declaration, read_contracted_procedure}
use Rattle.fsl_grammar.proofs.Rooms.{agrees_by, is_procedure}
use Rattle.fsl_parse.proofs.parser.Parser.declaration.Goals as goal

pub returns-else-is_next-2-clause-agrees : goal.returns-else-is_next-2-clause-agrees
returns-else-is_next-2-clause-agrees c =
    agrees_by c.procedure.result c.procedure.new.self.rest.now (read_declaration c.args.room) (read_contracted_procedure c.args.room) c.args.self.now.rest.now
    (is_procedure c.args.room c.args.self.now.rest.now (sym c.is_next.ensures ∙ c.if-is_next.false) (sym c.is_next-else-is_next.ensures ∙ c.if-is_next-2.false))
    c.procedure.ensures.agrees
