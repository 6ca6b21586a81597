use Rattle.std.proofs.Common.{◌≡◌, ◌∙◌, sym, refl, ◌-◌}
use Rattle.fsl_grammar.specs.ReadStatements.{goes_on, read_statement, read_if, read_guarded_while, read_simple_statement}
use Rattle.fsl_grammar.proofs.Rooms.{agrees_by, is_if, is_while, is_simple}
use Rattle.fsl_grammar.proofs.Turns.{going_stop, going_failed}
use Rattle.fsl_parse.proofs.parser.Parser.+statement.Goals as goal

pub statements-returns-in_err-statement-clause-agrees : goal.statements-returns-in_err-statement-clause-agrees
statements-returns-in_err-statement-clause-agrees n c =
    going_failed goes_on (read_statement c.args.room) _ _ _ _ _ _ c.from_residual.ensures.1 c.statements.invariant.going
    (sym c.goes_on.ensures ∙ c.statements-test.true) refl c.in_err-statement.ensures.agrees

pub statements-returns-clause-agrees : goal.statements-returns-clause-agrees
statements-returns-clause-agrees n c =
    sym (going_stop goes_on (read_statement c.args.room) _ _ _ c.statements.invariant.going (sym c.goes_on.ensures ∙ c.statements-test.false))

pub statement-returns-then-is_next-clause-agrees : goal.statement-returns-then-is_next-clause-agrees
statement-returns-then-is_next-clause-agrees n c =
    agrees_by c.if_statement.result c.if_statement.new.self.rest.now (read_statement c.args.room) (read_if c.args.room (read_statement (c.args.room - 1))) c.args.self.now.rest.now
    (is_if c.args.room c.args.self.now.rest.now (sym c.is_next.ensures ∙ c.if-is_next.true)) c.if_statement.ensures.agrees

pub statement-returns-then-is_next-2-clause-agrees : goal.statement-returns-then-is_next-2-clause-agrees
statement-returns-then-is_next-2-clause-agrees n c =
    agrees_by c.while_statement.result c.while_statement.new.self.rest.now (read_statement c.args.room) (read_guarded_while c.args.room (read_statement (c.args.room - 1))) c.args.self.now.rest.now
    (is_while c.args.room c.args.self.now.rest.now (sym c.is_next.ensures ∙ c.if-is_next.false) (sym c.is_next-else-is_next.ensures ∙ c.if-is_next-2.true)) c.while_statement.ensures.agrees

pub statement-returns-else-is_next-2-clause-agrees : goal.statement-returns-else-is_next-2-clause-agrees
statement-returns-else-is_next-2-clause-agrees n c =
    agrees_by c.simple_statement.result c.simple_statement.new.self.rest.now (read_statement c.args.room) (read_simple_statement c.args.room) c.args.self.now.rest.now
    (is_simple c.args.room c.args.self.now.rest.now (sym c.is_next.ensures ∙ c.if-is_next.false) (sym c.is_next-else-is_next.ensures ∙ c.if-is_next-2.false)) c.simple_statement.ensures.agrees
