use Rattle.std.proofs.Common.{◌≡◌, ◌∙◌, sym, refl}
use Rattle.fsl_grammar.specs.ReadStatements.{is_step_next, read_step_line}
use Rattle.fsl_grammar.proofs.Turns.{going_stop, going_failed}
use Rattle.fsl_parse.proofs.parser.Parser.step_lines.Goals as goal

pub returns-in_err-step_line-clause-agrees : goal.returns-in_err-step_line-clause-agrees
returns-in_err-step_line-clause-agrees c =
    going_failed is_step_next (read_step_line c.args.room) _ _ _ _ _ _ c.from_residual.ensures.1 c.steps.invariant.going
    (sym c.is_step_next.ensures ∙ c.steps-test.true) refl c.in_err-step_line.ensures.agrees

pub returns-clause-agrees : goal.returns-clause-agrees
returns-clause-agrees c =
    sym (going_stop is_step_next (read_step_line c.args.room) _ _ _ c.steps.invariant.going (sym c.is_step_next.ensures ∙ c.steps-test.false))
