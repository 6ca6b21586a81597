use Rattle.std.proofs.Common.{◌≡◌, ◌∙◌, sym, refl}
use Rattle.fsl_token.specs.declared.kind.TokenKind.TheVariants as kind
use Rattle.fsl_grammar.specs.Heads.{is_next}
use Rattle.fsl_grammar.specs.ReadStatements.{read_parallel_call}
use Rattle.fsl_grammar.proofs.Turns.{going_stop, going_failed}
use Rattle.fsl_parse.proofs.parser.Parser.parallel_calls.Goals as goal

pub returns-in_err-parallel_call-clause-agrees : goal.returns-in_err-parallel_call-clause-agrees
returns-in_err-parallel_call-clause-agrees c =
    going_failed (is_next kind.Name) (read_parallel_call c.args.room) _ _ _ _ _ _ c.from_residual.ensures.1 c.calls.invariant.going
    (sym c.is_next.ensures ∙ c.calls-test.true) refl c.in_err-parallel_call.ensures.agrees

pub returns-clause-agrees : goal.returns-clause-agrees
returns-clause-agrees c =
    sym (going_stop (is_next kind.Name) (read_parallel_call c.args.room) _ _ _ c.calls.invariant.going (sym c.is_next.ensures ∙ c.calls-test.false))
