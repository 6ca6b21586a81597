use Rattle.std.proofs.Common.{◌≡◌, ◌∙◌, sym, refl}
use Rattle.fsl_token.specs.declared.kind.TokenKind.TheVariants as kind
use Rattle.fsl_grammar.specs.Heads.{is_next}
use Rattle.fsl_grammar.specs.ReadExpressions.{read_next_argument}
use Rattle.fsl_grammar.proofs.Turns.{going_stop, going_failed}
use Rattle.fsl_parse.proofs.parser.Parser.more_arguments.Goals as goal

pub returns-in_err-next_argument-clause-agrees : goal.returns-in_err-next_argument-clause-agrees
returns-in_err-next_argument-clause-agrees c =
    going_failed (is_next kind.Comma) (read_next_argument c.args.room) _ _ _ _ _ _ c.from_residual.ensures.1 c.arguments.invariant.going
    (sym c.is_next.ensures ∙ c.arguments-test.true) refl c.in_err-next_argument.ensures.agrees

pub returns-clause-agrees : goal.returns-clause-agrees
returns-clause-agrees c =
    sym (going_stop (is_next kind.Comma) (read_next_argument c.args.room) _ _ _ c.arguments.invariant.going (sym c.is_next.ensures ∙ c.arguments-test.false))
