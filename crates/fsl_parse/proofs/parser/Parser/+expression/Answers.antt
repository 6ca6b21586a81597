use Rattle.std.proofs.Common.{◌≡◌, ◌∙◌, sym, refl}
use Rattle.fsl_token.specs.declared.kind.TokenKind.TheVariants as kind
use Rattle.fsl_grammar.specs.Heads.{is_next}
use Rattle.fsl_grammar.specs.ReadExpressions.{is_sign_next, read_addend, read_multiplier, read_factor}
use Rattle.fsl_grammar.proofs.Turns.{going_stop, going_failed}
use Rattle.fsl_parse.proofs.parser.Parser.+expression.Goals as goal

pub addends-returns-in_err-addend-clause-agrees : goal.addends-returns-in_err-addend-clause-agrees
addends-returns-in_err-addend-clause-agrees n c =
    going_failed is_sign_next (read_addend (read_factor c.args.room)) _ _ _ _ _ _ c.from_residual.ensures.1 c.addends.invariant.going
    (sym c.is_sign_next.ensures ∙ c.addends-test.true) refl c.in_err-addend.ensures.agrees

pub addends-returns-clause-agrees : goal.addends-returns-clause-agrees
addends-returns-clause-agrees n c =
    sym (going_stop is_sign_next (read_addend (read_factor c.args.room)) _ _ _ c.addends.invariant.going (sym c.is_sign_next.ensures ∙ c.addends-test.false))

pub multipliers-returns-in_err-multiplier-clause-agrees : goal.multipliers-returns-in_err-multiplier-clause-agrees
multipliers-returns-in_err-multiplier-clause-agrees n c =
    going_failed (is_next kind.Star) (read_multiplier (read_factor c.args.room)) _ _ _ _ _ _ c.from_residual.ensures.1 c.multipliers.invariant.going
    (sym c.is_next.ensures ∙ c.multipliers-test.true) refl c.in_err-multiplier.ensures.agrees

pub multipliers-returns-clause-agrees : goal.multipliers-returns-clause-agrees
multipliers-returns-clause-agrees n c =
    sym (going_stop (is_next kind.Star) (read_multiplier (read_factor c.args.room)) _ _ _ c.multipliers.invariant.going (sym c.is_next.ensures ∙ c.multipliers-test.false))
