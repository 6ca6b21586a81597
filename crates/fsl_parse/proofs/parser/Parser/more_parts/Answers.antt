use Rattle.std.proofs.Common.{◌≡◌, ◌∙◌, sym, refl}
use Rattle.fsl_token.specs.declared.kind.TokenKind.TheVariants as kind
use Rattle.fsl_grammar.specs.Heads.{is_next}
use Rattle.fsl_grammar.specs.ReadAssertions.{read_part}
use Rattle.fsl_grammar.proofs.Turns.{going_stop, going_failed}
use Rattle.fsl_parse.proofs.parser.Parser.more_parts.Goals as goal

pub returns-in_err-part-clause-agrees : goal.returns-in_err-part-clause-agrees
returns-in_err-part-clause-agrees c =
    going_failed (is_next kind.OpenBrace) (read_part c.args.room) _ _ _ _ _ _ c.from_residual.ensures.1 c.parts.invariant.going
    (sym c.is_next.ensures ∙ c.parts-test.true) refl c.in_err-part.ensures.agrees

pub returns-clause-agrees : goal.returns-clause-agrees
returns-clause-agrees c =
    sym (going_stop (is_next kind.OpenBrace) (read_part c.args.room) _ _ _ c.parts.invariant.going (sym c.is_next.ensures ∙ c.parts-test.false))
