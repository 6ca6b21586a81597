use Rattle.std.proofs.Common.{◌≡◌, ◌∙◌, sym, refl}
use Rattle.fsl_token.specs.declared.kind.TokenKind.TheVariants as kind
use Rattle.fsl_grammar.specs.Heads.{is_next}
use Rattle.fsl_grammar.specs.ReadDeclarations.{read_next_parameter}
use Rattle.fsl_grammar.proofs.Turns.{going_stop, going_failed}
use Rattle.fsl_parse.proofs.parser.Parser.more_parameters.Goals as goal

pub returns-in_err-next_parameter-clause-agrees : goal.returns-in_err-next_parameter-clause-agrees
returns-in_err-next_parameter-clause-agrees c =
    going_failed (is_next kind.Comma) read_next_parameter _ _ _ _ _ _ c.from_residual.ensures.1 c.parameters.invariant.going (sym c.is_next.ensures ∙ c.parameters-test.true) refl
    c.in_err-next_parameter.ensures.agrees

pub returns-clause-agrees : goal.returns-clause-agrees
returns-clause-agrees c =
    sym (going_stop (is_next kind.Comma) read_next_parameter _ _ _ c.parameters.invariant.going (sym c.is_next.ensures ∙ c.parameters-test.false))
