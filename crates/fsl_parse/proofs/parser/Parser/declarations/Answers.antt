use Rattle.std.proofs.Common.{◌≡◌, ◌∙◌, sym, refl}
use Rattle.fsl_grammar.specs.Heads.{is_more}
use Rattle.fsl_grammar.specs.ReadDeclarations.{read_declaration}
use Rattle.fsl_grammar.proofs.Turns.{going_stop, going_failed}
use Rattle.fsl_parse.proofs.parser.Parser.declarations.Goals as goal

pub returns-in_err-declaration : goal.returns-in_err-declaration
returns-in_err-declaration c = record {
  agrees = going_failed is_more (read_declaration c.args.room) _ _ _ _ _ _ c.from_residual.ensures.1 c.declarations.invariant.going
      (sym c.is_more.ensures ∙ c.declarations-test.true) refl c.in_err-declaration.ensures.agrees;
}

pub returns : goal.returns
returns c = record {
  agrees = sym (going_stop is_more (read_declaration c.args.room) _ _ _ c.declarations.invariant.going (sym c.is_more.ensures ∙ c.declarations-test.false));
}
