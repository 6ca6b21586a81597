use Rattle.std.proofs.Common.{inl, inr, ⊎_elim, ◌∙◌, ap}
use Rattle.fsl_token.specs.Tokens.{tokens_from}
use Rattle.fsl_token.proofs.Law.{answer_reads}
use Rattle.fsl_token.proofs.Lexing.{lexed_text, lexed_not_text}
use Rattle.fsl_token.proofs.cutting.lex.Goals as goal

-- the bytes are a text
pub returns-in-Ok-clause-exact : goal.returns-in-Ok-clause-exact
returns-in-Ok-clause-exact c =
    let text = c.in-Ok.ensures.cases in
    ⊎_elim (λ e. inl e) (λ e. inr (e ∙ ap (λ t. tokens_from 0 0 t) text.0 ∙ lexed_text c.args.bytes.now text.1)) c.tokens.ensures

pub returns-in-Ok-clause-read : goal.returns-in-Ok-clause-read
returns-in-Ok-clause-read c =
    let text = c.in-Ok.ensures.cases in
    answer_reads c.args.bytes.now c.tokens.result text.1 (⊎_elim (λ e. inl e) (λ e. inr (e ∙ ap (λ t. tokens_from 0 0 t) text.0)) c.tokens.ensures)

-- they are none
pub returns-in-Err-clause-exact : goal.returns-in-Err-clause-exact
returns-in-Err-clause-exact c = inr (lexed_not_text c.args.bytes.now c.valid_up_to.result c.in-Err.ensures.cases.0 (c.valid_up_to.ensures ∙ c.in-Err.ensures.valid_len))
