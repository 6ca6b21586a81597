use Rattle.std.proofs.Common.{ℕ, List, ◌∙◌, ap, nat_eq}
use Rattle.std.specs.List.{starts_with}
use Rattle.std.proofs.lemmas.Str.Pattern.{starts_text}
use Rattle.fsl_token.specs.Words.{fits}
use Rattle.fsl_token.proofs.kind.TokenKind.begins.Goals as goal

-- the text of the kind is the one that was looked for
pub returns-in-Some : goal.returns-in-Some
returns-in-Some c =
    let found = starts_text _ c.in-Some.fixed.now c.args.text.now c.starts_with.ensures.cases in
    let text = c.in-Some.ensures in
    found ∙ ap (λ o. fits o (λ (fixed : List ℕ). starts_with nat_eq c.args.text.now fixed)) text
