use Rattle.std.proofs.Common.{◌≡◌, ◌∙◌, sym, arith, subst, take}
use Rattle.fsl_token.specs.Tokens.{leading_name}
use Rattle.fsl_token.proofs.Names.{name_taken}
use Rattle.fsl_token.proofs.piece.leading_name.Goals as goal

pub split_at-requires : goal.split_at-requires
split_at-requires c = let within = (name_taken c.args.text.now c.name_len.result c.utf8.text c.name_len.ensures).0 in omega (arith, c.as_bytes.ensures.len)

pub returns : goal.returns
returns c = c.split_at.ensures.front ∙ subst (λ t. take c.name_len.result t ≡ leading_name c.args.text.now) (sym c.as_bytes.ensures.value) (name_taken c.args.text.now c.name_len.result c.utf8.text c.name_len.ensures).1
