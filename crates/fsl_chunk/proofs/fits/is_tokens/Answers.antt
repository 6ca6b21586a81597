use Rattle.fsl_chunk.proofs.FitsLemmas.{tokens_read}
use Rattle.fsl_chunk.proofs.fits.is_tokens.Goals as goal

pub returns-in-Tok : goal.returns-in-Tok
returns-in-Tok c = tokens_read c.args.bank.now _ _ c.args.pure.now.facts c.args.chunk.now c.equal.result c.in-Tok.is c.equal.ensures
