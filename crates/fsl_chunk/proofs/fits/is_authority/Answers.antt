use Rattle.fsl_chunk.proofs.FitsLemmas.{authority_reads}
use Rattle.fsl_chunk.proofs.fits.is_authority.Goals as goal

pub returns-in-Auth : goal.returns-in-Auth
returns-in-Auth c = authority_reads c.args.bank.now _ _ c.args.pure.now.facts c.args.chunk.now c.equal.result c.in-Auth.is c.equal.ensures
