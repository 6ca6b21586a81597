use Rattle.fsl_chunk.proofs.FitsLemmas.{init_reads}
use Rattle.fsl_chunk.proofs.fits.is_init.Goals as goal

pub returns-in-Init : goal.returns-in-Init
returns-in-Init c = init_reads c.args.rung c.args.at.now _ _ c.args.pure.now.facts c.args.chunk.now c.stands_at.result c.in-Init.is c.stands_at.ensures
