use Rattle.fsl_chunk.proofs.FitsLemmas.{enough_reads}
use Rattle.fsl_chunk.proofs.fits.has_enough.Goals as goal

pub returns-in-Points : goal.returns-in-Points
returns-in-Points c = enough_reads c.args.rung c.args.at.now c.args.share.now _ _ _ _ c.args.pure.now.facts c.args.chunk.now c.holds.result c.in-Points.is c.holds.ensures
