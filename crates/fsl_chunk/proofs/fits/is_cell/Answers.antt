use Rattle.fsl_chunk.proofs.FitsLemmas.{cell_reads}
use Rattle.fsl_chunk.proofs.fits.is_cell.Goals as goal

pub returns-in-Points : goal.returns-in-Points
returns-in-Points c = cell_reads c.args.rung c.args.at.now _ _ _ _ c.args.pure.now.facts c.args.chunk.now c.stands_at.result c.in-Points.is c.stands_at.ensures
