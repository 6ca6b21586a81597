use Rattle.fsl_chunk.proofs.FitsLemmas.{rmw_reads}
use Rattle.fsl_chunk.proofs.fits.is_rmw.Goals as goal

pub returns-in-RmwAcq : goal.returns-in-RmwAcq
returns-in-RmwAcq c = rmw_reads c.args.at.now _ _ _ c.args.pure.now.facts c.args.chunk.now c.equal.result c.in-RmwAcq.is c.equal.ensures
