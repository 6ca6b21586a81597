use Rattle.fsl_chunk.specs.Fits.{leave_of}
use Rattle.fsl_chunk.proofs.FitsLemmas.{rmw_of_reads}
use Rattle.fsl_chunk.proofs.fits.is_rmw_of.Goals as goal

pub returns-in-RmwAcq : goal.returns-in-RmwAcq
returns-in-RmwAcq c = rmw_of_reads (leave_of c.args.leave.now) _ _ _ c.args.pure.now.facts c.args.chunk.now c.same_leave.result c.in-RmwAcq.is c.same_leave.ensures
