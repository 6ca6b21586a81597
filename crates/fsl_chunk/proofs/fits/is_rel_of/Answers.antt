use Rattle.fsl_chunk.specs.Fits.{leave_of}
use Rattle.fsl_chunk.proofs.FitsLemmas.{rel_of_reads}
use Rattle.fsl_chunk.proofs.fits.is_rel_of.Goals as goal

pub returns-in-Rel : goal.returns-in-Rel
returns-in-Rel c = rel_of_reads (leave_of c.args.leave.now) _ _ _ c.args.pure.now.facts c.args.chunk.now c.same_leave.result c.in-Rel.is c.same_leave.ensures
