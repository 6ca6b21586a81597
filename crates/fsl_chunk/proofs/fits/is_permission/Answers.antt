use Rattle.fsl_chunk.specs.Fits.{permission}
use Rattle.fsl_chunk.proofs.FitsLemmas.{permission_reads}
use Rattle.fsl_chunk.proofs.fits.is_permission.Goals as goal

pub returns-in-Acq : goal.returns-in-Acq
returns-in-Acq c =
    permission_reads (permission c.args.leave.now c.args.part c.args.out.now) _ _ _ _ _ c.args.pure.now.facts c.args.chunk.now c.grants.result c.in-Acq.is c.grants.ensures
