use Rattle.fsl_own.proofs.Telling.{acquiring_read_tells, atomic_read_tells}
use Rattle.fsl_own.proofs.laws.reads.Goals as goal

pub returns : goal.returns
returns c = record { acquiring = acquiring_read_tells; atomic = atomic_read_tells }
