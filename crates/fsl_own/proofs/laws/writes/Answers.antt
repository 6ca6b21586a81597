use Rattle.fsl_own.proofs.Telling.{release_write_tells, atomic_write_tells, update_tells}
use Rattle.fsl_own.proofs.laws.writes.Goals as goal

pub returns : goal.returns
returns c = record { release = release_write_tells; atomic = atomic_write_tells; update = update_tells }
