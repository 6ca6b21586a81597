use Rattle.fsl_own.proofs.Telling.{release_fence_tells, acquire_fence_tells}
use Rattle.fsl_own.proofs.laws.fences.Goals as goal

pub returns : goal.returns
returns c = record { release = release_fence_tells; acquire = acquire_fence_tells }
