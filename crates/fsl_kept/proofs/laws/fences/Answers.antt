use Rattle.fsl_kept.proofs.Fences.{fence_fits}
use Rattle.fsl_kept.proofs.laws.fences.Goals as goal

pub returns : goal.returns
returns c = λ g slots h v s m invs a down plain up bounds fit. fence_fits m invs a down plain up bounds fit
