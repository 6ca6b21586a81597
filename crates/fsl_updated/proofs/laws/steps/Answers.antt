use Rattle.fsl_updated.proofs.Stepping.{steps_fit}
use Rattle.fsl_updated.proofs.laws.steps.Goals as goal

pub returns : goal.returns
returns c = λ g slots h v s steps bounds fit. steps_fit steps bounds fit
