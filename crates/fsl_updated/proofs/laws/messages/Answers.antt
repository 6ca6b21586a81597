use Rattle.fsl_updated.proofs.Forgetting.{lands_forget}
use Rattle.fsl_updated.proofs.laws.messages.Goals as goal

pub returns : goal.returns
returns c = λ g slots h v s fit. lands_forget fit
