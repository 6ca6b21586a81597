use Rattle.fsl_held.proofs.Fronts.{front_is_kept}
use Rattle.fsl_held.proofs.laws.fronts.Goals as goal

pub returns : goal.returns
returns c = front_is_kept
