use Rattle.fsl_judged.proofs.JudgedFences.{fences_are_judged}
use Rattle.fsl_judged.proofs.laws.fences_are_judged.Goals as goal

pub returns : goal.returns
returns c = fences_are_judged
