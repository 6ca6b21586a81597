use Rattle.fsl_judged.proofs.JudgedUpdates.{updates_are_judged}
use Rattle.fsl_judged.proofs.laws.updates_are_judged.Goals as goal

pub returns : goal.returns
returns c = updates_are_judged
