use Rattle.fsl_walk.proofs.Slots.{sees_same}
use Rattle.fsl_walk.proofs.laws.variables.Goals as goal

pub returns : goal.returns
returns c = sees_same
