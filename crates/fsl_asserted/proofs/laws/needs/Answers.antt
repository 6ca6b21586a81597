use Rattle.fsl_asserted.proofs.Carried.{asks_carried}
use Rattle.fsl_asserted.proofs.Stays.{asks_stay}
use Rattle.fsl_asserted.proofs.laws.needs.Goals as goal

pub returns : goal.returns
returns c = record { stay = asks_stay; carried = asks_carried }
