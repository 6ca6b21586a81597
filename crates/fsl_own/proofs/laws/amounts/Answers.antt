use Rattle.fsl_own.proofs.Owning.{at_most, two_at_most, alone}
use Rattle.fsl_own.proofs.laws.amounts.Goals as goal

pub returns : goal.returns
returns c = record { most = at_most; two = two_at_most; alone = alone }
