use Rattle.fsl_own.proofs.Atoms.{still_holds}
use Rattle.fsl_own.proofs.laws.atoms.Goals as goal

pub returns : goal.returns
returns c = still_holds
