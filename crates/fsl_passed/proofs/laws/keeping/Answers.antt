use Rattle.fsl_passed.proofs.Keeping.{keep_fits}
use Rattle.fsl_passed.proofs.laws.keeping.Goals as goal

pub returns : goal.returns
returns c = λ g slots acquiring past message thread more v s held knows fit owns is_held holds bounds. keep_fits acquiring past message more held knows fit owns is_held holds bounds
