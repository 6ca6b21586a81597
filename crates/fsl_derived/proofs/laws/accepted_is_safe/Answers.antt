use Rattle.fsl_derived.proofs.Safety.{accepted_are_safe}
use Rattle.fsl_derived.proofs.laws.accepted_is_safe.Goals as goal

pub returns : goal.returns
returns c = accepted_are_safe
