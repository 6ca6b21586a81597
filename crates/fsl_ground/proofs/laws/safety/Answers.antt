use Rattle.fsl_ground.proofs.Ground.{safe_next}
use Rattle.fsl_ground.proofs.Safety.{quiet_is_safe}
use Rattle.fsl_ground.proofs.laws.safety.Goals as goal

pub returns : goal.returns
returns c = record { next = safe_next; quiet = quiet_is_safe }
