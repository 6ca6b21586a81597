use Rattle.fsl_held.proofs.Kept.{asked_is_kept}
use Rattle.fsl_held.proofs.Satisfied.{need_is_parted, front_satisfies}
use Rattle.fsl_held.proofs.laws.assertions.Goals as goal

pub returns : goal.returns
returns c = record { kept = asked_is_kept; parted = need_is_parted; front = front_satisfies }
