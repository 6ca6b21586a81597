use Rattle.fsl_kept.proofs.Locals.{set_fits, assert_fits}
use Rattle.fsl_kept.proofs.laws.variables.Goals as goal

pub returns : goal.returns
returns c = record { set = λ g slots h v s slot e fit. set_fits slot e fit; asserted = λ g slots h v s cond fit. assert_fits cond fit }
