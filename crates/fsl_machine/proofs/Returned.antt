-- How the thread has ended.
use Rattle.std.proofs.Common.{◌≡◌, refl}
use Rattle.fsl_core.specs.Moves.{Config, running, joining, returned, halted, failed}
use Rattle.fsl_machine.specs.declared.steps.Readiness.TheVariants as readiness
use Rattle.fsl_graph.specs.Ending.{IsReturned}
use Rattle.fsl_machine.specs.Steps.{readiness_of}

pub is_returned : (c : Config) → readiness_of c ≡ readiness.Done → IsReturned c
is_returned (running f fs) h = cc
is_returned (joining first count f fs) h = cc
is_returned (returned v) h = (v, refl)
is_returned halted h = cc
is_returned failed h = cc
