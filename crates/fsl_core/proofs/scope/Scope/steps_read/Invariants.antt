use Rattle.std.proofs.Common.{◌≡◌, drop}
use Rattle.fsl_core.specs.Scopes.{steps_read}
use Rattle.fsl_core.proofs.scope.Scope.steps_read.Given as goal

abbrev pub invariant-loop-step : goal.invariant-loop-step
invariant-loop-step l = steps_read l.self (drop l.step-index l.steps) ≡ steps_read l.self l.steps
