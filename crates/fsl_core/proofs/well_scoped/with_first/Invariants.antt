use Rattle.std.proofs.Common.{◌≡◌}
use Rattle.fsl_core.specs.Scopes.{with_first}
use Rattle.fsl_core.proofs.well_scoped.with_first.Given as goal

abbrev pub invariant-loop-slot : goal.invariant-loop-slot
invariant-loop-slot l = l.scope ≡ with_first l.slot l.sight l.initial.scope
