use Rattle.std.proofs.Common.{◌≡◌, ◌++◌, take, drop, map}
use Rattle.fsl_core.specs.Scopes.{kept}
use Rattle.fsl_core.proofs.well_scoped.in_body.Given as goal

abbrev pub invariant-loop-slot : goal.invariant-loop-slot
invariant-loop-slot l = l.sights ≡ map kept (take l.slot l.initial.sights) ++ drop l.slot l.initial.sights
