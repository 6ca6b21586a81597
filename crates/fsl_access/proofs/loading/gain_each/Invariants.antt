use Rattle.std.proofs.Common.{◌≡◌, drop}
use Rattle.fsl_core.specs.logic.States.{followed}
use Rattle.fsl_core.specs.logic.Assertions.{asrt_of}
use Rattle.fsl_core.specs.logic.Locations.{setting_of}
use Rattle.fsl_core.specs.logic.Accesses.{gain_each}
use Rattle.fsl_asrt.specs.Branch.{branches}
use Rattle.fsl_access.proofs.loading.gain_each.Given as goal

abbrev pub invariant-loop-place : goal.invariant-loop-place
invariant-loop-place l =
    followed (branches l.before) (λ _. gain_each (setting_of asrt_of l.p) l.rung l.at l.v (drop l.place-index l.places))
    ≡ gain_each (setting_of asrt_of l.p) l.rung l.at l.v l.places l.fn.state
