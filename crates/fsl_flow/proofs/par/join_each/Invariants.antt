use Rattle.std.proofs.Common.{◌≡◌, drop, map}
use Rattle.fsl_core.specs.logic.States.{followed}
use Rattle.fsl_core.specs.logic.Calls.{join_each}
use Rattle.fsl_asrt.specs.Branch.{branches}
use Rattle.fsl_flow.specs.Calls.{running_of}
use Rattle.fsl_flow.proofs.par.join_each.Given as goal

abbrev pub invariant-loop-x : goal.invariant-loop-x
invariant-loop-x l =
    followed (branches l.branches) (λ _. join_each (map running_of (drop l.x-index l.running))) ≡ join_each (map running_of l.running) l.fn.state
