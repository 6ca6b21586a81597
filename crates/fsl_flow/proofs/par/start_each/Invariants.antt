use Rattle.std.proofs.Common.{◌≡◌, drop, map}
use Rattle.fsl_core.specs.logic.States.{followed}
use Rattle.fsl_core.specs.logic.Calls.{start_each}
use Rattle.fsl_flow.specs.Calls.{running_of, starts}
use Rattle.fsl_flow.proofs.ParLemmas.{start_behind}
use Rattle.fsl_flow.proofs.par.start_each.Given as goal

abbrev pub invariant-loop-x : goal.invariant-loop-x
invariant-loop-x l =
    followed (starts l.branches) (start_behind (map running_of (drop l.x-index l.running))) ≡ start_each (map running_of l.running) l.fn.state
