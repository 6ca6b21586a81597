use Rattle.std.proofs.Common.{◌≡◌, ◌<◌, ◌-◌, length}
use Rattle.fsl_graph.specs.Ending.{moves_of}
use Rattle.fsl_run.proofs.running.finish.Given as goal

abbrev pub invariant-loop-end : goal.invariant-loop-end
invariant-loop-end g l = record {
  program : l.machine.program ≡ l.initial.machine.program;
  bound : l.machine.bound ≡ l.initial.machine.bound;
  some : 0 < length l.machine.graph.threads;
}

abbrev pub decreases-loop-end : goal.decreases-loop-end
decreases-loop-end g l = l.machine.bound - moves_of l.machine.graph.threads
