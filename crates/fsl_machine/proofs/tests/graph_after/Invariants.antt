use Rattle.std.proofs.Common.{◌<◌, length}
use Rattle.fsl_machine.proofs.tests.graph_after.Given as goal

abbrev pub invariant-loop-move : goal.invariant-loop-move
invariant-loop-move l = 0 < length l.machine.graph.threads
