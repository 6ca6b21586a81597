use Rattle.std.proofs.Common.{◌≡◌, ◌++◌}
use Rattle.fsl_core.specs.logic.States.{followed}
use Rattle.fsl_core.specs.logic.Calls.{join_each}
use Rattle.fsl_asrt.specs.Branch.{branches}
use Rattle.fsl_flow.specs.Calls.{starts}
use Rattle.fsl_flow.proofs.par.join_all.Given as goal

abbrev pub invariant-loop-branch : goal.invariant-loop-branch
invariant-loop-branch l = record {
  can : (goal.iterator-loop-branch).can_next l.branch-iterator;
  finite : (goal.iterator-loop-branch).is_finite l.branch-iterator;
  so_far : branches l.out ++ followed (starts l.branch-iterator.rest.items) join_each ≡ followed (starts l.fn.started) join_each;
}
