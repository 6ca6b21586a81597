use Rattle.std.proofs.Common.{◌≡◌, ◌++◌, map}
use Rattle.fsl_core.specs.logic.States.{followed}
use Rattle.fsl_asrt.specs.Branch.{bounds}
use Rattle.fsl_flow.specs.Calls.{started_with, running_of, starts}
use Rattle.fsl_flow.proofs.par.started_with.Given as goal

abbrev pub invariant-loop-branch : goal.invariant-loop-branch
invariant-loop-branch l = record {
  can : (goal.iterator-loop-branch).can_next l.branch-iterator;
  finite : (goal.iterator-loop-branch).is_finite l.branch-iterator;
  so_far : starts l.out ++ followed (bounds l.branch-iterator.rest.items) (started_with (running_of l.x) (map running_of l.before))
      ≡ followed (bounds l.fn.given) (started_with (running_of l.x) (map running_of l.before));
}
