use Rattle.std.proofs.Common.{◌≡◌, ◌++◌}
use Rattle.fsl_core.specs.logic.States.{followed}
use Rattle.fsl_flow.specs.Calls.{start_one, running_of, starts}
use Rattle.fsl_flow.proofs.par.start_on_each.Given as goal

abbrev pub invariant-loop-branch : goal.invariant-loop-branch
invariant-loop-branch l = record {
  can : (goal.iterator-loop-branch).can_next l.branch-iterator;
  finite : (goal.iterator-loop-branch).is_finite l.branch-iterator;
  so_far : starts l.out ++ followed (starts l.branch-iterator.rest.items) (start_one (running_of l.x))
      ≡ followed (starts l.fn.branches) (start_one (running_of l.x));
}
