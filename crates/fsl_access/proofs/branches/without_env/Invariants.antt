use Rattle.std.proofs.Common.{◌≡◌, ◌++◌}
use Rattle.fsl_core.specs.logic.States.{followed, done}
use Rattle.fsl_asrt.specs.Branch.{branches, bounds}
use Rattle.fsl_access.proofs.branches.without_env.Given as goal

abbrev pub invariant-loop-branch : goal.invariant-loop-branch
invariant-loop-branch l = record {
  can : (goal.iterator-loop-branch).can_next l.branch-iterator;
  finite : (goal.iterator-loop-branch).is_finite l.branch-iterator;
  so_far : branches l.out ++ followed (bounds l.branch-iterator.rest.items) (λ _. done) ≡ followed (bounds l.fn.bound) (λ _. done);
}
