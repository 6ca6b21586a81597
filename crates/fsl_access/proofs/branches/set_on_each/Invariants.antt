use Rattle.std.proofs.Common.{◌≡◌, ◌++◌}
use Rattle.fsl_core.specs.logic.States.{followed, set}
use Rattle.fsl_asrt.specs.Branch.{branches}
use Rattle.fsl_access.proofs.branches.set_on_each.Given as goal

abbrev pub invariant-loop-branch : goal.invariant-loop-branch
invariant-loop-branch l = record {
  can : (goal.iterator-loop-branch).can_next l.branch-iterator;
  finite : (goal.iterator-loop-branch).is_finite l.branch-iterator;
  so_far : branches l.out ++ followed (branches l.branch-iterator.rest.items) (λ _. set l.slot l.t)
      ≡ followed (branches l.fn.before) (λ _. set l.slot l.t);
}
