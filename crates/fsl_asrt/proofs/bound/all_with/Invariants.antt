use Rattle.std.proofs.Common.{◌≡◌, ◌++◌}
use Rattle.fsl_core.specs.logic.States.{followed, give}
use Rattle.fsl_asrt.specs.Branch.{branches, bounds}
use Rattle.fsl_asrt.proofs.bound.all_with.Given as goal

abbrev pub invariant-loop-branch : goal.invariant-loop-branch
invariant-loop-branch l = record {
  can : (goal.iterator-loop-branch).can_next l.branch-iterator;
  finite : (goal.iterator-loop-branch).is_finite l.branch-iterator;
  so_far : bounds l.out ++ followed (branches l.branch-iterator.rest.items) (λ _. give l.env) ≡ followed (branches l.fn.branches) (λ _. give l.env);
}
