use Rattle.std.proofs.Common.{◌≡◌, ◌++◌}
use Rattle.fsl_core.specs.logic.States.{followed}
use Rattle.fsl_core.specs.logic.Assertions.{asrt_of}
use Rattle.fsl_asrt.specs.Branch.{branches}
use Rattle.fsl_access.specs.Pieces.{part_consumed}
use Rattle.fsl_access.proofs.pieces.consume_on_each.Given as goal

abbrev pub invariant-loop-branch : goal.invariant-loop-branch
invariant-loop-branch l = record {
  can : (goal.iterator-loop-branch).can_next l.branch-iterator;
  finite : (goal.iterator-loop-branch).is_finite l.branch-iterator;
  so_far : branches l.out ++ followed (branches l.branch-iterator.rest.items) (λ _. part_consumed l.rung l.env (asrt_of l.part))
      ≡ followed (branches l.fn.before) (λ _. part_consumed l.rung l.env (asrt_of l.part));
}
