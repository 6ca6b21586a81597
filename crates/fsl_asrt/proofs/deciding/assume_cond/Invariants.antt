use Rattle.std.proofs.Common.{◌≡◌, ◌++◌}
use Rattle.fsl_core.specs.logic.States.{followed, done}
use Rattle.fsl_core.specs.logic.Terms.{expr_of}
use Rattle.fsl_core.specs.logic.Deciding.{cond_of, assume_cond}
use Rattle.fsl_asrt.specs.Branch.{branches, decided}
use Rattle.fsl_asrt.proofs.deciding.assume_cond.Given as goal

abbrev pub invariant-loop-branch : goal.invariant-loop-branch
invariant-loop-branch l = record {
  can : (goal.iterator-loop-branch).can_next l.branch-iterator;
  finite : (goal.iterator-loop-branch).is_finite l.branch-iterator;
  so_far : branches l.out ++ followed (decided l.branch-iterator.rest.items) (λ _. done) ≡ assume_cond l.answer (cond_of expr_of l.cond) l.env l.fn.state;
}
