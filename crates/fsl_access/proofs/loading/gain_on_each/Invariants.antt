use Rattle.std.proofs.Common.{◌≡◌, ◌++◌}
use Rattle.fsl_core.specs.logic.States.{followed}
use Rattle.fsl_core.specs.logic.Assertions.{asrt_of}
use Rattle.fsl_core.specs.logic.Locations.{setting_of}
use Rattle.fsl_asrt.specs.Branch.{branches}
use Rattle.fsl_access.specs.Loading.{gained_at}
use Rattle.fsl_access.proofs.loading.gain_on_each.Given as goal

abbrev pub invariant-loop-branch : goal.invariant-loop-branch
invariant-loop-branch l = record {
  can : (goal.iterator-loop-branch).can_next l.branch-iterator;
  finite : (goal.iterator-loop-branch).is_finite l.branch-iterator;
  so_far : branches l.out ++ followed (branches l.branch-iterator.rest.items) (λ _. gained_at (setting_of asrt_of l.p) l.rung l.at l.v l.place)
      ≡ followed (branches l.fn.before) (λ _. gained_at (setting_of asrt_of l.p) l.rung l.at l.v l.place);
}
