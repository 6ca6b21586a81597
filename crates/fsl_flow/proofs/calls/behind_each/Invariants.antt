use Rattle.std.proofs.Common.{◌≡◌, ◌++◌}
use Rattle.fsl_core.specs.logic.States.{followed}
use Rattle.fsl_core.specs.logic.Assertions.{asrt_of}
use Rattle.fsl_core.specs.logic.Locations.{contract_of}
use Rattle.fsl_asrt.specs.Branch.{branches, bounds}
use Rattle.fsl_flow.specs.Calls.{behind_pre}
use Rattle.fsl_flow.proofs.calls.behind_each.Given as goal

abbrev pub invariant-loop-branch : goal.invariant-loop-branch
invariant-loop-branch l = record {
  can : (goal.iterator-loop-branch).can_next l.branch-iterator;
  finite : (goal.iterator-loop-branch).is_finite l.branch-iterator;
  so_far : branches l.out ++ followed (bounds l.branch-iterator.rest.items) (behind_pre l.slot l.named (contract_of asrt_of l.q))
      ≡ followed (bounds l.fn.given) (behind_pre l.slot l.named (contract_of asrt_of l.q));
}
