use Rattle.std.proofs.Common.{◌≡◌, ◌++◌}
use Rattle.fsl_core.specs.logic.States.{followed}
use Rattle.fsl_core.specs.logic.Assertions.{asrt_of}
use Rattle.fsl_core.specs.logic.Locations.{setting_of}
use Rattle.fsl_core.specs.logic.Accesses.{is_excluded, gain}
use Rattle.fsl_asrt.specs.Branch.{branches, decided}
use Rattle.fsl_asrt.proofs.Keeping.{AreKept}
use Rattle.fsl_access.specs.Permissions.{permission_of}
use Rattle.fsl_access.proofs.loading.gain_by.Given as goal

abbrev pub invariant-loop-side : goal.invariant-loop-side
invariant-loop-side l = record {
  can : (goal.iterator-loop-side).can_next l.side-iterator;
  finite : (goal.iterator-loop-side).is_finite l.side-iterator;
  kept : AreKept l.fn.state (decided l.side-iterator.rest.items);
  so_far : branches l.out ++ followed (decided l.side-iterator.rest.items) (gain (setting_of asrt_of l.p) l.rung l.v l.place (permission_of l.x))
      ≡ followed (is_excluded l.v l.x.out l.fn.state) (gain (setting_of asrt_of l.p) l.rung l.v l.place (permission_of l.x));
}
