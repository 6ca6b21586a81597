use Rattle.std.proofs.Common.{◌≡◌, ◌++◌, length, true}
use Rattle.fsl_core.specs.logic.States.{followed, give}
use Rattle.fsl_core.specs.logic.Producing.{chosen}
use Rattle.fsl_core.specs.logic.Accesses.{is_excluded}
use Rattle.fsl_asrt.specs.Branch.{decided}
use Rattle.fsl_access.proofs.loading.+is_excluded.Given as goal

abbrev pub decreases-is_excluded : goal.decreases-is_excluded
decreases-is_excluded l = length l.read.now

abbrev pub invariant-loop-side : goal.invariant-loop-side
invariant-loop-side l = record {
  can : (goal.iterator-loop-side).can_next l.side-iterator;
  finite : (goal.iterator-loop-side).is_finite l.side-iterator;
  so_far : decided l.out ++ followed (decided l.side-iterator.rest.items) (chosen (give true) (is_excluded l.v l.rest))
      ≡ is_excluded l.v l.fn.read l.fn.state;
}
