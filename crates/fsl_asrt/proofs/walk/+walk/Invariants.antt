use Rattle.std.proofs.Common.{◌≡◌, ◌+◌, ◌*◌, ◌++◌, drop, map}
use Rattle.fsl_core.specs.logic.States.{followed}
use Rattle.fsl_core.specs.logic.Producing.{chosen}
use Rattle.fsl_core.specs.logic.Assertions.{asrt_of}
use Rattle.fsl_asrt.specs.Branch.{bounds, decided}
use Rattle.fsl_asrt.specs.Walk.{by_way, all_by}
use Rattle.fsl_asrt.proofs.walk.+walk.Given as goal

abbrev pub decreases-walk : goal.decreases-walk
decreases-walk l = 2 * goal.size-walk l

abbrev pub decreases-each : goal.decreases-each
decreases-each l = 2 * goal.size-each l + 1

abbrev pub invariant-walk-loop-branch : goal.invariant-walk-loop-branch
invariant-walk-loop-branch l = record {
  same : l.env ≡ l.fn.env;
  can : (goal.iterator-walk-loop-branch).can_next l.branch-iterator;
  finite : (goal.iterator-walk-loop-branch).is_finite l.branch-iterator;
  so_far : bounds l.out ++ followed (decided l.branch-iterator.rest.items) (λ holds. by_way l.way (chosen (asrt_of l.yes) (asrt_of l.no) holds) l.rung l.env)
      ≡ by_way l.way (asrt_of l.a) l.rung l.fn.env l.fn.state;
}

abbrev pub invariant-walk-loop-part : goal.invariant-walk-loop-part
invariant-walk-loop-part l =
    followed (bounds l.branches) (all_by l.way (map asrt_of (drop l.part-index l.part-items)) l.rung)
    ≡ by_way l.way (asrt_of l.a) l.rung l.fn.env l.fn.state

abbrev pub invariant-each-loop-branch : goal.invariant-each-loop-branch
invariant-each-loop-branch l = record {
  can : (goal.iterator-each-loop-branch).can_next l.branch-iterator;
  finite : (goal.iterator-each-loop-branch).is_finite l.branch-iterator;
  so_far : bounds l.out ++ followed (bounds l.branch-iterator.rest.items) (by_way l.way (asrt_of l.a) l.rung)
      ≡ followed (bounds l.fn.branches) (by_way l.way (asrt_of l.a) l.rung);
}
