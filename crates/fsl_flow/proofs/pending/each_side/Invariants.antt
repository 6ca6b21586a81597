use Rattle.std.proofs.Common.{◌≡◌, ◌++◌, map}
use Rattle.fsl_asrt.specs.Branch.{decided}
use Rattle.fsl_flow.specs.Next.{goes_to_side}
use Rattle.fsl_flow.specs.Continuation.{continuation_of}
use Rattle.fsl_flow.specs.Pending.{item_of}
use Rattle.fsl_flow.proofs.pending.each_side.Given as goal

abbrev pub invariant-loop-side : goal.invariant-loop-side
invariant-loop-side l = record {
  can : (goal.iterator-loop-side).can_next l.side-iterator;
  finite : (goal.iterator-loop-side).is_finite l.side-iterator;
  so_far : map item_of l.out ++ goes_to_side l.at (decided l.side-iterator.rest.items) l.yes l.no l.declared (continuation_of l.continuation)
      ≡ goes_to_side l.at (decided l.fn.sides) l.yes l.no l.declared (continuation_of l.continuation);
}
