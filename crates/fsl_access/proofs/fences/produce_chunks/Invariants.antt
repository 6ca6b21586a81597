use Rattle.std.proofs.Common.{◌≡◌}
use Rattle.fsl_core.specs.logic.Joining.{produce_chunks}
use Rattle.fsl_access.proofs.fences.produce_chunks.Given as goal

abbrev pub invariant-loop-chunk : goal.invariant-loop-chunk
invariant-loop-chunk l = record {
  can : (goal.iterator-loop-chunk).can_next l.chunk-iterator;
  finite : (goal.iterator-loop-chunk).is_finite l.chunk-iterator;
  so_far : produce_chunks l.chunk-iterator.rest.items l.state ≡ produce_chunks l.fn.chunks l.fn.state;
}
