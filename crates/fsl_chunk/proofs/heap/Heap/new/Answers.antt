use Rattle.fsl_chunk.proofs.HeapNumbers.{new_indexed}
use Rattle.fsl_chunk.proofs.heap.Heap.new.Goals as goal

pub invariant_of-result : goal.invariant_of-result
invariant_of-result c = rw (c.new.ensures.items, c.in_ok-new.ensures) new_indexed
