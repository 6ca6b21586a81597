use Rattle.std.proofs.Common.{◌≡◌, drop}
use Rattle.fsl_chunk.specs.Fits.{sought, fits}
use Rattle.fsl_chunk.proofs.HeapSearch.{first_in}
use Rattle.fsl_chunk.proofs.heap.Heap.find.Given as goal

abbrev pub invariant-loop-number : goal.invariant-loop-number
invariant-loop-number l =
    first_in (fits l.want l.pure.facts) l.self (drop l.number-index l.number-items) ≡ sought l.want l.pure.facts l.self
