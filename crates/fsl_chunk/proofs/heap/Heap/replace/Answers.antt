use Rattle.std.proofs.Common.{◌≡◌}
use Rattle.fsl_chunk.proofs.HeapNumbers.{replaced_indexed}
use Rattle.fsl_chunk.proofs.heap.Heap.replace.Goals as goal

pub invariant_of-self : goal.invariant_of-self
invariant_of-self c =
    let same : c.self.inside.chunks.items ≡ c.args.self.now = c.self.view_is in
    let by : c.in_ok-by.by ≡ c.args.by = c.in_ok-by.ensures in
    rw by (replaced_indexed c.self.inside.chunks.items c.self.inside.numbers c.args.number c.args.by c.self.invariant
    (rw same c.requires.same_kind) (rw same c.requires.same_rung))
