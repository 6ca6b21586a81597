use Rattle.std.proofs.Common.{◌≡◌, ◌<◌, length, Some, sym, ap, ◌∙◌}
use Rattle.std.proofs.lemmas.Option.{slice_get-get_or}
use Rattle.fsl_chunk.proofs.HeapNumbers.{removed_indexed}
use Rattle.fsl_chunk.proofs.heap.Heap.remove.Goals as goal

pub invariant_of-self : goal.invariant_of-self
invariant_of-self c =
    let same : c.self.inside.chunks.items ≡ c.args.self.now = c.self.view_is in
    let within : c.args.number < length c.self.inside.chunks.items = rw same c.requires in
    rw (c.remove.ensures.items, c.forget.ensures) (removed_indexed c.self.inside.chunks.items c.self.inside.numbers c.args.number c.self.invariant within)

pub returns-clause-chunk : goal.returns-clause-chunk
returns-clause-chunk c =
    let same : c.self.inside.chunks.items ≡ c.args.self.now = c.self.view_is in
    let value = rw same at c.remove.ensures.value in
    slice_get-get_or c.args.self.now c.args.number c.remove.result c.requires ∙ ap Some (sym value)
