use Rattle.std.proofs.Common.{◌≡◌, ◌<◌, ◌++◌, ◌∷◌, [], length, get_or, set, ◌∙◌, arith}
use Rattle.fsl_chunk.specs.Kind.{kind_of, rung_of}
use Rattle.fsl_chunk.specs.Numbers.{list_number}
use Rattle.fsl_chunk.proofs.HeapNumbers.{added_indexed}
use Rattle.fsl_chunk.proofs.heap.Heap.add.Goals as goal

pub invariant_of-self-2 : goal.invariant_of-self-2
invariant_of-self-2 c =
    let items : c.push-2.new.items.items ≡ c.self.inside.chunks.items ++ c.args.chunk ∷ [] =
    c.push-2.ensures ∙ (λ i. c.reserve.ensures.items i ++ c.in_ok-chunk.ensures i ∷ []) in
    let few = c.self.invariant.few in
    let small : length c.self.inside.chunks.items < 512 = omega (arith, few, c.if-number-eq-MAX_CHUNKS.false, c.len-number.ensures) in
    let long : c.len-number.result ≡ length c.self.inside.chunks.items = omega (arith, c.len-number.ensures) in
    let list : c.list_number-list.result ≡ list_number (kind_of c.args.chunk) (rung_of c.args.chunk) =
    c.list_number-list.ensures ∙ (λ i. list_number (c.of.ensures i) (c.rung_of.ensures i)) in
    rw items (added_indexed c.self.inside.chunks.items c.self.inside.numbers c.push.new.self c.args.chunk c.self.invariant small
    (c.in_ok-push.ensures.pushed
    ∙ (λ i. set c.self.inside.numbers (list i) (get_or c.self.inside.numbers (list i) [] ++ long i ∷ []))))
