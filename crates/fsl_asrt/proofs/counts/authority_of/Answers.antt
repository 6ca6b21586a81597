use Rattle.std.proofs.Common.{◌≡◌, Option, Some, IfSome, slice_get}
use Rattle.std.specs.Option.{option_map}
use Rattle.fsl_asrt.specs.declared.counts.FoundCount.{FoundCount}
use Rattle.fsl_asrt.specs.Counts.{IsCountedBy, count_of, counted_in}
use Rattle.fsl_asrt.proofs.CountsLemmas.{found_count, authority_read}
use Rattle.fsl_asrt.proofs.Keeping.{ok_both}
use Rattle.fsl_chunk.specs.declared.kind.ChunkKind.TheVariants.{Auth}
use Rattle.fsl_core.specs.logic.Chunks.{first, authority_of}
use Rattle.fsl_asrt.proofs.counts.authority_of.Goals as goal

pub returns-in-Some : goal.returns-in-Some
returns-in-Some c =
    let s = c.args.state.now in
    let n = c.in-Some.number in
    let chunk = c.at.result.now in
    let reads = authority_of c.args.bank.now s.facts in
    let there : slice_get s.chunks n ≡ Some chunk = rw c.heap.ensures at c.at.ensures in
    ok_both c.count.result
    (λ (r : Option FoundCount). option_map count_of r ≡ counted_in chunk)
    (λ (r : Option FoundCount). IfSome r (λ x. x.number ≡ n))
    (λ (r : Option FoundCount). IsCountedBy Auth s.chunks (first reads s.chunks) r)
    (λ r p q. found_count Auth reads s.chunks n chunk r (authority_read c.args.bank.now s.facts) c.in-Some.ensures.first there p q)
    c.count.ensures.count c.count.ensures.number
