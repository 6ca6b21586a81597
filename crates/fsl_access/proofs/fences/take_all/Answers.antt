use Rattle.std.proofs.Common.{◌≡◌, ◌++◌, true, List, [], ◌∷◌, Some, slice_get, map, filter, drop, remove, sym, ap, ◌∙◌}
use Rattle.std.proofs.lemmas.Option.{slice_get_within}
use Rattle.fsl_core.specs.declared.chunk.Chunk.{Chunk}
use Rattle.fsl_core.specs.logic.States.{State}
use Rattle.fsl_core.specs.logic.Joining.{at_rung}
use Rattle.fsl_core.specs.logic.Fences.{is_at}
use Rattle.fsl_access.proofs.FencesLemmas.{staying, item_gone, one_taken, fewer, still_rest}
use Rattle.fsl_access.proofs.fences.take_all.Goals as goal

pub take-smaller-then-is_at : goal.take-smaller-then-is_at
take-smaller-then-is_at c =
    let cs = c.take.state.chunks in
    fewer c.take.number cs c.take-chunk.new.self.chunks (slice_get_within cs c.take.number c.take-chunk.result c.take-chunk.ensures.chunk)
    (ap (λ (x : State). x.chunks) c.take-chunk.ensures.taken)

pub take-preserved-then-is_at : goal.take-preserved-then-is_at
take-preserved-then-is_at c =
    let n = c.take.number in
    let cs = c.take.state.chunks in
    let x = c.take-chunk.result in
    let h = c.take-chunk.ensures.chunk in
    let gone : c.take-chunk.new.self.chunks ≡ remove cs n = ap (λ (s : State). s.chunks) c.take-chunk.ensures.taken in
    let there : slice_get cs n ≡ Some c.at.result.now = rw c.heap-in-take.ensures at c.at.ensures in
    let same : c.at.result.now ≡ x = cc in
    let is : is_at c.args.from x ≡ true = ap (λ (y : Chunk). is_at c.args.from y) (sym same) ∙ sym c.is_at.ensures ∙ c.if-is_at.true in
    let moved : c.in_ok-at_rung.field-0 ≡ at_rung c.args.to x = c.in_ok-at_rung.ensures ∙ ap (λ (y : Chunk). at_rung c.args.to y) c.get.ensures in
    let more : c.push.new.self ≡ c.take.chunks ++ at_rung c.args.to x ∷ [] = c.in_ok-push.ensures.pushed ∙ ap (λ (y : Chunk). c.take.chunks ++ y ∷ []) moved in
    record {
      rest = still_rest c.args.state c.take.state c.take-chunk.new.self (remove cs n) c.take.invariant.rest c.take-chunk.ensures.taken;
      stay = ap (λ (ds : List Chunk). staying (is_at c.args.from) n ds) gone ∙ item_gone (is_at c.args.from) n cs x h is ∙ c.take.invariant.stay;
      taken = ap (λ (ds : List Chunk). c.push.new.self ++ map (at_rung c.args.to) (filter (is_at c.args.from) (drop n ds))) gone
          ∙ one_taken (at_rung c.args.to) (is_at c.args.from) n cs x c.take.chunks c.push.new.self _ h is more c.take.invariant.taken;
    }
