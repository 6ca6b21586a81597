use Rattle.std.proofs.Common.{◌≡◌, Bool, List, filter, Some, sym, ap, ◌∙◌}
use Rattle.std.proofs.lemmas.Result.{IfOk-weaker}
use Rattle.fsl_asrt.specs.declared.branch.Decided.{Decided}
use Rattle.fsl_asrt.specs.Asked.{asked}
use Rattle.fsl_asrt.specs.Branch.{decided}
use Rattle.fsl_asrt.specs.Sides.{sides_of}
use Rattle.fsl_asrt.proofs.DecidingLemmas.{assumed_by_sides, kept_sides}
use Rattle.fsl_core.specs.logic.States.{Branches, followed, done}
use Rattle.fsl_core.specs.logic.Terms.{expr_of}
use Rattle.fsl_core.specs.logic.Deciding as deciding
use Rattle.fsl_core.specs.logic.Deciding.{each_side, agrees, cond_of, assume_cond}
use Rattle.fsl_asrt.proofs.deciding.with_answer.Goals as goal

pub returns-in_ok-kept-in-Some : goal.returns-in_ok-kept-in-Some
returns-in_ok-kept-in-Some c =
    let q = c.in-Some.q in
    let state = c.args.state in
    let answer = c.args.answer in
    let cond = cond_of expr_of c.args.cond.now in
    let kept = c.in_ok-kept-in-Some.kept in
    let asks : asked (Some q) state ≡ deciding.sides cond c.args.env.now state = rw c.in-Some.is at c.in_ok-q.ensures in
    let e : assume_cond answer cond c.args.env.now state ≡ followed (each_side (deciding.sides_of answer (sides_of q.a q.b q.sides)) state) (λ _. done) =
    assumed_by_sides answer cond c.args.env.now state (sides_of q.a q.b q.sides) (sym asks) in
    let k : kept ≡ filter (λ x. agrees answer x.holds) q.sides = rw c.as_slice.ensures at c.in_ok-kept-in-Some.ensures in
    let l : sides_of q.a q.b kept ≡ deciding.sides_of answer (sides_of q.a q.b q.sides) =
    ap (sides_of q.a q.b) k ∙ kept_sides q.a q.b answer q.sides in
    IfOk-weaker c.each_side.result
    (λ (ds : List Decided). decided ds ≡ each_side (sides_of q.a q.b kept) state)
    (λ (ds : List Decided). followed (decided ds) (λ _. done) ≡ assume_cond answer cond c.args.env.now state)
    (λ ds h. ap (λ (bs : Branches Bool). followed bs (λ _. done)) (h ∙ ap (λ (xs : List deciding.Side). each_side xs state) l) ∙ sym e)
    (rw c.as_slice-in-Some.ensures at c.each_side.ensures)
