use Rattle.std.proofs.Common.{◌≡◌, ◌∷◌, ◌+◌, drop, refl, ap, ◌∙◌}
use Rattle.std.proofs.Math.ListN.{drop_of_length-le}
use Rattle.fsl_asrt.specs.Branch.{bounds}
use Rattle.fsl_asrt.proofs.WalkLemmas.{level_of_choice, first_choice, next_item, part_done, parts_done}
use Rattle.fsl_core.specs.logic.Assertions.{asrt_of, choice}
use Rattle.fsl_core.specs.logic.Terms.{expr_of}
use Rattle.fsl_core.specs.logic.Deciding.{cond_of}
use Rattle.fsl_asrt.specs.Walk.{by_way}
use Rattle.fsl_asrt.proofs.walk.+walk.Goals as goal

pub walk-loop-branch-init : goal.walk-loop-branch-init
walk-loop-branch-init t c =
    let x = asrt_of c.args.a.now in
    let a = asrt_of c.in-Choice.yes in
    let b = asrt_of c.in-Choice.no in
    let cond = cond_of expr_of c.in-Choice.cond in
    let level : x ≡ choice cond a b = ap asrt_of c.in-Choice.is ∙ level_of_choice c.in-Choice.cond c.in-Choice.yes c.in-Choice.no in
    record {
      same = refl;
      can = tt;
      finite = tt;
      so_far = first_choice c.args.way cond a b x c.args.rung c.args.env c.args.state c.new-out.result c.into_iter-branch-iterator.result.rest.items
          c.in_ok-decided-in-Choice.decided c.new-out.ensures (c.into_iter-branch-iterator.ensures.into_iter_gives.0 ∙ c.into_vec-branch-items.ensures)
          c.in_ok-decided-in-Choice.ensures level;
    }

pub walk-loop-part-preserved : goal.walk-loop-part-preserved
walk-loop-part-preserved t c =
    let parts = c.as_slice-part-items.result.now in
    let i = c.loop-part.part-index in
    let part = c.part-item.result in
    let d : drop i parts ≡ part ∷ drop (i + 1) parts = next_item parts i part c.loop-part-test.true c.part-item.is in
    part_done c.args.way c.args.rung (drop i parts) (drop (i + 1) parts) part (bounds c.loop-part.branches) (bounds c.in_ok-branches-in-Both-2.branches)
    (by_way c.args.way (asrt_of c.args.a.now) c.args.rung c.args.env c.args.state) d c.in_ok-branches-in-Both-2.ensures c.loop-part.invariant

pub walk-returns-after-loop-part : goal.walk-returns-after-loop-part
walk-returns-after-loop-part t c =
    let parts = c.as_slice-part-items.result.now in
    let i = c.loop-part.part-index in
    parts_done c.args.way c.args.rung (drop i parts) (bounds c.loop-part.branches)
    (by_way c.args.way (asrt_of c.args.a.now) c.args.rung c.args.env c.args.state) (drop_of_length-le parts c.loop-part-test.false) c.loop-part.invariant
