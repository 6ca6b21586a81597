use Rattle.std.proofs.Common.{◌≡◌, ◌<◌, ◌+◌, ◌-◌, length, sym, ◌∙◌, arith}
use Rattle.fsl_core.proofs.Distinct.{set_again}
use Rattle.fsl_core.proofs.straight.set_distinct.Goals as goal

pub returns-then-marks-slot : goal.returns-then-marks-slot
returns-then-marks-slot c =
    let before : (c.loop-left.left - 1) + 1 ≡ c.loop-left.left = omega arith in
    let below : c.loop-left.left - 1 < length c.args.body.now = omega arith in
    let inside : c.in-Some.slot < 256 = omega (arith, c.in-Some.ensures.below) in
    let seen = sym (c.loop-left.invariant.marked c.in-Some.slot inside) ∙ c.if-marks-slot.true in
    let sets = sym c.slot_set.ensures.value ∙ c.in-Some.is in
    sym (set_again c.args.body.now (c.loop-left.left - 1) c.loop-left.left c.index-body-left.result c.in-Some.slot before below (rw (← c.index-body-left.is) sets) seen)
