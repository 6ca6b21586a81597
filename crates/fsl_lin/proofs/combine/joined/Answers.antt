use Rattle.std.proofs.Common.{rules, ◌<◌, max, length, w32, arith}
use Rattle.std.proofs.lemmas.Int.{to_z-of_z}
use mir.Val.{SFits}
use Rattle.fsl_lin.specs.Sign.{signed}
use Rattle.fsl_lin.proofs.Terms.{joined_step, one_more, one_wide}
use Rattle.fsl_lin.proofs.combine.joined.Goals as goal

pub returns-in-None-clause-wide : goal.returns-in-None-clause-wide
returns-in-None-clause-wide c _ =
    let within : c.loop-s.s < max (length c.args.a.now) (length c.args.b.now) = omega arith in
    one_wide _ _ c.loop-s.invariant (joined_step (signed c.args.sign) c.args.a.now c.args.b.now c.loop-s.s within) c.in-None.ensures

pub loop-s-preserved : goal.loop-s-preserved
loop-s-preserved c =
    let within : c.loop-s.s < max (length c.args.a.now) (length c.args.b.now) = omega arith in
    let fits : SFits w32 c.in-Some.term = search rules in
    let pushed = simp to_z-of_z at c.in_ok-push-in-Some.ensures.items in
    one_more _ _ _ _ c.loop-s.invariant (joined_step (signed c.args.sign) c.args.a.now c.args.b.now c.loop-s.s within) c.in-Some.ensures pushed
