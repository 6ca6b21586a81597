use Rattle.std.proofs.Common.{rules, ◌<◌, length, w32, arith}
use Rattle.std.proofs.lemmas.Int.{to_z-of_z}
use mir.Val.{SFits}
use Rattle.fsl_lin.proofs.Terms.{products_step, one_more, one_wide}
use Rattle.fsl_lin.proofs.combine.number_products.Goals as goal

pub returns-in-None-clause-wide : goal.returns-in-None-clause-wide
returns-in-None-clause-wide c _ =
    let within : c.loop-number.number-index < length c.args.numbers.now = omega arith in
    one_wide _ _ c.loop-number.invariant (products_step c.args.k.now c.args.numbers.now c.loop-number.number-index within) c.in-None.ensures

pub loop-number-preserved : goal.loop-number-preserved
loop-number-preserved c =
    let within : c.loop-number.number-index < length c.args.numbers.now = omega arith in
    let fits : SFits w32 c.in-Some.term = search rules in
    let pushed = simp to_z-of_z at c.in_ok-push-in-Some.ensures.items in
    one_more _ _ _ _ c.loop-number.invariant (products_step c.args.k.now c.args.numbers.now c.loop-number.number-index within) c.in-Some.ensures pushed
