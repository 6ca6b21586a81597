use Rattle.std.proofs.Common.{◌<◌, length, ap, ◌∙◌, arith}
use Rattle.fsl_chunk.specs.Numbers.{without}
use Rattle.fsl_chunk.proofs.NumbersLemmas.{one_changed}
use Rattle.fsl_chunk.proofs.numbers.forget_in_each.Goals as goal

pub loop-at-preserved : goal.loop-at-preserved
loop-at-preserved c =
    let within : c.loop-at.at < length c.args.lists.now.items = omega (arith, c.loop-at-test.true) in
    one_changed (without c.args.gone) c.args.lists.now.items c.loop-at.lists.items c.loop-at.at c.forget.new.numbers c.index_mut.result.now within c.loop-at.invariant
    (c.forget.ensures ∙ ap (without c.args.gone) c.index_mut.ensures.value)
