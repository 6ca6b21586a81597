use Rattle.std.proofs.Common.{◌≡◌, ◌<◌, ◌++◌, length, get_or, take, drop, sym, ap, ◌∙◌, arith}
use Rattle.fsl_chunk.specs.Numbers.{without}
use Rattle.fsl_chunk.proofs.NumbersLemmas.{one_gone}
use Rattle.fsl_chunk.proofs.numbers.forget.Goals as goal

pub loop-at-preserved-then-number-gone : goal.loop-at-preserved-then-number-gone
loop-at-preserved-then-number-gone c =
    let within : c.loop-at.at < length c.loop-at.numbers = omega (arith, c.len.ensures, c.loop-at-test.true) in
    let is : get_or c.loop-at.numbers c.loop-at.at 0 ≡ c.args.gone = sym (ap (λ ns. get_or ns c.loop-at.at 0) c.as_slice.ensures) ∙ c.if-number-gone.true in
    ap (λ ns. take c.loop-at.at ns ++ without c.args.gone (drop c.loop-at.at ns)) c.remove-gone.ensures.rest
    ∙ one_gone c.args.gone c.loop-at.at c.loop-at.numbers within is ∙ c.loop-at.invariant
