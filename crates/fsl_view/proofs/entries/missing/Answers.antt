use Rattle.std.proofs.Common.{◌≡◌, ap, drop, [], arith, drop_of_length-le}
use Rattle.fsl_view.proofs.EntriesLemmas.{length_join, new_ones}
use Rattle.fsl_view.proofs.entries.missing.Goals as goal

pub returns : goal.returns
returns c =
    let all = length_join c.args.entries.now c.args.others.now c.requires.ascending.ascends c.requires.others.ascends in
    let none : drop c.loop-other.other-index c.args.others.now ≡ [] = drop_of_length-le _ c.loop-other-test.false in
    let rest : new_ones c.args.entries.now (drop c.loop-other.other-index c.args.others.now) ≡ 0 = ap (new_ones c.args.entries.now) none in
    omega arith
