use Rattle.std.proofs.Common.{◌<◌, length, lit<, arith}
use Rattle.std.specs.Int.{w128}
use Rattle.std.proofs.lemmas.Int.{to_z-of_z}
use Rattle.fsl_lin.specs.Numbers.{listed}
use Rattle.fsl_lin.proofs.Sizes.{size_fits}
use Rattle.fsl_pure.proofs.Gaps.{gap_added}
use Rattle.fsl_pure.proofs.sums.subtract.Goals as goal

pub returns-clause-value : goal.returns-clause-value
returns-clause-value c =
    let some : 0 < length c.subtract_places.new.numbers = omega arith in
    let same = to_z-of_z w128 c.plus.result (size_fits _ c.plus.result c.plus.ensures.size (lit< tt)) in
    rw same (gap_added c.subtract_places.new.numbers (listed c.args.numbers.now) (listed c.args.other.now) c.plus.result c.args.gap.now some c.subtract_places.ensures.value c.plus.ensures.value)
