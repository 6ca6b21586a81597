use Rattle.std.proofs.Common.{◌≡◌, ◌<◌, ◌≤◌, length, pos, refl, lit<, arith}
use Rattle.std.specs.Int.{w128}
use Rattle.std.proofs.lemmas.Int.{to_z-of_z}
use Rattle.std.proofs.lemmas.List.{get_or_past}
use Rattle.fsl_lin.specs.Numbers.{listed}
use Rattle.fsl_lin.proofs.Sizes.{size_fits}
use Rattle.fsl_pure.proofs.InPlace.{in_place_step, in_place_end}
use Rattle.fsl_pure.proofs.Gaps.{difference_is}
use Rattle.fsl_pure.proofs.sums.subtract_places.Goals as goal

pub loop-i-preserved : goal.loop-i-preserved
loop-i-preserved c =
    let within : c.loop-i.i < length c.loop-i.numbers = omega arith in
    let same = to_z-of_z w128 c.minus.result (size_fits _ c.minus.result c.minus.ensures.size (lit< tt)) in
    rw same (in_place_step c.minus.result c.loop-i.invariant within c.minus.ensures.value c.minus.ensures.size)

pub returns-clause-value : goal.returns-clause-value
returns-clause-value c =
    let whole : length c.loop-i.numbers ≤ c.loop-i.i = omega arith in
    difference_is (listed c.loop-i.numbers) (listed c.args.numbers.now) (listed c.args.other.now) (in_place_end c.loop-i.invariant whole
    (λ j h. let past : listed c.args.other.now j ≡ pos 0 = get_or_past c.args.other.now j (pos 0) (let l = c.loop-i.invariant.long in let s = c.requires.same_length in omega arith) in rw past refl))
