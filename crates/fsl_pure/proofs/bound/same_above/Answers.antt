use Rattle.std.proofs.Common.{◌≡◌, ℕ, ◌-◌, length, ap, arith}
use Rattle.fsl_lin.specs.Numbers.{part, listed, most, same_above}
use Rattle.fsl_lin.proofs.Arrays.{most_is}
use Rattle.fsl_pure.proofs.bound.same_above.Goals as goal

pub loop-k-init : goal.loop-k-init
loop-k-init c =
    let last : length c.args.numbers.now - 1 ≡ most = let m = most_is in omega arith in
    record { within = omega arith; left = ap (λ (k : ℕ). same_above k (part c.args.bound.now) (listed c.args.numbers.now)) last }
