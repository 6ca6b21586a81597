use Rattle.std.proofs.Common.{◌≡◌, ℕ, ◌-◌, length, ap, arith}
use Rattle.fsl_lin.specs.Numbers.{listed, most}
use Rattle.fsl_lin.specs.Rows.{pivot_below}
use Rattle.fsl_lin.proofs.Arrays.{most_is}
use Rattle.fsl_lin.proofs.places.pivot_of.Goals as goal

pub loop-k-init : goal.loop-k-init
loop-k-init c =
    let last : length c.args.numbers.now - 1 ≡ most = let m = most_is in omega arith in
    record { within = omega arith; left = ap (λ (k : ℕ). pivot_below k (listed c.args.numbers.now)) last }
