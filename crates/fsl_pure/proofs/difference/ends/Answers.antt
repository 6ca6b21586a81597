use Rattle.std.proofs.Common.{◌≡◌, ℕ, ap, ◌∙◌, arith}
use Rattle.fsl_lin.specs.Numbers.{listed, most}
use Rattle.fsl_lin.specs.Facts.{ends}
use Rattle.fsl_lin.proofs.Arrays.{most_is}
use Rattle.fsl_pure.proofs.difference.ends.Goals as goal

pub returns : goal.returns
returns c =
    let last : c.loop-below.below ≡ most = let m = most_is in omega arith in
    c.loop-below.invariant ∙ ap (λ (k : ℕ). ends k (listed c.args.numbers.now)) last
