use Rattle.std.proofs.Common.{◌≡◌}
use Rattle.fsl_lin.specs.Numbers.{listed}
use Rattle.fsl_lin.specs.Facts.{ends}
use Rattle.fsl_pure.proofs.difference.ends.Given as goal

abbrev pub invariant-loop-below : goal.invariant-loop-below
invariant-loop-below l = l.found ≡ ends l.below (listed l.numbers)
