use Rattle.std.proofs.Common.{◌≡◌, length}
use Rattle.fsl_lin.specs.Combination.{trim}
use Rattle.fsl_lin.proofs.combine.used.Given as goal

abbrev pub invariant-loop-last : goal.invariant-loop-last
invariant-loop-last l = trim l.used ≡ trim l.numbers

abbrev pub decreases-loop-last : goal.decreases-loop-last
decreases-loop-last l = length l.used
