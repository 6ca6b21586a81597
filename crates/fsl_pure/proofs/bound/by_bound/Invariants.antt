use Rattle.std.proofs.Common.{◌≡◌, map, drop}
use Rattle.fsl_lin.specs.Numbers.{part, listed}
use Rattle.fsl_lin.specs.Facts.{by_bound}
use Rattle.fsl_pure.proofs.bound.by_bound.Given as goal

abbrev pub invariant-loop-bound : goal.invariant-loop-bound
invariant-loop-bound l = by_bound (map part (drop l.bound-index l.bounds)) (listed l.numbers) ≡ by_bound (map part l.bounds) (listed l.numbers)
