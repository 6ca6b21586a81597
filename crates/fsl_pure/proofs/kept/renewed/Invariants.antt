use Rattle.std.proofs.Common.{◌≡◌, map, take, reverse}
use Rattle.fsl_lin.specs.Numbers.{part}
use Rattle.fsl_lin.specs.Rows.{normal}
use Rattle.fsl_lin.specs.Equations.{rows_of}
use Rattle.fsl_pure.proofs.kept.renewed.Given as goal

abbrev pub invariant-loop-bound : goal.invariant-loop-bound
invariant-loop-bound l = map part l.kept ≡ map (normal (rows_of l.eqs)) (map part (reverse (take l.bound-index l.bounds)))
