use Rattle.std.proofs.Common.{◌≡◌, suc, map, drop}
use Rattle.fsl_lin.specs.Numbers.{part}
use Rattle.fsl_pure.specs.Table.{some_have}
use Rattle.fsl_pure.proofs.bound.have.Given as goal

abbrev pub invariant-loop-bound : goal.invariant-loop-bound
invariant-loop-bound l = some_have (suc l.sym.0) (map part (drop l.bound-index l.bounds)) ≡ some_have (suc l.sym.0) (map part l.bounds)
