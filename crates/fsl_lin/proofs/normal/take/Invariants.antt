use Rattle.std.proofs.Common.{◌*ℤ◌}
use Rattle.fsl_lin.specs.Numbers.{part}
use Rattle.fsl_lin.proofs.Taken.{TakenBefore}
use Rattle.fsl_lin.proofs.normal.take.Given as goal

abbrev pub invariant-loop-i : goal.invariant-loop-i
invariant-loop-i l = TakenBefore l.initial.numbers l.numbers (λ j. l.k *ℤ part l.lin j) l.i
