use Rattle.std.proofs.Common.{◌^◌, ◌-ℤ◌}
use Rattle.fsl_lin.specs.Numbers.{listed}
use Rattle.fsl_pure.proofs.InPlace.{InPlace}
use Rattle.fsl_pure.proofs.sums.subtract_places.Given as goal

abbrev pub invariant-loop-i : goal.invariant-loop-i
invariant-loop-i l = InPlace (λ j x. x -ℤ listed l.other j) (2 ^ 125) l.initial.numbers l.numbers l.i
