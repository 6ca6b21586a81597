use Rattle.std.proofs.Common.{◌^◌, neg_ℤ}
use Rattle.fsl_pure.proofs.InPlace.{InPlace}
use Rattle.fsl_pure.proofs.sums.negate.Given as goal

abbrev pub invariant-loop-i : goal.invariant-loop-i
invariant-loop-i l = InPlace (λ j x. neg_ℤ x) (2 ^ 126) l.initial.numbers l.numbers l.i
