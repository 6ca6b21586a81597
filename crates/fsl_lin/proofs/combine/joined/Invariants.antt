use Rattle.std.proofs.Common.{drop}
use Rattle.fsl_lin.specs.Combination.{joined}
use Rattle.fsl_lin.specs.Sign.{signed}
use Rattle.fsl_lin.proofs.Terms.{SoFar}
use Rattle.fsl_lin.proofs.combine.joined.Given as goal

abbrev pub invariant-loop-s : goal.invariant-loop-s
invariant-loop-s l = SoFar l.terms.items (joined (signed l.sign) (drop l.s l.a) (drop l.s l.b)) (joined (signed l.sign) l.a l.b)
