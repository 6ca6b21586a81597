use Rattle.std.proofs.Common.{drop}
use Rattle.fsl_lin.specs.Combination.{products}
use Rattle.fsl_lin.proofs.Terms.{SoFar}
use Rattle.fsl_lin.proofs.combine.products.Given as goal

abbrev pub invariant-loop-term : goal.invariant-loop-term
invariant-loop-term l = SoFar l.scaled.items (products l.k (drop l.term-index l.terms)) (products l.k l.terms)
