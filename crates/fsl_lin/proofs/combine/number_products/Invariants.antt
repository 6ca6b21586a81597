use Rattle.std.proofs.Common.{drop}
use Rattle.fsl_lin.specs.Combination.{products}
use Rattle.fsl_lin.proofs.Terms.{SoFar}
use Rattle.fsl_lin.proofs.combine.number_products.Given as goal

abbrev pub invariant-loop-number : goal.invariant-loop-number
invariant-loop-number l = SoFar l.scaled.items (products l.k (drop l.number-index l.numbers)) (products l.k l.numbers)
