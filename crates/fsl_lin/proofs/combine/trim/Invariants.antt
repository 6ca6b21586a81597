use Rattle.std.proofs.Common.{◌≡◌, vec_len}
use Rattle.fsl_lin.specs.Combination.{trim}
use Rattle.fsl_lin.proofs.combine.trim.Given as goal

abbrev pub invariant-loop-last : goal.invariant-loop-last
invariant-loop-last l = trim l.terms.items ≡ trim l.initial.terms.items

abbrev pub decreases-loop-last : goal.decreases-loop-last
decreases-loop-last l = vec_len l.terms
