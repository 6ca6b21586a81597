use Rattle.std.proofs.Common.{◌≡◌, ◌<◌, length}
use Rattle.fsl_lin.specs.Numbers.{listed, most}
use Rattle.fsl_lin.specs.Rows.{pivot_below}
use Rattle.fsl_lin.proofs.places.pivot_of.Given as goal

abbrev pub invariant-loop-k : goal.invariant-loop-k
invariant-loop-k l = record { within : l.k < length l.numbers; left : pivot_below l.k (listed l.numbers) ≡ pivot_below most (listed l.numbers) }

abbrev pub decreases-loop-k : goal.decreases-loop-k
decreases-loop-k l = l.k
