use Rattle.std.proofs.Common.{◌≡◌, ◌<◌, length}
use Rattle.fsl_lin.specs.Numbers.{listed, none, same_above, is_constant}
use Rattle.fsl_lin.proofs.places.is_constant.Given as goal

abbrev pub invariant-loop-k : goal.invariant-loop-k
invariant-loop-k l = record { within : l.k < length l.numbers; left : same_above l.k (listed l.numbers) none ≡ is_constant (listed l.numbers) }

abbrev pub decreases-loop-k : goal.decreases-loop-k
decreases-loop-k l = l.k
