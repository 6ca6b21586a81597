use Rattle.std.proofs.Common.{◌≡◌, ◌<◌, length}
use Rattle.fsl_lin.specs.Numbers.{part, listed, same_above, most}
use Rattle.fsl_pure.proofs.bound.same_above.Given as goal

abbrev pub invariant-loop-k : goal.invariant-loop-k
invariant-loop-k l = record {
  within : l.k < length l.numbers;
  left : same_above l.k (part l.bound) (listed l.numbers) ≡ same_above most (part l.bound) (listed l.numbers);
}

abbrev pub decreases-loop-k : goal.decreases-loop-k
decreases-loop-k l = l.k
