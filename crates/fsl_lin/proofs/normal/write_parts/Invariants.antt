use Rattle.std.proofs.Common.{◌≡◌, ℕ, ◌<◌}
use Rattle.fsl_lin.specs.Numbers.{part, listed}
use Rattle.fsl_lin.proofs.normal.write_parts.Given as goal

abbrev pub invariant-loop-i : goal.invariant-loop-i
invariant-loop-i l = (j : ℕ) → j < l.i → listed l.numbers j ≡ part l.t j
