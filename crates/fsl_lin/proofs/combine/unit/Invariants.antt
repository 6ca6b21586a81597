use Rattle.std.proofs.Common.{◌≡◌, replicate, pos}
use Rattle.fsl_lin.proofs.combine.unit.Given as goal

abbrev pub invariant-loop-i : goal.invariant-loop-i
invariant-loop-i l = l.terms.items ≡ replicate l._i (pos 0)
