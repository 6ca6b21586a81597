use Rattle.std.proofs.Common.{◌≡◌, ◌++◌, ◌+◌, ◌-◌}
use Rattle.fsl_gen.specs.Generated.{each, passing}
use Rattle.fsl_gen.proofs.generated.push_pairs.Given as goal

-- what is written, and what is left to be written, are the whole
abbrev pub invariant-loop-i : goal.invariant-loop-i
invariant-loop-i l = l.text ++ each passing (l.i + 1) (l.n - l.i) ≡ l.initial.text ++ each passing 1 l.n
