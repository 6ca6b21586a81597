use Rattle.std.proofs.Common.{◌≡◌, ◌++◌, ◌+◌, ◌-◌, codes}
use Rattle.fsl_gen.specs.Generated.{call, each, numbered}
use Rattle.fsl_gen.proofs.generated.push_calls.Given as goal

-- what is written, and what is left to be written, are the whole
abbrev pub invariant-loop-i : goal.invariant-loop-i
invariant-loop-i l =
    l.text ++ each (λ i. call (numbered (codes "pair") i)) (l.i + 1) (l.n - l.i) ≡ l.initial.text ++ each (λ i. call (numbered (codes "pair") i)) 1 l.n
