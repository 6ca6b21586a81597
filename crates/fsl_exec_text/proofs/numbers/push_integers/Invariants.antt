use Rattle.std.proofs.Common.{◌≡◌, ◌++◌, drop}
use Rattle.fsl_exec_text.specs.Texts.{integers}
use Rattle.fsl_exec_text.proofs.numbers.push_integers.Given as goal

-- what is written, and what is left to be written, are the whole
abbrev pub invariant-loop-value : goal.invariant-loop-value
invariant-loop-value l = l.text ++ integers (drop l.value-index l.values) ≡ l.initial.text ++ integers l.values
