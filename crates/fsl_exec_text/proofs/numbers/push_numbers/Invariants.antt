use Rattle.std.proofs.Common.{◌≡◌, ◌++◌, drop}
use Rattle.fsl_exec_text.specs.Texts.{numbers}
use Rattle.fsl_exec_text.proofs.numbers.push_numbers.Given as goal

-- what is written, and what is left to be written, are the whole
abbrev pub invariant-loop-number : goal.invariant-loop-number
invariant-loop-number l = l.text ++ numbers (drop l.number-index l.listed) ≡ l.initial.text ++ numbers l.listed
