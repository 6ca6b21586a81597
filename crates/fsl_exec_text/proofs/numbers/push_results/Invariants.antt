use Rattle.std.proofs.Common.{◌≡◌, ◌++◌, drop}
use Rattle.fsl_exec_text.specs.Texts.{results}
use Rattle.fsl_exec_text.proofs.numbers.push_results.Given as goal

-- what is written, and what is left to be written, are the whole
abbrev pub invariant-loop-ended : goal.invariant-loop-ended
invariant-loop-ended l = l.text ++ results (drop l.ended-index l.listed) ≡ l.initial.text ++ results l.listed
