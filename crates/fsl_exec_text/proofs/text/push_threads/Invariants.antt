use Rattle.std.proofs.Common.{◌≡◌, ◌++◌, drop}
use Rattle.fsl_exec_text.specs.Texts.{thread_lines}
use Rattle.fsl_exec_text.proofs.text.push_threads.Given as goal

-- what is written, and what is left to be written, are the whole
abbrev pub invariant-loop-number : goal.invariant-loop-number
invariant-loop-number l = l.text ++ thread_lines l.number (drop l.number l.threads) ≡ l.initial.text ++ thread_lines 0 l.threads
