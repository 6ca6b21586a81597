use Rattle.std.proofs.Common.{◌≡◌, ◌++◌, drop}
use Rattle.fsl_exec_text.specs.Texts.{event_lines}
use Rattle.fsl_exec_text.proofs.events.push_events.Given as goal

-- what is written, and what is left to be written, are the whole
abbrev pub invariant-loop-number : goal.invariant-loop-number
invariant-loop-number l = l.text ++ event_lines l.number (drop l.number l.events) ≡ l.initial.text ++ event_lines 0 l.events
