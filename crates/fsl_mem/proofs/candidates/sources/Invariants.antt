use Rattle.std.proofs.Common.{◌≡◌, ◌++◌, drop}
use Rattle.fsl_mem.specs.Candidates.{readable, readable_messages}
use Rattle.fsl_mem.proofs.candidates.sources.Given as goal

abbrev pub invariant-loop-slot : goal.invariant-loop-slot
invariant-loop-slot l = l.sources ++ readable_messages l.seen (drop l.slot-index l.slots) ≡ readable l.seen l.slots
