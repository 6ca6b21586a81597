use Rattle.std.proofs.Common.{◌≡◌, drop}
use Rattle.fsl_mem.specs.Candidates.{room_after}
use Rattle.fsl_mem.proofs.candidates.after.Given as goal

abbrev pub invariant-loop-slot : goal.invariant-loop-slot
invariant-loop-slot l = room_after l.low (drop l.slot-index l.slots) ≡ room_after l.low l.slots
