use Rattle.std.proofs.Common.{◌≡◌, drop}
use Rattle.std.specs.List.{list_any}
use Rattle.fsl_mem.specs.Candidates.{overlaps}
use Rattle.fsl_mem.proofs.candidates.overlapped.Given as goal

abbrev pub invariant-loop-slot : goal.invariant-loop-slot
invariant-loop-slot l = list_any (overlaps l.gap) (drop l.slot-index l.slots) ≡ list_any (overlaps l.gap) l.slots
