use Rattle.std.proofs.Common.{ℕ, ◌<◌, ◌≤◌, ◌^◌, slice_index_or}
use Rattle.fsl_mem.specs.declared.slots.Slot.{Slot}
use Rattle.fsl_mem.proofs.candidates.bounded.Given as goal

abbrev pub invariant-loop-slot : goal.invariant-loop-slot
invariant-loop-slot l = (k : ℕ) (d : Slot) → k < l.slot-index → (slice_index_or l.slots k d).gap.to ≤ 2 ^ 63
