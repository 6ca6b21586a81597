use Rattle.std.proofs.Common.{◌≡◌, ◌≤◌, ◌^◌, ◌++◌, drop}
use Rattle.fsl_mem.specs.Candidates.{places, places_above}
use Rattle.fsl_mem.proofs.candidates.gaps.Given as goal

abbrev pub invariant-loop-slot : goal.invariant-loop-slot
invariant-loop-slot l = record {
  so_far : l.gaps ++ places_above l.low l.seen (drop l.slot-index l.slots) ≡ places l.seen l.slots;
  bounded : l.low ≤ 2 ^ 63;
}
