use Rattle.std.proofs.Common.{◌≡◌, ◌<◌, ◌≤◌, ◌-◌, ℕ, length, false, get_or, slice_get}
use Rattle.fsl_core.specs.WellFormed.{proc_is_plain}
use Rattle.fsl_core.proofs.well_formed.marks_of.Given as goal

abbrev pub invariant-loop-at : goal.invariant-loop-at
invariant-loop-at l = record {
  size : length l.marks ≡ 4096;
  within : l.at ≤ length l.procs;
  marked : (k : ℕ) → k < l.at → get_or l.marks k false ≡ proc_is_plain l.invs (slice_get l.procs k);
}

abbrev pub decreases-loop-at : goal.decreases-loop-at
decreases-loop-at l = length l.procs - l.at
