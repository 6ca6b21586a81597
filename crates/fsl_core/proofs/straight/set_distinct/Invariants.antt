use Rattle.std.proofs.Common.{◌≡◌, ◌<◌, ◌≤◌, ℕ, ◌==◌, length, true, false, drop, get_or}
use Rattle.std.specs.List.{list_any, filter_map}
use Rattle.fsl_core.specs.Straight.{slot_set, are_distinct}
use Rattle.fsl_core.proofs.straight.set_distinct.Given as goal

abbrev pub invariant-loop-left : goal.invariant-loop-left
invariant-loop-left l = record {
  within : l.left ≤ length l.body;
  size : length l.marks ≡ 256;
  so_far : are_distinct (filter_map slot_set (drop l.left l.body)) ≡ true;
  marked : (k : ℕ) → k < 256 → get_or l.marks k false ≡ list_any (λ m. k == m) (filter_map slot_set (drop l.left l.body));
}

abbrev pub decreases-loop-left : goal.decreases-loop-left
decreases-loop-left l = l.left
