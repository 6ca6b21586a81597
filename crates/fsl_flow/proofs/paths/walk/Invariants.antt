use Rattle.std.proofs.Common.{◌≡◌, ◌≤◌, true, map}
use Rattle.std.specs.List.{flat_map, list_all}
use Rattle.fsl_core.specs.Verdicts.{outcome_from}
use Rattle.fsl_flow.specs.Pending.{item_of, stack}
use Rattle.fsl_flow.specs.Paths.{item_ends, is_supported_item, total, steps}
use Rattle.fsl_flow.proofs.paths.walk.Given as goal

abbrev pub decreases-loop-top : goal.decreases-loop-top
decreases-loop-top l = total (map (steps l.job) (stack l.pending))

abbrev pub invariant-loop-top : goal.invariant-loop-top
invariant-loop-top l = record {
  few : l.count ≤ 65536;
  supported : list_all is_supported_item (stack l.pending) ≡ true;
  so_far : outcome_from l.job.number l.count (flat_map (item_ends l.job) (stack l.pending))
      ≡ outcome_from l.job.number 0 (flat_map (item_ends l.job) (map item_of l.fn.first));
}
