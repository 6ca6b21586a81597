use Rattle.std.proofs.Common.{◌≡◌, drop, map}
use Rattle.std.specs.List.{list_any}
use Rattle.fsl_core.specs.logic.Assertions.{asrt_of}
use Rattle.fsl_flow.proofs.says.+says.Given as goal

abbrev pub decreases-says : goal.decreases-says
decreases-says l = goal.size-says l

abbrev pub invariant-loop-part : goal.invariant-loop-part
invariant-loop-part l = list_any (λ a. a.says) (map asrt_of (drop l.part-index l.part-items)) ≡ (asrt_of l.a).says
