use Rattle.std.proofs.Common.{◌≡◌, ◌++◌, length, map}
use Rattle.fsl_flow.specs.Pending.{item_of, stack}
use Rattle.fsl_flow.proofs.paths.lay.Given as goal

abbrev pub decreases-loop-last : goal.decreases-loop-last
decreases-loop-last l = length l.more

abbrev pub invariant-loop-last : goal.invariant-loop-last
invariant-loop-last l = map item_of l.more ++ stack l.pending ≡ map item_of l.fn.more ++ stack l.initial.pending
