use Rattle.std.proofs.Common.{◌≤◌}
use Rattle.fsl_moves.specs.Config.{Fits}
use Rattle.test_moves.proofs.moves.after.Given as goal

abbrev pub invariant-loop-move : goal.invariant-loop-move
invariant-loop-move l = record { fits : Fits l.p l.c; labels : l.labels ≤ l._move; updates : l.updates ≤ l._move }
