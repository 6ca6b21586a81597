use Rattle.std.proofs.Common.{◌≡◌, ◌-◌, length}
use Rattle.fsl_core.specs.logic.Locations.{padded}
use Rattle.fsl_access.proofs.pieces.padded.Given as goal

abbrev pub decreases-pad : goal.decreases-pad
decreases-pad l = l.slots - length l.all

abbrev pub invariant-pad : goal.invariant-pad
invariant-pad l = padded l.slots l.all ≡ padded l.slots l.fn.env
