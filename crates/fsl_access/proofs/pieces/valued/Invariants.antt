use Rattle.std.proofs.Common.{◌≡◌, take}
use Rattle.fsl_access.proofs.pieces.valued.Given as goal

abbrev pub invariant-loop-arg : goal.invariant-loop-arg
invariant-loop-arg l = l.env ≡ take l.arg-index l.args
