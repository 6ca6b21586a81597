use Rattle.std.proofs.Common.{length}
use Rattle.fsl_asrt.proofs.deciding.+each_side.Given as goal

abbrev pub decreases-each_side : goal.decreases-each_side
decreases-each_side l = length l.sides.now
