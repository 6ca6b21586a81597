use Rattle.std.proofs.Common.{arith}
use Rattle.fsl_lin.specs.Numbers.{part}
use Rattle.fsl_lin.proofs.Arrays.{part_past}
use Rattle.fsl_lin.proofs.Ring.{times_zero}
use Rattle.fsl_lin.proofs.Taken.{taken_end}
use Rattle.fsl_lin.proofs.normal.take.Goals as goal

pub returns : goal.returns
returns c = taken_end c.loop-i.invariant (λ j h. times_zero c.args.k.now (part c.args.lin.now j) (part_past c.args.lin.now j (omega arith)))
