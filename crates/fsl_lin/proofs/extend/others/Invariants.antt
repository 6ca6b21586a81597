use Rattle.std.proofs.Common.{drop}
use Rattle.fsl_lin.specs.Rows.{all_normal}
use Rattle.fsl_lin.specs.Equations.{rows_of}
use Rattle.fsl_lin.proofs.MoreRows.{RowsSoFar}
use Rattle.fsl_lin.proofs.extend.others.Given as goal

abbrev pub invariant-loop-equation : goal.invariant-loop-equation
invariant-loop-equation l =
    RowsSoFar l.reduced.items (all_normal (rows_of l.new) (rows_of (drop l.equation-index l.equations))) (all_normal (rows_of l.new) (rows_of l.equations))
