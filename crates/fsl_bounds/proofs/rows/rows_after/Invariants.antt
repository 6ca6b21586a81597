use Rattle.fsl_bounds.proofs.Pushed.{RowsSoFar}
use Rattle.fsl_bounds.proofs.rows.rows_after.Given as goal

abbrev pub invariant-loop-u : goal.invariant-loop-u
invariant-loop-u l = RowsSoFar l.rows l.e l.many l.u l.after.items
