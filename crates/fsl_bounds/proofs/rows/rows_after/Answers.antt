use Rattle.fsl_bounds.proofs.Pushed.{rows_pushed}
use Rattle.fsl_bounds.proofs.rows.rows_after.Goals as goal

pub loop-u-preserved : goal.loop-u-preserved
loop-u-preserved c = rows_pushed _ _ _ _ _ _ _ c.loop-u.invariant c.in_ok-row_after.ensures c.in_ok-push.ensures.items
