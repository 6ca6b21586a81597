use Rattle.fsl_bounds.proofs.Pushed.{row_pushed}
use Rattle.fsl_bounds.proofs.rows.items_after.Goals as goal

pub loop-v-preserved : goal.loop-v-preserved
loop-v-preserved c = row_pushed _ _ _ _ _ _ _ c.loop-v.invariant c.entry_after.ensures c.in_ok-push.ensures.items
