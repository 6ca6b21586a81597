use Rattle.fsl_bounds.specs.Matrix.{IsRowAfter}
use Rattle.fsl_bounds.proofs.rows.items_after.Given as goal

abbrev pub invariant-loop-v : goal.invariant-loop-v
invariant-loop-v l = IsRowAfter l.rows l.e l.u l.v l.items.items
