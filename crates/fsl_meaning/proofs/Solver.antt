-- The definitions of proving are sound.
use Rattle.std.proofs.Common.{suc}
use Rattle.fsl_lin.specs.Facts.{rows}
use Rattle.fsl_lin.specs.Numbers.{most}
use Rattle.fsl_lin.specs.Solver.{IsSound}
use Rattle.fsl_pure.proofs.Follows.{le_follows, eq_follows, absurd_follows}
use Rattle.fsl_pure.proofs.Sound.{value_normal, rows_hold, constant_value}

pub solver_is_sound : IsSound
solver_is_sound = record {
  at_most = le_follows;
  equal = eq_follows;
  none = absurd_follows;
  same = λ fs t v one all. value_normal (suc most) v (rows fs) t (rows_hold v fs all);
  constant = constant_value;
}
