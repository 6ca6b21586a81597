use Rattle.std.proofs.Common.{refl}
use Rattle.fsl_lin.proofs.Coefficients.{plus_at, minus_at, times_at, symbol_own, symbol_other}
use Rattle.fsl_lin.proofs.laws.by_coefficient.Goals as goal

pub returns : goal.returns
returns c = record { plus = plus_at; minus = minus_at; times = times_at; constant = λ n s. refl; own = symbol_own; other = symbol_other }
