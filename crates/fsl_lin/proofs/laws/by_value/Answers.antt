use Rattle.fsl_lin.proofs.Values.{value_of_plus, value_of_minus, value_of_times, value_of_constant, value_of_symbol}
use Rattle.fsl_lin.proofs.laws.by_value.Goals as goal

pub returns : goal.returns
returns c = record { plus = value_of_plus; minus = value_of_minus; times = value_of_times; constant = value_of_constant; symbol = value_of_symbol }
