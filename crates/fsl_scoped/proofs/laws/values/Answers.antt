use Rattle.fsl_scoped.proofs.Exactly.{values_exact, conditions_exact, reads_exact, tests_exact}
use Rattle.fsl_scoped.proofs.laws.values.Goals as goal

pub returns : goal.returns
returns c = record { values = values_exact; conditions = conditions_exact; reads = reads_exact; tests = tests_exact }
