use Rattle.fsl_scoped.proofs.Arguments.{arguments_exact, starts_seen}
use Rattle.fsl_scoped.proofs.laws.arguments.Goals as goal

pub returns : goal.returns
returns c = record { exact = arguments_exact; starts = starts_seen }
