use Rattle.fsl_run.proofs.Causes.{has_one_end}
use Rattle.fsl_run.proofs.Standing.{stands_in_one_way}
use Rattle.fsl_run.proofs.laws.one_end.Goals as goal

pub returns : goal.returns
returns c = record { stands = stands_in_one_way; ends = has_one_end }
