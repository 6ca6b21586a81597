use Rattle.fsl_own.proofs.Reading.{known_is_read, known_is_overwritten}
use Rattle.fsl_own.proofs.laws.reading.Goals as goal

pub returns : goal.returns
returns c = record { read = known_is_read; write = known_is_overwritten }
