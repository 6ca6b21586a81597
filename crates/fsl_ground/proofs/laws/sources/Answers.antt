use Rattle.fsl_ground.proofs.Sources.{init_is_read, update_takes, read_free}
use Rattle.fsl_ground.proofs.laws.sources.Goals as goal

pub returns : goal.returns
returns c = record { read = init_is_read; takes = update_takes; free = read_free }
