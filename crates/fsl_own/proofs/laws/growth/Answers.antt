use Rattle.fsl_own.proofs.Knowing.{positions_grow, messages_stay}
use Rattle.fsl_own.proofs.laws.growth.Goals as goal

pub returns : goal.returns
returns c = record { grow = positions_grow; stay = messages_stay }
