use Rattle.fsl_own.proofs.Knowing.{known_before, own_event_known, known_races_not, known_is_done}
use Rattle.fsl_own.proofs.laws.known_before.Goals as goal

pub returns : goal.returns
returns c = record { known = known_before; own = own_event_known; race = known_races_not; done = known_is_done }
