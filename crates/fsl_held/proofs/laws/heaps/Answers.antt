use Rattle.fsl_held.proofs.Bounded.{heap_is_bounded}
use Rattle.fsl_held.proofs.laws.heaps.Goals as goal

pub returns : goal.returns
returns c = heap_is_bounded
