use Rattle.fsl_asserted.proofs.Trees.{produce_fits, consume_fits}
use Rattle.fsl_asserted.proofs.laws.assertions.Goals as goal

pub returns : goal.returns
returns c = record { produced = produce_fits; consumed = consume_fits }
