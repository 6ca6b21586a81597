use Rattle.fsl_scoped.proofs.Assertions.{assertions_seen, binders_free}
use Rattle.fsl_scoped.proofs.laws.assertions.Goals as goal

pub returns : goal.returns
returns c = record { seen = assertions_seen; binders = binders_free }
