use Rattle.fsl_derived.proofs.Examples.{examples_are_safe}
use Rattle.fsl_derived.proofs.laws.examples_are_safe.Goals as goal

pub returns : goal.returns
returns c = examples_are_safe
