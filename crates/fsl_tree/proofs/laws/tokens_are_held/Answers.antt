use Rattle.fsl_tree.proofs.Held.{tokens_are_held}
use Rattle.fsl_tree.proofs.laws.tokens_are_held.Goals as goal

pub returns : goal.returns
returns c = tokens_are_held
