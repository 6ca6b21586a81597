use Rattle.fsl_history.proofs.BoundsLemmas.{views_bound_positions}
use Rattle.fsl_history.proofs.laws.views_bound_positions.Goals as goal

pub returns : goal.returns
returns c = views_bound_positions
