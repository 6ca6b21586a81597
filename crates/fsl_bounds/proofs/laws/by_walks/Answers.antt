use Rattle.fsl_bounds.proofs.Least.{feasible_exactly, is_least}
use Rattle.fsl_bounds.proofs.laws.by_walks.Goals as goal

pub returns-clause-closed : goal.returns-clause-closed
returns-clause-closed c = feasible_exactly

pub returns-clause-least : goal.returns-clause-least
returns-clause-least c = is_least
