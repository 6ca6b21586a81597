use Rattle.fsl_meaning.proofs.Solver.{solver_is_sound}
use Rattle.fsl_meaning.proofs.laws.solver.Goals as goal

pub returns : goal.returns
returns c = solver_is_sound
