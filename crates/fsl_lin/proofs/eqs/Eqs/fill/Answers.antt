use Rattle.fsl_lin.proofs.Few.{few_equations}
use Rattle.fsl_lin.proofs.eqs.Eqs.fill.Goals as goal

pub fill-requires-clause-few : goal.fill-requires-clause-few
fill-requires-clause-few c = rw c.as_slice.ensures.value (few_equations c.self.inside.equations.items c.self.invariant)
