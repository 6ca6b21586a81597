use Rattle.fsl_lin.proofs.Coefficients.{equal_by_coefficients}
use Rattle.fsl_lin.proofs.laws.equal_by_coefficients.Goals as goal

pub returns : goal.returns
returns c = equal_by_coefficients
