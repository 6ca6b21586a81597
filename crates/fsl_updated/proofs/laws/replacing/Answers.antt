use Rattle.fsl_updated.proofs.Finding.{leaves_tell}
use Rattle.fsl_updated.proofs.Replacing.{replace_fits}
use Rattle.fsl_updated.proofs.laws.replacing.Goals as goal

pub returns : goal.returns
returns c = record {
  leaves = λ g slots h v s a loc fit a_is. leaves_tell a fit a_is;
  replace = λ p g read slots h more v s m steps l o new inv args x y leaves o_is new_is reads fit. replace_fits p read m steps l o new more leaves o_is new_is reads fit;
}
