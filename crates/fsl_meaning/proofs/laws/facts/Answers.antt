use Rattle.fsl_meaning.proofs.Facts.{lands_assume, lands_symbol}
use Rattle.fsl_meaning.proofs.Owned.{all_lasts}
use Rattle.fsl_meaning.proofs.laws.facts.Goals as goal

pub returns : goal.returns
returns c = record { fact = λ g slots h v s fact fit holds. lands_assume fact fit holds; symbol = λ g slots h v s x fit. lands_symbol x (all_lasts g h) fit }
