use Rattle.fsl_passed.proofs.Parts.{parts_passed}
use Rattle.fsl_passed.proofs.Passes.{pass_fits}
use Rattle.fsl_passed.proofs.laws.passing.Goals as goal

pub returns : goal.returns
returns c = record { asrt = pass_fits; parts = λ g second past message thread slots v s xs ps held fit are owns is_held. parts_passed second past message held fit are owns is_held }
