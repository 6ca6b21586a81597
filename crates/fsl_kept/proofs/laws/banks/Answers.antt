use Rattle.fsl_kept.proofs.Banks.{new_bank_fits, step_fits}
use Rattle.fsl_kept.proofs.laws.banks.Goals as goal

pub returns : goal.returns
returns c = record { bank = λ g slots h more v s slot number fit empty holds. new_bank_fits slot number more fit empty holds; step = λ g slots h v s step bounds fit. step_fits step bounds fit }
