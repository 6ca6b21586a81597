use Rattle.fsl_good.proofs.Pieces.{fits_entailed, fits_possible}
use Rattle.fsl_good.proofs.Shifting.{pieces_stay}
use Rattle.fsl_good.proofs.laws.pieces.Goals as goal

pub returns : goal.returns
returns c = record { entailed = fits_entailed; possible = fits_possible; stay = pieces_stay }
