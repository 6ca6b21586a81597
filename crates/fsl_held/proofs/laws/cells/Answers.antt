use Rattle.fsl_held.proofs.Cells.{cell_is_taken, cell_is_read}
use Rattle.fsl_held.proofs.laws.cells.Goals as goal

pub returns : goal.returns
returns c = record { taken = cell_is_taken; read = cell_is_read }
