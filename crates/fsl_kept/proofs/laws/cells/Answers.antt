use Rattle.fsl_kept.proofs.Locals.{alloc_fits, load_fits, store_fits, free_fits}
use Rattle.fsl_kept.proofs.laws.cells.Goals as goal

pub returns : goal.returns
returns c = record {
  alloc = λ g slots h more v s slot loc fit l holds. alloc_fits slot loc more fit l holds;
  load = λ g slots h v s slot at fit. load_fits slot at fit;
  store = λ g slots h v s at e bounds fit. store_fits at e bounds fit;
  free = λ g slots h v s at fit. free_fits at fit;
}
