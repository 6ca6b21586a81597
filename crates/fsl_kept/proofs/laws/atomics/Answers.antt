use Rattle.fsl_kept.proofs.Atomics.{atomic_alloc_fits, atomic_store_fits}
use Rattle.fsl_kept.proofs.Gaining.{atomic_load_fits}
use Rattle.fsl_kept.proofs.laws.atomics.Goals as goal

pub returns : goal.returns
returns c = record {
  alloc = λ p g slots h more v s slot rmw inst loc fit l writes may fresh holds. atomic_alloc_fits p slot rmw inst loc more fit l writes may fresh holds;
  store = λ p g later slots h v s m at e more agrees init fit. atomic_store_fits p later m at e more agrees init fit;
  load = λ p g slots h more v s inv xs slot m at y os has ready within bounds fit. atomic_load_fits p slot m at y os more has ready within bounds fit;
}
