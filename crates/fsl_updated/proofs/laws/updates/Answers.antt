use Rattle.fsl_updated.proofs.Updates.{exchange_tells, exchange_fits, add_tells, add_fits, cas_tells, cas_fits}
use Rattle.fsl_updated.proofs.laws.updates.Goals as goal

pub returns : goal.returns
returns c = record {
  exchange_tells = λ g slots h v s p slot m at e steps fit. exchange_tells p slot m at e steps fit;
  exchange = λ p g read slots h more v s slot m at e steps inv args x dealt reads fit. exchange_fits p read slot m at e steps x more dealt reads fit;
  add_tells = λ g slots h v s p slot m at e steps fit. add_tells p slot m at e steps fit;
  add = λ p g read slots h more v s slot m at e steps inv args x y dealt range reads fit. add_fits p read slot m at e steps x y more dealt range reads fit;
  cas_tells = λ g slots h v s p slot m at old new steps fit. cas_tells p slot m at old new steps fit;
  cas = λ p g read slots h more v s slot m at old new steps inv args x dealt reads fit. cas_fits p read slot m at old new steps x more dealt reads fit;
}
