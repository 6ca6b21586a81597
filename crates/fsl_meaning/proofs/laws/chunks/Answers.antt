use Rattle.fsl_meaning.proofs.Joining.{lands_chunk, lands_chunks}
use Rattle.fsl_meaning.proofs.Kept.{fits_kept}
use Rattle.fsl_meaning.proofs.laws.chunks.Goals as goal

pub returns : goal.returns
returns c = record {
  joins = λ g slots h mine more v s chunk fit stands holds bounds. lands_chunk chunk mine more fit stands holds bounds;
  all = λ g slots h part more v s cs fit each holds bounds. lands_chunks g cs part h more fit each holds bounds;
  kept = λ g later slots h v s more agrees fit. fits_kept later more agrees fit;
}
