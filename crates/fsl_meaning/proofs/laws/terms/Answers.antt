use Rattle.fsl_meaning.proofs.Terms.{means_more, means_plus, means_minus, means_times, means_constant, means_symbol}
use Rattle.fsl_meaning.proofs.laws.terms.Goals as goal

pub returns : goal.returns
returns c = record {
  later = λ n m v w t x g h. means_more g h;
  plus = λ n v a b x y h k. means_plus h k;
  minus = λ n v a b x y h k. means_minus h k;
  times = λ n v k a x h. means_times k h;
  constant = λ n v x. means_constant x;
  symbol = λ n v s h l. means_symbol s h l;
}
