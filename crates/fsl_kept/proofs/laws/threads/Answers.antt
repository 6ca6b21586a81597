use Rattle.fsl_kept.proofs.Threads.{args_tell, starts_fit, joins_fit}
use Rattle.fsl_kept.proofs.laws.threads.Goals as goal

pub returns : goal.returns
returns c = record {
  args = λ p g slots h v s calls fit. args_tell p calls fit fit.env;
  starts = λ g slots h v s xs ps fit run. starts_fit fit run;
  joins = λ g slots h more v s xs ps rs ns fit run ensures holds bounds. joins_fit rs ns more fit run ensures holds bounds;
}
