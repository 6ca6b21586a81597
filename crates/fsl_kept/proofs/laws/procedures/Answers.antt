use Rattle.fsl_meaning.proofs.Owned.{all_lasts}
use Rattle.fsl_kept.proofs.Calls.{enter_fits, finish_fits, give_pre_fits, result_fits, gain_post_fits, set_result_fits}
use Rattle.fsl_kept.proofs.laws.procedures.Goals as goal

pub returns : goal.returns
returns c = record {
  enter = λ g slots h more v s q numbers n long fit asked known holds bounds. enter_fits q numbers n more long fit asked known holds bounds;
  finish = λ g slots h v s post t x fit means. finish_fits post t x fit means;
  pre = λ g slots h v s q args numbers fit all. give_pre_fits q args numbers fit all;
  result = λ g slots h v s b x fit. result_fits b x (all_lasts g h) fit;
  post = λ g slots h more v s q e xs t x n fit all result asked known holds bounds. gain_post_fits q e xs t x n more fit all result asked known holds bounds;
  set = λ g slots h v s slot t x fit result. set_result_fits slot t x fit result;
}
