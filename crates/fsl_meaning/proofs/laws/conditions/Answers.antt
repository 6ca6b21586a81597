use Rattle.fsl_meaning.proofs.Deciding.{lands_decided, lands_assume_cond, tells_demand_cond}
use Rattle.fsl_meaning.proofs.laws.conditions.Goals as goal

pub returns : goal.returns
returns c = record {
  decision = λ g slots h v s env xs cond f j fit all. lands_decided cond f j fit all;
  assumed = λ g slots h v s env xs cond f j fit all. lands_assume_cond cond f j fit all;
  demand = λ g slots h v s env xs why cond f j fit all. tells_demand_cond why cond f j fit all;
}
