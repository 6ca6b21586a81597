-- An assertion that is produced or consumed, as the way says.
use Rattle.std.specs.Prelude.{ℕ, List, map}
use Rattle.fsl_asrt.specs.declared.walk.Way.{Way}
use Rattle.fsl_asrt.specs.declared.walk.Way.TheVariants.{Produce, Consume}
use Rattle.fsl_core.specs.declared.mode.Rung.{Rung}
use Rattle.fsl_core.specs.logic.States.{Env, Rule}
use Rattle.fsl_core.specs.logic.Terms.{Expression}
use Rattle.fsl_core.specs.logic.Deciding.{Condition}
use Rattle.fsl_core.specs.logic.Producing.{Pattern, Instance, fact_produced, points_produced, init_produced, rel_produced, acq_produced, rmw_produced, tok_produced, auth_produced, all_produced}
use Rattle.fsl_core.specs.logic.Consuming.{fact_consumed, points_consumed, init_consumed, rel_consumed, acq_consumed, rmw_consumed, tok_consumed, auth_consumed, all_consumed}
use Rattle.fsl_core.specs.logic.Assertions.{Assertion}

abbrev pub Walk : Type 0
Walk = Rung → Env → Rule Env

abbrev pub by_way : Way → Assertion → Walk
by_way Produce a = a.produce
by_way (Consume mood) a = a.consume mood

abbrev pub all_by : Way → List Assertion → Walk
all_by Produce parts = all_produced (map (λ a. a.produce) parts)
all_by (Consume mood) parts = all_consumed (map (λ a. a.consume) parts) mood

abbrev pub fact_by : Way → Condition → Walk
fact_by Produce cond = fact_produced cond
fact_by (Consume mood) cond = fact_consumed cond mood

abbrev pub points_by : Way → Expression → Expression → Pattern → Walk
points_by Produce at share pat = points_produced at share pat
points_by (Consume mood) at share pat = points_consumed at share pat mood

abbrev pub init_by : Way → Expression → Walk
init_by Produce at = init_produced at
init_by (Consume mood) at = init_consumed at mood

abbrev pub rel_by : Way → Expression → Instance → Walk
rel_by Produce at inst = rel_produced at inst
rel_by (Consume mood) at inst = rel_consumed at inst mood

abbrev pub acq_by : Way → Expression → Instance → ℕ → List Expression → Walk
acq_by Produce at inst part out = acq_produced at inst part out
acq_by (Consume mood) at inst part out = acq_consumed at inst part out mood

abbrev pub rmw_by : Way → Expression → Instance → Walk
rmw_by Produce at inst = rmw_produced at inst
rmw_by (Consume mood) at inst = rmw_consumed at inst mood

abbrev pub tok_by : Way → ℕ → Expression → Walk
tok_by Produce bank n = tok_produced bank n
tok_by (Consume mood) bank n = tok_consumed bank n mood

abbrev pub auth_by : Way → ℕ → Expression → Walk
auth_by Produce bank n = auth_produced bank n
auth_by (Consume mood) bank n = auth_consumed bank n mood
