use Rattle.std.proofs.Common.{sym, ap, ◌∙◌}
use Rattle.std.proofs.lemmas.Result.{IfOk-weaker, on_ok_weaker}
use Rattle.fsl_lin.specs.Numbers.{fits}
use Rattle.fsl_lin.proofs.Arrays.{scaled_one}
use Rattle.fsl_lin.proofs.normal.normal_of.Goals as goal

pub returns-clause-exact : goal.returns-clause-exact
returns-clause-exact c = IfOk-weaker c.from_numbers.result _ _ (λ lin h. h ∙ scaled_one _ ∙ c.fill.ensures.value) c.from_numbers.ensures.exact

pub returns-clause-narrow : goal.returns-clause-narrow
returns-clause-narrow c = on_ok_weaker c.from_numbers.result (λ h. ap fits (sym (scaled_one _ ∙ c.fill.ensures.value)) ∙ h) c.from_numbers.ensures.narrow

pub returns-clause-wide : goal.returns-clause-wide
returns-clause-wide c h = ap fits (sym (scaled_one _ ∙ c.fill.ensures.value)) ∙ c.from_numbers.ensures.wide h
