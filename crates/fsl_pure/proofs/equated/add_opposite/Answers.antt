use Rattle.std.proofs.Common.{ap, sym, ◌∙◌}
use Rattle.fsl_lin.specs.Numbers.{opposite, fits}
use Rattle.fsl_pure.proofs.equated.add_opposite.Goals as goal

pub returns-clause-wide : goal.returns-clause-wide
returns-clause-wide c h = ap fits (sym (c.negate.ensures.value ∙ ap opposite c.fill.ensures.value)) ∙ c.add.ensures.wide h
