use Rattle.std.proofs.Common.{ap, sym, ◌∙◌}
use Rattle.fsl_lin.specs.Numbers.{fits}
use Rattle.fsl_pure.proofs.kept.Kept.add_term.Goals as goal

pub returns-clause-wide : goal.returns-clause-wide
returns-clause-wide c h = ap fits (sym c.fill.ensures.value) ∙ c.add.ensures.wide h
