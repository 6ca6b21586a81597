use Rattle.std.proofs.Common.{sym, ◌∙◌}
use Rattle.fsl_lin.specs.Numbers.{part, gapped}
use Rattle.fsl_pure.proofs.Linear.{normal_gapped}
use Rattle.fsl_pure.proofs.sums.difference.Goals as goal

pub returns-clause-value : goal.returns-clause-value
returns-clause-value c =
    c.subtract.ensures.value ∙ (λ i. gapped (c.fill-2.ensures.value i) (c.fill.ensures.value i) c.args.gap.now)
    ∙ sym (normal_gapped c.args.eqs.now (part c.args.a.now) (part c.args.b.now) c.args.gap.now)
