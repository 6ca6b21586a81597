use Rattle.std.proofs.Common.{ap, ◌∙◌}
use Rattle.fsl_lin.specs.Equations.{rows_of}
use Rattle.fsl_lin.specs.Numbers.{part, gapped}
use Rattle.fsl_lin.specs.Rows.{normal}
use Rattle.fsl_pure.proofs.Apart.{normal_none}
use Rattle.fsl_pure.proofs.sums.write_gap.Goals as goal

pub returns-clause-value : goal.returns-clause-value
returns-clause-value c =
    let apart = gapped (part c.args.a.now) (part c.args.b.now) c.args.gap.now in
    c.difference.ensures.value ∙ ap (λ es. normal (rows_of es) apart) c.new-no_equations.ensures ∙ normal_none apart
