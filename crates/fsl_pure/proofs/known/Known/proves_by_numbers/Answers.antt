use Rattle.std.proofs.Common.{List, ap, ◌∙◌}
use Rattle.fsl_lin.specs.Numbers.{part, gapped}
use Rattle.fsl_lin.specs.Rows.{Row, normal}
use Rattle.fsl_lin.specs.Equations.{rows_of}
use Rattle.fsl_lin.specs.Facts.{proves_normal}
use Rattle.fsl_pure.proofs.known.Known.proves_by_numbers.Goals as goal

pub returns : goal.returns
returns c =
    let held = c.self.invariant.held in
    let numbers = c.difference.ensures.value ∙ ap (λ (rs : List Row). normal rs (gapped (part c.args.a.now) (part c.args.b.now) c.args.gap.now)) (ap rows_of c.get.ensures ∙ held.equations) in
    rw (← c.self.view_is) (c.proves.ensures ∙ (λ i. proves_normal (held.normal i) (numbers i)))
