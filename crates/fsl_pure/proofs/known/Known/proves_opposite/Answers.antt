use Rattle.std.proofs.Common.{◌∙◌}
use Rattle.fsl_lin.specs.Facts.{proves_normal}
use Rattle.fsl_pure.proofs.known.Known.proves_opposite.Goals as goal

pub returns : goal.returns
returns c =
    let held = c.self.invariant.held in
    rw (← c.self.view_is) (c.proves.ensures ∙ (λ i. proves_normal (held.normal i) (c.negate.ensures.value i)))
