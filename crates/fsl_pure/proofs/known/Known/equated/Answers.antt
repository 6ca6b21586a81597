use Rattle.std.proofs.Common.{◌≡◌, List, Err, ap, ◌∙◌}
use Rattle.fsl_lin.specs.declared.equation.Equation.{Equation}
use Rattle.fsl_lin.specs.declared.fault.LinFault.TheVariants.{Wide}
use Rattle.fsl_lin.specs.Numbers.{part}
use Rattle.fsl_lin.specs.Rows.{took, assumed}
use Rattle.fsl_lin.specs.Equations.{rows_of}
use Rattle.fsl_pure.proofs.Held.{held_equation, unfit_equation}
use Rattle.fsl_pure.proofs.known.Known.equated.Goals as goal

pub returns-in-Ok-kept_after-clause-exact : goal.returns-in-Ok-kept_after-clause-exact
returns-in-Ok-kept_after-clause-exact c =
    let became = c.in-Ok.ensures.took ∙ ap (λ (es : List Equation). took (rows_of es) (part c.args.t.now)) c.in_ok-eqs.ensures in
    let after = c.in-Ok.ensures.rows ∙ ap (λ (es : List Equation). assumed (rows_of es) (part c.args.t.now)) c.in_ok-eqs.ensures in
    rw (← c.self.view_is)
    (held_equation _ c.args.t.now _ _ _ _ _ _ _ c.self.invariant.held became after c.in-Ok.ensures.fit (rw c.get.ensures at c.in-Ok-kept_after.ensures.exact) c.fit.ensures
    c.refuted_by.ensures)

pub returns-in-Err-kept_after-clause-wide : goal.returns-in-Err-kept_after-clause-wide
returns-in-Err-kept_after-clause-wide c h =
    let f : c.in-Err-kept_after.fault ≡ Wide = cc in
    let became = c.in-Ok.ensures.took ∙ ap (λ (es : List Equation). took (rows_of es) (part c.args.t.now)) c.in_ok-eqs.ensures in
    let after = c.in-Ok.ensures.rows ∙ ap (λ (es : List Equation). assumed (rows_of es) (part c.args.t.now)) c.in_ok-eqs.ensures in
    rw (← c.self.view_is)
    (unfit_equation _ c.args.t.now _ _ _ _ _ c.self.invariant.held became after (rw c.get.ensures at c.in-Err-kept_after.ensures.wide (ap Err f)))
