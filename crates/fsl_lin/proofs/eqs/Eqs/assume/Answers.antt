use Rattle.std.proofs.Common.{◌≡◌, List, true, ap, subst, ◌∙◌}
use Rattle.fsl_lin.specs.declared.equation.Equation.{Equation}
use Rattle.fsl_lin.specs.Numbers.{part}
use Rattle.fsl_lin.specs.Rows.{assumed, rows_fit, took}
use Rattle.fsl_lin.specs.Equations.{rows_of}
use Rattle.fsl_lin.specs.Step.{IsStep}
use Rattle.fsl_lin.proofs.Pivots.{rows_kept_fit}
use Rattle.fsl_lin.proofs.eqs.Eqs.assume.Goals as goal

pub returns-in-Ok-More-clause-fit : goal.returns-in-Ok-More-clause-fit
returns-in-Ok-More-clause-fit c =
    let step = subst (IsStep c.as_slice.result.now (part c.args.t.now)) c.in-Ok-More.field-0-is c.in-Ok-More.ensures.exact in
    rows_kept_fit c.in-Ok-More.equations.items step.kept.narrow

pub returns-in-Ok-Same-clause-took : goal.returns-in-Ok-Same-clause-took
returns-in-Ok-Same-clause-took c =
    let step = subst (IsStep c.as_slice.result.now (part c.args.t.now)) c.in-Ok-Same.field-0-is c.in-Ok-Same.ensures.exact in
    step.took ∙ ap (λ (es : List Equation). took (rows_of es) (part c.args.t.now)) (c.as_slice.ensures.value ∙ c.self.view_is)

pub returns-in-Ok-Same-clause-rows : goal.returns-in-Ok-Same-clause-rows
returns-in-Ok-Same-clause-rows c =
    let step = subst (IsStep c.as_slice.result.now (part c.args.t.now)) c.in-Ok-Same.field-0-is c.in-Ok-Same.ensures.exact in
    subst (λ (es : List Equation). rows_of es ≡ assumed (rows_of es) (part c.args.t.now)) (c.as_slice.ensures.value ∙ c.self.view_is) step.rows

pub returns-in-Ok-Same-clause-fit : goal.returns-in-Ok-Same-clause-fit
returns-in-Ok-Same-clause-fit c =
    subst (λ (es : List Equation). rows_fit (rows_of es) ≡ true) c.self.view_is (rows_kept_fit c.self.inside.equations.items c.self.invariant.narrow)

pub returns-in-Err-clause-fit : goal.returns-in-Err-clause-fit
returns-in-Err-clause-fit c =
    subst (λ (es : List Equation). rows_fit (rows_of es) ≡ true) c.self.view_is (rows_kept_fit c.self.inside.equations.items c.self.invariant.narrow)
