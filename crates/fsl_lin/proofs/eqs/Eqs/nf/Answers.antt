use Rattle.std.proofs.Common.{◌≡◌, true, List, OnOk, subst, ◌∙◌}
use Rattle.fsl_lin.specs.declared.equation.Equation.{Equation}
use Rattle.fsl_lin.specs.Numbers.{part, fits}
use Rattle.fsl_lin.specs.Rows.{normal}
use Rattle.fsl_lin.specs.Equations.{rows_of}
use Rattle.fsl_lin.proofs.Few.{few_equations}
use Rattle.fsl_lin.proofs.Reduced.{normal_is_normal, normal_is_only}
use Rattle.fsl_lin.proofs.eqs.Eqs.nf.Goals as goal

pub normal_of-requires-clause-few : goal.normal_of-requires-clause-few
normal_of-requires-clause-few c = rw c.as_slice.ensures.value (few_equations c.self.inside.equations.items c.self.invariant)

pub returns-clause-normal : goal.returns-clause-normal
returns-clause-normal c = rw (← c.self.view_is) (normal_is_normal (rows_of c.self.inside.equations.items) (part c.args.t.now) c.self.invariant.reduced)

pub returns-clause-only : goal.returns-clause-only
returns-clause-only c =
    rw (← c.self.view_is) (λ n h. λ j i. normal_is_only (rows_of c.self.inside.equations.items) (part c.args.t.now) n c.self.invariant.reduced h i j)

pub returns-clause-narrow : goal.returns-clause-narrow
returns-clause-narrow c =
    subst (λ (es : List Equation). OnOk c.normal_of.result (fits (normal (rows_of es) (part c.args.t.now)) ≡ true))
    (c.as_slice.ensures.value ∙ c.self.view_is) c.normal_of.ensures.narrow
