use Rattle.std.proofs.Common.{◌≡◌, ℕ, suc, ◌-◌, false, List, sym, subst, ◌∙◌, arith}
use Rattle.std.proofs.lemmas.Bool.{eqb-true, not-true}
use Rattle.fsl_lin.specs.declared.equation.Equation.{Equation}
use Rattle.fsl_lin.specs.Rows.{AtPivots}
use Rattle.fsl_lin.specs.Equations.{rows_of}
use Rattle.fsl_pure.specs.Nodes.{IsFree, among}
use Rattle.fsl_pure.proofs.Free.{all_free_zero, all_free}
use Rattle.fsl_pure.proofs.reduced.Reduced.is_free.Goals as goal

pub returns-then-node-eq0 : goal.returns-then-node-eq0
returns-then-node-eq0 c h =
    let zero : c.args.node ≡ 0 = eqb-true c.args.node 0 h in
    subst (λ (es : List Equation). AtPivots (IsFree c.args.node) (rows_of es)) c.self.view_is
    (subst (λ (x : ℕ). AtPivots (IsFree x) (rows_of c.self.inside.eqs)) (sym zero)
    (all_free_zero c.self.inside.pivots.items (rows_of c.self.inside.eqs) c.self.invariant))

pub returns-else-node-eq0 : goal.returns-else-node-eq0
returns-else-node-eq0 c h =
    let some : c.args.node ≡ 0 → ⊥ = c.if-node-eq0.false in
    let next : suc (c.args.node - 1) ≡ c.args.node = omega arith in
    let not_there : among (c.args.node - 1) c.self.inside.pivots.items ≡ false =
    sym (rw c.as_slice.ensures.value at c.among.ensures) ∙ not-true c.among.result h in
    subst (λ (es : List Equation). AtPivots (IsFree c.args.node) (rows_of es)) c.self.view_is
    (subst (λ (x : ℕ). AtPivots (IsFree x) (rows_of c.self.inside.eqs)) next
    (all_free c.self.inside.pivots.items (rows_of c.self.inside.eqs) (c.args.node - 1) not_there c.self.invariant))
