use Rattle.std.proofs.Common.{List, sym, subst}
use Rattle.fsl_lin.specs.declared.equation.Equation.{Equation}
use Rattle.fsl_lin.specs.declared.sym.Sym.{Sym}
use Rattle.fsl_lin.specs.Rows.{AtPivots}
use Rattle.fsl_lin.specs.Equations.{rows_of}
use Rattle.fsl_pure.specs.Nodes.{IsAmong}
use Rattle.fsl_pure.proofs.reduced.ReducedTryClone.try_clone.Goals as goal

pub invariant_of-result : goal.invariant_of-result
invariant_of-result c =
    let pivots = rw c.as_slice.ensures.value at c.in_ok-from_slice.ensures.items in
    subst (λ (ss : List Sym). AtPivots (IsAmong ss) (rows_of c.in_ok-try_clone.field-0)) (sym pivots)
    (subst (λ (es : List Equation). AtPivots (IsAmong c.self.inside.pivots.items) (rows_of es)) (sym c.in_ok-try_clone.ensures) c.self.invariant)
