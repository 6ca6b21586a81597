use Rattle.std.proofs.Common.{List, ap, sym, subst, ◌∙◌}
use Rattle.fsl_lin.specs.declared.equation.Equation.{Equation}
use Rattle.fsl_lin.specs.declared.sym.Sym.{Sym}
use Rattle.fsl_lin.specs.Numbers.{part}
use Rattle.fsl_lin.specs.Rows.{AtPivots}
use Rattle.fsl_lin.specs.Equations.{rows_of}
use Rattle.fsl_pure.specs.Nodes.{IsAmong, noted}
use Rattle.fsl_pure.proofs.Free.{noted_pivots}
use Rattle.fsl_pure.proofs.reduced.Reduced.assume.Goals as goal

pub invariant_of-self : goal.invariant_of-self
invariant_of-self c =
    subst (λ (ss : List Sym). AtPivots (IsAmong ss) (rows_of c.self.inside.eqs)) (sym c.reserve.ensures.items) c.self.invariant

pub invariant_of-self-in-Ok : goal.invariant_of-self-in-Ok
invariant_of-self-in-Ok c =
    subst (λ (ss : List Sym). AtPivots (IsAmong ss) (rows_of c.assume.new.self)) (sym (c.note.ensures ∙ ap (noted c.in-Ok.took) c.reserve.ensures.items))
    (noted_pivots c.self.inside.eqs c.assume.new.self (part c.args.t.now) c.in-Ok.took c.self.inside.pivots.items c.self.invariant
    c.in-Ok.ensures.took c.in-Ok.ensures.rows)

pub invariant_of-self-in-Err : goal.invariant_of-self-in-Err
invariant_of-self-in-Err c =
    subst (λ (ss : List Sym). AtPivots (IsAmong ss) (rows_of c.assume.new.self)) (sym c.reserve.ensures.items)
    (subst (λ (es : List Equation). AtPivots (IsAmong c.self.inside.pivots.items) (rows_of es)) (sym c.in-Err.ensures.kept) c.self.invariant)

pub returns-in-Ok-clause-took : goal.returns-in-Ok-clause-took
returns-in-Ok-clause-took c = rw (← c.self.view_is) c.in-Ok.ensures.took
