use Rattle.std.proofs.Common.{◌≡◌, ◌<◌, length, suc, ap, sym, Err, subst, arith}
use Rattle.fsl_lin.specs.declared.fault.LinFault.TheVariants.{Wide}
use Rattle.fsl_lin.specs.declared.equation.Equation.{Equation}
use Rattle.fsl_lin.specs.Equations.{rows_of}
use Rattle.fsl_lin.proofs.MoreRows.{all_normal_step, one_more_row, one_unfit_row, narrow_at}
use Rattle.fsl_lin.proofs.extend.others.Goals as goal

pub returns-in-Err-clause-wide : goal.returns-in-Err-clause-wide
returns-in-Err-clause-wide c h =
    let f : c.in-Err.fault ≡ Wide = cc in
    let within : c.loop-equation.equation-index < length c.args.equations.now = omega arith in
    one_unfit_row _ _ c.loop-equation.invariant
    (all_normal_step (rows_of c.args.new.now) c.args.equations.now c.loop-equation.equation-index c.equation-item.result within c.equation-item.is)
    (c.in-Err.ensures.wide (ap Err f))

pub loop-equation-preserved : goal.loop-equation-preserved
loop-equation-preserved c =
    let within : c.loop-equation.equation-index < length c.args.equations.now = omega arith in
    let small : c.equation-item.result.sym.0 < 512 =
    subst (λ (e : Equation). e.sym.0 < 512) (sym c.equation-item.is) (narrow_at c.args.equations.now c.loop-equation.equation-index c.equation-item.result within c.requires.narrow) in
    let same = c.in-Ok.ensures.exact in
    one_more_row _ _ _ _ c.loop-equation.invariant
    (all_normal_step (rows_of c.args.new.now) c.args.equations.now c.loop-equation.equation-index c.equation-item.result within c.equation-item.is)
    (λ i. record { pivot = suc c.equation-item.result.sym.0; numbers = same i })
    small c.in-Ok.ensures.kept c.in_ok-push-in-Ok.ensures.items
