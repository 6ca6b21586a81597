use Rattle.std.proofs.Common.{◌≡◌, ◌<◌, length, Err, ap, sym, ◌∙◌, arith}
use Rattle.fsl_lin.specs.declared.fault.LinFault.TheVariants.{Wide}
use Rattle.fsl_lin.specs.Combination.{Combination}
use Rattle.fsl_lin.specs.Numbers.{part, fits}
use Rattle.fsl_lin.specs.Rows.{normal}
use Rattle.fsl_lin.specs.Equations.{rows_of}
use Rattle.fsl_pure.proofs.Reversed.{unfit_at}
use Rattle.fsl_pure.proofs.Tabled.{renewed_more}
use Rattle.fsl_pure.proofs.kept.renewed.Goals as goal

pub returns-in-Err-clause-wide : goal.returns-in-Err-clause-wide
returns-in-Err-clause-wide c h =
    let f : c.in-Err.fault ≡ Wide = cc in
    let within : c.loop-bound.bound-index < length c.args.bounds.now = omega arith in
    unfit_at (normal (rows_of c.args.eqs.now)) c.args.bounds.now c.loop-bound.bound-index c.bound-item.result within c.bound-item.is
    (ap (λ (x : Combination). fits (normal (rows_of c.args.eqs.now) (part x))) (sym c.get.ensures) ∙ c.in-Err.ensures.wide (ap Err f))

pub loop-bound-preserved : goal.loop-bound-preserved
loop-bound-preserved c =
    let within : c.loop-bound.bound-index < length c.args.bounds.now = omega arith in
    renewed_more (normal (rows_of c.args.eqs.now)) c.args.bounds.now c.loop-bound.bound-index c.bound-item.result _ _ within c.bound-item.is
    (rw c.get.ensures at c.in-Ok.ensures.added) c.loop-bound.invariant
