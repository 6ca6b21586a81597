use Rattle.std.proofs.Common.{[], ◌∷◌, Option, Some, sym, ap, ◌∙◌}
use Rattle.fsl_asrt.specs.declared.pointed.PointsTo.{PointsTo}
use Rattle.fsl_asrt.specs.Branch.{bounds}
use Rattle.fsl_asrt.specs.Pointed.{After, pointed}
use Rattle.fsl_asrt.proofs.Keeping.{ok_then}
use Rattle.fsl_core.specs.declared.verdict.Kind.TheVariants.{Term}
use Rattle.fsl_core.specs.logic.States.{fails}
use Rattle.fsl_core.specs.logic.Terms.{expr_of}
use Rattle.fsl_core.specs.logic.Producing.{pat_of}
use Rattle.fsl_core.specs.logic.Consuming.{consume_cell, points_consumed}
use Rattle.fsl_asrt.proofs.consuming.points.Goals as goal

pub returns-in-Some : goal.returns-in-Some
returns-in-Some c =
    let s = c.args.state in
    let p = c.in-Some.p in
    let rung = c.args.rung in
    let env = c.args.env in
    let after : After = λ a k w. consume_cell rung a k w env in
    let e = ap (λ (o : Option PointsTo). pointed o after s) (sym c.in-Some.is) ∙ c.in_ok-p.ensures after in
    ok_then c.consume_cell.result bounds (pointed (Some p) after s) (points_consumed (expr_of c.args.at.now) (expr_of c.args.share.now) (pat_of expr_of c.args.pat.now) c.args.mood rung env s) e c.consume_cell.ensures

pub returns-in-None : goal.returns-in-None
returns-in-None c =
    let s = c.args.state in
    let rung = c.args.rung in
    let env = c.args.env in
    let after : After = λ a k w. consume_cell rung a k w env in
    let e = ap (λ (o : Option PointsTo). pointed o after s) (sym c.in-None.is) ∙ c.in_ok-p.ensures after in
    ok_then c.failing.result bounds (fails Term ∷ []) (points_consumed (expr_of c.args.at.now) (expr_of c.args.share.now) (pat_of expr_of c.args.pat.now) c.args.mood rung env s) e c.failing.ensures
