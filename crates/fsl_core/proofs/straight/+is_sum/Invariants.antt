use Rattle.std.proofs.Common.{◌≡◌, drop, map}
use Rattle.std.specs.List.{list_all}
use Rattle.fsl_core.specs.Straight.{is_sum, sum_step, Test}
use Rattle.fsl_core.specs.declared.expr.Expr.TheFolds.{fold-Part}
use Rattle.fsl_core.proofs.straight.+is_sum.Given as goal

abbrev pub invariant-loop-part : goal.invariant-loop-part
invariant-loop-part l =
    list_all (λ part. part l.slots) (map (fold-Part Test Test sum_step (λ part. part.e)) (drop l.part-index l.part-items))
    ≡ is_sum l.e l.slots
