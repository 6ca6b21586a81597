use Rattle.std.proofs.Common.{◌≡◌, Bool, drop, map}
use Rattle.std.specs.List.{list_all}
use Rattle.fsl_core.specs.Scopes.{reads, reads_step, part_reads_step}
use Rattle.fsl_core.specs.declared.expr.Expr.TheFolds.{fold-Part}
use Rattle.fsl_core.proofs.scope.Scope.+reads.Given as goal

abbrev pub invariant-loop-part : goal.invariant-loop-part
invariant-loop-part l =
    list_all (λ part. part) (map (fold-Part Bool Bool (reads_step l.self) part_reads_step) (drop l.part-index l.part-items))
    ≡ reads l.self l.e

abbrev pub invariant-loop-factor : goal.invariant-loop-factor
invariant-loop-factor l =
    list_all (λ factor. factor) (map (reads l.self) (drop l.factor-index l.factor-items)) ≡ reads l.self l.e
