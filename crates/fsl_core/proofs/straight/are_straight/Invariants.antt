use Rattle.std.proofs.Common.{◌≡◌, drop}
use Rattle.std.specs.List.{list_all}
use Rattle.fsl_core.specs.Straight.{is_straight_act}
use Rattle.fsl_core.proofs.straight.are_straight.Given as goal

abbrev pub invariant-loop-stmt : goal.invariant-loop-stmt
invariant-loop-stmt l =
    list_all (λ stmt. is_straight_act stmt.act l.slots) (drop l.stmt-index l.body)
    ≡ list_all (λ stmt. is_straight_act stmt.act l.slots) l.body
