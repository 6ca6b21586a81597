use Rattle.std.proofs.Common.{◌≡◌, ◌==◌, drop}
use Rattle.std.specs.List.{list_any}
use Rattle.fsl_flow.specs.Sets.{stmts_set}
use Rattle.fsl_flow.proofs.sets.+set_in.Given as goal

abbrev pub invariant-set_among-loop-stmt : goal.invariant-set_among-loop-stmt
invariant-set_among-loop-stmt l =
    list_any (λ slot. slot == l.number) (stmts_set (drop l.stmt-index l.stmts)) ≡ list_any (λ slot. slot == l.number) (stmts_set l.stmts)
