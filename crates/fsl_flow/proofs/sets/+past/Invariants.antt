use Rattle.std.proofs.Common.{◌≡◌, drop}
use Rattle.fsl_core.specs.logic.Slots.{past}
use Rattle.fsl_flow.specs.Sets.{stmts_set}
use Rattle.fsl_flow.proofs.sets.+past.Given as goal

abbrev pub invariant-past_all-loop-stmt : goal.invariant-past_all-loop-stmt
invariant-past_all-loop-stmt l = past l.so_far (stmts_set (drop l.stmt-index l.stmts)) ≡ past l.declared (stmts_set l.stmts)
