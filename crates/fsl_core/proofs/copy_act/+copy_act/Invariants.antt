use Rattle.std.proofs.Common.{◌≡◌, take}
use Rattle.fsl_core.proofs.copy_act.+copy_act.Given as goal

abbrev pub invariant-copy_block-loop-stmt : goal.invariant-copy_block-loop-stmt
invariant-copy_block-loop-stmt l = l.copies ≡ take l.stmt-index l.stmts
