use Rattle.std.proofs.Common.{◌≡◌, length, take}
use Rattle.fsl_core.proofs.same_act.+same_act.Given as goal

abbrev pub invariant-same_block-loop-i : goal.invariant-same_block-loop-i
invariant-same_block-loop-i l = record {
  as_long : length l.a ≡ length l.b;
  as_far : take l.i l.a ≡ take l.i l.b;
}
