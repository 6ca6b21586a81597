use Rattle.std.proofs.Common.{◌≡◌, length, take}
use Rattle.fsl_core.proofs.same_expr.+same_expr.Given as goal

abbrev pub invariant-same_parts-loop-i : goal.invariant-same_parts-loop-i
invariant-same_parts-loop-i l = record {
  as_long : length l.a ≡ length l.b;
  as_far : take l.i l.a ≡ take l.i l.b;
}

abbrev pub invariant-same_factors-loop-i : goal.invariant-same_factors-loop-i
invariant-same_factors-loop-i l = record {
  as_long : length l.a ≡ length l.b;
  as_far : take l.i l.a ≡ take l.i l.b;
}
