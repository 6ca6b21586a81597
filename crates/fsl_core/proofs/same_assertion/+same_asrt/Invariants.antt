use Rattle.std.proofs.Common.{◌≡◌, length, take}
use Rattle.fsl_core.proofs.same_assertion.+same_asrt.Given as goal

abbrev pub invariant-same_asrts-loop-i : goal.invariant-same_asrts-loop-i
invariant-same_asrts-loop-i l = record {
  as_long : length l.a ≡ length l.b;
  as_far : take l.i l.a ≡ take l.i l.b;
}
