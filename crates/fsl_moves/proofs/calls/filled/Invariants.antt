use Rattle.std.proofs.Common.{◌≡◌, ◌≤◌, ◌++◌, ◌-◌, length, replicate, pos}
use Rattle.fsl_moves.proofs.calls.filled.Given as goal

abbrev pub invariant-loop-slot : goal.invariant-loop-slot
invariant-loop-slot l = record {
  env : l.env ≡ l.fn.args ++ replicate (l._slot - length l.fn.args) (pos 0);
  within : l._slot - length l.fn.args ≤ l.slots - length l.fn.args;
}
