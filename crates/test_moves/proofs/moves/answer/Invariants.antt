use Rattle.std.proofs.Common.{◌≡◌, length}
use Rattle.test_moves.proofs.moves.answer.Given as goal

abbrev pub invariant-loop-child : goal.invariant-loop-child
invariant-loop-child l = length l.values ≡ l._child
