use Rattle.std.proofs.Common.{◌≡◌, replicate, []}
use Rattle.fsl_chunk.proofs.numbers.Numbers.new.Given as goal

abbrev pub invariant-loop-list : goal.invariant-loop-list
invariant-loop-list l = l.lists.items ≡ replicate l._list []
