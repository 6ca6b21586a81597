use Rattle.std.proofs.Common.{◌≡◌, ◌++◌, map, take, drop}
use Rattle.fsl_chunk.specs.Numbers.{without}
use Rattle.fsl_chunk.proofs.numbers.forget_in_each.Given as goal

abbrev pub invariant-loop-at : goal.invariant-loop-at
invariant-loop-at l = l.lists.items ≡ map (without l.gone) (take l.at l.initial.lists.items) ++ drop l.at l.initial.lists.items
