use Rattle.std.proofs.Common.{◌≡◌, ◌++◌, ◌+◌, ◌-◌}
use Rattle.fsl_core.specs.Moves.{numbers_from}
use Rattle.fsl_moves.proofs.lists.numbers.Given as goal

abbrev pub invariant-loop-thread : goal.invariant-loop-thread
invariant-loop-thread l =
    l.numbers ++ numbers_from l.thread (l.fn.children.first + l.fn.children.count - l.thread) ≡ numbers_from l.fn.children.first l.fn.children.count
