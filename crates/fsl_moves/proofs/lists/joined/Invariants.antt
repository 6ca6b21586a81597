use Rattle.std.proofs.Common.{◌≡◌, ◌++◌, ◌+◌, drop}
use Rattle.fsl_core.specs.Moves.{joined_from}
use Rattle.fsl_moves.proofs.lists.joined.Given as goal

abbrev pub invariant-loop-value : goal.invariant-loop-value
invariant-loop-value l = record {
  number : l.thread ≡ l.first + l.value-index;
  whole : l.ended ++ joined_from l.thread (drop l.value-index l.values) ≡ joined_from l.first l.values;
}
