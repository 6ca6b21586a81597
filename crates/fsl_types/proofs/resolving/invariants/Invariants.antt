use Rattle.std.proofs.Common.{◌≡◌, drop}
use Rattle.fsl_types.specs.Programs.{list_each, listed_invariant}
use Rattle.fsl_types.proofs.resolving.invariants.Given as goal

abbrev pub invariant-loop-tree : goal.invariant-loop-tree
invariant-loop-tree l =
    list_each (listed_invariant l.bytes) (drop l.tree-index l.trees) l.listing ≡ list_each (listed_invariant l.bytes) l.trees l.initial.listing
