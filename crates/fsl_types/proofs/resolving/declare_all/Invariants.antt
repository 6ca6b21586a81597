use Rattle.std.proofs.Common.{◌≡◌, drop}
use Rattle.fsl_types.specs.Given.{given_of}
use Rattle.fsl_types.specs.Programs.{declare_each}
use Rattle.fsl_types.proofs.resolving.declare_all.Given as goal

abbrev pub invariant-loop-tree : goal.invariant-loop-tree
invariant-loop-tree l =
    declare_each (given_of l.globals) (drop l.tree-index l.trees) l.resolved ≡ declare_each (given_of l.globals) l.trees l.fn.so_far
