use Rattle.std.proofs.Common.{◌≡◌, map, drop}
use Rattle.fsl_types.specs.Programs.{next_parameter, with_parameters}
use Rattle.fsl_types.proofs.resolver.Resolver.more_parameters.Given as goal

abbrev pub invariant-loop-tree : goal.invariant-loop-tree
invariant-loop-tree l =
    with_parameters l.bytes (map next_parameter (drop l.tree-index l.trees)) l.self
    ≡ with_parameters l.bytes (map next_parameter l.trees) l.initial.self
