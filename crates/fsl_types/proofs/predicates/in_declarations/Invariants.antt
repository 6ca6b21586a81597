use Rattle.std.proofs.Common.{◌≡◌, drop}
use Rattle.std.specs.List.{list_any}
use Rattle.fsl_types.specs.Predicates.{in_declaration}
use Rattle.fsl_types.proofs.predicates.in_declarations.Given as goal

abbrev pub invariant-loop-tree : goal.invariant-loop-tree
invariant-loop-tree l = list_any in_declaration (drop l.tree-index l.trees) ≡ list_any in_declaration l.trees
