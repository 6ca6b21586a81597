use Rattle.std.proofs.Common.{◌≡◌, ◌++◌, drop}
use Rattle.fsl_types.specs.Given.{given_of}
use Rattle.fsl_types.specs.Programs.{parts}
use Rattle.fsl_types.proofs.resolver.Resolver.more_parts.Given as goal

abbrev pub invariant-loop-tree : goal.invariant-loop-tree
invariant-loop-tree l = record {
  made : l.list ++ (parts (given_of l.globals) l.before (drop l.tree-index l.trees) l.self).made
      ≡ l.fn.so_far ++ (parts (given_of l.globals) 1 l.trees l.initial.self).made;
  resolver : (parts (given_of l.globals) l.before (drop l.tree-index l.trees) l.self).resolver
      ≡ (parts (given_of l.globals) 1 l.trees l.initial.self).resolver;
}
