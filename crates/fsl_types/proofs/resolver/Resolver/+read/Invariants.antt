use Rattle.std.proofs.Common.{◌≡◌, ◌++◌, map, drop}
use Rattle.fsl_types.specs.Assertions.{conjunct, each}
use Rattle.fsl_types.specs.Given.{given_of}
use Rattle.fsl_types.proofs.resolver.Resolver.+read.Given as goal

abbrev pub invariant-conjuncts-loop-tree : goal.invariant-conjuncts-loop-tree
invariant-conjuncts-loop-tree l = record {
  made : l.list ++ (each (map (conjunct (given_of l.globals)) (drop l.tree-index l.trees)) l.setting l.self).made
      ≡ (each (map (conjunct (given_of l.globals)) l.trees) l.setting l.initial.self).made;
  resolver : (each (map (conjunct (given_of l.globals)) (drop l.tree-index l.trees)) l.setting l.self).resolver
      ≡ (each (map (conjunct (given_of l.globals)) l.trees) l.setting l.initial.self).resolver;
}
