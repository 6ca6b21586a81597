use Rattle.std.proofs.Common.{◌≡◌, ◌++◌, map, drop}
use Rattle.fsl_types.specs.Given.{given_of}
use Rattle.fsl_types.specs.Statements.{run_each, statement}
use Rattle.fsl_types.proofs.resolver.Resolver.+run.Given as goal

abbrev pub invariant-statements-loop-tree : goal.invariant-statements-loop-tree
invariant-statements-loop-tree l = record {
  made : l.list ++ (run_each (map (statement (given_of l.globals)) (drop l.tree-index l.trees)) l.in_loop l.self).made
      ≡ (run_each (map (statement (given_of l.globals)) l.trees) l.in_loop l.initial.self).made;
  resolver : (run_each (map (statement (given_of l.globals)) (drop l.tree-index l.trees)) l.in_loop l.self).resolver
      ≡ (run_each (map (statement (given_of l.globals)) l.trees) l.in_loop l.initial.self).resolver;
}
