use Rattle.std.proofs.Common.{◌≡◌, ◌++◌, map, drop}
use Rattle.fsl_types.specs.Expressions.{in_turn}
use Rattle.fsl_types.specs.Given.{given_of}
use Rattle.fsl_types.specs.Statements.{called, judged_call, seen}
use Rattle.fsl_types.proofs.resolver.Resolver.children.Given as goal

abbrev pub invariant-loop-tree : goal.invariant-loop-tree
invariant-loop-tree l = record {
  kept : l.self ≡ record l.initial.self { faults = l.self.faults };
  made : l.calls ++ map (called (given_of l.globals) l.initial.self.names) (drop l.tree-index l.trees)
      ≡ map (called (given_of l.globals) l.initial.self.names) l.trees;
  judged : in_turn (map (judged_call (given_of l.globals) (seen (given_of l.globals) l.initial.self)) (drop l.tree-index l.trees)) l.self.faults
      ≡ in_turn (map (judged_call (given_of l.globals) (seen (given_of l.globals) l.initial.self)) l.trees) l.initial.self.faults;
}
