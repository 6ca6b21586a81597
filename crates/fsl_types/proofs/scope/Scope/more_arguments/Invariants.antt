use Rattle.std.proofs.Common.{◌≡◌, ◌++◌, map, drop}
use Rattle.fsl_types.specs.Expressions.{expression_of, next_value}
use Rattle.fsl_types.proofs.scope.Scope.more_arguments.Given as goal

abbrev pub invariant-loop-next : goal.invariant-loop-next
invariant-loop-next l =
    l.list ++ map (expression_of l.self.bytes.now l.self.names.now) (map next_value (drop l.next-index l.more))
    ≡ l.fn.so_far ++ map (expression_of l.self.bytes.now l.self.names.now) (map next_value l.more)
