use Rattle.std.proofs.Common.{◌≡◌, map, drop}
use Rattle.fsl_types.specs.Expressions.{judged_arguments, next_value, sight_of}
use Rattle.fsl_types.proofs.scope.Scope.judge_more.Given as goal

abbrev pub invariant-loop-next : goal.invariant-loop-next
invariant-loop-next l =
    judged_arguments (sight_of l.self) l.left (map next_value (drop l.next-index l.more)) l.faults
    ≡ judged_arguments (sight_of l.self) l.banks (map next_value l.more) l.initial.faults
