use Rattle.std.proofs.Common.{◌≡◌, map, drop}
use Rattle.fsl_types.specs.Expressions.{judged_excluded, next_value, sight_of}
use Rattle.fsl_types.proofs.scope.Scope.judge_more_excluded.Given as goal

abbrev pub invariant-loop-next : goal.invariant-loop-next
invariant-loop-next l =
    judged_excluded (sight_of l.self) l.before (map next_value (drop l.next-index l.more)) l.faults
    ≡ judged_excluded (sight_of l.self) 1 (map next_value l.more) l.initial.faults
