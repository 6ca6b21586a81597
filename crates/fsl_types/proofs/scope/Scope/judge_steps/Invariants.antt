use Rattle.std.proofs.Common.{◌≡◌, map, drop}
use Rattle.fsl_types.specs.Expressions.{in_turn, sight_of}
use Rattle.fsl_types.specs.Statements.{judged_step_line}
use Rattle.fsl_types.proofs.scope.Scope.judge_steps.Given as goal

abbrev pub invariant-loop-line : goal.invariant-loop-line
invariant-loop-line l =
    in_turn (map (judged_step_line (sight_of l.self)) (drop l.line-index l.line-items)) l.faults
    ≡ in_turn (map (judged_step_line (sight_of l.self)) l.line-items) l.initial.faults
