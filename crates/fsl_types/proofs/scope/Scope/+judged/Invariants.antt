use Rattle.std.proofs.Common.{◌≡◌, map, drop}
use Rattle.fsl_types.specs.Expressions.{in_turn, judged_addend, judged_multiplier, sight_of}
use Rattle.fsl_types.proofs.scope.Scope.+judged.Given as goal

abbrev pub invariant-judge_expression-loop-addend : goal.invariant-judge_expression-loop-addend
invariant-judge_expression-loop-addend l =
    in_turn (map (judged_addend (sight_of l.self) l.due) (drop l.addend-index l.addend-items)) l.faults
    ≡ in_turn (map (judged_addend (sight_of l.self) l.due) l.addend-items) l.initial.faults

abbrev pub invariant-judge_term-loop-next : goal.invariant-judge_term-loop-next
invariant-judge_term-loop-next l =
    in_turn (map (judged_multiplier (sight_of l.self) l.due) (drop l.next-index l.next-items)) l.faults
    ≡ in_turn (map (judged_multiplier (sight_of l.self) l.due) l.next-items) l.initial.faults
