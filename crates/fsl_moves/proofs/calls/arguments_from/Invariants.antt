use Rattle.std.proofs.Common.{◌≡◌, ◌++◌, drop, Some}
use Rattle.fsl_core.specs.Moves.{arguments_from}
use Rattle.fsl_core.specs.Values.{with_value}
use Rattle.fsl_moves.proofs.calls.arguments_from.Given as goal

-- the values so far, and those of the arguments that are left
abbrev pub invariant-loop-slot : goal.invariant-loop-slot
invariant-loop-slot l =
    with_value (arguments_from l.banks l.slot (drop l.slot l.args) l.env) (λ vs. Some (l.values ++ vs)) ≡ arguments_from l.banks 0 l.args l.env
