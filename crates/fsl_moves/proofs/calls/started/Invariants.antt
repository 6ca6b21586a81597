use Rattle.std.proofs.Common.{◌≡◌, ◌++◌, drop, Some}
use Rattle.fsl_core.specs.Moves.{started_of}
use Rattle.fsl_core.specs.Values.{with_value}
use Rattle.fsl_moves.proofs.calls.started.Given as goal

-- the threads so far, and those of the calls that are left
abbrev pub invariant-loop-call : goal.invariant-loop-call
invariant-loop-call l =
    with_value (started_of l.p (drop l.call-index l.calls) l.env) (λ more. Some (l.threads ++ more)) ≡ started_of l.p l.calls l.env
