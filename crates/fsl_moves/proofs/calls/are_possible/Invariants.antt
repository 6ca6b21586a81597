use Rattle.std.proofs.Common.{◌≡◌, drop}
use Rattle.std.specs.Option.{is_some}
use Rattle.fsl_core.specs.Moves.{started_of}
use Rattle.fsl_moves.proofs.calls.are_possible.Given as goal

abbrev pub invariant-loop-call : goal.invariant-loop-call
invariant-loop-call l = is_some (started_of l.p (drop l.call-index l.calls) l.env) ≡ is_some (started_of l.p l.calls l.env)
