use Rattle.std.proofs.Common.{◌≡◌, drop}
use Rattle.std.specs.Option.{is_some}
use Rattle.fsl_core.specs.Moves.{arguments_from}
use Rattle.fsl_moves.proofs.calls.have_values.Given as goal

abbrev pub invariant-loop-slot : goal.invariant-loop-slot
invariant-loop-slot l = is_some (arguments_from l.banks l.slot (drop l.slot l.args) l.env) ≡ is_some (arguments_from l.banks 0 l.args l.env)
