use Rattle.std.proofs.Common.{◌≡◌, ◌++◌, drop}
use Rattle.fsl_core.specs.logic.Accesses.{permissions}
use Rattle.fsl_access.proofs.permissions.permissions.Given as goal

abbrev pub invariant-loop-number : goal.invariant-loop-number
invariant-loop-number l =
    l.out ++ permissions l.state.facts l.at l.number (drop l.number l.state.chunks) ≡ permissions l.state.facts l.at 0 l.state.chunks
