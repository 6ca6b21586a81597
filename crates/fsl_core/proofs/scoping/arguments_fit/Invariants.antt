use Rattle.std.proofs.Common.{◌≡◌, drop}
use Rattle.fsl_core.specs.Scopes.{arguments_fit}
use Rattle.fsl_core.proofs.scoping.arguments_fit.Given as goal

abbrev pub invariant-loop-slot : goal.invariant-loop-slot
invariant-loop-slot l = arguments_fit l.scope l.banks l.slot (drop l.slot l.args) ≡ arguments_fit l.scope l.banks 0 l.args
