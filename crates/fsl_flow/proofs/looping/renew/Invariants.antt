use Rattle.std.proofs.Common.{◌≡◌, [], ◌∷◌}
use Rattle.fsl_core.specs.logic.States.{goes}
use Rattle.fsl_core.specs.logic.Slots.{renew}
use Rattle.fsl_flow.specs.Sets.{stmts_set}
use Rattle.fsl_flow.proofs.looping.renew.Given as goal

abbrev pub invariant-loop-number : goal.invariant-loop-number
invariant-loop-number l = goes tt l.state ∷ [] ≡ renew l.number (stmts_set l.body) l.fn.state
