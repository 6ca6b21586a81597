use Rattle.std.proofs.Common.{◌≡◌, drop}
use Rattle.fsl_core.specs.logic.States.{followed}
use Rattle.fsl_core.specs.logic.Locations.{consume_parts}
use Rattle.fsl_asrt.specs.Branch.{branches}
use Rattle.fsl_access.specs.Pieces.{parts_in}
use Rattle.fsl_access.proofs.pieces.consume_each.Given as goal

abbrev pub invariant-loop-part : goal.invariant-loop-part
invariant-loop-part l =
    followed (branches l.before) (λ _. consume_parts l.rung (parts_in l.env (drop l.part-index l.parts)))
    ≡ consume_parts l.rung (parts_in l.env l.parts) l.fn.state
