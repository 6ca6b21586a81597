use Rattle.std.proofs.Common.{◌≡◌}
use Rattle.fsl_core.specs.logic.Joining.{nought}
use Rattle.fsl_asrt.proofs.tokens.at_least_none.Goals as goal

pub returns : goal.returns
returns c =
    let e : c.in_ok-nought.nought ≡ nought = c.in_ok-nought.ensures in
    rw e at c.assume_at_most.ensures
