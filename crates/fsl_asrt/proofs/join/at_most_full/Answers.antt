use Rattle.std.proofs.Common.{◌≡◌}
use Rattle.fsl_core.specs.logic.Joining.{full}
use Rattle.fsl_asrt.proofs.join.at_most_full.Goals as goal

pub returns : goal.returns
returns c =
    let e : c.in_ok-full.full ≡ full = c.in_ok-full.ensures in
    rw e at c.assume_at_most.ensures
