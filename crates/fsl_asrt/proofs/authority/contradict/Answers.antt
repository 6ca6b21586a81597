use Rattle.std.proofs.Common.{◌≡◌, pos}
use Rattle.fsl_core.specs.logic.Joining.{nought}
use Rattle.fsl_lin.specs.Combination.{constant}
use Rattle.fsl_asrt.proofs.authority.contradict.Goals as goal

pub returns : goal.returns
returns c =
    let e : c.in_ok-one.one ≡ constant (pos 1) = c.in_ok-one.ensures in
    let f : c.in_ok-nought.nought ≡ nought = c.in_ok-nought.ensures in
    rw (e, f) at c.assume_at_most.ensures
