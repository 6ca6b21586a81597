use Rattle.std.proofs.Common.{◌≡◌, pos}
use Rattle.fsl_lin.specs.Combination.{constant}
use Rattle.fsl_access.proofs.accesses.at_least_one.Goals as goal

pub returns : goal.returns
returns c =
    let e : c.in_ok-one.one ≡ constant (pos 1) = c.in_ok-one.ensures in
    rw e at c.assume_at_most.ensures
