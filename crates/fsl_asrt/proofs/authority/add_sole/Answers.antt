use Rattle.std.proofs.Common.{pos}
use Rattle.fsl_chunk.specs.Went.{branches}
use Rattle.fsl_asrt.specs.Counts.{bounding, sole}
use Rattle.fsl_asrt.proofs.AuthorityLemmas.{second, only}
use Rattle.fsl_asrt.proofs.Keeping.{ok_then}
use Rattle.fsl_core.specs.logic.States.{◌>>◌}
use Rattle.fsl_core.specs.logic.Deciding.{assume_at_most}
use Rattle.fsl_core.specs.logic.Joining.{nought}
use Rattle.fsl_lin.specs.Combination.{constant}
use Rattle.fsl_asrt.proofs.authority.add_sole.Goals as goal

pub returns-in-Some : goal.returns-in-Some
returns-in-Some c =
    let s = c.args.state in
    let g = c.args.bank in
    let n = c.args.n in
    ok_then c.add_second.result branches ((assume_at_most (constant (pos 1)) (pos 0) nought >> bounding g n) s) (sole g n s)
    (second g n s _ c.in-Some.ensures.first) c.add_second.ensures

pub returns-in-None : goal.returns-in-None
returns-in-None c =
    let s = c.args.state in
    let g = c.args.bank in
    let n = c.args.n in
    ok_then c.add_bounding.result branches (bounding g n s) (sole g n s) (only g n s c.in-None.ensures.first) c.add_bounding.ensures
