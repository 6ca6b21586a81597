use Rattle.std.proofs.Common.{pos}
use Rattle.fsl_core.specs.logic.Deciding.{assume_at_most}
use Rattle.fsl_asrt.proofs.Keeping.{still_points, goes_kept, at_most_kept, went_is}
use Rattle.fsl_asrt.proofs.take.some_left.Goals as goal

pub part_taken-requires : goal.part_taken-requires
part_taken-requires c =
    let s = c.args.state in
    let a = c.args.share.now in
    let b = c.args.c.share in
    still_points c.args.rung c.args.c.number s c.in-Goes.state c.requires
    (goes_kept s (assume_at_most a (pos 1) b s) tt c.in-Goes.state (at_most_kept a (pos 1) b s) (went_is _ _ (assume_at_most a (pos 1) b s) c.in-Goes.is c.in_ok-state.ensures))
