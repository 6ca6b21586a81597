use Rattle.std.proofs.Common.{pos}
use Rattle.fsl_core.specs.logic.Deciding.{assume_at_most}
use Rattle.fsl_asrt.proofs.Keeping.{still_points, goes_kept, at_most_kept, went_is}
use Rattle.fsl_asrt.proofs.take.none_left.Goals as goal

pub all_taken-requires : goal.all_taken-requires
all_taken-requires c =
    let s = c.args.state in
    let a = c.args.c.now.share in
    let b = c.args.share.now in
    still_points c.args.rung c.args.c.now.number s c.in-Goes.state c.requires
    (goes_kept s (assume_at_most a (pos 0) b s) tt c.in-Goes.state (at_most_kept a (pos 0) b s) (went_is _ _ (assume_at_most a (pos 0) b s) c.in-Goes.is c.in_ok-state.ensures))
