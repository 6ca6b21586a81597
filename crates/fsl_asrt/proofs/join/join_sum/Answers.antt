use Rattle.std.proofs.Common.{pos}
use Rattle.fsl_core.specs.logic.Deciding.{assume_at_most}
use Rattle.fsl_core.specs.logic.Joining.{full}
use Rattle.fsl_asrt.proofs.Keeping.{still_points, goes_kept, at_most_kept, went_is}
use Rattle.fsl_asrt.proofs.join.join_sum.Goals as goal

pub join_values-requires : goal.join_values-requires
join_values-requires c =
    let s = c.args.state in
    let a = c.args.sum in
    let b = full in
    still_points c.args.rung c.args.c.number s c.in-Goes.state c.requires
    (goes_kept s (assume_at_most a (pos 0) b s) tt c.in-Goes.state (at_most_kept a (pos 0) b s) (went_is _ _ (assume_at_most a (pos 0) b s) c.in-Goes.is c.in_ok-state.ensures))
