use Rattle.fsl_core.specs.logic.Joining.{assume_same}
use Rattle.fsl_asrt.proofs.Keeping.{still_points, goes_kept, same_kept, went_is}
use Rattle.fsl_asrt.proofs.join.join_values.Goals as goal

pub put_sum-requires : goal.put_sum-requires
put_sum-requires c =
    let s = c.args.state in
    let v = c.args.c.value in
    let w = c.args.value in
    still_points c.args.rung c.args.c.number s c.in-Goes.state c.requires
    (goes_kept s (assume_same v w s) tt c.in-Goes.state (same_kept v w s) (went_is _ _ (assume_same v w s) c.in-Goes.is c.in_ok-state.ensures))
