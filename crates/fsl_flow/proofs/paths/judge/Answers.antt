use Rattle.std.proofs.Common.{◌≡◌, List, IfOk, map, subst}
use Rattle.fsl_core.specs.Verdicts.{End, outcome_from}
use Rattle.fsl_asrt.specs.Branch.{branches}
use Rattle.fsl_flow.specs.Continuation.{continuation_of}
use Rattle.fsl_flow.specs.Pending.{item_of}
use Rattle.fsl_flow.proofs.PathsLemmas.{first_is, judged, judged_supported}
use Rattle.fsl_flow.proofs.paths.judge.Goals as goal

pub walk-requires : goal.walk-requires
walk-requires c =
    judged_supported c.args.job.now (map item_of c.in_ok-first.first) (branches c.in_ok-branches.branches)
    (first_is c.args.job.now (map item_of c.in_ok-first.first) (branches c.in_ok-branches.branches) (continuation_of c.in_ok-body.body) c.as_slice.result.now
    c.in_ok-first.ensures c.in_ok-body.ensures c.as_slice.ensures) c.requires

pub returns : goal.returns
returns c =
    subst (λ (es : List End). IfOk c.walk.result (λ o. o ≡ outcome_from c.args.job.now.number 0 es))
    (judged c.args.job.now (map item_of c.in_ok-first.first) (branches c.in_ok-branches.branches)
    (first_is c.args.job.now (map item_of c.in_ok-first.first) (branches c.in_ok-branches.branches) (continuation_of c.in_ok-body.body) c.as_slice.result.now
    c.in_ok-first.ensures c.in_ok-body.ensures c.as_slice.ensures) c.in_ok-branches.ensures) c.walk.ensures
