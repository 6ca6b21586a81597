use Rattle.std.proofs.Common.{◌≡◌, ◌++◌, ◌∷◌, [], Result, ap, ◌∙◌}
use Rattle.std.specs.declared.alloc.AllocError.{AllocError}
use Rattle.fsl_check.specs.declared.worker.Worker.{Worker}
use Rattle.fsl_check.proofs.Ending.{goes_on}
use Rattle.fsl_check.proofs.check.all_ended.Goals as goal

pub loop-end-preserved : goal.loop-end-preserved
loop-end-preserved c = λ claims outcomes well. goes_on claims outcomes _ c.loop-end.left c.pop.new.self c.loop-end.passes c.push.new.self c.loop-end.failure c.lesser-failure.result c.in_ok-worker.worker
    (c.loop-end.invariant claims outcomes well) (c.in-Some.ensures ∙ ap (λ (end : Result Worker AllocError). c.pop.new.self ++ end ∷ []) c.in_ok-worker.was) c.in_ok-push.ensures.pushed c.lesser-failure.ensures
