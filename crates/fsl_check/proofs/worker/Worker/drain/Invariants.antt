use Rattle.std.proofs.Common.{◌≡◌, length}
use Rattle.fsl_claim.specs.Claims.{view, IsPassOf}
use Rattle.fsl_check.proofs.Draining.{Working}
use Rattle.fsl_check.proofs.worker.Worker.drain.Given as goal

abbrev pub invariant-loop-turn : goal.invariant-loop-turn
invariant-loop-turn g l = record {
  of_claims : IsPassOf l.claims l.worker.pass;
  size : length (g.W.Work.outcomes l.work) ≡ l.claims.units;
  working : Working (g.W.Work.outcomes l.work) l._turn (view l.worker.pass) l.worker.failure;
}
