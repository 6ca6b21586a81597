use Rattle.std.proofs.Common.{◌≡◌, ◌+◌, ◌-◌, length, All}
use Rattle.fsl_claim.specs.Claims.{view, StandsForSome, IsNew}
use Rattle.fsl_claim.specs.Steps.{unused}
use Rattle.fsl_claim.proofs.claims.Claims.new.Given as goal

abbrev pub invariant-loop-turn : goal.invariant-loop-turn
invariant-loop-turn l = record {
  first_of : StandsForSome l.claims l.first;
  first_unused : view l.first ≡ unused l.units l.workers (l.workers + 1 - l._turn);
  made : All (IsNew l.claims) l.passes;
  count : length l.passes + 1 ≡ l._turn;
}
