use Rattle.std.proofs.Common.{◌≡◌, ◌+◌, length, map, All}
use Rattle.fsl_claim.specs.Claims.{view, IsPassOf, StandsForSome}
use Rattle.fsl_claim.proofs.Gathering.{Gathers}
use Rattle.fsl_claim.proofs.claims.Claims.gather.Given as goal

abbrev pub invariant-loop-other : goal.invariant-loop-other
invariant-loop-other l = record {
  one : StandsForSome l.self l.one;
  others : All (IsPassOf l.self) l.others;
  all : (view l.one).passes + length l.others ≡ length l.fn.passes;
  gathers : Gathers (map view l.fn.passes) (map view l.others) (view l.one);
}

abbrev pub decreases-loop-other : goal.decreases-loop-other
decreases-loop-other l = length l.others
