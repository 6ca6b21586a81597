use Rattle.std.proofs.Common.{◌≡◌, ◌-◌, ◌++◌, drop, filter, map, length, not}
use Rattle.fsl_core.specs.logic.Joining.{at_rung}
use Rattle.fsl_core.specs.logic.Fences.{is_at}
use Rattle.fsl_access.proofs.FencesLemmas.{staying}
use Rattle.fsl_access.proofs.fences.take_all.Given as goal

abbrev pub decreases-take : goal.decreases-take
decreases-take l = length l.state.chunks - l.number

abbrev pub invariant-take : goal.invariant-take
invariant-take l = record {
  rest : l.state ≡ record l.fn.state { chunks = l.state.chunks };
  stay : staying (is_at l.from) l.number l.state.chunks ≡ filter (λ c. not (is_at l.from c)) l.fn.state.chunks;
  taken : l.chunks ++ map (at_rung l.to) (filter (is_at l.from) (drop l.number l.state.chunks)) ≡ map (at_rung l.to) (filter (is_at l.from) l.fn.state.chunks);
}
