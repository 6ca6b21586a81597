use Rattle.std.proofs.Common.{subst, ◌∙◌}
use Rattle.fsl_graph.specs.Ending.{IsReturned}
use Rattle.fsl_machine.specs.States.{State}
use Rattle.fsl_moves.specs.Config.{config_of}
use Rattle.fsl_machine.proofs.Returned.{is_returned}
use Rattle.fsl_machine.proofs.MachineLemmas.{waits_for_none}
use Rattle.fsl_machine.proofs.machine.Machine.end.Goals as goal

pub returns-in-Done-clause-cause : goal.returns-in-Done-clause-cause
returns-in-Done-clause-cause c =
    let s = c.self.inside in
    let one = is_returned (config_of s.program s.config) (c.readiness.ensures s.program ∙ c.in-Done.is) in
    λ t under. subst (λ (v : State). IsReturned v.config) c.self.view_is one

pub unreachable-requires : goal.unreachable-requires
unreachable-requires c =
    let s = c.self.inside in
    waits_for_none s.program s.bound s.config s.moves s.history c.self.invariant (c.readiness.ensures s.program ∙ c.in-Waiting.is)
