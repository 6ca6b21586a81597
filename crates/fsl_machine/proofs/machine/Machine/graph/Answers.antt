use Rattle.std.proofs.Common.{◌≡◌, ◌++◌, List, [], ◌∷◌, ℤ, ap, sym, subst, ◌∙◌}
use Rattle.fsl_core.specs.Moves.{Config}
use Rattle.fsl_graph.specs.declared.graph.Graph.{Graph}
use Rattle.fsl_graph.specs.declared.graph.Thread.{Thread}
use Rattle.fsl_graph.specs.Execution.{IsExecution}
use Rattle.fsl_moves.specs.Config.{config_of}
use Rattle.fsl_machine.specs.States.{State, with_trace, lone_graph}
use Rattle.fsl_graph.specs.Ending.{allocations}
use Rattle.fsl_machine.proofs.Executions.{is_execution}
use Rattle.fsl_machine.proofs.machine.Machine.graph.Goals as goal

pub returns-clause-execution : goal.returns-clause-execution
returns-clause-execution c =
    let s = c.self.inside in
    let last : Config = config_of s.program s.config in
    let done = is_execution s.program s.moves s.history (allocations s.history.events) last c.self.invariant.straight
    c.graph.ensures.serial c.graph.ensures.placed c.self.invariant.runs in
    let threads : c.push.new.self ≡ record { proc = 0; args = []; moves = s.moves } ∷ [] =
    c.in_ok-push.ensures.pushed
    ∙ ap (λ (ts : List Thread). ts ++ record { proc = 0; args = c.new.result; moves = s.moves } ∷ []) c.new-threads.ensures
    ∙ ap (λ (args : List ℤ). record { proc = 0; args = args; moves = s.moves } ∷ []) c.new.ensures in
    let graph : c.graph.result ≡ lone_graph s.moves s.history = c.graph.ensures.graph ∙ ap (λ (ts : List Thread). with_trace ts s.history) threads in
    subst (λ (v : State). IsExecution v.program c.graph.result (λ t. v.config)) c.self.view_is
    (subst (λ (g : Graph). IsExecution s.program g (λ t. last)) (sym graph) done)
