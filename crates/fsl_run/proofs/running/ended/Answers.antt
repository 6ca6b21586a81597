use Rattle.std.proofs.Common.{ℕ, sym, subst}
use Rattle.fsl_graph.specs.declared.graph.Graph.{Graph}
use Rattle.fsl_graph.specs.Ending.{IsEnd}
use Rattle.fsl_run.proofs.running.ended.Goals as goal

pub returns : goal.returns
returns c =
    let P : Graph → Type 0 = λ g. IsEnd c.args.machine.program c.args.machine.bound g (λ (t : ℕ). c.args.machine.config) c.args.end in
    record {
      last = λ t. c.args.machine.config;
      execution = c.in_ok-graph.ensures.execution;
      consistent = c.in_ok-graph.ensures.consistent;
      acyclic = c.in_ok-graph.ensures.acyclic;
      ends = subst P (sym c.in_ok-graph.ensures.graph) c.requires;
    }
