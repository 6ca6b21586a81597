-- The definition of an execution isn't empty.
use Rattle.fsl_graph.specs.Consistent.{IsConsistent}
use Rattle.fsl_graph.specs.Execution.{IsExecution}
use Rattle.fsl_graph.specs.Safe.{IsSafe}
use Rattle.fsl_graph.specs.Sequenced.{IsAcyclic}
use Rattle.fsl_graph_examples.specs.Executions.{counting, counted, all_returned}

pub record CountedIsExecution : Type 0 where
  pub execution : IsExecution counting counted all_returned
  pub consistent : IsConsistent counted
  pub acyclic : IsAcyclic counted
  pub safe : IsSafe counted all_returned
