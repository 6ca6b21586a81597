-- What a run of a program gives.
use Rattle.std.specs.Prelude.{ℕ}
use Rattle.fsl_core.specs.Programs.{Program}
use Rattle.fsl_core.specs.Moves.{Config}
use Rattle.fsl_graph.specs.declared.graph.Graph.{Graph}
use Rattle.fsl_graph.specs.Consistent.{IsConsistent}
use Rattle.fsl_graph.specs.Execution.{IsExecution}
use Rattle.fsl_graph.specs.Sequenced.{IsAcyclic}
use Rattle.fsl_graph.specs.declared.ending.End.{End}
use Rattle.fsl_graph.specs.Ending.{IsEnd}

-- a run of p of at most `bound` moves: an execution of p, consistent and acyclic, with the cause of its end
pub record IsRunOf (p : Program) (bound : ℕ) (g : Graph) (end : End) : Type 0 where
  -- how the threads stand after it
  pub last : ℕ → Config
  pub execution : IsExecution p g last
  pub consistent : IsConsistent g
  pub acyclic : IsAcyclic g
  pub ends : IsEnd p bound g last end
