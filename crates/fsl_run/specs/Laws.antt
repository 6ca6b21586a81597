-- A graph of a program says how its threads stand after it, and has the cause of one end alone.
use Rattle.std.specs.Prelude.{ℕ, ◌≡◌, ◌<◌, length}
use Rattle.fsl_core.specs.Programs.{Program}
use Rattle.fsl_core.specs.Moves.{Config}
use Rattle.fsl_graph.specs.declared.graph.Graph.{Graph}
use Rattle.fsl_graph.specs.Execution.{IsExecution}
use Rattle.fsl_graph.specs.declared.ending.End.{End}
use Rattle.fsl_graph.specs.declared.ending.End.TheVariants as ends
use Rattle.fsl_graph.specs.Ending.{IsEnd}

-- a thread stands in one way after the moves of an execution
abbrev pub StandsInOneWay : Type 0
StandsInOneWay = (p : Program) (g : Graph) (a b : ℕ → Config) → IsExecution p g a → IsExecution p g b
    → (t : ℕ) → t < length g.threads → a t ≡ b t

-- ends that are told in one way; several threads may meet limits of different kinds
abbrev pub IsSameEnd : End → End → Type 0
IsSameEnd ends.Finished ends.Finished = Unit {0}
IsSameEnd ends.Spent ends.Spent = Unit {0}
IsSameEnd (ends.Halted t) (ends.Halted u) = t ≡ u
IsSameEnd (ends.Limit j) (ends.Limit k) = Unit {0}
IsSameEnd _ _ = ⊥

-- no two different ends have their causes together
abbrev pub HasOneEnd : Type 0
HasOneEnd = (p : Program) (bound : ℕ) (g : Graph) (last : ℕ → Config) → IsExecution p g last
    → (a b : End) → IsEnd p bound g last a → IsEnd p bound g last b → IsSameEnd a b
