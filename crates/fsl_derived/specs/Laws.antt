-- What the verdict of the rules promises.
use Rattle.std.specs.Prelude.{◌≡◌, ℕ, true}
use Rattle.fsl_core.specs.declared.verdict.Verdict.TheVariants.{Accepted}
use Rattle.fsl_core.specs.Programs.{Program}
use Rattle.fsl_core.specs.Moves.{Config}
use Rattle.fsl_core.specs.WellFormed.{is_well_formed}
use Rattle.fsl_core.specs.logic.Verdicts.{verdict_of}
use Rattle.fsl_graph.specs.declared.graph.Graph.{Graph}
use Rattle.fsl_graph.specs.Sequenced.{IsAcyclic}
use Rattle.fsl_graph.specs.Consistent.{IsConsistent}
use Rattle.fsl_graph.specs.Execution.{IsExecution}
use Rattle.fsl_graph.specs.Safe.{IsSafe}

-- nothing unsafe is done in any execution
abbrev pub IsSafeAlways : Program → Type 0
IsSafeAlways p = (g : Graph) (last : ℕ → Config) → IsExecution p g last → IsConsistent g → IsAcyclic g → IsSafe g last

-- where the rules accept p, it is safe
abbrev pub AcceptedIsSafe : Program → Type 0
AcceptedIsSafe p = (n : ℕ) → verdict_of p ≡ Accepted n → IsSafeAlways p

-- so are all programs that are well formed
abbrev pub AcceptedAreSafe : Type 0
AcceptedAreSafe = (p : Program) → is_well_formed p ≡ true → AcceptedIsSafe p
