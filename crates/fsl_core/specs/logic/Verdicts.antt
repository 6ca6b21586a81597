-- Outcomes and verdicts: the first path that fails, and the first procedure.
use Rattle.std.specs.Prelude.{ℕ, ◌+◌, List, [], ◌∷◌}
use Rattle.fsl_core.specs.declared.declaration.Proc.{Proc}
use Rattle.fsl_core.specs.Programs.{Program}
use Rattle.fsl_core.specs.declared.verdict.Outcome.{Outcome}
use Rattle.fsl_core.specs.declared.verdict.Verdict.{Verdict}
use Rattle.fsl_core.specs.Verdicts.{End, outcome_from, verdict_from}
use Rattle.fsl_core.specs.logic.Paths.{ends_of}

-- the outcome of a procedure, by its number and the ends of its paths: its first failure, else the number of its paths;
-- the 65537th path that ends fails `paths` unless it fails by itself
abbrev pub outcome_by : (Proc → List End) → ℕ → Proc → Outcome
outcome_by ends number q = outcome_from number 0 (ends q)

abbrev pub outcome_of : Program → ℕ → Proc → Outcome
outcome_of p = outcome_by (ends_of p)

-- the outcomes of procedures by the ends of their paths; the first procedure has this number
abbrev pub outcomes : (Proc → List End) → ℕ → List Proc → List Outcome
outcomes ends number [] = []
outcomes ends number (q ∷ qs) = outcome_by ends number q ∷ outcomes ends (number + 1) qs

-- the failure of the first procedure that has one, else the number of procedures
abbrev pub verdict_by : (Proc → List End) → List Proc → Verdict
verdict_by ends qs = verdict_from 0 (outcomes ends 0 qs)

abbrev pub verdict_of : Program → Verdict
verdict_of p = verdict_by (ends_of p) p.procs
