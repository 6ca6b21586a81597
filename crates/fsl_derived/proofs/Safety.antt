-- A derived program is safe, and so is an accepted one.
use Rattle.fsl_core.specs.Programs.{Program}
use Rattle.fsl_core.specs.logic.Paths.{ends_of}
use Rattle.fsl_held.specs.Asked.{logic_of}
use Rattle.fsl_safe.proofs.Safety.{good_is_safe}
use Rattle.fsl_walk.specs.Walks.{IsDerived}
use Rattle.fsl_derived.specs.Laws.{IsSafeAlways, AcceptedAreSafe}
use Rattle.fsl_derived.proofs.Starting.{thread_good}
use Rattle.fsl_derived.proofs.Deriving.{accepted_derived}
use Rattle.fsl_derived.proofs.Mains.{main_starts}

pub derived_is_safe : (p : Program) → IsDerived p → IsSafeAlways p
derived_is_safe p derived g last execution consistent acyclic =
    good_is_safe (logic_of p) p g last (λ o call ys s n. thread_good p derived o call ys s n) (main_starts p derived.well) execution consistent acyclic

pub accepted_are_safe : AcceptedAreSafe
accepted_are_safe p well n accepted = derived_is_safe p (record { well = well; each = accepted_derived (ends_of p) 0 0 n p.procs accepted })
