-- Threads that run side by side: what each is started with, and what it gives back.
use Rattle.std.specs.Prelude.{◌≡◌, ℕ, ◌+◌, List, [], ◌∷◌, ◌++◌, Option, Some, None, ℤ, slice_get}
use Rattle.fsl_core.specs.declared.act.Called.{Called}
use Rattle.fsl_core.specs.declared.declaration.Proc.{Proc}
use Rattle.fsl_core.specs.declared.mode.Rung.TheVariants.{Plain}
use Rattle.fsl_core.specs.Programs.{Program}
use Rattle.fsl_core.specs.logic.Assertions.{asrt_of}
use Rattle.fsl_core.specs.logic.Locations.{contract_of}
use Rattle.fsl_core.specs.logic.Calls.{Running}
use Rattle.fsl_core.specs.logic.States.{State}
use Rattle.fsl_lin.specs.Numbers.{Numbers}
use Rattle.fsl_meaning.specs.Means.{AllMean, padded_numbers}
use Rattle.fsl_meaning.specs.Heaps.{Key, Heap, nothing, Ground, AllKnown}
use Rattle.fsl_meaning.specs.States.{All, Fits}
use Rattle.fsl_asserted.specs.Exact.{exact_all}
use Rattle.fsl_asserted.specs.Needs.{Need, asks}

-- a procedure, and the numbers of its contract's variables
pub record Started : Type 0 where
  pub proc : Proc
  pub numbers : List ℤ

abbrev pub started_by : Option Proc → List ℤ → List Started → List Started
started_by None args rest = rest
started_by (Some q) args rest = record { proc = q; numbers = padded_numbers q.slots args } ∷ rest

-- what the calls start, where the variables have these numbers
abbrev pub started : Program → List ℤ → List Called → List Started
started p slots [] = []
started p slots (c ∷ cs) = started_by (slice_get p.procs c.proc) (exact_all c.args slots) (started p slots cs)

abbrev pub EachRuns : ℕ → Numbers → List Running → List Started → Type 0
EachRuns n v [] [] = Unit {0}
EachRuns n v [] (p ∷ ps) = ⊥
EachRuns n v (x ∷ xs) [] = ⊥
EachRuns n v (x ∷ xs) (p ∷ ps) = (x.proc ≡ contract_of asrt_of p.proc) × AllMean n v x.env p.numbers × EachRuns n v xs ps

-- the procedures of a rule are these
pub record AllRun (n : ℕ) (v : Numbers) (xs : List Running) (ps : List Started) : Type 0 where
  pub each : EachRuns n v xs ps

-- what several need together
abbrev pub all_needs : List Need → Heap
all_needs [] = nothing
all_needs (n ∷ ns) = λ k. n.heap k + all_needs ns k

-- each `requires` asks for its need
abbrev pub EachRequires : Ground → List Started → List Need → Type 0
EachRequires g [] [] = Unit {0}
EachRequires g [] (n ∷ ns) = ⊥
EachRequires g (p ∷ ps) [] = ⊥
EachRequires g (p ∷ ps) (n ∷ ns) = (asks g.truth p.proc.pre Plain p.numbers ≡ Some n) × AllKnown g n.claims × EachRequires g ps ns

-- and leaves its binders for `ensures`
abbrev pub with_binders : List Started → List Need → List Started
with_binders [] ns = []
with_binders (p ∷ ps) [] = []
with_binders (p ∷ ps) (n ∷ ns) = record { proc = p.proc; numbers = n.env } ∷ with_binders ps ns

-- each `ensures`, with a result, asks for its need
abbrev pub EachEnsures : Ground → List Started → List ℤ → List Need → Type 0
EachEnsures g [] rs ns = Unit {0}
EachEnsures g (p ∷ ps) [] ns = ⊥
EachEnsures g (p ∷ ps) (r ∷ rs) [] = ⊥
EachEnsures g (p ∷ ps) (r ∷ rs) (n ∷ ns) = (asks g.truth p.proc.post Plain (p.numbers ++ r ∷ []) ≡ Some n) × AllKnown g n.claims × EachEnsures g ps rs ns

-- all were given what they require
pub record Starts (g : Ground) (slots : List ℤ) (ps : List Started) (h : Heap) (xs : List Running) (s : State) (w : Numbers) : Type 0 where
  pub needs : List Need
  pub are : EachRequires g ps needs
  pub left : Heap
  pub parts : (k : Key) → h k ≡ left k + all_needs needs k
  pub fits : Fits slots (All g left) w s
  pub run : AllRun s.next w xs (with_binders ps needs)
