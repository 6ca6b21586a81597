-- What each kind of step does to a pass's view, and what it tells of the word that it found.
use Rattle.std.specs.Prelude.{ℕ, ◌≡◌, ◌+◌, ◌-◌, ◌<◌, ◌≤◌, min, [], ◌∷◌, ◌++◌, length}
use Rattle.atomic_table.specs.Table.{Me}
use Rattle.fsl_claim.specs.declared.view.View.{View}
use Rattle.fsl_claim.specs.declared.view.Plan.{Plan}
use Rattle.fsl_claim.specs.Views.{Drawn, least_of, times}

-- `passes` passes that have drawn, reported and seen nothing
abbrev pub unused : ℕ → ℕ → ℕ → View
unused units workers passes = record { units = units; workers = workers; drawn = []; reported = []; ended = 0; seen = units; looks = 0; passes = passes }

abbrev pub opening : Plan → View
opening plan = unused plan.units plan.workers plan.workers

-- ---- a draw: a number, or none left

abbrev pub drew : View → ℕ → View
drew v unit = record v { drawn = unit ∷ v.drawn }

abbrev pub ended_once_more : View → View
ended_once_more v = record v { ended = v.ended + 1 }

-- ---- a look at the least number, and a report

abbrev pub looked : View → ℕ → View
looked v least = record v { seen = least; looks = v.looks + 1 }

abbrev pub told : View → ℕ → View
told v unit = record v { reported = unit ∷ v.reported; seen = min unit v.seen }

-- ---- one pass made two, and two made one

abbrev pub first_of_two : View → View
first_of_two v = record v { passes = v.passes - 1 }

abbrev pub second_of_two : View → View
second_of_two v = unused v.units v.workers 1

abbrev pub together : View → View → View
together v w = record { units = v.units; workers = v.workers; drawn = v.drawn ++ w.drawn; reported = v.reported ++ w.reported; ended = v.ended + w.ended; seen = min v.seen w.seen; looks = v.looks + w.looks; passes = v.passes + w.passes }

abbrev pub given_up : View
given_up = unused 0 0 0

-- ---- what each step tells, of the seat before, the word found and the seat after

abbrev pub Draws : {S : Type 0} → Me S View → ℕ → Me S View → Type 0
Draws before found after = (after.1 ≡ before.1) × (length after.0.drawn ≤ before.0.units) × (found < before.0.units → after.0 ≡ drew before.0 found) × (before.0.units ≤ found → after.0 ≡ ended_once_more before.0)

abbrev pub Looks : {S : Type 0} → Me S View → ℕ → Me S View → Type 0
Looks before found after = (after ≡ (looked before.0 found, before.1)) × (found ≤ before.0.seen) × (found ≤ before.0.units)

abbrev pub Reports : {S : Type 0} → ℕ → Me S View → Me S View → Type 0
Reports unit before after = after ≡ (told before.0 unit, before.1)

-- a pass that stands for all of them: `found` is the least number reported, and at most what it saw
pub record Settled (units : ℕ) (v : View) (found : ℕ) : Type 0 where
  pub least : found ≡ least_of units v.reported
  pub at_most : found ≤ units
  pub seen : found ≤ v.seen
  pub drawn : Drawn units (v ∷ [])
  pub within : (x : ℕ) → 0 < times x v.reported → x < units

abbrev pub Settles : {S : Type 0} → Me S View → ℕ → Me S View → Type 0
Settles before found after = (after ≡ before) × Settled before.0.units before.0 found
