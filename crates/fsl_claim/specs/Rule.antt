-- What holds between any two steps, of the two words and of all that the passes know.
use Rattle.std.specs.Prelude.{ℕ, ◌≡◌, ◌+◌, ◌^◌, ◌<◌, ◌≤◌, List, [], ◌∷◌}
use mathlib.Core.Option.{some}
use lib.ListN.{get_elem?}
use Rattle.atomic_table.specs.Table.{State}
use Rattle.fsl_claim.specs.declared.view.View.{View}
use Rattle.fsl_claim.specs.declared.view.Plan.{Plan}
use Rattle.fsl_claim.specs.Views.{times, count_drawn, count_ended, count_passes, least_reported, Drawn}

-- a pass that went over to another one
pub record IsGivenUp (v : View) : Type 0 where
  pub drawn : v.drawn ≡ []
  pub reported : v.reported ≡ []
  pub ended : v.ended ≡ 0

-- A pass reported only what it drew, and saw no number less than the least one now.
pub record IsSound (all_units crew least : ℕ) (v : View) : Type 0 where
  pub units : v.units ≡ all_units
  pub workers : v.workers ≡ crew
  pub seen : least ≤ v.seen
  pub ended : v.ended ≤ v.passes
  pub reported : (x : ℕ) → 0 < times x v.reported → 0 < times x v.drawn

abbrev pub IsFine : ℕ → ℕ → ℕ → View → Type 0
IsFine units crew least v = (v.passes ≡ 0 → IsGivenUp v) × (0 < v.passes → IsSound units crew least v)

-- Word 0 counts the draws, and word 1 is the least number reported.
pub record Kept (units crew : ℕ) (words : List ℕ) (views : List View) : Type 0 where
  pub words_are : words ≡ (count_drawn views + count_ended views) ∷ least_reported units views ∷ []
  pub drawn : Drawn units views
  pub each : (i : ℕ) (v : View) → get_elem? views i ≡ some v → IsFine units crew (least_reported units views) v
  pub shared : count_passes views ≡ crew
  pub few_units : units < 2 ^ 32
  pub few_workers : crew < 2 ^ 32

abbrev pub Holds : {S : Type 0} → Plan → State S View → Type 0
Holds plan s = Kept plan.units plan.workers s.words s.views
