-- What passes know, one by one and taken together.
use Rattle.std.specs.Prelude.{ℕ, ◌≡◌, ◌+◌, ◌<◌, ◌≤◌, ◌==◌, nat_lt, if◌then◌else◌, min, List, [], ◌∷◌, length}
use Rattle.fsl_claim.specs.declared.view.View.{View}

-- f of each view, added up
abbrev pub total : (View → ℕ) → List View → ℕ
total f [] = 0
total f (v ∷ vs) = f v + total f vs

-- the least f of any view, or `most` where none is less
abbrev pub lowest : (View → ℕ) → ℕ → List View → ℕ
lowest f most [] = most
lowest f most (v ∷ vs) = min (f v) (lowest f most vs)

-- how often x stands in a list
abbrev pub times : ℕ → List ℕ → ℕ
times x [] = 0
times x (y ∷ ys) = (if x == y then 1 else 0) + times x ys

-- the least of a list, or `most` where none is less
abbrev pub least_of : ℕ → List ℕ → ℕ
least_of most [] = most
least_of most (x ∷ xs) = min x (least_of most xs)

-- ---- of several passes

abbrev pub count_drawn : List View → ℕ
count_drawn = total (λ v. length v.drawn)

abbrev pub count_reported : List View → ℕ
count_reported = total (λ v. length v.reported)

-- how many draws found no number left
abbrev pub count_ended : List View → ℕ
count_ended = total (λ v. v.ended)

abbrev pub count_passes : List View → ℕ
count_passes = total (λ v. v.passes)

-- how often x was drawn
abbrev pub times_drawn : ℕ → List View → ℕ
times_drawn x = total (λ v. times x v.drawn)

-- the least number that any of them reported
abbrev pub least_reported : ℕ → List View → ℕ
least_reported units = lowest (λ v. least_of units v.reported) units

-- the least number that any of them saw
abbrev pub least_seen : ℕ → List View → ℕ
least_seen = lowest (λ v. v.seen)

-- The numbers drawn are those below their count, each drawn once. Where a draw found none left, these are all the units.
pub record Drawn (units : ℕ) (views : List View) : Type 0 where
  pub once : (x : ℕ) → times_drawn x views ≡ (if nat_lt x (count_drawn views) then 1 else 0)
  pub few : count_drawn views ≤ units
  pub full : 0 < count_ended views → count_drawn views ≡ units
