-- Entries by ascending locations: what they say, what raising one does, and where a location stands.
use Rattle.std.specs.Prelude.{ℕ, ℤ, ◌<ℤ◌, max, List, [], ◌∷◌, if◌then◌else◌, ◌≡◌, ◌<◌, ◌≤◌, length, take, drop, slice_index_or, MatchResult, Result, Bool, false, ◌||◌}
use Rattle.std.specs.Ordering.{int_cmp, int_eq}
use Rattle.std.specs.declared.cmp.Ordering.{Ordering}
use Rattle.std.specs.declared.cmp.Ordering.TheVariants.{Less, Equal, Greater}
use Rattle.fsl_view.specs.declared.entry.Entry.{Entry}
use Rattle.fsl_view.specs.Seen.{Seen}

-- what the entries say of a location
abbrev pub at : List Entry → Seen
at [] l = 0
at (e ∷ es) l = if int_eq e.loc l then e.to else at es l

-- the entry of a location raised, or put where it belongs: by how its first entry's location compares
abbrev pub raise_first : Ordering → Entry → List Entry → Entry → List Entry → List Entry
raise_first Less e es by raised = e ∷ raised
raise_first Equal e es by raised = record { loc = e.loc; to = max e.to by.to } ∷ es
raise_first Greater e es by raised = by ∷ (e ∷ es)

abbrev pub raise_in : List Entry → Entry → List Entry
raise_in [] by = by ∷ []
raise_in (e ∷ es) by = raise_first (int_cmp e.loc by.loc) e es by (raise_in es by)

-- each entry of the second list raised in the first
abbrev pub join_in : List Entry → List Entry → List Entry
join_in es [] = es
join_in es (by ∷ others) = join_in (raise_in es by) others

-- each location is above l
abbrev pub Above : ℤ → List Entry → Type 0
Above l [] = Unit {0}
Above l (e ∷ es) = (l <ℤ e.loc) × Above l es

abbrev pub Ascends : List Entry → Type 0
Ascends [] = Unit {0}
Ascends (e ∷ es) = Above e.loc es × Ascends es

-- the locations ascend
pub record IsAscending (es : List Entry) : Type 0 where
  pub ascends : Ascends es

-- ---- where a location stands in ascending entries

-- whether a location has an entry
abbrev pub has : List Entry → ℤ → Bool
has [] l = false
has (e ∷ es) l = int_eq e.loc l || has es l

-- each location is below l
abbrev pub Below : ℤ → List Entry → Type 0
Below l [] = Unit {0}
Below l (e ∷ es) = (e.loc <ℤ l) × Below l es

pub record StandsAt (es : List Entry) (l : ℤ) (i : ℕ) : Type 0 where
  pub within : i < length es
  pub loc : (d : Entry) → (slice_index_or es i d).loc ≡ l

pub record BelongsAt (es : List Entry) (l : ℤ) (i : ℕ) : Type 0 where
  pub within : i ≤ length es
  pub below : Below l (take i es)
  pub above : Above l (drop i es)

-- the index of a location's entry, or the index that it would have
abbrev pub IsIndexOf : List Entry → ℤ → Result ℕ ℕ → Type 0
IsIndexOf es l index = MatchResult index (λ i. StandsAt es l i) (λ i. BelongsAt es l i)
