-- What each chooser picks, and what it is left with.
use Rattle.std.specs.Prelude.{ℕ, ◌%◌, List, [], ◌∷◌}
use Rattle.rand_pcg.specs.Lcg.{Lcg}
use Rattle.rand_pcg.specs.Pcg.{pcg32}

-- the next word of a generator, modulo n
abbrev pub seeded_pick : Lcg → ℕ → ℕ
seeded_pick words n = (pcg32 words).0 % n

-- the generator after that word
abbrev pub seeded_rest : Lcg → Lcg
seeded_rest words = (pcg32 words).1

-- the next of a list, modulo n, and 0 after the list
abbrev pub listed_pick : List ℕ → ℕ → ℕ
listed_pick [] n = 0
listed_pick (pick ∷ later) n = pick % n

-- the list without its next
abbrev pub listed_rest : List ℕ → List ℕ
listed_rest [] = []
listed_rest (pick ∷ later) = later
