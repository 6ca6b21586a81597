-- A view as a function: up to where the messages of each location are seen, 0 where none is.
use Rattle.std.specs.Prelude.{ℕ, ℤ, max, if◌then◌else◌}
use Rattle.std.specs.Ordering.{int_eq}

abbrev pub Seen : Type 0
Seen = ℤ → ℕ

-- nothing is seen
abbrev pub unseen : Seen
unseen l = 0

-- the greater at each location
abbrev pub joined : Seen → Seen → Seen
joined v w l = max (v l) (w l)

-- one location alone
abbrev pub only : ℤ → ℕ → Seen
only loc to l = if int_eq loc l then to else 0

-- the greater at one location
abbrev pub raised : Seen → ℤ → ℕ → Seen
raised v loc to = joined v (only loc to)
