-- Parts of the rule of allocations of atomic locations.
use Rattle.std.specs.Prelude.{ℕ, Bool, List, pos}
use Rattle.fsl_core.specs.declared.chunk.Chunk.TheVariants as chunk
use Rattle.fsl_core.specs.logic.States.{Action, ◌>>=◌, ◌>>◌, set}
use Rattle.fsl_core.specs.logic.Deciding.{assume_at_most}
use Rattle.fsl_core.specs.logic.Chunks.{add, Leave, leave}
use Rattle.fsl_core.specs.logic.Locations.{Setting}
use Rattle.fsl_core.specs.logic.Accesses.{new_address, add_leave}
use Rattle.fsl_lin.specs.Combination.{Combination, constant}

-- what may be done with a location besides writing it, and a variable is set to its address
abbrev pub with_leave : Setting → ℕ → Bool → Leave → Action
with_leave p slot rmw l = do
  add_leave p rmw l
  set slot l.at

abbrev pub located : Setting → ℕ → Bool → Leave → Action
located p slot rmw l = do
  add (chunk.Rel l.at l.inv l.args)
  with_leave p slot rmw l

-- an address is at least 1
abbrev pub based : Setting → ℕ → Bool → Leave → Action
based p slot rmw l = do
  assume_at_most (constant (pos 1)) (pos 0) l.at
  located p slot rmw l

-- the arguments of the invariant are known
abbrev pub new_location : Setting → ℕ → Bool → ℕ → List Combination → Action
new_location p slot rmw inv args = do
  d ← new_address
  located p slot rmw (leave d inv args)
