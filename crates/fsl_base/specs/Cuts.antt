-- How much a push to a sink in memory takes where it fails.
use Rattle.std.specs.Prelude.{ℕ, List, [], ◌∷◌, Option, None, Some, min, cond, nat_eq, nat_lt}
use Rattle.fsl_base.specs.declared.mem_sink.Cut.{Cut}
use Rattle.fsl_base.specs.Outside.{raised}

-- the bytes of the first entry for a call
abbrev pub cut_of : List Cut → ℕ → Option ℕ
cut_of [] call = None
cut_of (cut ∷ cuts) call = cond (nat_eq cut.call call) (Some cut.bytes) (cut_of cuts call)

-- what a push of `size` bytes takes where it fails, given the entry for its call and the room that is
-- left: a listed one takes no more than its entry says, any other fails where the room is too small
abbrev pub cut_short : Option ℕ → ℕ → ℕ → Option ℕ
cut_short (Some bytes) size room = Some (min bytes (min size room))
cut_short None size room = cond (nat_lt room size) (Some room) None

-- the same for the push after `calls` pushes
abbrev pub next_cut : List Cut → ℕ → ℕ → ℕ → Option ℕ
next_cut failing calls size room = cut_short (cut_of failing (raised calls 1)) size room
