-- What a view keeps: an entry for each location that was raised, and for how many entries it has room.
use Rattle.std.specs.Prelude.{ℕ, List}
use Rattle.fsl_view.specs.declared.entry.Entry.{Entry}
use Rattle.fsl_view.specs.Entries.{at}
use Rattle.fsl_view.specs.Seen.{Seen}

pub record Kept : Type 0 where
  pub entries : List Entry
  pub room : ℕ

-- the view as a function
abbrev pub seen : Kept → Seen
seen kept = at kept.entries
