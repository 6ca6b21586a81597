-- What a shelf and a sink tell before and after a call. (No code: the clauses of every command speak of it.)
use Rattle.std.specs.Prelude.{ℕ, List, Option}
use Rattle.fsl_base.specs.Outside.{Content}
use Rattle.fsl_base.specs.declared.outside.Shelf as shelves
use Rattle.fsl_base.specs.declared.outside.Sink as sinks

-- what a shelf tells: what each name holds, how often the system failed, and how many bytes the pulls gave
pub record ShelfState : Type 0 where
  pub content : Content
  pub faults : ℕ
  pub given : ℕ

-- what a sink tells: what was written, and how often the system failed
pub record SinkState : Type 0 where
  pub written : Option (List ℕ)
  pub faults : ℕ

-- the file of a name is read
pub record Reading : Type 0 where
  pub before : ShelfState
  pub after : ShelfState
  pub name : List ℕ

-- something is written
pub record Writing : Type 0 where
  pub before : SinkState
  pub after : SinkState

abbrev pub shelf_state : {S : Type 0} → shelves.Ghosts S → S → ShelfState
shelf_state shelf it = record { content = shelf.content it; faults = shelf.faults it; given = shelf.given it }

abbrev pub sink_state : {S : Type 0} → sinks.Ghosts S → S → SinkState
sink_state sink it = record { written = sink.written it; faults = sink.faults it }

abbrev pub reading : {S : Type 0} → shelves.Ghosts S → S → S → List ℕ → Reading
reading shelf before after name = record { before = shelf_state shelf before; after = shelf_state shelf after; name = name }

abbrev pub writing : {S : Type 0} → sinks.Ghosts S → S → S → Writing
writing sink before after = record { before = sink_state sink before; after = sink_state sink after }
