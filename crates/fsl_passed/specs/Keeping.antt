-- What the thread keeps of what is left of a message. It stands where the read puts what it gains: at plain, where the
-- thread acquires, and else at down. But shares of a cell join those of the thread, at plain, where the thread has one of
-- this cell and the message that is written has got one too.
use Rattle.std.specs.Prelude.{◌+◌, ◌≤◌, Bool, List, ℤ, if◌then◌else◌}
use Rattle.fsl_core.specs.declared.mode.Rung.{Rung}
use Rattle.fsl_core.specs.declared.mode.Rung.TheVariants.{Plain, Down, Msg}
use Rattle.fsl_core.specs.logic.States.{State}
use Rattle.fsl_lin.specs.Numbers.{Numbers}
use Rattle.fsl_meaning.specs.Heaps.{Key, Cell, Heap, Ground}
use Rattle.fsl_meaning.specs.States.{All, Fits}
use Rattle.fsl_kept.specs.Changes.{lifted}

-- where the read puts what it gains
abbrev pub gained_at : Bool → Rung
gained_at acquiring = if acquiring then Plain else Down

-- some of the message was kept, and some of it joined; `past` is what the message that is written has got
pub record Keeps (g : Ground) (slots : List ℤ) (acquiring : Bool) (past message thread : Heap) (s : State) (w : Numbers) : Type 0 where
  pub kept : Heap
  pub joined : Heap
  pub within : (k : Key) → kept k + joined k ≤ message k
  pub shared : (l : ℤ) → 1 ≤ joined (Cell Msg l) → (1 ≤ thread (Cell Plain l)) × (1 ≤ past (Cell Msg l))
  pub fits : Fits slots (All g (λ k. lifted Msg (gained_at acquiring) kept k + (lifted Msg Plain joined k + thread k))) w s
