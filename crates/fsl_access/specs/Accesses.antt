-- Parts of the rules of non-atomic cells: an allocation once its address is a symbol, a load, a store and a free once
-- the cell is found.
use Rattle.std.specs.Prelude.{ℕ, Option, Some, None, pos}
use Rattle.fsl_core.specs.declared.chunk.Chunk.TheVariants as chunk
use Rattle.fsl_core.specs.declared.mode.Rung.TheVariants.{Plain}
use Rattle.fsl_core.specs.declared.verdict.Kind.TheVariants as kind
use Rattle.fsl_core.specs.logic.States.{Action, ◌>>=◌, ◌>>◌, demand_some, set}
use Rattle.fsl_core.specs.logic.Deciding.{assume_at_most}
use Rattle.fsl_core.specs.logic.Chunks.{add}
use Rattle.fsl_core.specs.logic.Joining.{full}
use Rattle.fsl_core.specs.logic.Consuming.{demand_equal}
use Rattle.fsl_lin.specs.Combination.{Combination, constant}
use Rattle.fsl_asrt.specs.Cells.{put_at, take_at}
use Rattle.fsl_asrt.specs.declared.cells.FoundCell.{FoundCell}

-- a cell without a value is owned, and a variable is set to its address
abbrev pub placed : ℕ → Combination → Action
placed slot at = do
  add (chunk.Points Plain at full None)
  set slot at

-- an address is at least 1
abbrev pub addressed : ℕ → Combination → Action
addressed slot at = do
  assume_at_most (constant (pos 1)) (pos 0) at
  placed slot at

abbrev pub loaded : ℕ → Option Combination → Action
loaded slot value = do
  v ← demand_some kind.Uninit value
  set slot v

-- the cell of a chunk gets a value
abbrev pub written : FoundCell → Combination → Action
written c v = do
  demand_equal kind.Share c.share full
  put_at c.number (chunk.Points Plain c.at c.share (Some v))

-- the chunk of a cell goes
abbrev pub freed : FoundCell → Action
freed c = do
  demand_equal kind.Share c.share full
  take_at c.number
