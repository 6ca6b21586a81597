-- A cell among the chunks by the number of its chunk.
use Rattle.std.specs.Prelude.{◌≡◌, ℕ, ◌<◌, List, ◌∷◌, ◌++◌, length, Option, Some, None, pos, remove, slice_get, slice_set}
use Rattle.std.specs.Option.{option_map}
use Rattle.fsl_asrt.specs.declared.cells.FoundCell.{FoundCell}
use Rattle.fsl_chunk.specs.Kind.{kind_of, rung_of}
use Rattle.fsl_chunk.specs.declared.kind.ChunkKind.TheVariants.{Points}
use Rattle.fsl_core.specs.declared.chunk.Chunk.{Chunk}
use Rattle.fsl_core.specs.declared.chunk.Chunk.TheVariants as chunk
use Rattle.fsl_core.specs.declared.mode.Rung.{Rung}
use Rattle.fsl_core.specs.logic.States.{Action, ◌>>◌, ◌>>=◌, change}
use Rattle.fsl_core.specs.logic.Terms.{fitting}
use Rattle.fsl_core.specs.logic.Deciding.{assume_at_most}
use Rattle.fsl_core.specs.logic.Chunks.{Cell, Found}
use Rattle.fsl_core.specs.logic.Joining.{full, assume_same, known_of}
use Rattle.fsl_lin.specs.Combination.{Combination, plus}

abbrev pub cell_of : FoundCell → Cell
cell_of c = record { at = c.at; share = c.share; value = c.value }

-- the chunk of this number is a points-to of this rung
pub record IsPoints (rung : Rung) (number : ℕ) (cs : List Chunk) : Type 0 where
  pub within : number < length cs
  pub kind : option_map kind_of (slice_get cs number) ≡ Some Points
  pub stands : option_map rung_of (slice_get cs number) ≡ Some rung

-- the cell of this number is the one that was found among the chunks
pub record IsFound (rung : Rung) (cs : List Chunk) (f : Found Chunk Cell) (c : FoundCell) : Type 0 where
  pub is : cell_of c ≡ f.is
  pub points : IsPoints rung c.number cs
  pub put : (by : Chunk) → slice_set cs c.number by ≡ f.before ++ by ∷ f.behind
  pub taken : remove cs c.number ≡ f.before ++ f.behind

abbrev pub IsFoundBy : Rung → List Chunk → Option (Found Chunk Cell) → Option FoundCell → Type 0
IsFoundBy rung cs None None = Unit {0}
IsFoundBy rung cs (Some f) (Some c) = IsFound rung cs f c
IsFoundBy rung cs _ _ = ⊥

abbrev pub put_at : ℕ → Chunk → Action
put_at number by = change (λ s. record s { chunks = slice_set s.chunks number by })

abbrev pub take_at : ℕ → Action
take_at number = change (λ s. record s { chunks = remove s.chunks number })

-- the cell of a chunk gets a share and a value
abbrev pub valued_at : Rung → FoundCell → Combination → Option Combination → Action
valued_at rung c sum value = do
  assume_same c.value value
  put_at c.number (chunk.Points rung c.at sum (known_of c.value value))

abbrev pub summed_at : Rung → FoundCell → Combination → Option Combination → Action
summed_at rung c sum value = do
  assume_at_most sum (pos 0) full
  valued_at rung c sum value

-- a share joins the cell of a chunk
abbrev pub joined_at : Rung → FoundCell → Combination → Option Combination → Action
joined_at rung c share value = do
  sum ← fitting (plus c.share share)
  summed_at rung c sum value

-- what is left of the cell of a chunk
abbrev pub left_at : Rung → FoundCell → Option Combination → Action
left_at rung c None = take_at c.number
left_at rung c (Some share) = put_at c.number (chunk.Points rung c.at share c.value)

-- the cell that a chunk is
abbrev pub cell_in : Chunk → Option Cell
cell_in (chunk.Points rung at share value) = Some (record { at = at; share = share; value = value })
cell_in _ = None
