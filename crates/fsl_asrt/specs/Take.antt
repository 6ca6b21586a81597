-- What came of looking for a share of a cell, and of holding its value against a pattern.
use Rattle.std.specs.Prelude.{◌≡◌, [], ◌∷◌, Option, Some, None, pos}
use Rattle.fsl_asrt.specs.Cells.{IsFound, left_at}
use Rattle.fsl_asrt.specs.declared.take.Matched.{Matched}
use Rattle.fsl_asrt.specs.declared.take.Matched.TheVariants as matching
use Rattle.fsl_asrt.specs.declared.take.Search.{Search}
use Rattle.fsl_asrt.specs.declared.take.Search.TheVariants as search
use Rattle.fsl_asrt.specs.declared.cells.FoundCell.{FoundCell}
use Rattle.fsl_core.specs.declared.chunk.Chunk.{Chunk}
use Rattle.fsl_core.specs.declared.mode.Rung.{Rung}
use Rattle.fsl_core.specs.declared.verdict.Kind.TheVariants.{Value}
use Rattle.fsl_core.specs.logic.States.{Env, State, Rule, goes, fails, ◌>>=◌, ◌>>◌, give}
use Rattle.fsl_core.specs.logic.Terms.{fitting}
use Rattle.fsl_core.specs.logic.Deciding.{assume_at_most}
use Rattle.fsl_core.specs.logic.Chunks.{Cell, Found}
use Rattle.fsl_core.specs.logic.Producing.{Wanted}
use Rattle.fsl_core.specs.logic.Consuming.{find_cell, match_value, rest_of, demand_equal}
use Rattle.fsl_lin.specs.Combination.{Combination, minus}

-- the rule finds a cell, which this one is
pub record IsTheCell (rung : Rung) (at share : Combination) (s : State) (c : FoundCell) : Type 0 where
  pub found : Found Chunk Cell
  pub finds : find_cell rung at share s ≡ goes found s ∷ []
  pub same : IsFound rung s.chunks found c

abbrev pub IsSearched : Rung → Combination → Combination → State → Search → Type 0
IsSearched rung at share s (search.Found c) = IsTheCell rung at share s c
IsSearched rung at share s (search.Lacks kind) = find_cell rung at share s ≡ fails kind ∷ []

abbrev pub matched : Matched → Rule Env
matched (matching.Fits env) s = goes env s ∷ []
matched (matching.Fails kind) s = fails kind ∷ []

-- a value that has to be equal, with the environment
abbrev pub held : Combination → Combination → Env → Rule Env
held v t env = do
  demand_equal Value v t
  give env

-- what is left, with the environment
abbrev pub left : Rung → FoundCell → Option Combination → Env → Rule Env
left rung c r env = do
  left_at rung c r
  give env

-- a rest stays
abbrev pub part_left : Rung → FoundCell → Combination → Env → Rule Env
part_left rung c share env = do
  r ← fitting (minus c.share share)
  left rung c (Some r) env

-- the two branches where it isn't known whether a rest stays
abbrev pub none_left : Rung → FoundCell → Combination → Env → Rule Env
none_left rung c share env = do
  assume_at_most c.share (pos 0) share
  left rung c None env

abbrev pub some_left : Rung → FoundCell → Combination → Env → Rule Env
some_left rung c share env = do
  assume_at_most share (pos 1) c.share
  part_left rung c share env

-- the chunk keeps what the share leaves
abbrev pub rest_taken : Rung → FoundCell → Combination → Env → Rule Env
rest_taken rung c share env = do
  r ← rest_of c.share share
  left rung c r env

-- its value is held against the pattern first
abbrev pub taken_from : Rung → FoundCell → Combination → Wanted Combination → Env → Rule Env
taken_from rung c share w env = do
  e ← match_value w c.value env
  rest_taken rung c share e
