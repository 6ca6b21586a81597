-- The rules of fences: a release fence sets resources apart for relaxed writes, and an acquire fence gives those that
-- relaxed reads have gained.
use Rattle.std.specs.Prelude.{Bool, true, false, not, filter, map, List, [], ◌∷◌}
use Rattle.fsl_core.specs.declared.chunk.Chunk.{Chunk}
use Rattle.fsl_core.specs.declared.chunk.Chunk.TheVariants as chunk
use Rattle.fsl_core.specs.declared.mode.Mode.{Mode}
use Rattle.fsl_core.specs.declared.mode.Rung.{Rung}
use Rattle.fsl_core.specs.declared.mode.Rung.TheVariants.{Plain, Up, Down}
use Rattle.fsl_core.specs.declared.verdict.Mood.TheVariants as mood
use Rattle.fsl_core.specs.Modes.{acquires, releases}
use Rattle.fsl_core.specs.logic.States.{goes, Rule, Action, ◌>>=◌, ◌>>◌, done, here}
use Rattle.fsl_core.specs.logic.Chunks.{same_rung}
use Rattle.fsl_core.specs.logic.Joining.{at_rung, produce_chunks}
use Rattle.fsl_core.specs.logic.Assertions.{Assertion}

-- a chunk stands at this rung
abbrev pub is_at : Rung → Chunk → Bool
is_at rung (chunk.Points r at share value) = same_rung r rung
is_at rung (chunk.Init r at) = same_rung r rung
is_at rung _ = false

-- all chunks of a rung are taken out, in order
abbrev pub take_all : Rung → Rule (List Chunk)
take_all rung = λ s. goes (filter (is_at rung) s.chunks) (record s { chunks = filter (λ c. not (is_at rung c)) s.chunks }) ∷ []

abbrev pub acquire : Action
acquire = do
  cs ← take_all Down
  produce_chunks (map (at_rung Plain) cs)

abbrev pub release : Assertion → Action
release a = do
  env ← here
  a.consume mood.Cond Plain env
  a.produce Up env
  done

abbrev pub only : Bool → Action → Action
only true rule = rule
only false rule = done

-- one that does both acquires first
abbrev pub fence : Mode → Assertion → Action
fence m a = do
  only (acquires m) acquire
  only (releases m) (release a)
