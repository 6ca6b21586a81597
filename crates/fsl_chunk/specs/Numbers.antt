-- What the heap keeps beside its chunks: a list of their numbers for each kind and rung.
use Rattle.std.specs.Prelude.{◌≡◌, ℕ, ◌+◌, ◌-◌, ◌*◌, ◌≤◌, ◌==◌, List, [], ◌∷◌, length, get_or, nat_lt, if◌then◌else◌}
use Rattle.fsl_core.specs.declared.chunk.Chunk.{Chunk}
use Rattle.fsl_core.specs.declared.mode.Rung.{Rung}
use Rattle.fsl_core.specs.declared.mode.Rung.TheVariants.{Plain, Up, Down, Msg}
use Rattle.fsl_chunk.specs.declared.kind.ChunkKind.{ChunkKind}
use Rattle.fsl_chunk.specs.Kind.{numbers_of, kind_number}

abbrev pub rung_number : Rung → ℕ
rung_number Plain = 0
rung_number Up = 1
rung_number Down = 2
rung_number Msg = 3

-- 4 rungs for each kind
abbrev pub list_number : ChunkKind → Rung → ℕ
list_number kind rung = 4 * kind_number kind + rung_number rung

-- a number once another one is gone
abbrev pub lowered : ℕ → ℕ → ℕ
lowered gone n = if nat_lt gone n then n - 1 else n

abbrev pub without : ℕ → List ℕ → List ℕ
without gone [] = []
without gone (n ∷ ns) = if n == gone then without gone ns else lowered gone n ∷ without gone ns

pub record IsIndexed (chunks : List Chunk) (lists : List (List ℕ)) : Type 0 where
  pub few : length chunks ≤ 512
  pub many : length lists ≡ 28
  pub each : (kind : ChunkKind) (rung : Rung) → get_or lists (list_number kind rung) [] ≡ numbers_of kind rung chunks
