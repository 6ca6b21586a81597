-- The numbers of the chunks of a kind and a rung.
use Rattle.std.specs.Prelude.{ℕ, ◌+◌, ◌==◌, Bool, ◌&&◌, List, [], ◌∷◌, if◌then◌else◌}
use Rattle.fsl_core.specs.declared.chunk.Chunk.{Chunk}
use Rattle.fsl_core.specs.declared.chunk.Chunk.TheVariants as chunk
use Rattle.fsl_core.specs.declared.mode.Rung.{Rung}
use Rattle.fsl_core.specs.declared.mode.Rung.TheVariants.{Plain}
use Rattle.fsl_core.specs.logic.Chunks.{same_rung}
use Rattle.fsl_chunk.specs.declared.kind.ChunkKind.{ChunkKind}
use Rattle.fsl_chunk.specs.declared.kind.ChunkKind.TheVariants.{Points, Init, Rel, Acq, RmwAcq, Tok, Auth}

abbrev pub kind_of : Chunk → ChunkKind
kind_of (chunk.Points rung at share value) = Points
kind_of (chunk.Init rung at) = Init
kind_of (chunk.Rel at inv args) = Rel
kind_of (chunk.Acq at inv args part out) = Acq
kind_of (chunk.RmwAcq at inv args) = RmwAcq
kind_of (chunk.Tok bank n) = Tok
kind_of (chunk.Auth bank n) = Auth

-- a chunk without a rung stands at plain
abbrev pub rung_of : Chunk → Rung
rung_of (chunk.Points rung at share value) = rung
rung_of (chunk.Init rung at) = rung
rung_of _ = Plain

-- the number of a kind among the kinds
abbrev pub kind_number : ChunkKind → ℕ
kind_number Points = 0
kind_number Init = 1
kind_number Rel = 2
kind_number Acq = 3
kind_number RmwAcq = 4
kind_number Tok = 5
kind_number Auth = 6

abbrev pub is_of : ChunkKind → Rung → Chunk → Bool
is_of kind rung c = kind_number (kind_of c) == kind_number kind && same_rung (rung_of c) rung

-- the numbers of the items that pass a test, ascending; the first item has the number n
abbrev pub numbers_from : {C : Type 0} → ℕ → (C → Bool) → List C → List ℕ
numbers_from n test [] = []
numbers_from n test (c ∷ cs) = if test c then n ∷ numbers_from (n + 1) test cs else numbers_from (n + 1) test cs

abbrev pub numbers_of : ChunkKind → Rung → List Chunk → List ℕ
numbers_of kind rung chunks = numbers_from 0 (is_of kind rung) chunks
