-- The first chunk that fits what is sought, by its number.
use Rattle.std.specs.Prelude.{ℕ, Bool, List, length, Option, Some, None, is_some}
use Rattle.fsl_core.specs.declared.chunk.Chunk.{Chunk}
use Rattle.fsl_core.specs.declared.mode.Rung.{Rung}
use Rattle.fsl_core.specs.declared.mode.Rung.TheVariants.{Plain}
use Rattle.fsl_core.specs.logic.Chunks.{Found, Reading, first, Cell, Permission, Count, cell_at, enough_at, init_at, rel_at, rmw_at, rel_of, rmw_of, tokens_of, authority_of}
use Rattle.fsl_core.specs.logic.Chunks as chunks
use Rattle.fsl_core.specs.logic.Consuming.{permission_of}
use Rattle.fsl_lin.specs.Combination.{Combination}
use Rattle.fsl_lin.specs.declared.fact.Fact.{Fact}
use Rattle.fsl_chunk.specs.declared.kind.ChunkKind.{ChunkKind}
use Rattle.fsl_chunk.specs.declared.kind.ChunkKind.TheVariants as kind
use Rattle.fsl_chunk.specs.declared.leave.Leave.{Leave}
use Rattle.fsl_chunk.specs.declared.want.Want.{Want}
use Rattle.fsl_chunk.specs.declared.want.Want.TheVariants as want

-- the number of an item that was found
abbrev pub found_number : {C X : Type 0} → Option (Found C X) → Option ℕ
found_number None = None
found_number (Some f) = Some (length f.before)

abbrev pub number_of : {X : Type 0} → Reading X → List Fact → List Chunk → Option ℕ
number_of reads facts chunks = found_number (first (reads facts) chunks)

-- what was read of a chunk that fits
abbrev pub Sought : Want → Type 0
Sought (want.Points rung at) = Cell
Sought (want.Enough rung at share) = Cell
Sought (want.Init rung at) = Combination
Sought (want.Rel at) = chunks.Leave
Sought (want.RmwAcq at) = chunks.Leave
Sought (want.RelOf l) = chunks.Leave
Sought (want.RmwOf l) = chunks.Leave
Sought (want.AcqOf l part out) = Permission
Sought (want.Tok bank) = Count
Sought (want.Auth bank) = Count

abbrev pub leave_of : Leave → chunks.Leave
leave_of l = record { at = l.at; inv = l.inv; args = l.args }

abbrev pub permission : Leave → ℕ → List Combination → Permission
permission l part out = record { leave = leave_of l; part = part; out = out }

-- how chunks are read
abbrev pub reading : (w : Want) → Reading (Sought w)
reading (want.Points rung at) = cell_at rung at.now
reading (want.Enough rung at share) = enough_at rung at.now share.now
reading (want.Init rung at) = init_at rung at.now
reading (want.Rel at) = rel_at at.now
reading (want.RmwAcq at) = rmw_at at.now
reading (want.RelOf l) = rel_of (leave_of l.now)
reading (want.RmwOf l) = rmw_of (leave_of l.now)
reading (want.AcqOf l part out) = permission_of (permission l.now part out.now)
reading (want.Tok bank) = tokens_of bank.now
reading (want.Auth bank) = authority_of bank.now

abbrev pub sought : Want → List Fact → List Chunk → Option ℕ
sought w = number_of (reading w)

-- a chunk fits
abbrev pub fits : Want → List Fact → Chunk → Bool
fits (want.Points rung at) facts c = is_some (cell_at rung at.now facts c)
fits (want.Enough rung at share) facts c = is_some (enough_at rung at.now share.now facts c)
fits (want.Init rung at) facts c = is_some (init_at rung at.now facts c)
fits (want.Rel at) facts c = is_some (rel_at at.now facts c)
fits (want.RmwAcq at) facts c = is_some (rmw_at at.now facts c)
fits (want.RelOf l) facts c = is_some (rel_of (leave_of l.now) facts c)
fits (want.RmwOf l) facts c = is_some (rmw_of (leave_of l.now) facts c)
fits (want.AcqOf l part out) facts c = is_some (permission_of (permission l.now part out.now) facts c)
fits (want.Tok bank) facts c = is_some (tokens_of bank.now facts c)
fits (want.Auth bank) facts c = is_some (authority_of bank.now facts c)

-- the kind and the rung of the chunks that can fit
abbrev pub kind_sought : Want → ChunkKind
kind_sought (want.Points rung at) = kind.Points
kind_sought (want.Enough rung at share) = kind.Points
kind_sought (want.Init rung at) = kind.Init
kind_sought (want.Rel at) = kind.Rel
kind_sought (want.RmwAcq at) = kind.RmwAcq
kind_sought (want.RelOf l) = kind.Rel
kind_sought (want.RmwOf l) = kind.RmwAcq
kind_sought (want.AcqOf l part out) = kind.Acq
kind_sought (want.Tok bank) = kind.Tok
kind_sought (want.Auth bank) = kind.Auth

abbrev pub rung_sought : Want → Rung
rung_sought (want.Points rung at) = rung
rung_sought (want.Enough rung at share) = rung
rung_sought (want.Init rung at) = rung
rung_sought _ = Plain
