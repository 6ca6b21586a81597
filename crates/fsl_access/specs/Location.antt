-- What a chunk says of a location.
use Rattle.std.specs.Prelude.{Option, Some, None}
use Rattle.fsl_core.specs.declared.chunk.Chunk.{Chunk}
use Rattle.fsl_core.specs.declared.chunk.Chunk.TheVariants as chunk
use Rattle.fsl_core.specs.logic.Chunks.{Found, Leave, leave}

-- the location that a chunk is leave to write
abbrev pub rel_in : Chunk → Option Leave
rel_in (chunk.Rel at inv args) = Some (leave at inv args)
rel_in _ = None

-- what was found, without its place
abbrev pub what_is : {C X : Type 0} → Option (Found C X) → Option X
what_is None = None
what_is (Some f) = Some f.is
