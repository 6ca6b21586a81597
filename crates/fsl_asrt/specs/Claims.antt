-- Claims and leave to acquire among the chunks of a path.
use Rattle.std.specs.Prelude.{ℕ, List}
use Rattle.fsl_asrt.specs.Cells.{take_at}
use Rattle.fsl_chunk.specs.Fits.{reading}
use Rattle.fsl_chunk.specs.declared.leave.Leave.{Leave}
use Rattle.fsl_chunk.specs.declared.want.Want.{Want}
use Rattle.fsl_core.specs.declared.chunk.Chunk.TheVariants as chunk
use Rattle.fsl_core.specs.declared.verdict.Kind.{Kind}
use Rattle.fsl_core.specs.declared.verdict.Kind.TheVariants as kind
use Rattle.fsl_core.specs.logic.States.{Env, Rule, ◌>>=◌, ◌>>◌, give}
use Rattle.fsl_core.specs.logic.Chunks.{Permission, find_or, take, add}
use Rattle.fsl_core.specs.logic.Consuming.{permission_of}
use Rattle.fsl_lin.specs.Combination.{Combination}

-- a chunk that has to be there, and stays
abbrev pub demanded : Kind → Want → Env → Rule Env
demanded kind w env = do
  find_or kind (reading w)
  give env

-- leave to acquire is added
abbrev pub permitted : Leave → ℕ → List Combination → Env → Rule Env
permitted l part out env = do
  add (chunk.Acq l.at l.inv l.args part out)
  give env

-- it is taken out
abbrev pub permission_taken : Permission → Env → Rule Env
permission_taken p env = do
  f ← find_or kind.Acq (permission_of p)
  take f
  give env

-- the chunk of a number goes
abbrev pub number_taken : ℕ → Env → Rule Env
number_taken number env = do
  take_at number
  give env
