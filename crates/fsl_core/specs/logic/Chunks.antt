-- The chunks of a state: the first one that fits, and putting it back or taking it out. Addresses, banks and
-- arguments fit where they are proved equal.
use Rattle.std.specs.Prelude.{ℕ, ◌==◌, Bool, true, false, ◌&&◌, List, [], ◌∷◌, ◌++◌, length, Option, Some, None, pos, nat_lt, if◌then◌else◌}
use Rattle.fsl_core.specs.declared.chunk.Chunk.{Chunk}
use Rattle.fsl_core.specs.declared.chunk.Chunk.TheVariants as chunk
use Rattle.fsl_core.specs.declared.mode.Rung.{Rung}
use Rattle.fsl_core.specs.declared.mode.Rung.TheVariants.{Plain, Up, Down, Msg}
use Rattle.fsl_core.specs.declared.verdict.Kind.{Kind}
use Rattle.fsl_core.specs.declared.verdict.Kind.TheVariants as kind
use Rattle.fsl_core.specs.logic.States.{goes, fails, Rule, Action, look, change, ◌>>=◌, demand_some}
use Rattle.fsl_core.specs.logic.Deciding.{proves_equal, proves_at_most}
use Rattle.fsl_lin.specs.Combination.{Combination}
use Rattle.fsl_lin.specs.declared.fact.Fact.{Fact}

-- an item of a list that was found, as it was read, between those before and behind it
pub record Found (C X : Type 0) : Type 0 where
  pub before : List C
  pub is : X
  pub behind : List C

-- an item that reads as something, else one further behind
abbrev pub found : {C X : Type 0} → Option X → C → List C → Option (Found C X) → Option (Found C X)
found (Some x) c cs later = Some (record { before = []; is = x; behind = cs })
found None c cs None = None
found None c cs (Some f) = Some (record { before = c ∷ f.before; is = f.is; behind = f.behind })

-- the first item that reads as something
abbrev pub first : {C X : Type 0} → (C → Option X) → List C → Option (Found C X)
first reads [] = None
first reads (c ∷ cs) = found (reads c) c cs (first reads cs)

-- a chunk, read by what the facts prove
abbrev pub Reading : Type 0 → Type 0
Reading X = List Fact → Chunk → Option X

abbrev pub find : {X : Type 0} → Reading X → Rule (Option (Found Chunk X))
find reads = look (λ s. first (reads s.facts) s.chunks)

-- a chunk is needed, else the path fails by this kind
abbrev pub find_or : {X : Type 0} → Kind → Reading X → Rule (Found Chunk X)
find_or kind reads = find reads >>= demand_some kind

-- a chunk that was found has another one in its place
abbrev pub put : {X : Type 0} → Found Chunk X → Chunk → Action
put f c = change (λ s. record s { chunks = f.before ++ c ∷ f.behind })

-- it goes
abbrev pub take : {X : Type 0} → Found Chunk X → Action
take f = change (λ s. record s { chunks = f.before ++ f.behind })

-- one more, behind the others; a path holds at most 512
abbrev pub add : Chunk → Action
add c = λ s.
    if nat_lt (length s.chunks) 512 then goes tt (record s { chunks = s.chunks ++ c ∷ [] }) ∷ [] else fails kind.Chunks ∷ []

-- ---- how chunks are read

abbrev pub same_rung : Rung → Rung → Bool
same_rung Plain Plain = true
same_rung Up Up = true
same_rung Down Down = true
same_rung Msg Msg = true
same_rung _ _ = false

abbrev pub all_equal : List Fact → List Combination → List Combination → Bool
all_equal facts [] [] = true
all_equal facts (x ∷ xs) (y ∷ ys) = proves_equal facts x y && all_equal facts xs ys
all_equal facts _ _ = false

-- a share of a cell, with its value where that is known
pub record Cell : Type 0 where
  pub at : Combination
  pub share : Combination
  pub value : Option Combination

-- leave to use an atomic location under an invariant
pub record Leave : Type 0 where
  pub at : Combination
  pub inv : ℕ
  pub args : List Combination

-- leave to acquire one part of the invariant, but for the values in `out`
pub record Permission : Type 0 where
  pub leave : Leave
  pub part : ℕ
  pub out : List Combination

-- a number of tokens, or of the tokens that there may be
pub record Count : Type 0 where
  pub bank : Combination
  pub n : Combination

abbrev pub when : {X : Type 0} → Bool → X → Option X
when test x = if test then Some x else None

abbrev pub cell_chunk : Rung → Cell → Chunk
cell_chunk rung c = chunk.Points rung c.at c.share c.value

abbrev pub cell_at : Rung → Combination → Reading Cell
cell_at rung at facts (chunk.Points r a share value) =
    when (same_rung r rung && proves_equal facts a at) (record { at = a; share = share; value = value })
cell_at rung at facts _ = None

-- a cell of which at least this share is there
abbrev pub enough_at : Rung → Combination → Combination → Reading Cell
enough_at rung at k facts (chunk.Points r a share value) =
    when (same_rung r rung && (proves_equal facts a at && proves_at_most facts k (pos 0) share)) (record { at = a; share = share; value = value })
enough_at rung at k facts _ = None

abbrev pub init_at : Rung → Combination → Reading Combination
init_at rung at facts (chunk.Init r a) = when (same_rung r rung && proves_equal facts a at) a
init_at rung at facts _ = None

abbrev pub leave : Combination → ℕ → List Combination → Leave
leave at inv args = record { at = at; inv = inv; args = args }

abbrev pub rel_at : Combination → Reading Leave
rel_at at facts (chunk.Rel a inv args) = when (proves_equal facts a at) (leave a inv args)
rel_at at facts _ = None

abbrev pub rmw_at : Combination → Reading Leave
rmw_at at facts (chunk.RmwAcq a inv args) = when (proves_equal facts a at) (leave a inv args)
rmw_at at facts _ = None

-- the same location with the same invariant and arguments
abbrev pub same_leave : List Fact → Leave → Leave → Bool
same_leave facts x y = proves_equal facts x.at y.at && (x.inv == y.inv && all_equal facts x.args y.args)

abbrev pub rel_of : Leave → Reading Leave
rel_of l facts (chunk.Rel a inv args) = when (same_leave facts (leave a inv args) l) (leave a inv args)
rel_of l facts _ = None

abbrev pub rmw_of : Leave → Reading Leave
rmw_of l facts (chunk.RmwAcq a inv args) = when (same_leave facts (leave a inv args) l) (leave a inv args)
rmw_of l facts _ = None

abbrev pub tokens_of : Combination → Reading Count
tokens_of g facts (chunk.Tok bank n) = when (proves_equal facts bank g) (record { bank = bank; n = n })
tokens_of g facts _ = None

abbrev pub authority_of : Combination → Reading Count
authority_of g facts (chunk.Auth bank n) = when (proves_equal facts bank g) (record { bank = bank; n = n })
authority_of g facts _ = None
