-- The rules of allocations, loads, stores and frees.
use Rattle.std.specs.Prelude.{ℕ, ◌+◌, Bool, true, false, List, [], ◌∷◌, ◌++◌, Option, Some, None, pos, slice_set, slice_get, if◌then◌else◌}
use Rattle.fsl_core.specs.declared.chunk.Chunk.{Chunk}
use Rattle.fsl_core.specs.declared.chunk.Chunk.TheVariants as chunk
use Rattle.fsl_core.specs.declared.mode.Mode.{Mode}
use Rattle.fsl_core.specs.declared.mode.Mode.TheVariants as mode
use Rattle.fsl_core.specs.declared.mode.Rung.{Rung}
use Rattle.fsl_core.specs.declared.mode.Rung.TheVariants.{Plain, Up, Down}
use Rattle.fsl_core.specs.declared.verdict.Kind.TheVariants as kind
use Rattle.fsl_core.specs.Modes.{acquires, releases}
use Rattle.fsl_core.specs.Values.{with_value}
use Rattle.fsl_core.specs.logic.States.{State, Rule, Action, ◌>>=◌, ◌>>◌, give, done, look, change, demand_some, new_symbol, here, set}
use Rattle.fsl_core.specs.logic.Terms.{Expression, term, terms}
use Rattle.fsl_core.specs.logic.Deciding.{proves_equal, assume_at_most, decide_equal, each_side}
use Rattle.fsl_core.specs.logic.Chunks.{Found, Reading, find_or, put, take, add, Cell, Leave, leave, Permission, when, cell_at, init_at, rel_at}
use Rattle.fsl_core.specs.logic.Joining.{full, produce_init}
use Rattle.fsl_core.specs.logic.Producing.{chosen, Instance}
use Rattle.fsl_core.specs.logic.Consuming.{demand_equal}
use Rattle.fsl_core.specs.logic.Assertions.{Assertion}
use Rattle.fsl_core.specs.logic.Locations.{Setting, parts_of, parts_at, part_at, consume_parts, produce_part}
use Rattle.fsl_lin.specs.Combination.{Combination, constant}
use Rattle.fsl_lin.specs.declared.fact.Fact.{Fact}

-- ---- modes

-- where a read puts what it gains
abbrev pub gaining : Mode → Rung
gaining m = if acquires m then Plain else Down

-- where a write takes what it gives away
abbrev pub giving : Mode → Rung
giving m = if releases m then Plain else Up

-- ---- allocations

-- an address is a new symbol that is at least 1
abbrev pub new_address : Rule Combination
new_address = do
  d ← new_symbol
  assume_at_most (constant (pos 1)) (pos 0) d
  give d

abbrev pub alloc_na : ℕ → Action
alloc_na slot = do
  d ← new_address
  add (chunk.Points Plain d full None)
  set slot d

-- leave to acquire each part, from a number on
abbrev pub add_permissions : Leave → ℕ → List Assertion → Action
add_permissions l part [] = done
add_permissions l part (a ∷ rest) = do
  add (chunk.Acq l.at l.inv l.args part [])
  add_permissions l (part + 1) rest

-- what may be done with a new location, for read-modify-writes or for loads
abbrev pub add_leave : Setting → Bool → Leave → Action
add_leave p true l = add (chunk.RmwAcq l.at l.inv l.args)
add_leave p false l = add_permissions l 0 (parts_of (slice_get p.invs l.inv))

abbrev pub alloc_at : Setting → ℕ → Bool → Instance → Action
alloc_at p slot rmw inst = do
  env ← here
  args ← terms inst.args env
  d ← new_address
  add (chunk.Rel d inst.inv args)
  add_leave p rmw (leave d inst.inv args)
  set slot d

-- ---- loads

abbrev pub load_na : ℕ → Expression → Action
load_na slot at = do
  env ← here
  a ← term at env
  f ← find_or kind.Points (cell_at Plain a)
  v ← demand_some kind.Uninit f.is.value
  set slot v

-- a permission for a location
abbrev pub permission_at : Combination → Reading Permission
permission_at at facts (chunk.Acq a inv args part out) = when (proves_equal facts a at) (record { leave = leave a inv args; part = part; out = out })
permission_at at facts _ = None

-- the place of a chunk that reads as something, in front of other places
abbrev pub placed : {X : Type 0} → Option X → ℕ → List ℕ → List ℕ
placed None place places = places
placed (Some x) place places = place ∷ places

-- the places of the permissions for a location among chunks, the first of which stands at this place
abbrev pub permissions : List Fact → Combination → ℕ → List Chunk → List ℕ
permissions facts at place [] = []
permissions facts at place (c ∷ cs) = placed (permission_at at facts c) place (permissions facts at (place + 1) cs)

-- what stands at a place, where it is a permission for the location
abbrev pub permission_in : Combination → ℕ → State → Option Permission
permission_in at place s = with_value (slice_get s.chunks place) (permission_at at s.facts)

-- whether a value is one of those that were read already; those behind it are then not decided
abbrev pub is_excluded : Combination → List Combination → Rule Bool
is_excluded v [] = give false
is_excluded v (x ∷ xs) = do
  sides ← look (λ s. decide_equal v x s.facts)
  same ← each_side sides
  chosen (give true) (is_excluded v xs) same

-- the value is excluded from now on, and its part of the invariant is gained
abbrev pub gain : Setting → Rung → Combination → ℕ → Permission → Bool → Action
gain p rung v place x true = done
gain p rung v place x false = do
  change (λ s. record s { chunks = slice_set s.chunks place (chunk.Acq x.leave.at x.leave.inv x.leave.args x.part (x.out ++ v ∷ [])) })
  produce_part rung (part_at p x.leave x.part v)

-- by a permission, which stands at this place; without one, nothing is gained
abbrev pub gain_by : Setting → Rung → Combination → ℕ → Option Permission → Action
gain_by p rung v place None = done
gain_by p rung v place (Some x) = do
  excluded ← is_excluded v x.out
  gain p rung v place x excluded

-- at each of these places, by what stands there when it is come to
abbrev pub gain_each : Setting → Rung → Combination → Combination → List ℕ → Action
gain_each p rung at v [] = done
gain_each p rung at v (place ∷ places) = do
  x ← look (permission_in at place)
  gain_by p rung v place x
  gain_each p rung at v places

-- an atomic load; the places are those of the permissions for the location before it
abbrev pub load_atomic : Setting → ℕ → Mode → Expression → Action
load_atomic p slot m at = do
  env ← here
  a ← term at env
  find_or kind.Init (init_at Plain a)
  v ← new_symbol
  places ← look (λ s. permissions s.facts a 0 s.chunks)
  gain_each p (gaining m) a v places
  set slot v

abbrev pub load : Setting → ℕ → Mode → Expression → Action
load p slot mode.Na at = load_na slot at
load p slot m at = load_atomic p slot m at

-- ---- stores and frees

-- all shares of a cell
abbrev pub whole_cell : Combination → Rule (Found Chunk Cell)
whole_cell a = do
  f ← find_or kind.Points (cell_at Plain a)
  demand_equal kind.Share f.is.share full
  give f

abbrev pub store_na : Expression → Expression → Action
store_na at e = do
  env ← here
  a ← term at env
  v ← term e env
  f ← whole_cell a
  put f (chunk.Points Plain f.is.at f.is.share (Some v))

-- an atomic store gives all parts of the invariant away
abbrev pub store_atomic : Setting → Mode → Expression → Expression → Action
store_atomic p m at e = do
  env ← here
  a ← term at env
  v ← term e env
  f ← find_or kind.Rel (rel_at a)
  consume_parts (giving m) (parts_at p f.is v)
  produce_init Plain a

abbrev pub store : Setting → Mode → Expression → Expression → Action
store p mode.Na at e = store_na at e
store p m at e = store_atomic p m at e

abbrev pub free : Expression → Action
free at = do
  env ← here
  a ← term at env
  f ← whole_cell a
  take f
