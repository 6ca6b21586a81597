-- The rule of read-modify-writes. What the message holds is divided into what is passed on with the new value and
-- what the thread keeps.
use Rattle.std.specs.Prelude.{ℕ, ◌^◌, ◌-◌, Bool, true, false, ◌&&◌, List, [], ◌∷◌, map, is_some, pos, negsuc, if◌then◌else◌}
use Rattle.fsl_core.specs.declared.chunk.Chunk.{Chunk}
use Rattle.fsl_core.specs.declared.chunk.Chunk.TheVariants as chunk
use Rattle.fsl_core.specs.declared.mode.Mode.{Mode}
use Rattle.fsl_core.specs.declared.mode.Rung.{Rung}
use Rattle.fsl_core.specs.declared.mode.Rung.TheVariants.{Plain, Down, Msg}
use Rattle.fsl_core.specs.declared.verdict.Kind.TheVariants as kind
use Rattle.fsl_core.specs.Modes.{acquires}
use Rattle.fsl_core.specs.logic.States.{State, Rule, Action, ◌>>=◌, ◌>>◌, give, done, look, new_symbol, here, set}
use Rattle.fsl_core.specs.logic.Terms.{Expression, term, fitting}
use Rattle.fsl_core.specs.logic.Deciding.{assume_at_most, decide_equal, each_side}
use Rattle.fsl_core.specs.logic.Chunks.{first, find_or, Leave, cell_at, init_at, rel_at, rmw_at}
use Rattle.fsl_core.specs.logic.Joining.{at_rung, produce_chunk}
use Rattle.fsl_core.specs.logic.Producing.{chosen}
use Rattle.fsl_core.specs.logic.Locations.{Setting, parts_at, produce_parts, pass_parts}
use Rattle.fsl_core.specs.logic.Accesses.{giving}
use Rattle.fsl_core.specs.logic.Tokens.{TokenStep, token_steps}
use Rattle.fsl_core.specs.logic.Fences.{take_all}
use Rattle.fsl_core.specs.logic.Messages.{Held, untouched}
use Rattle.fsl_lin.specs.Combination.{Combination, plus, constant}

-- what is needed of a location: that it was written, and leave to write it and to read-modify-write it
pub record Leaves : Type 0 where
  pub rel : Leave
  pub rmw : Leave

abbrev pub find_leaves : Combination → Rule Leaves
find_leaves a = do
  find_or kind.Init (init_at Plain a)
  r ← find_or kind.Rel (rel_at a)
  m ← find_or kind.Rmw (rmw_at a)
  give (record { rel = r.is; rmw = m.is })

-- the thread owns a share of the cell of a chunk
abbrev pub owns_cell : Chunk → State → Bool
owns_cell (chunk.Points r at share value) s = is_some (first (cell_at Plain at s.facts) s.chunks)
owns_cell c s = false

-- where the thread keeps a chunk that is left: to be used, where it acquires, or where it owns a share of the cell
-- and the message that is passed on keeps one
abbrev pub keeping : Bool → Held → State → Rung
keeping true h s = Plain
keeping false h s = if h.touched && owns_cell h.chunk s then Plain else Down

abbrev pub keep : Bool → List Held → Action
keep acquiring [] = done
keep acquiring (h ∷ hs) = do
  rung ← look (keeping acquiring h)
  produce_chunk (at_rung rung h.chunk)
  keep acquiring hs

-- the value o is read and replaced by `new`; what stood at msg before, which is nothing between statements, goes
abbrev pub replace : Setting → Mode → List TokenStep → Leaves → Combination → Combination → Action
replace p m steps l o new = do
  take_all Msg
  produce_parts Msg (parts_at p l.rmw o)
  token_steps steps
  cs ← take_all Msg
  held ← pass_parts (giving m) (parts_at p l.rel new) (map untouched cs)
  keep (acquires m) held

-- one that finds another value gains nothing
abbrev pub cas : Setting → ℕ → Mode → Expression → Expression → Expression → List TokenStep → Action
cas p slot m at old new steps = do
  env ← here
  a ← term at env
  expected ← term old env
  n ← term new env
  l ← find_leaves a
  o ← new_symbol
  sides ← look (λ s. decide_equal o expected s.facts)
  same ← each_side sides
  chosen (replace p m steps l o n) done same
  set slot o

abbrev pub exchange : Setting → ℕ → Mode → Expression → Expression → List TokenStep → Action
exchange p slot m at e steps = do
  env ← here
  a ← term at env
  n ← term e env
  l ← find_leaves a
  o ← new_symbol
  replace p m steps l o n
  set slot o

-- the sum is a value
abbrev pub fetch_add : Setting → ℕ → Mode → Expression → Expression → List TokenStep → Action
fetch_add p slot m at e steps = do
  env ← here
  a ← term at env
  k ← term e env
  l ← find_leaves a
  o ← new_symbol
  n ← fitting (plus o k)
  assume_at_most (constant (negsuc (2 ^ 63 - 1))) (pos 0) n
  assume_at_most n (pos 0) (constant (pos (2 ^ 63 - 1)))
  replace p m steps l o n
  set slot o
