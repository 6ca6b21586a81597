-- How a run ends, as it stands in the graph and in how the threads stand after it.
use Rattle.std.specs.Prelude.{ℕ, ℤ, ◌≡◌, ◌<◌, ◌≤◌, ◌+◌, ◌⊎◌, nat_le, nat_lt, Bool, true, false, List, [], ◌∷◌, length, Option, Some, None, if◌then◌else◌}
use Rattle.std.specs.List.{count_by}
use Rattle.fsl_core.specs.declared.label.Label.{Label}
use Rattle.fsl_core.specs.declared.label.Label.TheVariants as label
use Rattle.fsl_core.specs.declared.need.Need.{Need}
use Rattle.fsl_core.specs.declared.need.Need.TheVariants as need
use Rattle.fsl_core.specs.Programs.{Program}
use Rattle.fsl_core.specs.Moves.{Config, running, joining, returned, halted, failed, need_of}
use Rattle.fsl_graph.specs.declared.ending.End.{End}
use Rattle.fsl_graph.specs.declared.ending.End.TheVariants as ends
use Rattle.fsl_graph.specs.declared.ending.LimitKind.{LimitKind}
use Rattle.fsl_graph.specs.declared.ending.LimitKind.TheVariants as limit
use Rattle.fsl_graph.specs.declared.event.Event.{Event}
use Rattle.fsl_graph.specs.declared.graph.Graph.{Graph}
use Rattle.fsl_graph.specs.declared.graph.Thread.{Thread}

-- ---- counts

-- how many moves threads have made
abbrev pub moves_of : List Thread → ℕ
moves_of [] = 0
moves_of (t ∷ ts) = t.moves + moves_of ts

abbrev pub is_alloc : Label → Bool
is_alloc (label.Alloc k l) = true
is_alloc (label.Load m l v) = false
is_alloc (label.Rmw m l old new) = false
is_alloc (label.Free l) = false
is_alloc (label.Store m l v) = false
is_alloc (label.Fence m) = false
is_alloc (label.Fork ts) = false
is_alloc (label.Join rs) = false
is_alloc (label.Print v) = false
is_alloc (label.End v) = false

abbrev pub is_write : Label → Bool
is_write (label.Store m l v) = true
is_write (label.Rmw m l old new) = true
is_write (label.Alloc k l) = false
is_write (label.Load m l v) = false
is_write (label.Free l) = false
is_write (label.Fence m) = false
is_write (label.Fork ts) = false
is_write (label.Join rs) = false
is_write (label.Print v) = false
is_write (label.End v) = false

-- how many locations were allocated
abbrev pub allocations : List Event → ℕ
allocations es = count_by (λ x. is_alloc x.label) es

-- how many writes there are
abbrev pub messages : List Event → ℕ
messages es = count_by (λ x. is_write x.label) es

-- ---- how threads stand

abbrev pub IsReturned : Config → Type 0
IsReturned c = (v : ℤ) × (c ≡ returned v)

-- the thread has halted, or an assertion of it has failed
abbrev pub IsStuck : Config → Type 0
IsStuck c = (c ≡ halted) ⊎ (c ≡ failed)

-- a thread can move; one that waits for others can where these have returned
abbrev pub IsReady : (ℕ → Config) → Config → Type 0
IsReady last (running f fs) = Unit {0}
IsReady last (joining first count f fs) = (t : ℕ) → first ≤ t → t < first + count → IsReturned (last t)
IsReady last (returned v) = ⊥
IsReady last halted = ⊥
IsReady last failed = ⊥

-- ---- ends

-- the limit that a move meets
abbrev pub limit_of : Need → Graph → Option LimitKind
limit_of (need.Alloc k) g = if nat_le 1024 (allocations g.events) then Some limit.Locations else None
limit_of (need.Store m l v) g = if nat_le 65536 (messages g.events) then Some limit.Messages else None
limit_of (need.Rmw m fail l op) g = if nat_le 65536 (messages g.events) then Some limit.Messages else None
limit_of (need.Fork calls) g = if nat_lt 1024 (length g.threads + length calls) then Some limit.Threads else None
limit_of _ g = None

-- the cause of an end, after which thread t stands at `last t`
abbrev pub IsEnd : Program → (bound : ℕ) → Graph → (ℕ → Config) → End → Type 0
-- every thread has returned
IsEnd p bound g last ends.Finished = (t : ℕ) → t < length g.threads → IsReturned (last t)
-- t is the first that has halted or failed, and none is ready
IsEnd p bound g last (ends.Halted t) =
    (t < length g.threads) × IsStuck (last t) × ((u : ℕ) → u < t → IsStuck (last u) → ⊥)
    × ((u : ℕ) → u < length g.threads → IsReady last (last u) → ⊥)
-- the moves add up to the bound, and some thread is ready
IsEnd p bound g last ends.Spent =
    (moves_of g.threads ≡ bound) × ((t : ℕ) × (t < length g.threads) × IsReady last (last t))
-- the moves don't add up to the bound, and the next move of a thread that is ready meets the limit
IsEnd p bound g last (ends.Limit kind) =
    (moves_of g.threads < bound)
    × ((t : ℕ) × (t < length g.threads) × IsReady last (last t) × (limit_of (need_of p (last t)) g ≡ Some kind))

-- some thread is ready, and the moves don't add up to the bound
abbrev pub MayGoOn : (bound : ℕ) → Graph → (ℕ → Config) → Type 0
MayGoOn bound g last = (moves_of g.threads < bound) × ((t : ℕ) × (t < length g.threads) × IsReady last (last t))
