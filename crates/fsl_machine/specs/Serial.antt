-- What is so of the events and orders of one thread that uses non-atomic locations alone.
use Rattle.std.specs.Prelude.{ℕ, suc, ◌≡◌, ◌<◌, true, slice_get, List, [], ◌∷◌, Option, Some, None, ℤ, pos}
use Rattle.fsl_core.specs.declared.label.Label.TheVariants as label
use Rattle.fsl_core.specs.declared.mode.AllocKind.{AllocKind}
use Rattle.fsl_core.specs.declared.mode.Mode.TheVariants.{Na}
use Rattle.fsl_graph.specs.declared.event.Event.{Event}
use Rattle.fsl_graph.specs.declared.graph.Order.{Order}
use Rattle.fsl_graph.specs.Events.{read_by}
use Rattle.fsl_graph.specs.Lone.{is_plain}
use Rattle.fsl_machine.specs.Orders.{writes_of, Ascends}
use Rattle.fsl_graph.specs.Ending.{allocations, messages}

-- event e stores v at l
pub record Stores (es : List Event) (e : ℕ) (l v : ℤ) : Type 0 where
  pub event : Event
  pub is : slice_get es e ≡ Some event
  pub stores : event.label ≡ label.Store Na l v

-- the source of event e, which reads v at l: the last store there before it, or none and the value 0
abbrev pub IsLastOf : List Event → (e : ℕ) → (l v : ℤ) → Option ℕ → Type 0
IsLastOf es e l v None = (v ≡ pos 0) × ((w : ℕ) (u : ℤ) → w < e → Stores es w l u → ⊥)
IsLastOf es e l v (Some s) = (s < e) × Stores es s l v × ((w : ℕ) (u : ℤ) → s < w → w < e → Stores es w l u → ⊥)

-- each order has a write
abbrev pub AreBegun : List Order → Type 0
AreBegun [] = Unit {0}
AreBegun (o ∷ os) = ((e : ℕ) × (slice_get o.writes 0 ≡ Some e)) × AreBegun os

pub record IsSerial (es : List Event) (mo : List Order) : Type 0 where
  pub thread : (e : ℕ) (x : Event) → slice_get es e ≡ Some x → x.thread ≡ 0
  pub plain : (e : ℕ) (x : Event) → slice_get es e ≡ Some x → is_plain x.label ≡ true
  pub loads : (e : ℕ) (x : Event) (l v : ℤ) → slice_get es e ≡ Some x → x.label ≡ label.Load Na l v → IsLastOf es e l v x.from
  pub others : (e : ℕ) (x : Event) → slice_get es e ≡ Some x → read_by x.label ≡ None → x.from ≡ None
  pub ascend : Ascends mo
  pub begun : AreBegun mo
  -- the writes of a location are its stores, by ascending numbers
  pub every : (e : ℕ) (l v : ℤ) → Stores es e l v → (i : ℕ) × (slice_get (writes_of mo l) i ≡ Some e)
  pub only : (l : ℤ) (i e : ℕ) → slice_get (writes_of mo l) i ≡ Some e → (v : ℤ) × Stores es e l v
  pub rising : (l : ℤ) (i j a b : ℕ) → i < j → slice_get (writes_of mo l) i ≡ Some a → slice_get (writes_of mo l) j ≡ Some b → a < b

-- event e allocates l
pub record Places (es : List Event) (e : ℕ) (k : AllocKind) (l : ℤ) : Type 0 where
  pub event : Event
  pub is : slice_get es e ≡ Some event
  pub places : event.label ≡ label.Alloc k l

-- the locations that are allocated are the numbers from 1 to n, each once
pub record IsPlaced (es : List Event) (n : ℕ) : Type 0 where
  pub within : (e : ℕ) (k : AllocKind) (l : ℤ) → Places es e k l → (i : ℕ) × (i < n) × (l ≡ pos (suc i))
  pub once : (d e : ℕ) (j k : AllocKind) (l : ℤ) → Places es d j l → Places es e k l → d ≡ e

-- what a history keeps, with its counts of locations and writes
pub record IsKept (es : List Event) (mo : List Order) (locations writes : ℕ) : Type 0 where
  pub serial : IsSerial es mo
  pub placed : IsPlaced es locations
  pub allocated : locations ≡ allocations es
  pub written : writes ≡ messages es
