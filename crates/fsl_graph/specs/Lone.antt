-- Graphs of one thread with non-atomic accesses: each load reads the last store before it, and the
-- modification orders are the order of the events. Such a graph is consistent and acyclic.
use Rattle.std.specs.Prelude.{ℕ, ◌≡◌, ◌<◌, Bool, true, false, not, Option, Some, None, ℤ, pos}
use Rattle.fsl_core.specs.declared.label.Label.{Label}
use Rattle.fsl_core.specs.declared.label.Label.TheVariants as label
use Rattle.fsl_core.specs.declared.mode.Mode.TheVariants.{Na}
use Rattle.fsl_graph.specs.declared.event.Event.{Event}
use Rattle.fsl_graph.specs.declared.graph.Graph.{Graph}
use Rattle.fsl_graph.specs.Events.{Is, is_atomic, read_by, Writes}
use Rattle.fsl_graph.specs.Sequenced.{IsAcyclic}
use Rattle.fsl_graph.specs.Places.{Listed}
use Rattle.fsl_graph.specs.Consistent.{HasOrders, IsConsistent}
use Rattle.fsl_graph.specs.Safe.{fits}

-- what a thread shows that uses non-atomic locations alone, and starts no other
abbrev pub is_plain : Label → Bool
is_plain (label.Alloc k l) = fits k false
is_plain (label.Load m l v) = not (is_atomic m)
is_plain (label.Store m l v) = not (is_atomic m)
is_plain (label.Print v) = true
is_plain (label.End v) = true
is_plain (label.Free l) = false
is_plain (label.Rmw m l old new) = false
is_plain (label.Fence m) = false
is_plain (label.Fork ts) = false
is_plain (label.Join rs) = false

-- the source of event e, which reads v at l: the last store there before it, or none and the value 0
abbrev pub IsLast : Graph → (e : ℕ) → (l v : ℤ) → Option ℕ → Type 0
IsLast g e l v None = (v ≡ pos 0) × ((w : ℕ) (u : ℤ) → w < e → Writes g w Na l u → ⊥)
IsLast g e l v (Some s) = (s < e) × Writes g s Na l v × ((w : ℕ) (u : ℤ) → s < w → w < e → Writes g w Na l u → ⊥)

pub record IsLone (g : Graph) : Type 0 where
  pub thread : (e : ℕ) (x : Event) → Is g e x → x.thread ≡ 0
  pub plain : (e : ℕ) (x : Event) → Is g e x → is_plain x.label ≡ true
  pub loads : (e : ℕ) (x : Event) (l v : ℤ) → Is g e x → x.label ≡ label.Load Na l v → IsLast g e l v x.from
  pub others : (e : ℕ) (x : Event) → Is g e x → read_by x.label ≡ None → x.from ≡ None
  pub orders : HasOrders g
  pub in_order : (a b j k : ℕ) (l : ℤ) → Listed g l a j → Listed g l b k → j < k → a < b

abbrev pub LoneIsConsistent : Type 0
LoneIsConsistent = (g : Graph) → IsLone g → IsConsistent g × IsAcyclic g
