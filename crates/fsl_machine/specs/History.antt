-- What one thread has done so far: its events, and the modification orders of its locations.
use Rattle.std.specs.Prelude.{ℕ, suc, ◌≡◌, slice_get, List, [], ◌∷◌, ◌++◌, length, Option, Some, None, ℤ, pos}
use Rattle.fsl_core.specs.declared.label.Label.{Label}
use Rattle.fsl_core.specs.declared.label.Label.TheVariants as label
use Rattle.fsl_core.specs.declared.need.Need.{Need}
use Rattle.fsl_core.specs.declared.need.Need.TheVariants as need
use Rattle.fsl_core.specs.declared.need.Reply.{Reply}
use Rattle.fsl_core.specs.declared.need.Reply.TheVariants as reply
use Rattle.fsl_graph.specs.declared.event.Event.{Event}
use Rattle.fsl_graph.specs.declared.graph.Order.{Order}
use Rattle.fsl_graph.specs.Ending.{allocations}
use Rattle.fsl_graph.specs.Events.{Touch, Touches, written_by}
use Rattle.fsl_machine.specs.Orders.{last_write, put}

pub record Trace : Type 0 where
  pub events : List Event
  pub mo : List Order

-- ---- what the memory answers

abbrev pub value_in : Option Touch → ℤ
value_in None = pos 0
value_in (Some (Touches m l v)) = v

abbrev pub value_by : Option Event → ℤ
value_by None = pos 0
value_by (Some x) = value_in (written_by x.label)

-- what the event with the number of a write has written, 0 where there is none
abbrev pub value_from : List Event → Option ℕ → ℤ
value_from es None = pos 0
value_from es (Some e) = value_by (slice_get es e)

-- what a location holds: its last write, 0 before the first one
abbrev pub value_at : Trace → ℤ → ℤ
value_at t l = value_from t.events (last_write t.mo l)

-- locations are numbered from 1
abbrev pub next_location : Trace → ℤ
next_location t = pos (suc (allocations t.events))

abbrev pub answer_of : Trace → Need → Reply
answer_of t (need.Load m l) = reply.Read (value_at t l)
answer_of t (need.Alloc k) = reply.Place (next_location t)
answer_of t _ = reply.Nothing

-- ---- one more event

-- a load reads the last write of its location
abbrev pub source_in : List Order → Label → Option ℕ
source_in mo (label.Load m l v) = last_write mo l
source_in mo _ = None

abbrev pub source_of : Trace → Label → Option ℕ
source_of t x = source_in t.mo x

-- a store goes behind the other writes of its location
abbrev pub ordered : ℕ → Label → List Order → List Order
ordered e (label.Store m l v) mo = put l e mo
ordered e _ mo = mo

abbrev pub event_of : Trace → Label → Event
event_of t x = record { thread = 0; label = x; from = source_of t x }

abbrev pub recorded : Label → Trace → Trace
recorded x t = record { events = t.events ++ event_of t x ∷ []; mo = ordered (length t.events) x t.mo }

-- the label shows what the memory answers
abbrev pub IsNext : Trace → Label → Type 0
IsNext t (label.Load m l v) = v ≡ value_at t l
IsNext t (label.Alloc k l) = l ≡ next_location t
IsNext t _ = Unit {0}
