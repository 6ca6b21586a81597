-- Edges as tests: what a graph's own numbers and labels tell.
use Rattle.std.specs.Prelude.{ℕ, ◌==◌, Bool, true, false, ◌&&◌, ◌||◌, nat_lt, slice_get, List, [], ◌∷◌, Option, Some, None, map}
use Rattle.std.specs.Bool.{Decides}
use Rattle.fsl_core.specs.declared.label.Label.{Label}
use Rattle.fsl_core.specs.declared.label.Label.TheVariants as label
use Rattle.fsl_graph.specs.declared.event.Event.{Event}
use Rattle.fsl_graph.specs.declared.graph.Graph.{Graph}
use Rattle.fsl_graph.specs.Sequenced.{thread_of, SbEdge, Edge}

abbrev pub is_in : ℕ → List ℕ → Bool
is_in x [] = false
is_in x (y ∷ ys) = (x == y) || is_in x ys

abbrev pub starts : Label → ℕ → Bool
starts (label.Fork children) t = is_in t children
starts _ t = false

abbrev pub awaits : Label → ℕ → Bool
awaits (label.Join results) t = is_in t (map thread_of results)
awaits _ t = false

abbrev pub is_end : Label → Bool
is_end (label.End v) = true
is_end _ = false

-- an edge of sequenced-before from event a, which is x, to event b, which is y
abbrev pub leads : ℕ → ℕ → Event → Event → Bool
leads a b x y = (x.thread == y.thread && nat_lt a b) || (starts x.label y.thread || (is_end x.label && awaits y.label x.thread))

abbrev pub both_lead : ℕ → ℕ → Option Event → Option Event → Bool
both_lead a b (Some x) (Some y) = leads a b x y
both_lead a b (Some x) None = false
both_lead a b None _ = false

abbrev pub sb_edge : Graph → ℕ → ℕ → Bool
sb_edge g a b = both_lead a b (slice_get g.events a) (slice_get g.events b)

abbrev pub is_number : ℕ → Option ℕ → Bool
is_number a (Some n) = a == n
is_number a None = false

abbrev pub is_source : ℕ → Option Event → Bool
is_source a (Some y) = is_number a y.from
is_source a None = false

abbrev pub edge : Graph → ℕ → ℕ → Bool
edge g a b = sb_edge g a b || is_source a (slice_get g.events b)

-- the tests answer true exactly where there is an edge
abbrev pub SbEdgesDecided : Type 0
SbEdgesDecided = (g : Graph) (a b : ℕ) → Decides (sb_edge g a b) (SbEdge g a b)

abbrev pub EdgesDecided : Type 0
EdgesDecided = (g : Graph) (a b : ℕ) → Decides (edge g a b) (Edge g a b)
