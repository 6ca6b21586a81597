-- Histories: what was done, the newest first, with the views that it left.
use Rattle.std.specs.Prelude.{ℕ, ◌==◌, List, [], ◌∷◌, length, Option, Some, None, ℤ, pos, if◌then◌else◌}
use Rattle.fsl_core.specs.declared.label.Ended.{Ended}
use Rattle.fsl_core.specs.declared.label.Label.TheVariants as label
use Rattle.fsl_graph.specs.declared.event.Event.{Event}
use Rattle.fsl_graph.specs.Edges.{starts}
use Rattle.fsl_graph.specs.Events.{read_by, written_by}
use Rattle.fsl_history.specs.declared.did.Did.{Did}
use Rattle.fsl_history.specs.Views.{Views, no_views, started, effect, message_view, joined_by}
use Rattle.fsl_view.specs.Seen.{Seen, unseen, joined}

-- an event with the interval of its message, where its source ends, the views of its thread after it, and the
-- view of its message
pub record Done : Type 0 where
  pub event : Event
  pub low : ℕ
  pub to : ℕ
  pub from_to : ℕ
  pub views : Views
  pub message : Seen

-- ---- by numbers: the oldest event has number 0

abbrev pub nothing : Done
nothing = record {
  event = record { thread = 0; label = label.Print (pos 0); from = None };
  low = 0;
  to = 0;
  from_to = 0;
  views = no_views;
  message = unseen;
}

abbrev pub done : List Done → ℕ → Done
done [] e = nothing
done (d ∷ h) e = if e == length h then d else done h e

-- what was done before event e
abbrev pub older : List Done → ℕ → List Done
older [] e = []
older (d ∷ h) e = if e == length h then h else older h e

-- ---- what threads have seen

-- the views of a thread now
abbrev pub views_of : List Done → ℕ → Views
views_of [] t = no_views
views_of (d ∷ h) t = if d.event.thread == t then d.views else (if starts d.event.label t then started d.views.cur else views_of h t)

-- what threads together have seen
abbrev pub seen_by : List Done → List Ended → Seen
seen_by h [] = unseen
seen_by h (r ∷ rs) = joined (views_of h r.thread).cur (seen_by h rs)

abbrev pub seen_by_joined : List Done → Option (List Ended) → Seen
seen_by_joined h None = unseen
seen_by_joined h (Some rs) = seen_by h rs

-- ---- what a source has left

abbrev pub end_of : List Done → Option ℕ → ℕ
end_of h None = 0
end_of h (Some w) = (done h w).to

abbrev pub message_of : List Done → Option ℕ → Seen
message_of h None = unseen
message_of h (Some w) = (done h w).message

-- ---- one more event

abbrev pub views_after : List Done → Did → Views
views_after h d = effect d.event.label (end_of h d.event.from) d.to (message_of h d.event.from)
    (seen_by_joined h (joined_by d.event.label)) (views_of h d.event.thread)

abbrev pub complete : List Done → Did → Done
complete h d = record {
  event = d.event;
  low = d.low;
  to = d.to;
  from_to = end_of h d.event.from;
  views = views_after h d;
  message = message_view (written_by d.event.label) (message_of h d.event.from) (views_after h d);
}

-- what was done, with its views
abbrev pub replay : List Did → List Done
replay [] = []
replay (d ∷ h) = complete (replay h) d ∷ replay h
