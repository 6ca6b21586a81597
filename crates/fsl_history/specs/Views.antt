-- The views of a thread as functions, and what an event makes of them.
use Rattle.std.specs.Prelude.{ℕ, ℤ, ◌≤◌, Bool, List, Option, Some, None, if◌then◌else◌}
use Rattle.fsl_core.specs.declared.label.Ended.{Ended}
use Rattle.fsl_core.specs.declared.label.Label.{Label}
use Rattle.fsl_core.specs.declared.label.Label.TheVariants as label
use Rattle.fsl_core.specs.declared.mode.Mode.{Mode}
use Rattle.fsl_core.specs.declared.mode.Mode.TheVariants as mode
use Rattle.fsl_graph.specs.Events.{Touch, Touches, read_by, written_by, is_atomic, acquires, releases}
use Rattle.fsl_view.specs.Seen.{Seen, unseen, joined, raised}

-- no location is seen further by a than by b
pub record Le (a b : Seen) : Type 0 where
  pub at : (l : ℤ) → a l ≤ b l

-- what a thread has seen, what it will have seen behind an acquire fence, and what it had seen at its last
-- release fence
pub record Views : Type 0 where
  pub cur : Seen
  pub acq : Seen
  pub rel : Seen

abbrev pub no_views : Views
no_views = record { cur = unseen; acq = unseen; rel = unseen }

-- a thread that is started has seen what the one that starts it has
abbrev pub started : Seen → Views
started v = record { cur = v; acq = v; rel = unseen }

abbrev pub when : Bool → Seen → Seen
when b v l = if b then v l else 0

abbrev pub either : Bool → Seen → Seen → Seen
either b v w l = if b then v l else w l

-- ---- what a label does

abbrev pub fenced_by : Label → Option Mode
fenced_by (label.Fence m) = Some m
fenced_by _ = None

abbrev pub joined_by : Label → Option (List Ended)
joined_by (label.Join results) = Some results
joined_by _ = None

-- a read of what ends at t and has the view v: an atomic one gets it for later, one that acquires has it
abbrev pub after_read : Option Touch → (t : ℕ) → (v : Seen) → Views → Views
after_read None t v w = w
after_read (Some (Touches m l x)) t v w = record {
  cur = joined (raised w.cur l t) (when (acquires m) v);
  acq = joined (raised w.acq l t) (when (is_atomic m) v);
  rel = w.rel;
}

-- a write that ends at t
abbrev pub after_write : Option Touch → (t : ℕ) → Views → Views
after_write None t w = w
after_write (Some (Touches m l x)) t w = record { cur = raised w.cur l t; acq = raised w.acq l t; rel = w.rel }

-- a fence that acquires and releases does so in this order
abbrev pub after_fence : Option Mode → Views → Views
after_fence None w = w
after_fence (Some m) w = record {
  cur = either (acquires m) w.acq w.cur;
  acq = w.acq;
  rel = either (releases m) (either (acquires m) w.acq w.cur) w.rel;
}

-- threads that have seen v are waited for
abbrev pub after_join : Option (List Ended) → (v : Seen) → Views → Views
after_join None v w = w
after_join (Some results) v w = record { cur = joined w.cur v; acq = joined w.acq v; rel = w.rel }

-- an event whose source ends at `from` and has the view `got`, whose own message ends at `to`, and which waits
-- for threads that have seen `ended`
abbrev pub effect : Label → (from to : ℕ) → (got ended : Seen) → Views → Views
effect x from to got ended w =
    after_write (written_by x) to (after_read (read_by x) from got (after_fence (fenced_by x) (after_join (joined_by x) ended w)))

-- ---- the view of a message

-- what a write sends, of its thread's views after it
abbrev pub sent : Mode → Views → Seen
sent mode.Na w = unseen
sent mode.Rlx w = w.rel
sent mode.Acq w = w.rel
sent mode.Rel w = w.cur
sent mode.AcqRel w = w.cur

-- a read-modify-write sends on what its source sent
abbrev pub message_view : Option Touch → (got : Seen) → Views → Seen
message_view None got w = unseen
message_view (Some (Touches m l x)) got w = joined (sent m w) got
