-- What a machine may do next, and histories of such steps.
use Rattle.std.specs.Prelude.{ℕ, ◌≡◌, ◌<◌, ◌≤◌, ◌+◌, ◌⊎◌, true, List, [], ◌∷◌, length, Option, Some, None, ℤ, pos}
use Rattle.fsl_core.specs.declared.label.Ended.{Ended}
use Rattle.fsl_core.specs.declared.label.Label.{Label}
use Rattle.fsl_core.specs.declared.label.Label.TheVariants as label
use Rattle.fsl_core.specs.declared.mode.Mode.{Mode}
use Rattle.fsl_graph.specs.Edges.{starts, awaits, is_end}
use Rattle.fsl_graph.specs.Events.{Touches, read_by, written_by}
use Rattle.fsl_history.specs.declared.did.Did.{Did}
use Rattle.fsl_history.specs.History.{Done, done, views_of, end_of, replay}

-- event e writes at l
abbrev pub WritesIn : List Done → (e : ℕ) → ℤ → ℤ → Type 0
WritesIn h e l v = (e < length h) × ((m : Mode) × (written_by (done h e).event.label ≡ Some (Touches m l v)))

-- the source of a read of v at l: an earlier write of it, or none and the value 0
abbrev pub IsSourceIn : List Done → ℤ → ℤ → Option ℕ → Type 0
IsSourceIn h l v None = v ≡ pos 0
IsSourceIn h l v (Some w) = WritesIn h w l v

-- what may be done behind a history
pub record Allowed (h : List Done) (d : Did) : Type 0 where
  -- a read reads an earlier write, none that it has seen a later one of
  pub reads : (m : Mode) (l v : ℤ) → read_by d.event.label ≡ Some (Touches m l v) → IsSourceIn h l v d.event.from
  pub above : (m : Mode) (l v : ℤ) → read_by d.event.label ≡ Some (Touches m l v) → (views_of h d.event.thread).cur l ≤ end_of h d.event.from
  pub no_source : read_by d.event.label ≡ None → d.event.from ≡ None
  -- a write takes an interval that is free, and above what its thread has seen
  pub interval : (m : Mode) (l v : ℤ) → written_by d.event.label ≡ Some (Touches m l v) → d.low < d.to
  pub writes : (m : Mode) (l v : ℤ) → written_by d.event.label ≡ Some (Touches m l v) → (views_of h d.event.thread).cur l ≤ d.low
  pub free : (m : Mode) (l v u : ℤ) (e : ℕ) → written_by d.event.label ≡ Some (Touches m l v) → WritesIn h e l u
      → ((done h e).to ≤ d.low) ⊎ (d.to ≤ (done h e).low)
  -- a read-modify-write stands right behind its source
  pub next : (m : Mode) (l old new : ℤ) → d.event.label ≡ label.Rmw m l old new → (d.low ≡ end_of h d.event.from) × (d.to ≡ d.low + 1)
  -- a thread that has ended does nothing, one that is started is new, and one that is waited for has ended
  pub live : (e : ℕ) → e < length h → (done h e).event.thread ≡ d.event.thread → is_end (done h e).event.label ≡ true → ⊥
  pub apart : starts d.event.label d.event.thread ≡ true → ⊥
  pub fresh : (t e : ℕ) → starts d.event.label t ≡ true → e < length h → (done h e).event.thread ≡ t → ⊥
  pub once : (t e : ℕ) → starts d.event.label t ≡ true → e < length h → starts (done h e).event.label t ≡ true → ⊥
  pub ended : (t : ℕ) → awaits d.event.label t ≡ true
      → (e : ℕ) × (e < length h) × ((done h e).event.thread ≡ t) × (is_end (done h e).event.label ≡ true)

-- a history of which each step was allowed
abbrev pub Lawful : List Did → Type 0
Lawful [] = Unit {0}
Lawful (d ∷ h) = Lawful h × Allowed (replay h) d
