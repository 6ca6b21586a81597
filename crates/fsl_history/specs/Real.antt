-- Views are real: what is seen of a location is nothing, or goes up to a message that is there. So there is always
-- something to read.
use Rattle.std.specs.Prelude.{ℕ, ◌≡◌, ◌<◌, ◌⊎◌, List, length, ℤ}
use Rattle.fsl_history.specs.declared.did.Did.{Did}
use Rattle.fsl_history.specs.History.{Done, done, views_of, replay}
use Rattle.fsl_history.specs.Lawful.{Lawful, WritesIn}
use Rattle.fsl_history.specs.Views.{Views}
use Rattle.fsl_view.specs.Seen.{Seen}

-- n is 0, or where a write of l ends
abbrev pub IsEndAt : List Done → ℤ → ℕ → Type 0
IsEndAt h l n = (n ≡ 0) ⊎ ((e : ℕ) × (v : ℤ) × WritesIn h e l v × (n ≡ (done h e).to))

pub record IsReal (h : List Done) (v : Seen) : Type 0 where
  pub at : (l : ℤ) → IsEndAt h l (v l)

pub record AreReal (h : List Done) (w : Views) : Type 0 where
  pub cur : IsReal h w.cur
  pub acq : IsReal h w.acq
  pub rel : IsReal h w.rel

abbrev pub ViewsAreReal : Type 0
ViewsAreReal = (h : List Did) → Lawful h → (t : ℕ) → AreReal (replay h) (views_of (replay h) t)

abbrev pub MessagesAreReal : Type 0
MessagesAreReal = (h : List Did) → Lawful h → (e : ℕ) → e < length (replay h) → IsReal (replay h) (done (replay h) e).message
