-- What a read reads, where the writes of its location happened before it: the last of them.
use Rattle.std.specs.Prelude.{ℕ, ◌≡◌, ◌≤◌, List, ◌∷◌, ℤ}
use Rattle.fsl_core.specs.declared.mode.Mode.{Mode}
use Rattle.fsl_graph.specs.declared.event.Event.{Event}
use Rattle.fsl_graph.specs.declared.graph.Graph.{Graph}
use Rattle.fsl_graph.specs.Events.{Reads, Writes}
use Rattle.fsl_graph.specs.Sequenced.{In, Rf}
use Rattle.fsl_graph.specs.Happens.{Hb}
use Rattle.fsl_graph.specs.Places.{WritesAt}
use Rattle.fsl_graph.specs.Consistent.{IsConsistent}
use Rattle.fsl_graph.specs.Orders.{Comes}

-- w is the last write of l that is done, in modification order
pub record IsLast (g : Graph) (done : List ℕ) (l : ℤ) (w : ℕ) : Type 0 where
  pub past : In w done
  pub place : ℕ
  pub writes : WritesAt g w l place
  pub last : (u k : ℕ) → In u done → WritesAt g u l k → k ≤ place

-- l has been written
pub record IsWritten (g : Graph) (done : List ℕ) (l : ℤ) : Type 0 where
  pub write : ℕ
  pub past : In write done
  pub mode : Mode
  pub value : ℤ
  pub writes : Writes g write mode l value

-- each write of l that is done happens before e
abbrev pub AllBefore : Graph → List ℕ → ℤ → ℕ → Type 0
AllBefore g done l e = (w : ℕ) (m : Mode) (v : ℤ) → In w done → Writes g w m l v → Hb g w e

-- e reads from the last write of l that is done, and v is what this wrote
pub record ReadsLast (g : Graph) (done : List ℕ) (e : ℕ) (l v : ℤ) : Type 0 where
  pub source : ℕ
  pub from : Rf g source e
  pub last : IsLast g done l source
  pub mode : Mode
  pub writes : Writes g source mode l v

-- ---- the laws

-- a read behind a write of its location has a source
abbrev pub ReadHasSource : Type 0
ReadHasSource = (g : Graph) → IsConsistent g → (w e : ℕ) (m n : Mode) (l u v : ℤ)
    → Writes g w m l u → Reads g e n l v → Hb g w e → (s : ℕ) × Rf g s e

-- a read behind all writes of its location reads the last of them
abbrev pub ReadSeesLast : Type 0
ReadSeesLast = (g : Graph) → IsConsistent g → (done : List ℕ) (e : ℕ) (x : Event) (m : Mode) (l v : ℤ) → Comes g done e x
    → Reads g e m l v → IsWritten g done l → AllBefore g done l e → ReadsLast g done e l v

-- a write behind all writes of its location is the last of them
abbrev pub WriteIsLast : Type 0
WriteIsLast = (g : Graph) → IsConsistent g → (done : List ℕ) (e : ℕ) (m : Mode) (l v : ℤ)
    → Writes g e m l v → AllBefore g done l e → IsLast g (e ∷ done) l e

-- an event that doesn't write there leaves the last one as it is
abbrev pub LastStays : Type 0
LastStays = (g : Graph) (done : List ℕ) (e w : ℕ) (l : ℤ)
    → IsLast g done l w → ((m : Mode) (v : ℤ) → Writes g e m l v → ⊥) → IsLast g (e ∷ done) l w

-- there is one last write at most
abbrev pub OneLast : Type 0
OneLast = (g : Graph) → IsConsistent g → (done : List ℕ) (l : ℤ) (u w : ℕ) → IsLast g done l u → IsLast g done l w → u ≡ w
