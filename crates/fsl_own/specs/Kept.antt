-- The laws of owning: gifts, gains, losses and events keep a world that fits.
use Rattle.std.specs.Prelude.{ℕ, ◌≡◌, ◌≤◌, ◌+◌, List, ◌∷◌, ℤ}
use Rattle.fsl_core.specs.declared.label.Label.TheVariants as label
use Rattle.fsl_core.specs.declared.mode.Mode.{Mode}
use Rattle.fsl_graph.specs.declared.event.Event.{Event}
use Rattle.fsl_graph.specs.declared.graph.Graph.{Graph}
use Rattle.fsl_graph.specs.Events.{Writes}
use Rattle.fsl_graph.specs.Sequenced.{In}
use Rattle.fsl_graph.specs.Happens.{Hb}
use Rattle.fsl_graph.specs.Safe.{IsFreed}
use Rattle.fsl_graph.specs.Orders.{Comes}
use Rattle.fsl_graph.specs.Positions.{Holder}
use Rattle.fsl_graph.specs.Positions.{Holder as holder}
use Rattle.fsl_own.specs.Knowledge.{Tells}
use Rattle.fsl_own.specs.Reading.{KnowsWrites}
use Rattle.fsl_own.specs.Owning.{Resource, Cell, Heap, World, full, only, Known, limit, IsThere, UsesCell, Owned, Adds, Gives, TellsOf}

-- what an event that frees nothing may do to cells: the thread has a share of what it uses, and nobody else one of what
-- it writes
pub record UsesOwn (g : Graph) (w : World) (e : ℕ) (x : Event) : Type 0 where
  pub frees_none : (c : ℤ) → IsFreed g e c → ⊥
  pub uses : (c : ℤ) → UsesCell g e c → 1 ≤ w (holder.Plain x.thread) (Cell c)
  pub writes : (c v : ℤ) (m : Mode) → Writes g e m c v → (h : Holder) → 1 ≤ w h (Cell c) → h ≡ holder.Plain x.thread

-- ---- the laws

-- nobody has more than there is
abbrev pub AtMost : Type 0
AtMost = (g : Graph) (done : List ℕ) (k : Known) (w : World) → Owned g done k w → (h : Holder) (r : Resource) → w h r ≤ limit k r

-- nor two together
abbrev pub TwoAtMost : Type 0
TwoAtMost = (g : Graph) (done : List ℕ) (k : Known) (w : World) → Owned g done k w → (a b : Holder) (r : Resource) → (a ≡ b → ⊥) → w a r + w b r ≤ limit k r

-- who has all that there is has it alone
abbrev pub HoldsAlone : Type 0
HoldsAlone = (g : Graph) (done : List ℕ) (k : Known) (w : World) → Owned g done k w → (a b : Holder) (r : Resource) → limit k r ≤ w a r → 1 ≤ w b r → a ≡ b

-- a gift to one that knows what the giver knows
abbrev pub KeptByGiving : Type 0
KeptByGiving = (g : Graph) (done : List ℕ) (k : Known) (w v : World) (a b : Holder) (d : Heap) → Owned g done k w → Gives w v a b d → TellsOf g done a b d → Owned g done k v

-- shares that join others of their cells, while somebody who keeps a share knows what the giver knows
abbrev pub KeptByJoining : Type 0
KeptByJoining = (g : Graph) (done : List ℕ) (k : Known) (w v : World) (a b : Holder) (d : Heap) → Owned g done k w → Gives w v a b d
    → ((c : ℤ) → 1 ≤ d (Cell c) → 1 ≤ w b (Cell c))
    → ((c : ℤ) → 1 ≤ d (Cell c) → (h : Holder) × (1 ≤ v h (Cell c)) × Tells g done a h)
    → Owned g done k v

-- b gets something that nobody had, within the limits
abbrev pub KeptByGaining : Type 0
KeptByGaining = (g : Graph) (done : List ℕ) (k k' : Known) (w v : World) (b : Holder) (d : Heap) → Owned g done k w → Adds w v b d
    → ((r : Resource) → IsThere g done k r → IsThere g done k' r)
    → ((r : Resource) → 1 ≤ d r → IsThere g done k' r)
    → ((r : Resource) (n : ℕ) → n ≤ limit k r → (((h : Holder) → 1 ≤ w h r → ⊥) → n ≡ 0) → n + d r ≤ limit k' r)
    → ((c : ℤ) → 1 ≤ d (Cell c) → KnowsWrites g done b c)
    → Owned g done k' v

-- b loses something that isn't of a cell
abbrev pub KeptByLosing : Type 0
KeptByLosing = (g : Graph) (done : List ℕ) (k k' : Known) (w u : World) (b : Holder) (d : Heap) → Owned g done k w → Adds u w b d
    → ((r : Resource) → IsThere g done k r → IsThere g done k' r)
    → ((r : Resource) (n : ℕ) → n + d r ≤ limit k r → n ≤ limit k' r)
    → ((c : ℤ) → d (Cell c) ≡ 0)
    → Owned g done k' u

-- what is known may change, where what there is and how much stays
abbrev pub KeptByKnowing : Type 0
KeptByKnowing = (g : Graph) (done : List ℕ) (k k' : Known) (w : World) → Owned g done k w → ((r : Resource) → IsThere g done k r → IsThere g done k' r)
    → ((r : Resource) → limit k r ≤ limit k' r) → Owned g done k' w

-- an event of a thread that has all shares of a cell comes after each use of it
abbrev pub ChangeIsAfter : Type 0
ChangeIsAfter = (g : Graph) (done : List ℕ) (k : Known) (w : World) (e : ℕ) (x : Event) (c : ℤ) → Owned g done k w → Comes g done e x
    → full ≤ w (holder.Plain x.thread) (Cell c) → (a : ℕ) → In a done → UsesCell g a c → Hb g a e

-- and one of a thread that has a share comes after each write of it
abbrev pub UseIsAfter : Type 0
UseIsAfter = (g : Graph) (done : List ℕ) (k : Known) (w : World) (e : ℕ) (x : Event) (c : ℤ) → Owned g done k w → Comes g done e x
    → 1 ≤ w (holder.Plain x.thread) (Cell c) → (a : ℕ) (m : Mode) (v : ℤ) → In a done → Writes g a m c v → Hb g a e

-- an event that uses what its thread has
abbrev pub KeptByEvent : Type 0
KeptByEvent = (g : Graph) (done : List ℕ) (k : Known) (w : World) (e : ℕ) (x : Event) → Owned g done k w → Comes g done e x → UsesOwn g w e x → Owned g (e ∷ done) k w

-- a free of a cell that the thread has whole: the shares go with it
abbrev pub KeptByFree : Type 0
KeptByFree = (g : Graph) (done : List ℕ) (k : Known) (w u : World) (e : ℕ) (x : Event) (c : ℤ) → Owned g done k w → Comes g done e x → x.label ≡ label.Free c
    → full ≤ w (holder.Plain x.thread) (Cell c) → Adds u w (holder.Plain x.thread) (only (Cell c) full) → Owned g (e ∷ done) k u
