-- What a change leaves to a holder.
use Rattle.std.specs.Prelude.{ℕ, ◌≡◌, ◌≤◌, List, []}
use Rattle.fsl_graph.specs.declared.graph.Graph.{Graph}
use Rattle.fsl_graph.specs.Positions.{Holder}
use Rattle.fsl_graph.specs.Positions.{Holder as holder}
use Rattle.fsl_own.specs.Owning.{Resource, World, Known, KeepsDeals, Agree}
use Rattle.fsl_ground.specs.Ground.{Meaning, Ground}
use Rattle.fsl_good.specs.Pieces.{Level, holder_of, Piece, Fits}

-- a holder has no less, and what is known of what it has stays
pub record Keeps (k k' : Known) (w w' : World) (h : Holder) : Type 0 where
  pub grows : (r : Resource) → w h r ≤ w' h r
  pub agree : (r : Resource) → 1 ≤ w h r → Agree k k' r

-- thread t has changed its pieces, while nothing new is done, and goes on with K
pub record Changed (asks : Meaning) (g : Graph) (done but : List ℕ) (k : Known) (w : World) (t : ℕ) (K : List Piece → Type 0) : Type 0 where
  pub known : Known
  pub world : World
  pub ground : Ground asks g done but known world
  pub pieces : List Piece
  pub fits : Fits g done known world t pieces
  pub next : K pieces
  pub deals : KeepsDeals k known
  pub others : (h : Holder) → (h ≡ holder.Plain t → ⊥) → Keeps k known w world h

-- thread t has acted and goes on with K, where these events are done; the other threads keep what they have
pub record Acted (asks : Meaning) (g : Graph) (done : List ℕ) (k : Known) (w : World) (t : ℕ) (K : List Piece → Type 0) : Type 0 where
  pub known : Known
  pub world : World
  pub ground : Ground asks g done [] known world
  pub pieces : List Piece
  pub fits : Fits g done known world t pieces
  pub next : K pieces
  pub deals : KeepsDeals k known
  pub others : (u : ℕ) (a : Level) → (u ≡ t → ⊥) → Keeps k known w world (holder_of u a)
