-- The laws of pieces.
use Rattle.std.specs.Prelude.{ℕ, ◌≤◌, List}
use Rattle.fsl_graph.specs.declared.graph.Graph.{Graph}
use Rattle.fsl_graph.specs.Sequenced.{In}
use Rattle.fsl_graph.specs.Positions.{Position}
use Rattle.fsl_own.specs.Owning.{Resource, World, Known, Owned, KeepsDeals, Agree}
use Rattle.fsl_good.specs.Pieces.{Level, holder_of, Piece, demand_at, RightPieces, Fits, Entails, IsPossible}

-- what is entailed fits too
abbrev pub FitsEntailed : Type 0
FitsEntailed = (g : Graph) (done : List ℕ) (k : Known) (w : World) (t : ℕ) (xs ys : List Piece) → Fits g done k w t xs → Entails xs ys → Fits g done k w t ys

-- what a thread has is possible
abbrev pub FitsPossible : Type 0
FitsPossible = (g : Graph) (done : List ℕ) (k : Known) (w : World) (t : ℕ) (xs : List Piece) → Owned g done k w → Fits g done k w t xs → IsPossible xs

-- pieces stay right where what they ask for stays known
abbrev pub PiecesStay : Type 0
PiecesStay = (g : Graph) (done more : List ℕ) (k k' : Known) (t : ℕ) (xs : List Piece) → ((e : ℕ) → In e done → In e more)
    → ((a : Level) (e : ℕ) → Position g done (holder_of t a) e → Position g more (holder_of t a) e) → KeepsDeals k k'
    → ((a : Level) (r : Resource) → 1 ≤ demand_at a xs r → Agree k k' r) → RightPieces g done k t xs → RightPieces g more k' t xs
