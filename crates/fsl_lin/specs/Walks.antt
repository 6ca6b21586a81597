-- Walks along bounds on differences: an edge says `from - to <= bound`, so a walk from x to y whose bounds
-- add up to c says `x - y <= c`. Node 0 is zero, and node s + 1 is symbol s.
use Rattle.std.specs.Prelude.{◌≡◌, ℕ, Bool, true, false, not, ◌&&◌, List, [], ◌∷◌, ℤ, pos, ◌+ℤ◌, ◌≤ℤ◌, Option, Some, None, Contains, if◌then◌else◌, ◌==◌, int_lt}
use Rattle.fsl_lin.specs.declared.edge.Edge.{Edge}

-- the last list is a walk from x to y along the edges of the first; without edges it goes from a node to itself
abbrev pub IsWalk : List Edge → ℕ → ℕ → List Edge → Type 0
IsWalk edges x y [] = x ≡ y
IsWalk edges x y (e ∷ es) = Contains edges e × (e.from ≡ x) × IsWalk edges e.to y es

-- what the bounds of a walk add up to
abbrev pub total : List Edge → ℤ
total [] = pos 0
total (e ∷ es) = e.bound +ℤ total es

-- the lesser of two totals, where `None` is no walk
abbrev pub lesser : Option ℤ → Option ℤ → Option ℤ
lesser None b = b
lesser (Some a) None = Some a
lesser (Some a) (Some b) = if int_lt b a then Some b else Some a

-- a walk to an edge, the edge and a walk on from it
abbrev pub through : Option ℤ → ℤ → Option ℤ → Option ℤ
through None c b = None
through (Some a) c None = None
through (Some a) c (Some b) = Some ((a +ℤ c) +ℤ b)

-- totals of walks between any two nodes
abbrev pub Totals : Type 0
Totals = ℕ → ℕ → Option ℤ

-- the least totals with one more edge
abbrev pub with_edge : Totals → Edge → Totals
with_edge d e u v = lesser (d u v) (through (d u e.from) e.bound (d e.to v))

-- the least totals of walks along a list of edges, the newest edge first; `None` where there is no walk
abbrev pub least : List Edge → Totals
least [] u v = if u == v then Some (pos 0) else None
least (e ∷ es) u v = with_edge (least es) e u v

-- a walk back along which this bound comes to less than 0
abbrev pub is_below : Option ℤ → ℤ → Bool
is_below None c = false
is_below (Some a) c = int_lt (a +ℤ c) (pos 0)

-- one more edge makes a closed walk of a total below 0
abbrev pub closes : List Edge → Edge → Bool
closes es e = is_below (least es e.to e.from) e.bound

-- no closed walk has a total below 0
abbrev pub feasible : List Edge → Bool
feasible [] = true
feasible (e ∷ es) = feasible es && not (closes es e)

-- a walk of total t from x to y
pub record HasWalk (es : List Edge) (x y : ℕ) (t : ℤ) : Type 0 where
  pub walk : List Edge
  pub is : IsWalk es x y walk
  pub costs : total walk ≡ t

-- a total is there and is at most c
pub record AtMost (o : Option ℤ) (c : ℤ) : Type 0 where
  pub least : ℤ
  pub is : o ≡ Some least
  pub small : least ≤ℤ c

-- o is the least total of a walk from x to y: some walk has it, and none has less
pub record IsLeast (es : List Edge) (x y : ℕ) (o : Option ℤ) : Type 0 where
  pub walk : (a : ℤ) → o ≡ Some a → HasWalk es x y a
  pub no_less : (ws : List Edge) → IsWalk es x y ws → AtMost o (total ws)
