-- What a matrix of least totals says, and what one more edge makes of bounds on differences.
use Rattle.std.specs.Prelude.{◌≡◌, ℕ, ◌+◌, ◌<◌, ◌≤◌, ◌^◌, Bool, true, false, List, [], ◌∷◌, length, get_or, All, max, Contains, ℤ, pos, ◌+ℤ◌, ◌<ℤ◌, int_lt, Option, Some, None, IfSome, if◌then◌else◌, ◌==◌, nat_lt}
use Rattle.fsl_lin.specs.declared.edge.Edge.{Edge}
use Rattle.fsl_lin.specs.Sizes.{IsSize}
use Rattle.fsl_lin.specs.Walks.{Totals, AtMost, IsWalk, total, with_edge, least, feasible}

-- one more than the greatest node that an edge names; 1 where there is no edge
abbrev pub nodes_of : List Edge → ℕ
nodes_of [] = 1
nodes_of (e ∷ es) = max (max (e.from + 1) (e.to + 1)) (nodes_of es)

-- a closed walk through the new edge has a total below 0
pub record NegativeWalk (es : List Edge) (e : Edge) : Type 0 where
  pub node : ℕ
  pub walk : List Edge
  pub is : IsWalk (e ∷ es) node node walk
  pub through : Contains walk e
  pub below : total walk <ℤ pos 0

-- a node without a row has the walk without edges alone
abbrev pub entry : List (List (Option ℤ)) → Totals
entry rows u v = if nat_lt u (length rows) then get_or (get_or rows u []) v None else (if u == v then Some (pos 0) else None)

abbrev pub IsSmallEdge : Edge → Type 0
IsSmallEdge e = IsSize (2 ^ 91) e.bound

-- the triangle holds: from a node to itself it is 0, and a way and a way on are no less than the way in one
pub record Closed (d : Totals) : Type 0 where
  pub start : (u : ℕ) → d u u ≡ Some (pos 0)
  pub triangle : (u v w : ℕ) (a b : ℤ) → d u v ≡ Some a → d v w ≡ Some b → AtMost (d u w) (a +ℤ b)

-- a total and a bound come to less than another total
abbrev pub is_less : Option ℤ → ℤ → Option ℤ → Bool
is_less None c o = false
is_less (Some a) c None = true
is_less (Some a) c (Some b) = int_lt (a +ℤ c) b

-- the edge makes the way from u to its end less
abbrev pub improves : Totals → Edge → ℕ → Bool
improves d e u = is_less (d u e.from) e.bound (d u e.to)

-- a total that leaves room for sums of three
abbrev pub IsSmall : ℤ → Type 0
IsSmall = IsSize (2 ^ 101)

abbrev pub AreSmall : List (List (Option ℤ)) → Type 0
AreSmall rows = (u v : ℕ) → IfSome (entry rows u v) IsSmall

-- the least totals from u to each node with one more edge
pub record IsRowAfter (rows : List (List (Option ℤ))) (e : Edge) (u many : ℕ) (items : List (Option ℤ)) : Type 0 where
  pub long : length items ≡ many
  pub each : (v : ℕ) → v < many → get_or items v None ≡ with_edge (entry rows) e u v

pub record AreRowsAfter (rows : List (List (Option ℤ))) (e : Edge) (many : ℕ) (after : List (List (Option ℤ))) : Type 0 where
  pub long : length after ≡ many
  pub each : (u : ℕ) → u < many → IsRowAfter rows e u many (get_or after u [])

-- item v of row u is the least total of a walk from u to v, and there is a row for each node
pub record IsMatrix (es : List Edge) (rows : List (List (Option ℤ))) : Type 0 where
  pub many : length rows ≡ nodes_of es
  pub few : length rows ≤ 513
  pub square : (u : ℕ) → u < length rows → length (get_or rows u []) ≡ length rows
  pub each : (u v : ℕ) → u < length rows → v < length rows → get_or (get_or rows u []) v None ≡ least es u v
  pub feasible : feasible es ≡ true
  pub small : All IsSmallEdge es
