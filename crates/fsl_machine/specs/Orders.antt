-- Modification orders with ascending locations: the writes of a location, and one more write.
use Rattle.std.specs.Prelude.{ℕ, zero, suc, ◌-◌, Bool, true, false, slice_get, List, [], ◌∷◌, ◌++◌, length, Option, Some, None, ℤ, int_lt, if◌then◌else◌, ◌<ℤ◌}
use Rattle.std.specs.Ordering.{int_eq}
use Rattle.fsl_graph.specs.declared.graph.Order.{Order}

-- the writes of a location, in their order
abbrev pub writes_of : List Order → ℤ → List ℕ
writes_of [] l = []
writes_of (o ∷ os) l = if int_eq o.loc l then o.writes else writes_of os l

abbrev pub last_of : List ℕ → Option ℕ
last_of xs = slice_get xs (length xs - 1)

-- the last write of a location
abbrev pub last_write : List Order → ℤ → Option ℕ
last_write mo l = last_of (writes_of mo l)

-- how many locations at the head are below l
abbrev pub index_of : ℤ → List Order → ℕ
index_of l [] = zero
index_of l (o ∷ os) = if int_lt o.loc l then suc (index_of l os) else zero

-- an order that is there is that of l
abbrev pub is_at : ℤ → Option Order → Bool
is_at l None = false
is_at l (Some o) = int_eq o.loc l

-- the order of a location with its first write
abbrev pub begun : ℤ → ℕ → Order
begun l e = record { loc = l; writes = e ∷ [] }

-- an order with one more write behind the others
abbrev pub longer : ℕ → Order → Order
longer e o = record o { writes = o.writes ++ e ∷ [] }

-- a write, where the order of its location stands next, or where it is to stand
abbrev pub put_here : Bool → ℤ → ℕ → Order → List Order → List Order
put_here true l e o os = longer e o ∷ os
put_here false l e o os = begun l e ∷ o ∷ os

-- the orders with the write e of location l, behind the other writes of l
abbrev pub put : ℤ → ℕ → List Order → List Order
put l e [] = begun l e ∷ []
put l e (o ∷ os) = if int_lt o.loc l then o ∷ put l e os else put_here (int_eq o.loc l) l e o os

-- all locations are above l
abbrev pub AreAbove : ℤ → List Order → Type 0
AreAbove l [] = Unit {0}
AreAbove l (o ∷ os) = (l <ℤ o.loc) × AreAbove l os

-- the locations ascend
abbrev pub Ascends : List Order → Type 0
Ascends [] = Unit {0}
Ascends (o ∷ os) = AreAbove o.loc os × Ascends os
