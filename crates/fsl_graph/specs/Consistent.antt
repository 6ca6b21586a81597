-- What makes a graph consistent: five parts, after C11 5.1.2.4 and 7.17.3.
use Rattle.std.specs.Prelude.{ℕ, suc, ◌≡◌, ◌<◌, ◌≤◌, slice_get, Some, ℤ}
use Rattle.std.specs.Prelude.{◌<ℤ◌}
use Rattle.fsl_core.specs.declared.mode.Mode.{Mode}
use Rattle.fsl_graph.specs.declared.graph.Graph.{Graph}
use Rattle.fsl_graph.specs.declared.graph.Order.{Order}
use Rattle.fsl_graph.specs.Events.{Reads, Writes, Updates}
use Rattle.fsl_graph.specs.Sequenced.{Rf}
use Rattle.fsl_graph.specs.Happens.{Hb}
use Rattle.fsl_graph.specs.Places.{IsEntry, Listed, WritesAt, ReadsAt}

-- w wrote the value that r reads, at the same location
pub record IsSource (g : Graph) (w r : ℕ) : Type 0 where
  pub loc : ℤ
  pub value : ℤ
  pub write_mode : Mode
  pub read_mode : Mode
  pub writes : Writes g w write_mode loc value
  pub reads : Reads g r read_mode loc value

-- only reads have sources, and each source wrote the value that is read, at the same location
abbrev pub HasSources : Graph → Type 0
HasSources g = (w r : ℕ) → Rf g w r → IsSource g w r

-- there is one modification order for each location that is written and no other, the locations ascend,
-- and each has every write of its location once and nothing else (C11 5.1.2.4 p7)
pub record HasOrders (g : Graph) : Type 0 where
  pub ascend : (i j : ℕ) (a b : Order) → IsEntry g i a → IsEntry g j b → i < j → a.loc <ℤ b.loc
  pub some : (i : ℕ) (order : Order) → IsEntry g i order → (e : ℕ) × (slice_get order.writes 0 ≡ Some e)
  pub every : (e : ℕ) (m : Mode) (l v : ℤ) → Writes g e m l v → (k : ℕ) × Listed g l e k
  pub only : (e k : ℕ) (l : ℤ) → Listed g l e k → (m : Mode) × (v : ℤ) × Writes g e m l v
  pub once : (e j k : ℕ) (l : ℤ) → Listed g l e j → Listed g l e k → j ≡ k

-- nothing happens before itself
abbrev pub HasNoLoop : Graph → Type 0
HasNoLoop g = (e : ℕ) → Hb g e e → ⊥

-- modification order and reads go along happens-before (C11 5.1.2.4 p15 to p18)
pub record IsCoherent (g : Graph) : Type 0 where
  pub write_write : (a b j k : ℕ) (l : ℤ) → Hb g a b → WritesAt g a l j → WritesAt g b l k → j < k
  pub read_write : (a b j k : ℕ) (l : ℤ) → Hb g a b → ReadsAt g a l j → WritesAt g b l k → j < k
  pub write_read : (a b j k : ℕ) (l : ℤ) → Hb g a b → WritesAt g a l j → ReadsAt g b l k → j ≤ k
  pub read_read : (a b j k : ℕ) (l : ℤ) → Hb g a b → ReadsAt g a l j → ReadsAt g b l k → j ≤ k

-- a read-modify-write stands in modification order right behind what it reads (C11 7.17.3 p12)
abbrev pub IsAtomic : Graph → Type 0
IsAtomic g = (e j k : ℕ) (m : Mode) (l old new : ℤ) → Updates g e m l old new → ReadsAt g e l j → WritesAt g e l k → k ≡ suc j

pub record IsConsistent (g : Graph) : Type 0 where
  pub sources : HasSources g
  pub orders : HasOrders g
  pub no_loop : HasNoLoop g
  pub coherent : IsCoherent g
  pub atomic : IsAtomic g
