-- Synchronizes-with and happens-before.
use Rattle.std.specs.Prelude.{ℕ, ◌≡◌, true, ℤ}
use Rattle.fsl_core.specs.declared.mode.Mode.{Mode}
use Rattle.fsl_graph.specs.declared.graph.Graph.{Graph}
use Rattle.fsl_graph.specs.Events.{is_atomic, acquires, releases, Reads, Writes, Updates, Fences}
use Rattle.fsl_graph.specs.Sequenced.{Relation, Path, Po, SbEdge, Rf}

-- the release sequence of a write: itself, and the read-modify-writes that read from it in a chain
-- (C++20 6.9.2.1; other writes of its thread, as in C11 5.1.2.4, are not in it)
pub data InSequence (g : Graph) (w : ℕ) : ℕ → Type 0 where
  head : InSequence g w w
  next : {u b : ℕ} {m : Mode} {l old new : ℤ} → InSequence g w u → Rf g u b → Updates g b m l old new → InSequence g w b

-- p is a release point of the atomic write w: w itself, or a release fence before it (C11 7.17.4)
pub data ReleasePoint (g : Graph) (p w : ℕ) : Type 0 where
  at_write : {m : Mode} {l v : ℤ} → Writes g w m l v → releases m ≡ true → p ≡ w → ReleasePoint g p w
  at_fence : {m k : Mode} {l v : ℤ} → Writes g w m l v → is_atomic m ≡ true → Fences g p k → releases k ≡ true → Po g p w → ReleasePoint g p w

-- p is an acquire point of the atomic read r: r itself, or an acquire fence behind it (C11 7.17.4)
pub data AcquirePoint (g : Graph) (r p : ℕ) : Type 0 where
  at_read : {m : Mode} {l v : ℤ} → Reads g r m l v → acquires m ≡ true → p ≡ r → AcquirePoint g r p
  at_fence : {m k : Mode} {l v : ℤ} → Reads g r m l v → is_atomic m ≡ true → Fences g p k → acquires k ≡ true → Po g r p → AcquirePoint g r p

-- synchronizes-with: from a release point of a write to an acquire point of a read of its release sequence
-- (C11 5.1.2.4, 7.17.3, 7.17.4)
pub record Sw (g : Graph) (a b : ℕ) : Type 0 where
  pub write : ℕ
  pub source : ℕ
  pub read : ℕ
  pub release : ReleasePoint g a write
  pub sequence : InSequence g write source
  pub reads : Rf g source read
  pub acquire : AcquirePoint g read b

pub data HbEdge (g : Graph) (a b : ℕ) : Type 0 where
  by_sb : SbEdge g a b → HbEdge g a b
  by_sw : Sw g a b → HbEdge g a b

-- happens-before (C11 5.1.2.4, without consume)
abbrev pub Hb : Graph → Relation
Hb g = Path (HbEdge g)
