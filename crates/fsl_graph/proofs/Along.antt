-- Happens-before goes along sequenced-before and reads-from.
use Rattle.std.proofs.Common.{◌≡◌, ℕ, ◌⊎◌, inl, inr, List, [], subst, sym, refl}
use Rattle.fsl_graph.specs.declared.graph.Graph.{Graph}
use Rattle.fsl_graph.specs.Sequenced.{Path, Edge, Po}
use Rattle.fsl_graph.specs.Sequenced.Path.{one}
use Rattle.fsl_graph.specs.Sequenced.SbEdge.{by_order}
use Rattle.fsl_graph.specs.Sequenced.Edge.{by_sb as along_sb, by_rf as along_rf}
use Rattle.fsl_graph.specs.Happens.{InSequence, ReleasePoint, AcquirePoint, Sw, HbEdge}
use Rattle.fsl_graph.specs.Happens.InSequence.{head, next}
use Rattle.fsl_graph.specs.Happens.ReleasePoint.{at_write, at_fence as release_fence}
use Rattle.fsl_graph.specs.Happens.AcquirePoint.{at_read, at_fence as acquire_fence}
use Rattle.fsl_graph.specs.Happens.HbEdge.{by_sb, by_sw}
use Rattle.fsl_graph.specs.Orders.{IsForwardFrom, HbAlongEdges, ClosedUnderHb, PrefixesClosed, NextComes}
use Rattle.fsl_graph.proofs.Paths.{path_map, path_behind, path_before, closed_path, closed_more, forward_from}

by_po : (g : Graph) (a b : ℕ) → Po g a b → Path (Edge g) a b
by_po g a b p = one (along_sb (by_order p))

pub along_sequence : (g : Graph) (w u : ℕ) → InSequence g w u → (w ≡ u) ⊎ Path (Edge g) w u
along_sequence g w u head = inl refl
along_sequence g w u (next s r x) = inr (path_behind (along_sequence g w _ s) (one (along_rf r)))

pub along_release : (g : Graph) (p w : ℕ) → ReleasePoint g p w → (p ≡ w) ⊎ Path (Edge g) p w
along_release g p w (at_write x m e) = inl e
along_release g p w (release_fence x m f k o) = inr (by_po g p w o)

along_acquire : (g : Graph) (r p : ℕ) → AcquirePoint g r p → (r ≡ p) ⊎ Path (Edge g) r p
along_acquire g r p (at_read x m e) = inl (sym e)
along_acquire g r p (acquire_fence x m f k o) = inr (by_po g r p o)

along_sw : (g : Graph) (a b : ℕ) → Sw g a b → Path (Edge g) a b
along_sw g a b s =
    path_behind (along_release g a s.write s.release)
    (path_behind (along_sequence g s.write s.source s.sequence) (path_before (one (along_rf s.reads)) (along_acquire g s.read b s.acquire)))

along_step : (g : Graph) (a b : ℕ) → HbEdge g a b → Path (Edge g) a b
along_step g a b (by_sb s) = one (along_sb s)
along_step g a b (by_sw s) = along_sw g a b s

pub hb_along_edges : HbAlongEdges
hb_along_edges g a b h = path_map (along_step g) h

pub closed_under_hb : ClosedUnderHb
closed_under_hb g done c a b h i = closed_path done c a b (hb_along_edges g a b h) i

pub prefixes_closed : PrefixesClosed
prefixes_closed g order front back f e =
    let k = subst (λ (xs : List ℕ). IsForwardFrom (Edge g) [] xs) e f in
    closed_under_hb g front (λ a b r i. elim (forward_from (Edge g) [] front back k a b r i) [ inl n ↦ elim n [ ] | inr j ↦ j ])

pub next_comes : NextComes
next_comes g done rest e x c f i =
    (record { is = i; closed = c; fresh = f.1; before = f.0 }, closed_more done e c f.0)
