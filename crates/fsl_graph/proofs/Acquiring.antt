-- Where nothing acquires, happens-before is sequenced-before.
use Rattle.std.proofs.Common.{◌≡◌, ℕ, zero, suc, Bool, true, false, not, ◌&&◌, List, [], ◌∷◌, Some, None, slice_get, ℤ, subst, sym}
use Rattle.std.proofs.lemmas.Bool.{and_parts, not-true}
use Rattle.fsl_core.specs.declared.label.Label.{Label}
use Rattle.fsl_core.specs.declared.label.Label.TheVariants as label
use Rattle.fsl_core.specs.declared.mode.Mode.{Mode}
use Rattle.fsl_graph.specs.declared.event.Event.{Event}
use Rattle.fsl_graph.specs.declared.graph.Graph.{Graph}
use Rattle.fsl_graph.specs.Events.{acquires, read_by, Touches}
use Rattle.fsl_graph.specs.Sequenced.{Path, SbEdge, Sb}
use Rattle.fsl_graph.specs.Sequenced.Path.{one}
use Rattle.fsl_graph.specs.Happens.{Hb, HbEdge, AcquirePoint}
use Rattle.fsl_graph.specs.Happens.HbEdge.{by_sb, by_sw}
use Rattle.fsl_graph.specs.Happens.AcquirePoint.{at_read, at_fence}
use Rattle.fsl_graph.proofs.Paths.{path_map}

-- the label of an acquiring read or fence
abbrev acquiring : Label → Bool
acquiring (label.Load m l v) = acquires m
acquiring (label.Rmw m l old new) = acquires m
acquiring (label.Fence m) = acquires m
acquiring _ = false

abbrev pub none_acquires : List Event → Bool
none_acquires [] = true
none_acquires (x ∷ xs) = not (acquiring x.label) && none_acquires xs

read_acquires : (x : Label) (m : Mode) (l v : ℤ) → read_by x ≡ Some (Touches m l v) → acquires m ≡ true → acquiring x ≡ true
read_acquires (label.Load n k u) m l v h q = let s : n ≡ m = cc in subst (λ (o : Mode). acquires o ≡ true) (sym s) q
read_acquires (label.Rmw n k u w) m l v h q = let s : n ≡ m = cc in subst (λ (o : Mode). acquires o ≡ true) (sym s) q
read_acquires _ m l v h q = absurd (let f : None ≡ Some (Touches m l v) = h in cc)

none_at : (xs : List Event) (e : ℕ) (x : Event) → none_acquires xs ≡ true → slice_get xs e ≡ Some x → acquiring x.label ≡ true → ⊥
none_at [] e x h p q = absurd (let f : None ≡ Some x = p in cc)
none_at (y ∷ ys) zero x h p q =
    let f : Some y ≡ Some x = p in
    let s : y ≡ x = cc in
    let n = not-true (acquiring y.label) (and_parts (not (acquiring y.label)) (none_acquires ys) h).0 in
    absurd (let t = subst (λ (z : Event). acquiring z.label ≡ true) (sym s) q in cc)
none_at (y ∷ ys) (suc e) x h p q = none_at ys e x (and_parts (not (acquiring y.label)) (none_acquires ys) h).1 p q

no_point : (g : Graph) → none_acquires g.events ≡ true → (r p : ℕ) → AcquirePoint g r p → ⊥
no_point g h r p (at_read {m = m} {l = l} {v = v} x q e) = none_at g.events r x.event h x.is (read_acquires x.event.label m l v x.reads q)
no_point g h r p (at_fence {k = k} x m f q o) = none_at g.events p f.event h f.is (subst (λ (z : Label). acquiring z ≡ true) (sym f.fences) q)

sb_step : (g : Graph) → none_acquires g.events ≡ true → (a b : ℕ) → HbEdge g a b → Path (SbEdge g) a b
sb_step g h a b (by_sb s) = one s
sb_step g h a b (by_sw s) = absurd (no_point g h s.read b s.acquire)

pub along_sb : (g : Graph) → none_acquires g.events ≡ true → (a b : ℕ) → Hb g a b → Sb g a b
along_sb g h a b p = path_map (sb_step g h) p
