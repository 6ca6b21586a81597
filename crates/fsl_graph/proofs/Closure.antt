-- That a part of a graph is closed under a relation, by a test over its events; what is outside then happens
-- before nothing in it.
use Rattle.std.proofs.Common.{◌≡◌, ◌<◌, ℕ, zero, suc, Bool, true, not, ◌&&◌, ◌||◌, nat_lt, inl, inr, List, [], ◌∷◌, length, Option, Some, None, slice_get, subst, sym, ap, ◌∙◌, arith}
use Rattle.std.proofs.lemmas.Bool.{or_cases, and_parts, cases_eq, not-true, ltb-true}
use Rattle.fsl_graph.specs.declared.event.Event.{Event}
use Rattle.fsl_graph.specs.declared.graph.Graph.{Graph}
use Rattle.fsl_graph.specs.Sequenced.{In, SbEdge, Edge}
use Rattle.fsl_graph.specs.Sequenced.Edge.{by_sb, by_rf}
use Rattle.fsl_graph.specs.Edges.{is_in, sb_edge, edge}
use Rattle.fsl_graph.specs.Orders.{IsClosed}
use Rattle.fsl_graph.proofs.Edges.{is_in_true, sb_edges_decided, edges_decided}
use Rattle.fsl_graph.proofs.Forward.{sb_from}

-- of the numbers below n, those that lead to b are in the part
abbrev pub leads_from : (ℕ → ℕ → Bool) → List ℕ → ℕ → ℕ → Bool
leads_from e part b zero = true
leads_from e part b (suc n) = (not (e n b) || is_in n part) && leads_from e part b n

abbrev each_from : (ℕ → ℕ → Bool) → List ℕ → ℕ → List ℕ → Bool
each_from e part n [] = true
each_from e part n (b ∷ bs) = leads_from e part b n && each_from e part n bs

-- no edge leads into the part from outside, among the numbers below n
abbrev pub closes : (ℕ → ℕ → Bool) → ℕ → List ℕ → Bool
closes e n part = each_from e part n part

pub leads_in : (e : ℕ → ℕ → Bool) (part : List ℕ) (b n a : ℕ) → leads_from e part b n ≡ true → a < n → e a b ≡ true → In a part
leads_in e part b zero a h l k = absurd (omega arith)
leads_in e part b (suc n) a h l k =
    let p = and_parts (not (e n b) || is_in n part) (leads_from e part b n) h in
    elim (cases_eq a n) [
      | inl s ↦ elim (or_cases (not (e n b)) (is_in n part) p.0) [
        | inl f ↦ absurd (let g = not-true (e n b) f in let t = subst (λ (m : ℕ). e m b ≡ true) s k in cc)
        | inr i ↦ is_in_true a part (subst (λ (m : ℕ). is_in m part ≡ true) (sym s) i)
      ]
      | inr d ↦ leads_in e part b n a p.1 (omega arith) k
    ]

pub each_in : (e : ℕ → ℕ → Bool) (part : List ℕ) (n : ℕ) (bs : List ℕ) (a b : ℕ) → each_from e part n bs ≡ true → a < n → e a b ≡ true → In b bs → In a part
each_in e part n [] a b h l k i = elim i [ ]
each_in e part n (c ∷ bs) a b h l k (inl s) =
    leads_in e part c n a (and_parts (leads_from e part c n) (each_from e part n bs) h).0 l (subst (λ (m : ℕ). e a m ≡ true) s k)
each_in e part n (c ∷ bs) a b h l k (inr i) = each_in e part n bs a b (and_parts (leads_from e part c n) (each_from e part n bs) h).1 l k i

pub sb_closed : (g : Graph) (part : List ℕ) → closes (sb_edge g) (length g.events) part ≡ true → IsClosed (SbEdge g) part
sb_closed g part h a b s i = each_in (sb_edge g) part (length g.events) part a b h (sb_from g a b s) ((sb_edges_decided g a b).1 s) i

-- each source is one of the first n numbers
abbrev source_below : ℕ → Option ℕ → Bool
source_below n None = true
source_below n (Some w) = nat_lt w n

abbrev pub sources_below : ℕ → List Event → Bool
sources_below n [] = true
sources_below n (x ∷ xs) = source_below n x.from && sources_below n xs

source_in : (n w : ℕ) (o : Option ℕ) → source_below n o ≡ true → o ≡ Some w → w < n
source_in n w None h e = absurd (cc)
source_in n w (Some v) h e = let l : v < n = ltb-true v n h in let s : v ≡ w = cc in omega arith

sources_in : (n w b : ℕ) (xs : List Event) (x : Event) → sources_below n xs ≡ true → slice_get xs b ≡ Some x → x.from ≡ Some w → w < n
sources_in n w b [] x h p e = absurd (let f : None ≡ Some x = p in cc)
sources_in n w zero (y ∷ ys) x h p e =
    let f : Some y ≡ Some x = p in
    let s : y ≡ x = cc in
    source_in n w y.from (and_parts (source_below n y.from) (sources_below n ys) h).0 (ap (λ (z : Event). z.from) s ∙ e)
sources_in n w (suc b) (y ∷ ys) x h p e = sources_in n w b ys x (and_parts (source_below n y.from) (sources_below n ys) h).1 p e

edge_below : (g : Graph) → sources_below (length g.events) g.events ≡ true → (a b : ℕ) → Edge g a b → a < length g.events
edge_below g h a b (by_sb s) = sb_from g a b s
edge_below g h a b (by_rf r) = sources_in (length g.events) a b g.events r.reader h r.is r.source

pub edges_closed : (g : Graph) (part : List ℕ) → sources_below (length g.events) g.events ≡ true → closes (edge g) (length g.events) part ≡ true → IsClosed (Edge g) part
edges_closed g part s h a b r i = each_in (edge g) part (length g.events) part a b h (edge_below g s a b r) ((edges_decided g a b).1 r) i
