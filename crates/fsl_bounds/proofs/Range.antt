-- Least totals are bounded: a walk that comes twice to a node is no less without what lies between, and a walk
-- that does not has at most as many edges as there are nodes.
use Rattle.std.proofs.Common.{◌≡◌, ℕ, suc, ◌*◌, ◌^◌, ◌<◌, ◌≤◌, true, false, eqb, ◌⊎◌, inl, inr, List, [], ◌∷◌, length, Some, ℤ, ◌+ℤ◌, ◌≤ℤ◌, refl, ap, sym, subst, arith}
use Rattle.std.specs.List.{All, Contains, IsDistinct, AllByRecursion, list_any}
use Rattle.std.proofs.lemmas.Int.{ints}
use Rattle.std.proofs.lemmas.Bool.{cases_Bool, eqb-true, or_cases, or_parts}
use Rattle.std.proofs.lemmas.List.Elements.{All-contains}
use Rattle.std.proofs.lemmas.Map.Keys.{IsDistinct-cons, IsDistinct-tail}
use Rattle.std.proofs.lemmas.Map.Steps.{length-le_from_distinct_below}
use Rattle.fsl_lin.specs.declared.edge.Edge.{Edge}
use Rattle.fsl_lin.specs.Sizes.{IsSize}
use Rattle.fsl_lin.specs.Walks.{IsWalk, total, least, feasible}
use Rattle.fsl_bounds.specs.Matrix.{nodes_of, IsSmallEdge}
use Rattle.fsl_bounds.proofs.Closed.{at_most_some}
use Rattle.fsl_bounds.proofs.Least.{contains_cases, least_walk, no_less, closed_walk}

-- where the edges of a walk lead
abbrev visited : List Edge → List ℕ
visited [] = []
visited (e ∷ es) = e.to ∷ visited es

visited_length : (ws : List Edge) → length (visited ws) ≡ length ws
visited_length [] = refl
visited_length (w ∷ ws) = ap suc (visited_length ws)

-- a walk of at most this total that comes to no node twice
record Simple (es : List Edge) (u v : ℕ) (t : ℤ) : Type 0 where
  walk : List Edge
  is : IsWalk es u v walk
  distinct : IsDistinct eqb (u ∷ visited walk)
  no_more : total walk ≤ℤ t

-- a simple walk in two at one of its nodes
record Split (es : List Edge) (x u v : ℕ) (t : ℤ) : Type 0 where
  front : List Edge
  back : List Edge
  front_is : IsWalk es x u front
  back_is : IsWalk es u v back
  distinct : IsDistinct eqb (u ∷ visited back)
  sum : t ≡ total front +ℤ total back

split : (es : List Edge) (x u v : ℕ) (ws : List Edge) → IsWalk es x v ws → IsDistinct eqb (x ∷ visited ws)
    → (eqb u x ≡ true) ⊎ (list_any (eqb u) (visited ws) ≡ true) → Split es x u v (total ws)
split es x u v [] h d (inr a) = absurd (let f : false ≡ true = a in cc)
split es x u v ws h d (inl a) =
    let e : x ≡ u = sym (eqb-true u x a) in
    record {
      front = [];
      back = ws;
      front_is = e;
      back_is = subst (λ (n : ℕ). IsWalk es n v ws) e h;
      distinct = subst (λ (n : ℕ). IsDistinct eqb (n ∷ visited ws)) e d;
      sum = omega (arith, ints);
    }
split es x u v (w ∷ ws) h d (inr a) =
    let s = split es w.to u v ws h.2 (IsDistinct-tail eqb x (w.to ∷ visited ws) d) (or_cases (eqb u w.to) (list_any (eqb u) (visited ws)) a) in
    record {
      front = w ∷ s.front;
      back = s.back;
      front_is = (h.0, h.1, s.front_is);
      back_is = s.back_is;
      distinct = s.distinct;
      sum = let e = s.sum in omega (arith, ints);
    }

none_same : (u : ℕ) (ns : List ℕ) → list_any (eqb u) ns ≡ false → AllByRecursion (λ n. eqb u n ≡ false) ns
none_same u [] h = tt
none_same u (n ∷ ns) h = let p = or_parts (eqb u n) (list_any (eqb u) ns) h in (p.0, none_same u ns p.1)

alone : (u : ℕ) → IsDistinct eqb (u ∷ [])
unfolding IsDistinct
alone u = (tt, tt)

simple : (es : List Edge) (u v : ℕ) (ws : List Edge) → feasible es ≡ true → IsWalk es u v ws → Simple es u v (total ws)
simple es u v [] f h = record { walk = []; is = h; distinct = alone u; no_more = omega (arith, ints) }
simple es u v (w ∷ ws) f h =
    let s = simple es w.to v ws f h.2 in
    let m = s.no_more in
    elim (cases_Bool (list_any (eqb u) (w.to ∷ visited s.walk))) [
      | inl again ↦
          let c = split es w.to u v s.walk s.is s.distinct (or_cases (eqb u w.to) (list_any (eqb u) (visited s.walk)) again) in
          let n = closed_walk es u (w ∷ c.front) f (h.0, h.1, c.front_is) in
          let e = c.sum in
          record { walk = c.back; is = c.back_is; distinct = c.distinct; no_more = omega (arith, ints) }
      | inr new ↦
          record {
            walk = w ∷ s.walk;
            is = (h.0, h.1, s.is);
            distinct = IsDistinct-cons eqb u (w.to ∷ visited s.walk) (none_same u (w.to ∷ visited s.walk) new) s.distinct;
            no_more = omega (arith, ints);
          }
    ]

edge_below : (es : List Edge) (e : Edge) → Contains es e → e.to < nodes_of es
edge_below [] e h = absurd (let l = h.1 in omega arith)
edge_below (f ∷ es) e h = elim (contains_cases e f es h) [
  | inl s ↦ subst (λ (g : Edge). g.to < nodes_of (f ∷ es)) s (omega arith)
  | inr o ↦ let l = edge_below es e o in omega arith
]

visited_below : (es : List Edge) (u v : ℕ) (ws : List Edge) → IsWalk es u v ws → (q : ℕ) → list_any (eqb q) (visited ws) ≡ true → q < nodes_of es
visited_below es u v [] h q a = absurd (let f : false ≡ true = a in cc)
visited_below es u v (w ∷ ws) h q a = elim (or_cases (eqb q w.to) (list_any (eqb q) (visited ws)) a) [
  | inl s ↦ let e = eqb-true q w.to s in let l = edge_below es w h.0 in omega arith
  | inr o ↦ visited_below es w.to v ws h.2 q o
]

total_size : (es : List Edge) (u v : ℕ) (ws : List Edge) → All IsSmallEdge es → IsWalk es u v ws → IsSize (length ws * 2 ^ 91) (total ws)
total_size es u v [] a h = record { low = omega (arith, ints); high = omega (arith, ints) }
total_size es u v (w ∷ ws) a h =
    let s = All-contains IsSmallEdge es w a h.0 in
    let r = total_size es w.to v ws a h.2 in
    let low = s.low in let high = s.high in let under = r.low in let over = r.high in
    record { low = omega (arith, ints); high = omega (arith, ints) }

simple_short : (es : List Edge) (u v : ℕ) (t : ℤ) → u < nodes_of es → (s : Simple es u v t) → length s.walk < nodes_of es
simple_short es u v t h s =
    let n : length (u ∷ visited s.walk) ≤ nodes_of es = length-le_from_distinct_below (u ∷ visited s.walk) (nodes_of es) s.distinct
    (λ q a. elim (or_cases (eqb q u) (list_any (eqb q) (visited s.walk)) a) [
      | inl e ↦ let same = eqb-true q u e in omega arith
      | inr o ↦ visited_below es u v s.walk s.is q o
    ]) in
    let l = visited_length s.walk in
    omega arith

pub least_size : (es : List Edge) (u v : ℕ) (a : ℤ) → feasible es ≡ true → All IsSmallEdge es → nodes_of es ≤ 513 → u < nodes_of es
    → least es u v ≡ Some a → IsSize (2 ^ 101) a
least_size es u v a f small few inside is =
    let w = least_walk es u v a is in
    let s = simple es u v w.walk f w.is in
    let l = simple_short es u v (total w.walk) inside s in
    let size = total_size es u v s.walk small s.is in
    let most = s.no_more in
    let costs = w.costs in
    let least_of = at_most_some (least es u v) a (total s.walk) is (no_less es u v s.walk f s.is) in
    let low = size.low in let high = size.high in
    record { low = omega (arith, ints); high = omega (arith, ints) }
