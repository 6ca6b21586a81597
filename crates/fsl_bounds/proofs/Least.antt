-- `least` gives the least total of a walk where no closed walk is below 0, and `closes` finds the closed walks
-- below 0 that a new edge makes.
use Rattle.std.proofs.Common.{◌≡◌, ℕ, Bool, true, false, cond, not, eqb, ◌⊎◌, inl, inr, ◌↔◌, List, [], ◌∷◌, ◌++◌, Option, Some, None, ℤ, pos, ◌+ℤ◌, ◌≤ℤ◌, ◌<ℤ◌, refl, sym, subst, ◌∙◌, arith}
use Rattle.std.specs.List.{Contains}
use Rattle.std.proofs.lemmas.Int.{ints}
use Rattle.std.proofs.lemmas.Bool.{cases_Bool, eq-eqb, eqb-true, and_parts, and_from, not-true, not_from_false, false_from_ne_true, cond-true}
use Rattle.std.proofs.lemmas.List.Elements.{Contains-append_left, Contains-append_right, Contains-append_cases, Contains-push, Contains-push_cases}
use Rattle.fsl_lin.specs.declared.edge.Edge.{Edge}
use Rattle.fsl_lin.specs.Walks.{IsWalk, total, through, least, is_below, closes, feasible, HasWalk, AtMost, IsLeast}
use Rattle.fsl_bounds.specs.Matrix.{NegativeWalk, Closed}
use Rattle.fsl_bounds.proofs.Closed.{at_more, at_most_some, lesser_right, lesser_left, lesser_cases, through_parts, through_at_most, opens_from, closed_after}

pub walk_more : (e : Edge) (es : List Edge) (x y : ℕ) (ws : List Edge) → IsWalk es x y ws → IsWalk (e ∷ es) x y ws
walk_more e es x y [] h = h
walk_more e es x y (w ∷ ws) h = (Contains-append_right (e ∷ []) es w h.0, h.1, walk_more e es w.to y ws h.2)

pub walk_append : (es : List Edge) (x y z : ℕ) (vs ws : List Edge) → IsWalk es x y vs → IsWalk es y z ws → IsWalk es x z (vs ++ ws)
walk_append es x y z [] ws h k = subst (λ (n : ℕ). IsWalk es n z ws) (sym h) k
walk_append es x y z (v ∷ vs) ws h k = (h.0, h.1, walk_append es v.to y z vs ws h.2 k)

pub total_append : (vs ws : List Edge) → total (vs ++ ws) ≡ total vs +ℤ total ws
total_append [] ws = omega (arith, ints)
total_append (v ∷ vs) ws = let t = total_append vs ws in omega (arith, ints)

start_only : (t : Bool) (a : ℤ) → cond t (Some (pos 0)) None ≡ Some a → (t ≡ true) × (a ≡ pos 0)
start_only true a h = (refl, cc)
start_only false a h = absurd (let g : None ≡ Some a = h in cc)

pub contains_first : (e : Edge) (es : List Edge) → Contains (e ∷ es) e
contains_first e es = Contains-append_left (e ∷ []) es e (Contains-push [] e)

-- each total is that of a walk
pub least_walk : (es : List Edge) (u v : ℕ) (a : ℤ) → least es u v ≡ Some a → HasWalk es u v a
least_walk [] u v a h =
    let p = start_only (eqb u v) a h in
    record { walk = []; is = eqb-true u v p.0; costs = sym p.1 }
least_walk (e ∷ es) u v a h =
    elim (lesser_cases (least es u v) (through (least es u e.from) e.bound (least es e.to v)) a h) [
      | inl o ↦ let w = least_walk es u v a o in record { walk = w.walk; is = walk_more e es u v w.walk w.is; costs = w.costs }
      | inr n ↦
          let p = through_parts (least es u e.from) e.bound (least es e.to v) a n in
          let to = least_walk es u e.from p.to p.to_is in
          let on = least_walk es e.to v p.on p.on_is in
          record {
            walk = to.walk ++ e ∷ on.walk;
            is = walk_append (e ∷ es) u e.from v to.walk (e ∷ on.walk) (walk_more e es u e.from to.walk to.is)
                (contains_first e es, refl, walk_more e es e.to v on.walk on.is);
            costs = let t = total_append to.walk (e ∷ on.walk) in let c = to.costs in let d = on.costs in let s = p.sum in omega (arith, ints);
          }
    ]

closed_empty : Closed (least [])
closed_empty = record {
  start = λ u. cond-true (eqb u u) (Some (pos 0)) None (eq-eqb u u refl);
  triangle = λ u v w a b h k.
      let p = start_only (eqb u v) a h in
      let q = start_only (eqb v w) b k in
      let m = eqb-true u v p.0 in
      let n = eqb-true v w q.0 in
      let x = p.1 in
      let y = q.1 in
      record { least = pos 0; is = cond-true (eqb u w) (Some (pos 0)) None (eq-eqb u w (m ∙ n)); small = omega (arith, ints) };
}

pub least_closed : (es : List Edge) → feasible es ≡ true → Closed (least es)
least_closed [] h = closed_empty
least_closed (e ∷ es) h =
    let p = and_parts (feasible es) (not (closes es e)) h in
    closed_after (least es) e (least_closed es p.0) (opens_from (least es) e (not-true (closes es e) p.1))

pub contains_cases : (e f : Edge) (es : List Edge) → Contains (f ∷ es) e → (f ≡ e) ⊎ Contains es e
contains_cases e f es h = elim (Contains-append_cases (f ∷ []) es e h) [
  | inl o ↦ elim (Contains-push_cases [] f e o) [
    | inl n ↦ absurd (let l = n.1 in omega arith)
    | inr s ↦ inl s
  ]
  | inr r ↦ inr r
]

pub least_edge : (es : List Edge) (e : Edge) → feasible es ≡ true → Contains es e → AtMost (least es e.from e.to) e.bound
least_edge [] e h k = absurd (let l = k.1 in omega arith)
least_edge (f ∷ es) e h k =
    let p = and_parts (feasible es) (not (closes es f)) h in
    elim (contains_cases e f es k) [
      | inl s ↦
          let c = least_closed es p.0 in
          subst (λ (g : Edge). AtMost (least (f ∷ es) g.from g.to) g.bound) s
          (lesser_right (least es f.from f.to) (through (least es f.from f.from) f.bound (least es f.to f.to)) f.bound
          (at_more _ _ _ (through_at_most (least es f.from f.from) f.bound (least es f.to f.to) (pos 0) (pos 0)
          (record { least = pos 0; is = c.start f.from; small = omega (arith, ints) }) (record { least = pos 0; is = c.start f.to; small = omega (arith, ints) }))
          (omega (arith, ints))))
      | inr o ↦ lesser_left (least es e.from e.to) (through (least es e.from f.from) f.bound (least es f.to e.to)) e.bound (least_edge es e p.0 o)
    ]

-- no walk has a lesser total
pub no_less : (es : List Edge) (x y : ℕ) (ws : List Edge) → feasible es ≡ true → IsWalk es x y ws → AtMost (least es x y) (total ws)
no_less es x y [] h k =
    record { least = pos 0; is = subst (λ (n : ℕ). least es x n ≡ Some (pos 0)) k ((least_closed es h).start x); small = omega (arith, ints) }
no_less es x y (w ∷ ws) h k =
    let first = subst (λ (n : ℕ). AtMost (least es n w.to) w.bound) k.1 (least_edge es w h k.0) in
    let rest = no_less es w.to y ws h k.2 in
    at_more _ _ _ ((least_closed es h).triangle x w.to y first.least rest.least first.is rest.is)
    (let a = first.small in let b = rest.small in omega (arith, ints))

pub is_least : (es : List Edge) (x y : ℕ) → feasible es ≡ true → IsLeast es x y (least es x y)
is_least es x y h = record { walk = least_walk es x y; no_less = λ ws k. no_less es x y ws h k }

below_some : (o : Option ℤ) (c : ℤ) → is_below o c ≡ true → (a : ℤ) × (o ≡ Some a) × ((a +ℤ c) <ℤ pos 0)
below_some None c h = absurd (let g : false ≡ true = h in cc)
below_some (Some a) c h = (a, refl, grind (arith, ints))

closes_walk : (es : List Edge) (e : Edge) → closes es e ≡ true → NegativeWalk es e
closes_walk es e h =
    let b = below_some (least es e.to e.from) e.bound h in
    let w = least_walk es e.to e.from b.0 b.1 in
    record {
      node = e.from;
      walk = e ∷ w.walk;
      is = (contains_first e es, refl, walk_more e es e.to e.from w.walk w.is);
      through = contains_first e w.walk;
      below = let c = w.costs in let l = b.2 in omega (arith, ints);
    }

-- in feasible edges no closed walk is below 0
pub closed_walk : (es : List Edge) (x : ℕ) (ws : List Edge) → feasible es ≡ true → IsWalk es x x ws → pos 0 ≤ℤ total ws
closed_walk es x ws h k = at_most_some (least es x x) (pos 0) (total ws) ((least_closed es h).start x) (no_less es x x ws h k)

pub feasible_more : (es : List Edge) (e : Edge) → feasible es ≡ true → closes es e ≡ false → feasible (e ∷ es) ≡ true
feasible_more es e h k = and_from (feasible es) (not (closes es e)) h (not_from_false (closes es e) k)

walk_closes : (es : List Edge) (e : Edge) → feasible es ≡ true → NegativeWalk es e → closes es e ≡ true
walk_closes es e h n = elim (cases_Bool (closes es e)) [
  | inl t ↦ t
  | inr f ↦ absurd (
      let l = closed_walk (e ∷ es) n.node n.walk (feasible_more es e h f) n.is in
      let b = n.below in
      omega (arith, ints))
]

pub closes_exactly : (es : List Edge) (e : Edge) → feasible es ≡ true → (closes es e ≡ true) ↔ NegativeWalk es e
closes_exactly es e h = (closes_walk es e, walk_closes es e h)

-- edges without a closed walk below 0 are feasible
walks_feasible : (es : List Edge) → ((x : ℕ) (ws : List Edge) → IsWalk es x x ws → pos 0 ≤ℤ total ws) → feasible es ≡ true
walks_feasible [] h = refl
walks_feasible (e ∷ es) h =
    feasible_more es e (walks_feasible es (λ x ws k. h x ws (walk_more e es x x ws k)))
    (false_from_ne_true (closes es e) (λ t.
    let n = closes_walk es e t in
    let l = h n.node n.walk n.is in
    let b = n.below in
    omega (arith, ints)))

pub feasible_exactly : (es : List Edge) → (feasible es ≡ true) ↔ ((x : ℕ) (ws : List Edge) → IsWalk es x x ws → pos 0 ≤ℤ total ws)
feasible_exactly es = (λ h x ws k. closed_walk es x ws h k, walks_feasible es)
