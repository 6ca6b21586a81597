-- The tests by which a bound is proved: a difference is proved by a walk or not at all, and anything else by
-- a constant or one bound.
use Rattle.std.proofs.Common.{◌≡◌, ℕ, zero, suc, Bool, true, false, cond, not, ◌&&◌, ◌||◌, eqb, inl, inr, List, [], ◌∷◌, Option, Some, None, ℤ, pos, neg_ℤ, int_le, int_lt, ◌≤ℤ◌, refl, ap, sym, ◌∙◌, arith}
use Rattle.std.specs.List.{Contains}
use Rattle.std.specs.Ordering.{int_eq}
use Rattle.std.proofs.lemmas.Int.{ints}
use Rattle.std.proofs.lemmas.Bool.{and_parts, or_parts, or_cases, cond-true, true_from_ne_false, false_from_ne_true}
use Rattle.std.proofs.lemmas.Bool.Decides.{Decides-int_eq}
use Rattle.std.proofs.lemmas.List.Elements.{Contains-append_right}
use Rattle.fsl_lin.specs.declared.edge.Edge.{Edge}
use Rattle.fsl_lin.specs.Numbers.{Numbers, most, none, same_above, is_constant}
use Rattle.fsl_lin.specs.Walks.{least, feasible, AtMost}
use Rattle.fsl_lin.specs.Facts.{end_at, ends, edge_from, edge_of, with_edge_of, edges, by_constant, by_bound, at_most, walks, proves_normal, refuted_bound}
use Rattle.fsl_bounds.proofs.Least.{contains_first, least_edge}
use Rattle.fsl_pure.specs.Table.{contradict, refutes}

pub equal : (x y : ℤ) → int_eq x y ≡ true → x ≡ y
equal x y h = (Decides-int_eq x y).0 h

-- a constant has no ends
end_none : (c : ℤ) (k : ℕ) → int_eq c (pos 0) ≡ true → end_at c k (Some (0, 0)) ≡ Some (0, 0)
end_none c k h = cond-true (int_eq c (pos 0)) (Some (0, 0)) _ h

ends_none : (k : ℕ) (n : Numbers) → same_above k n none ≡ true → ends k n ≡ Some (0, 0)
ends_none zero n h = refl
ends_none (suc k) n h =
    let p = and_parts (int_eq (n (suc k)) (pos 0)) (same_above k n none) h in
    ap (end_at (n (suc k)) (suc k)) (ends_none k n p.1) ∙ end_none (n (suc k)) (suc k) p.0

pub constant_no_edge : (n : Numbers) → is_constant n ≡ true → edge_of n ≡ None
constant_no_edge n h = ap (edge_from (n 0)) (ends_none most n h)

pub edge_no_constant : (n : Numbers) (e : Edge) → edge_of n ≡ Some e → is_constant n ≡ false
edge_no_constant n e h = false_from_ne_true (is_constant n) (λ t. let g : None ≡ Some e = sym (constant_no_edge n t) ∙ h in cc)

refutes_either : (c : Bool) (l : Bool) (f : Bool) → c ≡ false → ((c && l) || not f) ≡ not f
refutes_either true l f h = absurd (let g : true ≡ false = h in cc)
refutes_either false l f h = refl

-- whether a difference bound contradicts others
pub refutes_edge : (es : List Edge) (n : Numbers) (e : Edge) → edge_of n ≡ Some e → refutes es n ≡ not (feasible (e ∷ es))
refutes_edge es n e h =
    refutes_either (is_constant n) (int_lt (pos 0) (n 0)) (feasible (with_edge_of (edge_of n) es)) (edge_no_constant n e h)
    ∙ ap (λ (o : Option Edge). not (feasible (with_edge_of o es))) h

-- terms with the same linear part have the same ends
same_ends : (k : ℕ) (b n : Numbers) → same_above k b n ≡ true → ends k b ≡ ends k n
same_ends zero b n h = refl
same_ends (suc k) b n h =
    let p = and_parts (int_eq (b (suc k)) (n (suc k))) (same_above k b n) h in
    λ i. end_at (equal (b (suc k)) (n (suc k)) p.0 i) (suc k) (same_ends k b n p.1 i)

-- an edge with the ends of another, and a bound that is no greater
record Tighter (es : List Edge) (e : Edge) : Type 0 where
  edge : Edge
  among : Contains es edge
  from : edge.from ≡ e.from
  to : edge.to ≡ e.to
  small : edge.bound ≤ℤ e.bound

-- the edge of a bound with these ends
record Given (c : ℤ) (e : Edge) (o : Option Edge) : Type 0 where
  edge : Edge
  is : o ≡ Some edge
  from : edge.from ≡ e.from
  to : edge.to ≡ e.to
  bound : edge.bound ≡ neg_ℤ c

given_picked : (x y : ℕ) (b c : ℤ) (e : Edge) (t : Bool)
    → cond t None (Some (let f : Edge = record { from = x; to = y; bound = neg_ℤ c } in f)) ≡ Some e
    → (e.bound ≡ neg_ℤ c) × Given b e (cond t None (Some (let f : Edge = record { from = x; to = y; bound = neg_ℤ b } in f)))
given_picked x y b c e true h = absurd (let g : None ≡ Some e = h in cc)
given_picked x y b c e false h =
    let f : Edge = record { from = x; to = y; bound = neg_ℤ c } in
    let g : Edge = record { from = x; to = y; bound = neg_ℤ b } in
    let s : f ≡ e = cc in (
      sym (ap (λ (d : Edge). d.bound) s),
      record { edge = g; is = refl; from = ap (λ (d : Edge). d.from) s; to = ap (λ (d : Edge). d.to) s; bound = refl },
    )

given_from : (b c : ℤ) (e : Edge) (o : Option (ℕ × ℕ)) → edge_from c o ≡ Some e → (e.bound ≡ neg_ℤ c) × Given b e (edge_from b o)
given_from b c e None h = absurd (let g : None ≡ Some e = h in cc)
given_from b c e (Some (x, y)) h = given_picked x y b c e (eqb x 0 && eqb y 0) h

line_tight : (x y b c : ℤ) → x ≡ neg_ℤ b → y ≡ neg_ℤ c → int_le c b ≡ true → x ≤ℤ y
line_tight x y b c h k l = let m : c ≤ℤ b = grind (arith, ints) in omega (arith, ints)

tighter_here : (b n : Numbers) (es : List Edge) (e : Edge) → edge_of n ≡ Some e → same_above most b n ≡ true → int_le (n 0) (b 0) ≡ true
    → Tighter (with_edge_of (edge_of b) es) e
tighter_here b n es e h s l =
    let g = given_from (b 0) (n 0) e (ends most n) h in
    let here : edge_of b ≡ Some g.1.edge = ap (edge_from (b 0)) (same_ends most b n s) ∙ g.1.is in
    rw here (record { edge = g.1.edge; among = contains_first g.1.edge es; from = g.1.from; to = g.1.to; small = line_tight _ _ (b 0) (n 0) g.1.bound g.0 l })

tighter_more : (o : Option Edge) (es : List Edge) (e : Edge) → Tighter es e → Tighter (with_edge_of o es) e
tighter_more None es e t = t
tighter_more (Some f) es e t =
    record { edge = t.edge; among = Contains-append_right (f ∷ []) es t.edge t.among; from = t.from; to = t.to; small = t.small }

-- one bound that proves a difference is an edge that does
bound_tighter : (ns : List Numbers) (n : Numbers) (e : Edge) → edge_of n ≡ Some e → by_bound ns n ≡ true → Tighter (edges ns) e
bound_tighter [] n e h t = absurd (let g : false ≡ true = t in cc)
bound_tighter (b ∷ ns) n e h t =
    elim (or_cases (same_above most b n && int_le (n 0) (b 0)) (by_bound ns n) t) [
      | inl o ↦ let p = and_parts (same_above most b n) (int_le (n 0) (b 0)) o in tighter_here b n (edges ns) e h p.0 p.1
      | inr r ↦ tighter_more (edge_of b) (edges ns) e (bound_tighter ns n e h r)
    ]

line_through : (a b c : ℤ) → a ≤ℤ b → b ≤ℤ c → int_le a c ≡ true
line_through a b c h k = let l : a ≤ℤ c = omega (arith, ints) in grind (arith, ints)

at_most_of : (o : Option ℤ) (b c : ℤ) → AtMost o b → b ≤ℤ c → at_most o c ≡ true
at_most_of o b c h k = rw h.is (line_through h.least b c h.small k)

tighter_walks : (es : List Edge) (e : Edge) → feasible es ≡ true → Tighter es e → at_most (least es e.from e.to) e.bound ≡ true
tighter_walks es e f t =
    ap (λ (x : ℕ). at_most (least es x e.to) e.bound) (sym t.from) ∙ ap (λ (y : ℕ). at_most (least es t.edge.from y) e.bound) (sym t.to)
    ∙ at_most_of _ t.edge.bound e.bound (least_edge es t.edge f t.among) t.small

pub clear_feasible : (ns : List Numbers) → contradict ns ≡ false → feasible (edges ns) ≡ true
clear_feasible ns h = let p = or_parts (refuted_bound ns) (not (feasible (edges ns))) h in true_from_ne_false (feasible (edges ns)) (λ f. let g = p.1 in let k : not false ≡ false = rw f at g in cc)

either_last : (c l b w : Bool) → c ≡ false → (b ≡ true → w ≡ true) → ((c && l) || (b || w)) ≡ w
either_last true l b w h k = absurd (let g : true ≡ false = h in cc)
either_last false l true w h k = sym (k refl)
either_last false l false w h k = refl

-- a difference is proved exactly by a walk
pub difference_proved : (ns : List Numbers) (n : Numbers) (e : Edge) → contradict ns ≡ false → edge_of n ≡ Some e
    → proves_normal ns n ≡ at_most (least (edges ns) e.from e.to) e.bound
difference_proved ns n e clear h =
    ap (λ (o : Option Edge). by_constant n || (by_bound ns n || walks (edges ns) o)) h
    ∙ either_last (is_constant n) (int_le (n 0) (pos 0)) (by_bound ns n) (at_most (least (edges ns) e.from e.to) e.bound) (edge_no_constant n e h)
    (λ t. tighter_walks (edges ns) e (clear_feasible ns clear) (bound_tighter ns n e h t))

without_last : (c b : Bool) → (c || (b || false)) ≡ (c || b)
without_last true b = refl
without_last false true = refl
without_last false false = refl

-- anything else is proved exactly by a constant or one bound
pub other_proved : (ns : List Numbers) (n : Numbers) → edge_of n ≡ None → proves_normal ns n ≡ (by_constant n || by_bound ns n)
other_proved ns n h =
    ap (λ (o : Option Edge). by_constant n || (by_bound ns n || walks (edges ns) o)) h ∙ without_last (by_constant n) (by_bound ns n)

pub first_false : (c b : Bool) → c ≡ false → b ≡ (c || b)
first_false true b h = absurd (let g : true ≡ false = h in cc)
first_false false b h = refl
