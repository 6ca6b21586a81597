-- Walks of difference bounds say what they seem to under every valuation that satisfies the bounds.
use Rattle.std.proofs.Common.{◌≡◌, ℕ, zero, suc, Bool, true, false, cond, not, ◌&&◌, eqb, inl, inr, List, [], ◌∷◌, Option, Some, None, ℤ, pos, negsuc, ◌+ℤ◌, ◌-ℤ◌, ◌*ℤ◌, ◌≤ℤ◌, neg_ℤ, int_lt, refl, ap, sym, subst, ◌∙◌, arith}
use Rattle.std.specs.Ordering.{int_eq}
use Rattle.std.proofs.Math.IntN.{zero-*ℤ}
use Rattle.std.proofs.lemmas.Int.{ints}
use Rattle.std.proofs.lemmas.Bool.{and_cases, eqb-true, true_from_ne_false}
use Rattle.fsl_lin.specs.declared.edge.Edge.{Edge}
use Rattle.fsl_lin.specs.Numbers.{Numbers, most}
use Rattle.fsl_lin.specs.Walks.{least, through, is_below, closes, feasible}
use Rattle.fsl_lin.specs.Values.{value, value_of}
use Rattle.fsl_lin.specs.Facts.{end_at, ends, edge_from, edge_of, with_edge_of, edges, at_most}
use Rattle.fsl_lin.proofs.Ring.{one_times, times_neg}
use Rattle.fsl_bounds.proofs.Closed.{lesser_cases, through_parts}
use Rattle.fsl_pure.proofs.Proving.{equal}
use Rattle.fsl_pure.proofs.Sound.{AllAtMost, at_zero}

-- the value of a node: 0, or that of its symbol
abbrev pub node : Numbers → ℕ → ℤ
node v zero = pos 0
node v (suc s) = v (suc s)

line_end_first : (s d p q at : ℤ) → s ≡ d +ℤ (p -ℤ q) → p ≡ pos 0 → s +ℤ at ≡ d +ℤ (at -ℤ q)
line_end_first s d p q at h k = omega (arith, ints)

line_end_second : (s d p q at m : ℤ) → s ≡ d +ℤ (p -ℤ q) → q ≡ pos 0 → m ≡ neg_ℤ at → s +ℤ m ≡ d +ℤ (p -ℤ at)
line_end_second s d p q at m h k l = omega (arith, ints)

line_end_none : (s d p q m : ℤ) → s ≡ d +ℤ (p -ℤ q) → m ≡ pos 0 → s +ℤ m ≡ d +ℤ (p -ℤ q)
line_end_none s d p q m h k = omega (arith, ints)

minus_one : (a : ℤ) → negsuc 0 *ℤ a ≡ neg_ℤ a
minus_one a = times_neg (pos 1) a ∙ ap neg_ℤ (one_times a)

-- what the ends of a difference say of its value
abbrev Says : Numbers → ℤ → ℤ → Option (ℕ × ℕ) → Type 0
Says v s d None = Unit {0}
Says v s d (Some p) = s ≡ d +ℤ (node v p.0 -ℤ node v p.1)

says_picked : (v : Numbers) (s d c : ℤ) (k x y : ℕ) (zero_c one first less second : Bool)
    → (zero_c ≡ true → c ≡ pos 0) → (one ≡ true → c ≡ pos 1) → (first ≡ true → x ≡ 0) → (less ≡ true → c ≡ negsuc 0) → (second ≡ true → y ≡ 0)
    → s ≡ d +ℤ (node v x -ℤ node v y)
    → Says v (s +ℤ (c *ℤ v (suc k))) d (cond zero_c (Some (x, y)) (cond (one && first) (Some (suc k, y)) (cond (less && second) (Some (x, suc k)) None)))
says_picked v s d c k x y true one first less second z o f l e h =
    line_end_none s d (node v x) (node v y) _ h (ap (λ (a : ℤ). a *ℤ v (suc k)) (z refl) ∙ zero-*ℤ (v (suc k)))
says_picked v s d c k x y false true true less second z o f l e h =
    subst (λ (m : ℤ). s +ℤ m ≡ d +ℤ (v (suc k) -ℤ node v y)) (sym (ap (λ (a : ℤ). a *ℤ v (suc k)) (o refl) ∙ one_times (v (suc k))))
    (line_end_first s d (node v x) (node v y) (v (suc k)) h (ap (node v) (f refl)))
says_picked v s d c k x y false true false true true z o f l e h =
    line_end_second s d (node v x) (node v y) (v (suc k)) _ h (ap (node v) (e refl)) (ap (λ (a : ℤ). a *ℤ v (suc k)) (l refl) ∙ minus_one (v (suc k)))
says_picked v s d c k x y false true false true false z o f l e h = tt
says_picked v s d c k x y false true false false second z o f l e h = tt
says_picked v s d c k x y false false first true true z o f l e h =
    line_end_second s d (node v x) (node v y) (v (suc k)) _ h (ap (node v) (e refl)) (ap (λ (a : ℤ). a *ℤ v (suc k)) (l refl) ∙ minus_one (v (suc k)))
says_picked v s d c k x y false false first true false z o f l e h = tt
says_picked v s d c k x y false false first false second z o f l e h = tt

says_more : (v : Numbers) (s d c : ℤ) (k : ℕ) (o : Option (ℕ × ℕ)) → Says v s d o → Says v (s +ℤ (c *ℤ v (suc k))) d (end_at c (suc k) o)
says_more v s d c k None h = tt
says_more v s d c k (Some (x, y)) h =
    says_picked v s d c k x y (int_eq c (pos 0)) (int_eq c (pos 1)) (eqb x 0) (int_eq c (negsuc 0)) (eqb y 0)
    (equal c (pos 0)) (equal c (pos 1)) (eqb-true x 0) (equal c (negsuc 0)) (eqb-true y 0) h

line_start : (x : ℤ) → pos 0 +ℤ x ≡ x +ℤ (pos 0 -ℤ pos 0)
line_start x = omega (arith, ints)

ends_say : (k : ℕ) (v n : Numbers) → Says v (value (suc k) v n) (n 0 *ℤ v 0) (ends k n)
ends_say zero v n = line_start (n 0 *ℤ v 0)
ends_say (suc k) v n = says_more v (value (suc k) v n) (n 0 *ℤ v 0) (n (suc k)) k (ends k n) (ends_say k v n)

-- what a difference bound says
pub record IsDifference (v n : Numbers) (e : Edge) : Type 0 where
  pub bound : e.bound ≡ neg_ℤ (n 0)
  pub value : value_of v n ≡ n 0 +ℤ (node v e.from -ℤ node v e.to)

line_value : (x y z w : ℤ) → x ≡ y +ℤ z → y ≡ w → x ≡ w +ℤ z
line_value x y z w h k = omega (arith, ints)

difference_picked : (v n : Numbers) (e : Edge) (x y : ℕ) (t : Bool) → v 0 ≡ pos 1 → value_of v n ≡ (n 0 *ℤ v 0) +ℤ (node v x -ℤ node v y)
    → cond t None (Some (let f : Edge = record { from = x; to = y; bound = neg_ℤ (n 0) } in f)) ≡ Some e → IsDifference v n e
difference_picked v n e x y true one h k = absurd (let g : None ≡ Some e = k in cc)
difference_picked v n e x y false one h k =
    let f : Edge = record { from = x; to = y; bound = neg_ℤ (n 0) } in
    let s : f ≡ e = cc in
    subst (IsDifference v n) s (record { bound = refl; value = line_value (value_of v n) (n 0 *ℤ v 0) (node v x -ℤ node v y) (n 0) h (at_zero v n one) })

difference_from : (v n : Numbers) (e : Edge) (o : Option (ℕ × ℕ)) → v 0 ≡ pos 1 → Says v (value_of v n) (n 0 *ℤ v 0) o → edge_from (n 0) o ≡ Some e → IsDifference v n e
difference_from v n e None one h k = absurd (let g : None ≡ Some e = k in cc)
difference_from v n e (Some (x, y)) one h k = difference_picked v n e x y (eqb x 0 && eqb y 0) one h k

pub difference_is : (v n : Numbers) (e : Edge) → v 0 ≡ pos 1 → edge_of n ≡ Some e → IsDifference v n e
difference_is v n e one h = difference_from v n e (ends most n) one (ends_say most v n) h

-- each edge holds of the values
abbrev pub EdgesHold : Numbers → List Edge → Type 0
EdgesHold v [] = Unit {0}
EdgesHold v (e ∷ es) = ((node v e.from -ℤ node v e.to) ≤ℤ e.bound) × EdgesHold v es

line_edge : (x n d b : ℤ) → x ≡ n +ℤ d → b ≡ neg_ℤ n → x ≤ℤ pos 0 → d ≤ℤ b
line_edge x n d b h k l = omega (arith, ints)

with_edge_holds : (v n : Numbers) (es : List Edge) (o : Option Edge) → v 0 ≡ pos 1 → edge_of n ≡ o → value_of v n ≤ℤ pos 0 → EdgesHold v es → EdgesHold v (with_edge_of o es)
with_edge_holds v n es None one is h k = k
with_edge_holds v n es (Some e) one is h k =
    let d = difference_is v n e one is in
    (line_edge (value_of v n) (n 0) (node v e.from -ℤ node v e.to) e.bound d.value d.bound h, k)

pub edges_hold : (v : Numbers) (ns : List Numbers) → v 0 ≡ pos 1 → AllAtMost v ns → EdgesHold v (edges ns)
edges_hold v [] one h = tt
edges_hold v (n ∷ ns) one h = with_edge_holds v n (edges ns) (edge_of n) one refl h.0 (edges_hold v ns one h.1)

line_itself : (x y a : ℤ) → x ≡ y → a ≡ pos 0 → (x -ℤ y) ≤ℤ a
line_itself x y a h k = omega (arith, ints)

line_through : (x f t y a c b d : ℤ) → (x -ℤ f) ≤ℤ a → (f -ℤ t) ≤ℤ c → (t -ℤ y) ≤ℤ b → d ≡ (a +ℤ c) +ℤ b → (x -ℤ y) ≤ℤ d
line_through x f t y a c b d h k l m = omega (arith, ints)

start_only : (t : Bool) (a : ℤ) → cond t (Some (pos 0)) None ≡ Some a → (t ≡ true) × (a ≡ pos 0)
start_only true a h = (refl, cc)
start_only false a h = absurd (let g : None ≡ Some a = h in cc)

-- a walk's total is a bound on the difference of its ends
pub least_holds : (v : Numbers) (es : List Edge) (x y : ℕ) (d : ℤ) → EdgesHold v es → least es x y ≡ Some d → (node v x -ℤ node v y) ≤ℤ d
least_holds v [] x y d h k =
    let p = start_only (eqb x y) d k in
    line_itself (node v x) (node v y) d (ap (node v) (eqb-true x y p.0)) p.1
least_holds v (e ∷ es) x y d h k =
    elim (lesser_cases (least es x y) (through (least es x e.from) e.bound (least es e.to y)) d k) [
      | inl o ↦ least_holds v es x y d h.1 o
      | inr n ↦
          let p = through_parts (least es x e.from) e.bound (least es e.to y) d n in
          line_through (node v x) (node v e.from) (node v e.to) (node v y) p.to e.bound p.on d
          (least_holds v es x e.from p.to h.1 p.to_is) h.0 (least_holds v es e.to y p.on h.1 p.on_is) p.sum
    ]

at_most_some : (o : Option ℤ) (c : ℤ) → at_most o c ≡ true → (a : ℤ) × (o ≡ Some a) × (a ≤ℤ c)
at_most_some None c h = absurd (let g : false ≡ true = h in cc)
at_most_some (Some a) c h = (a, refl, grind (arith, ints))

line_walk : (x n d b a : ℤ) → x ≡ n +ℤ d → b ≡ neg_ℤ n → d ≤ℤ a → a ≤ℤ b → x ≤ℤ pos 0
line_walk x n d b a h k l m = omega (arith, ints)

-- a difference that a walk proves is at most 0
pub walk_value : (v n : Numbers) (es : List Edge) (e : Edge) → v 0 ≡ pos 1 → edge_of n ≡ Some e → EdgesHold v es
    → at_most (least es e.from e.to) e.bound ≡ true → value_of v n ≤ℤ pos 0
walk_value v n es e one is h t =
    let w = at_most_some (least es e.from e.to) e.bound t in
    let d = difference_is v n e one is in
    line_walk (value_of v n) (n 0) (node v e.from -ℤ node v e.to) e.bound w.0 d.value d.bound (least_holds v es e.from e.to w.0 h w.1) w.2

below_some : (o : Option ℤ) (c : ℤ) → is_below o c ≡ true → (a : ℤ) × (o ≡ Some a) × (int_lt (a +ℤ c) (pos 0) ≡ true)
below_some None c h = absurd (let g : false ≡ true = h in cc)
below_some (Some a) c h = (a, refl, h)

line_closed : (x y a c : ℤ) → (x -ℤ y) ≤ℤ a → (y -ℤ x) ≤ℤ c → int_lt (a +ℤ c) (pos 0) ≡ true → ⊥
line_closed x y a c h k l =
    let s : pos 0 ≤ℤ (a +ℤ c) = omega (arith, ints) in
    let f : int_lt (a +ℤ c) (pos 0) ≡ false = grind (arith, ints) in
    let g : false ≡ true = sym f ∙ l in
    cc

not_false : (t : Bool) → not t ≡ false → t ≡ true
not_false true h = refl
not_false false h = absurd (let g : true ≡ false = h in cc)

-- edges that hold are feasible
pub edges_feasible : (v : Numbers) (es : List Edge) → EdgesHold v es → feasible es ≡ true
edges_feasible v [] h = refl
edges_feasible v (e ∷ es) h =
    true_from_ne_false (feasible (e ∷ es)) (λ f. elim (and_cases (feasible es) (not (closes es e)) f) [
      | inl n ↦ let g : true ≡ false = sym (edges_feasible v es h.1) ∙ n in cc
      | inr n ↦
          let b = below_some (least es e.to e.from) e.bound (not_false (closes es e) n) in
          line_closed (node v e.to) (node v e.from) b.0 e.bound (least_holds v es e.to e.from b.0 h.1 b.1) h.0 b.2
    ])
