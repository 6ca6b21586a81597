-- What is proved holds under every valuation that satisfies the facts, and absurd facts have none.
use Rattle.std.proofs.Common.{◌≡◌, ℕ, zero, suc, Bool, true, false, List, [], ◌∷◌, map, Option, Some, None, ℤ, pos, ◌+ℤ◌, ◌-ℤ◌, ◌*ℤ◌, ◌≤ℤ◌, neg_ℤ, refl, ap, sym, subst, ◌∙◌, arith}
use Rattle.std.specs.Ordering.{int_eq}
use Rattle.std.proofs.Math.IntN.{zero-*ℤ}
use Rattle.std.proofs.lemmas.Int.{ints}
use Rattle.std.proofs.lemmas.Bool.{and_parts}
use Rattle.fsl_lin.specs.declared.fact.Fact.{Fact}
use Rattle.fsl_lin.specs.declared.fact.Fact.TheVariants.{Le, Is}
use Rattle.fsl_lin.specs.Numbers.{Numbers, most, part, none, opposite, gapped, same_above, is_constant}
use Rattle.fsl_lin.specs.Rows.{Row, taken, normal, pivot_below, turned, all_without, extended}
use Rattle.fsl_lin.specs.Values.{value, value_of, AllHold, Satisfies}
use Rattle.fsl_lin.specs.Facts.{rows, bounds, two_bounds, kept}
use Rattle.fsl_lin.proofs.Ring.{distribute_minus, times_neg, times_one}
use Rattle.fsl_lin.proofs.Values.{value_plus, value_minus, value_times, value_scaled}
use Rattle.fsl_pure.proofs.Proving.{equal}

line_neg : (a b x y : ℤ) → x ≡ neg_ℤ a → y ≡ neg_ℤ b → x +ℤ y ≡ neg_ℤ (a +ℤ b)
line_neg a b x y h k = omega (arith, ints)

pub value_opposite : (k : ℕ) (v f : Numbers) → value k v (opposite f) ≡ neg_ℤ (value k v f)
value_opposite zero v f = refl
value_opposite (suc k) v f = line_neg (value k v f) (f k *ℤ v k) _ _ (value_opposite k v f) (times_neg (f k) (v k))

times_nothing : (x c : ℤ) → x ≡ pos 0 → x *ℤ c ≡ pos 0
times_nothing x c h = ap (λ (z : ℤ). z *ℤ c) h ∙ zero-*ℤ c

line_zero : (x y : ℤ) → x ≡ pos 0 → y ≡ pos 0 → x +ℤ y ≡ pos 0
line_zero x y h k = omega (arith, ints)

line_less : (x y : ℤ) → y ≡ pos 0 → x -ℤ y ≡ x
line_less x y h = omega (arith, ints)

value_nothing : (k : ℕ) (v : Numbers) → value k v none ≡ pos 0
value_nothing zero v = refl
value_nothing (suc k) v = line_zero (value k v none) (pos 0 *ℤ v k) (value_nothing k v) (zero-*ℤ (v k))

value_taken : (k : ℕ) (v : Numbers) (rs : List Row) (t : Numbers) → Satisfies k v rs → value k v (taken rs t) ≡ pos 0
value_taken k v [] t h = value_nothing k v
value_taken k v (r ∷ rs) t h =
    value_plus k v (λ i. t r.pivot *ℤ r.numbers i) (taken rs t)
    ∙ line_zero _ _ (value_times k v r.numbers (t r.pivot) ∙ times_nothing (value k v r.numbers) (t r.pivot) h.0) (value_taken k v rs t h.1)

-- a term and its normal form have one value
pub value_normal : (k : ℕ) (v : Numbers) (rs : List Row) (t : Numbers) → Satisfies k v rs → value k v (normal rs t) ≡ value k v t
value_normal k v rs t h = value_minus k v t (taken rs t) ∙ line_less (value k v t) _ (value_taken k v rs t h)

satisfies_without : (k : ℕ) (v : Numbers) (p : ℕ) (e : Numbers) (rs : List Row) → value k v e ≡ pos 0 → Satisfies k v rs → Satisfies k v (all_without p e rs)
satisfies_without k v p e [] h s = tt
satisfies_without k v p e (r ∷ rs) h s = (
  value_minus k v r.numbers (λ i. r.numbers p *ℤ e i)
      ∙ line_less (value k v r.numbers) _ (value_times k v e (r.numbers p) ∙ times_nothing (value k v e) (r.numbers p) h) ∙ s.0,
  satisfies_without k v p e rs h s.1,
)

satisfies_extended : (k : ℕ) (v : Numbers) (rs : List Row) (n : Numbers) (o : Option ℕ) → value k v n ≡ pos 0 → Satisfies k v rs → Satisfies k v (extended rs n o)
satisfies_extended k v rs n None h s = s
satisfies_extended k v rs n (Some p) h s =
    let zero_too : value k v (turned p n) ≡ pos 0 = value_scaled k v n (n p) ∙ times_nothing (value k v n) (n p) h in
    (zero_too, satisfies_without k v p (turned p n) rs zero_too s)

pub rows_hold : (v : Numbers) (fs : List Fact) → AllHold v fs → Satisfies (suc most) v (rows fs)
rows_hold v [] h = tt
rows_hold v (Le t ∷ fs) h = rows_hold v fs h.1
rows_hold v (Is t ∷ fs) h =
    let s = rows_hold v fs h.1 in
    satisfies_extended (suc most) v (rows fs) (normal (rows fs) (part t)) (pivot_below most (normal (rows fs) (part t)))
    (value_normal (suc most) v (rows fs) (part t) s ∙ h.0) s

-- each is at most 0
abbrev pub AllAtMost : Numbers → List Numbers → Type 0
AllAtMost v [] = Unit {0}
AllAtMost v (n ∷ ns) = (value_of v n ≤ℤ pos 0) × AllAtMost v ns

line_both : (x y : ℤ) → x ≡ pos 0 → y ≡ neg_ℤ x → (x ≤ℤ pos 0) × (y ≤ℤ pos 0)
line_both x y h k = (omega (arith, ints), omega (arith, ints))

two_hold : (v t : Numbers) (c : Bool) (o : Option ℕ) (ns : List Numbers) → value_of v t ≡ pos 0 → AllAtMost v ns → AllAtMost v (two_bounds t c o ns)
two_hold v t true o ns h a = a
two_hold v t false (Some p) ns h a = a
two_hold v t false None ns h a =
    let b = line_both (value_of v t) (value_of v (opposite t)) h (value_opposite (suc most) v t) in
    (b.0, (b.1, a))

bounds_hold : (v : Numbers) (fs : List Fact) → AllHold v fs → AllAtMost v (bounds fs)
bounds_hold v [] h = tt
bounds_hold v (Le t ∷ fs) h = (h.0, bounds_hold v fs h.1)
bounds_hold v (Is t ∷ fs) h = two_hold v (part t) _ _ (bounds fs) h.0 (bounds_hold v fs h.1)

all_normal_hold : (v : Numbers) (rs : List Row) (ns : List Numbers) → Satisfies (suc most) v rs → AllAtMost v ns → AllAtMost v (map (normal rs) ns)
all_normal_hold v rs [] s h = tt
all_normal_hold v rs (n ∷ ns) s h = (subst (λ (x : ℤ). x ≤ℤ pos 0) (sym (value_normal (suc most) v rs n s)) h.0, all_normal_hold v rs ns s h.1)

pub kept_hold : (v : Numbers) (fs : List Fact) → AllHold v fs → AllAtMost v (kept fs)
kept_hold v fs h = all_normal_hold v (rows fs) (bounds fs) (rows_hold v fs h) (bounds_hold v fs h)

-- of terms with the same linear part
line_above : (x y a b p q : ℤ) → x -ℤ a ≡ y -ℤ b → p ≡ q → (x +ℤ p) -ℤ a ≡ (y +ℤ q) -ℤ b
line_above x y a b p q h k = omega (arith, ints)

line_start : (x y : ℤ) → (pos 0 +ℤ x) -ℤ x ≡ (pos 0 +ℤ y) -ℤ y
line_start x y = omega (arith, ints)

pub above_same : (k : ℕ) (v f g : Numbers) → same_above k f g ≡ true
    → value (suc k) v f -ℤ (f 0 *ℤ v 0) ≡ value (suc k) v g -ℤ (g 0 *ℤ v 0)
above_same zero v f g h = line_start (f 0 *ℤ v 0) (g 0 *ℤ v 0)
above_same (suc k) v f g h =
    let p = and_parts (int_eq (f (suc k)) (g (suc k))) (same_above k f g) h in
    line_above (value (suc k) v f) (value (suc k) v g) (f 0 *ℤ v 0) (g 0 *ℤ v 0) (f (suc k) *ℤ v (suc k)) (g (suc k) *ℤ v (suc k))
    (above_same k v f g p.1) (ap (λ (z : ℤ). z *ℤ v (suc k)) (equal (f (suc k)) (g (suc k)) p.0))

-- the value of the constant
pub at_zero : (v n : Numbers) → v 0 ≡ pos 1 → n 0 *ℤ v 0 ≡ n 0
at_zero v n h = ap (λ (z : ℤ). n 0 *ℤ z) h ∙ times_one (n 0)

line_constant : (x a b : ℤ) → x -ℤ a ≡ pos 0 -ℤ pos 0 → a ≡ b → x ≡ b
line_constant x a b h k = omega (arith, ints)

pub constant_value : (v n : Numbers) → v 0 ≡ pos 1 → is_constant n ≡ true → value_of v n ≡ n 0
constant_value v n h c =
    line_constant (value_of v n) (n 0 *ℤ v 0) (n 0)
    (above_same most v n none c ∙ (λ i. value_nothing (suc most) v i -ℤ zero-*ℤ (v 0) i)) (at_zero v n h)

line_bound : (x y a b c d : ℤ) → x -ℤ a ≡ y -ℤ b → a ≡ c → b ≡ d → d ≤ℤ c → x ≤ℤ pos 0 → y ≤ℤ pos 0
line_bound x y a b c d h k l m n = omega (arith, ints)

pub bound_value : (v b n : Numbers) → v 0 ≡ pos 1 → same_above most b n ≡ true → n 0 ≤ℤ b 0 → value_of v b ≤ℤ pos 0 → value_of v n ≤ℤ pos 0
bound_value v b n h s l k =
    line_bound (value_of v b) (value_of v n) (b 0 *ℤ v 0) (n 0 *ℤ v 0) (b 0) (n 0) (above_same most v b n s) (at_zero v b h) (at_zero v n h) l k

line_gap : (x y a b w g s : ℤ) → w ≡ (x -ℤ y) +ℤ g → s ≡ a -ℤ b → w +ℤ s ≡ ((x +ℤ a) -ℤ (y +ℤ b)) +ℤ g
line_gap x y a b w g s h k = omega (arith, ints)

line_one : (a b g p q r : ℤ) → p ≡ (a -ℤ b) +ℤ g → q ≡ a → r ≡ b → pos 0 +ℤ p ≡ ((pos 0 +ℤ q) -ℤ (pos 0 +ℤ r)) +ℤ g
line_one a b g p q r h k l = omega (arith, ints)

-- the value of a difference
pub value_gapped : (k : ℕ) (v a b : Numbers) (gap : ℤ) → v 0 ≡ pos 1 → value (suc k) v (gapped a b gap) ≡ (value (suc k) v a -ℤ value (suc k) v b) +ℤ gap
value_gapped zero v a b gap h = line_one (a 0) (b 0) gap _ _ _ (at_zero v (gapped a b gap) h) (at_zero v a h) (at_zero v b h)
value_gapped (suc k) v a b gap h =
    line_gap (value (suc k) v a) (value (suc k) v b) (a (suc k) *ℤ v (suc k)) (b (suc k) *ℤ v (suc k)) _ gap _
    (value_gapped k v a b gap h) (distribute_minus (a (suc k)) (b (suc k)) (v (suc k)))
