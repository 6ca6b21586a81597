-- What terms mean at later places of a path, and what sums, differences, products, numbers and symbols mean.
use Rattle.std.proofs.Common.{◌≡◌, ℕ, zero, suc, ◌+◌, ◌<◌, ◌==◌, List, [], ◌∷◌, ◌++◌, Option, Some, None, ℤ, pos, ◌+ℤ◌, ◌-ℤ◌, ◌*ℤ◌, if◌then◌else◌, refl, ap, sym, ◌∙◌, arith}
use Rattle.fsl_lin.specs.Combination.{Combination, plus, minus, times, constant, symbol}
use Rattle.fsl_lin.specs.Numbers.{Numbers}
use Rattle.fsl_lin.specs.declared.fact.Fact.{Fact}
use Rattle.fsl_lin.proofs.Values.{value_of_plus, value_of_minus, value_of_times, value_of_constant, value_of_symbol}
use Rattle.fsl_meaning.specs.Means.{Extends, Means, EachMeans, AllMean, IsKnown, HoldAll, Grows}

-- ---- places of a path

pub grows_here : {n : ℕ} {v : Numbers} → Grows n v n v
grows_here = record { more = omega arith; agree = λ s h. refl }

pub grows_then : {n m k : ℕ} {v w u : Numbers} → Grows n v m w → Grows m w k u → Grows n v k u
grows_then g h = record { more = omega arith; agree = λ s l. h.agree s (omega arith) ∙ g.agree s l }

pub extends_here : {n : ℕ} {v : Numbers} → v 0 ≡ pos 1 → Extends n v v
extends_here one = record { one = one; same = λ s h. refl }

pub extends_before : {n m : ℕ} {v w u : Numbers} → Grows n v m w → Extends m w u → Extends n v u
extends_before g e = record { one = e.one; same = λ s h. e.same s (omega arith) ∙ g.agree s h }

pub means_more : {n m : ℕ} {v w : Numbers} {t : Combination} {x : ℤ} → Grows n v m w → Means n v t x → Means m w t x
means_more g h = record { is = λ u e. h.is u (extends_before g e) }

each_more : {n m : ℕ} {v w : Numbers} (ts : List Combination) (xs : List ℤ) → Grows n v m w → EachMeans n v ts xs → EachMeans m w ts xs
each_more [] [] g h = tt
each_more [] (x ∷ xs) g h = absurd h
each_more (t ∷ ts) [] g h = absurd h
each_more (t ∷ ts) (x ∷ xs) g h = (means_more g h.0, each_more ts xs g h.1)

pub all_more : {n m : ℕ} {v w : Numbers} {ts : List Combination} {xs : List ℤ} → Grows n v m w → AllMean n v ts xs → AllMean m w ts xs
all_more {ts = ts} {xs = xs} g h = record { each = each_more ts xs g h.each }

pub known_more : {n m : ℕ} {v w : Numbers} (t : Option Combination) (said : Option ℤ) → Grows n v m w → IsKnown n v t said → IsKnown m w t said
known_more None said g h = tt
known_more (Some t) said g h = record { number = h.number; is = h.is; means = means_more g h.means }

pub hold_more : {n m : ℕ} {v w : Numbers} {fs : List Fact} → Grows n v m w → HoldAll n v fs → HoldAll m w fs
hold_more g h = record { all = λ u e. h.all u (extends_before g e) }

-- ---- what terms mean

pub means_one : {n : ℕ} {v : Numbers} {t : Combination} {x y : ℤ} → v 0 ≡ pos 1 → Means n v t x → Means n v t y → x ≡ y
means_one {v = v} one h k = sym (h.is v (extends_here one)) ∙ k.is v (extends_here one)

pub means_as : {n : ℕ} {v : Numbers} {t : Combination} {x y : ℤ} → x ≡ y → Means n v t x → Means n v t y
means_as e h = record { is = λ w k. h.is w k ∙ e }

pub means_plus : {n : ℕ} {v : Numbers} {a b : Combination} {x y : ℤ} → Means n v a x → Means n v b y → Means n v (plus a b) (x +ℤ y)
means_plus {a = a} {b = b} h k = record { is = λ w e. value_of_plus w a b ∙ (λ i. h.is w e i +ℤ k.is w e i) }

pub means_minus : {n : ℕ} {v : Numbers} {a b : Combination} {x y : ℤ} → Means n v a x → Means n v b y → Means n v (minus a b) (x -ℤ y)
means_minus {a = a} {b = b} h k = record { is = λ w e. value_of_minus w a b ∙ (λ i. h.is w e i -ℤ k.is w e i) }

pub means_times : {n : ℕ} {v : Numbers} {a : Combination} {x : ℤ} (k : ℤ) → Means n v a x → Means n v (times k a) (x *ℤ k)
means_times {a = a} k h = record { is = λ w e. value_of_times w k a ∙ ap (λ (z : ℤ). z *ℤ k) (h.is w e) }

pub means_constant : {n : ℕ} {v : Numbers} (x : ℤ) → Means n v (constant x) x
means_constant x = record { is = λ w e. value_of_constant w x e.one }

pub means_symbol : {n : ℕ} {v : Numbers} (s : ℕ) → s < n → s < 512 → Means n v (symbol s) (v (suc s))
means_symbol s h l = record { is = λ w e. value_of_symbol w s l ∙ e.same s h }

-- ---- several terms

pub all_none : {n : ℕ} {v : Numbers} → AllMean n v [] []
all_none = record { each = tt }

pub all_one : {n : ℕ} {v : Numbers} {t : Combination} {x : ℤ} {ts : List Combination} {xs : List ℤ} → Means n v t x → AllMean n v ts xs → AllMean n v (t ∷ ts) (x ∷ xs)
all_one h k = record { each = (h, k.each) }

pub all_head : {n : ℕ} {v : Numbers} {t : Combination} {x : ℤ} {ts : List Combination} {xs : List ℤ} → AllMean n v (t ∷ ts) (x ∷ xs) → Means n v t x
all_head h = h.each.0

pub all_tail : {n : ℕ} {v : Numbers} {t : Combination} {x : ℤ} {ts : List Combination} {xs : List ℤ} → AllMean n v (t ∷ ts) (x ∷ xs) → AllMean n v ts xs
all_tail h = record { each = h.each.1 }

each_append : (n : ℕ) (v : Numbers) (ts us : List Combination) (xs ys : List ℤ) → EachMeans n v ts xs → EachMeans n v us ys → EachMeans n v (ts ++ us) (xs ++ ys)
each_append n v [] us [] ys h k = k
each_append n v [] us (x ∷ xs) ys h k = absurd h
each_append n v (t ∷ ts) us [] ys h k = absurd h
each_append n v (t ∷ ts) us (x ∷ xs) ys h k = (h.0, each_append n v ts us xs ys h.1 k)

pub all_append : {n : ℕ} {v : Numbers} {ts us : List Combination} {xs ys : List ℤ} → AllMean n v ts xs → AllMean n v us ys → AllMean n v (ts ++ us) (xs ++ ys)
all_append {n = n} {v = v} {ts = ts} {us = us} {xs = xs} {ys = ys} h k = record { each = each_append n v ts us xs ys h.each k.each }

-- ---- a new symbol

-- symbol n has the number x
abbrev pub with_symbol : ℕ → ℤ → Numbers → Numbers
with_symbol n x v zero = v zero
with_symbol n x v (suc s) = if s == n then x else v (suc s)

symbol_is : (n : ℕ) (x : ℤ) (v : Numbers) (s : ℕ) → s ≡ n → with_symbol n x v (suc s) ≡ x
symbol_is n x v s h = grind (arith, h)

symbol_stays : (n : ℕ) (x : ℤ) (v : Numbers) (s : ℕ) → s < n → with_symbol n x v (suc s) ≡ v (suc s)
symbol_stays n x v s h = grind arith

pub grows_symbol : {n : ℕ} (x : ℤ) (v : Numbers) → Grows n v (n + 1) (with_symbol n x v)
grows_symbol {n = n} x v = record { more = omega arith; agree = λ s h. symbol_stays n x v s h }

pub means_new : {n : ℕ} (x : ℤ) (v : Numbers) → n < 512 → Means (n + 1) (with_symbol n x v) (symbol n) x
means_new {n = n} x v l = means_as (symbol_is n x v n refl) (means_symbol n (omega arith) l)
