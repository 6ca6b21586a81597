-- What sums, differences and products of terms come to, and numbers and symbols.
use Rattle.std.proofs.Common.{◌≡◌, ℕ, zero, suc, ◌<◌, ◌≤◌, inl, inr, ℤ, pos, ◌+ℤ◌, ◌-ℤ◌, ◌*ℤ◌, refl, ap, sym, subst, ◌∙◌, arith}
use Rattle.std.proofs.Math.IntN.{*ℤ_comm, zero-*ℤ}
use Rattle.std.proofs.lemmas.Int.{ints}
use Rattle.std.proofs.lemmas.Bool.{cases_eq}
use Rattle.fsl_lin.specs.Combination.{Combination, plus, minus, times, constant, symbol}
use Rattle.fsl_lin.specs.Numbers.{Numbers, most, part}
use Rattle.fsl_lin.specs.Values.{value, value_of}
use Rattle.fsl_lin.proofs.Coefficients.{plus_at, minus_at, times_at, symbol_own, symbol_other}
use Rattle.fsl_lin.proofs.Ring.{distribute, distribute_minus, times_one, one_times, associate}

line_plus : (a b c d e f : ℤ) → e ≡ a +ℤ b → f ≡ c +ℤ d → e +ℤ f ≡ (a +ℤ c) +ℤ (b +ℤ d)
line_plus a b c d e f h k = omega (arith, ints)

line_minus : (a b c d e f : ℤ) → e ≡ a -ℤ b → f ≡ c -ℤ d → e +ℤ f ≡ (a +ℤ c) -ℤ (b +ℤ d)
line_minus a b c d e f h k = omega (arith, ints)

line_both : (x y a b : ℤ) → x ≡ a → y ≡ b → x +ℤ y ≡ a +ℤ b
line_both x y a b h k = omega (arith, ints)

line_first : (x y a : ℤ) → x ≡ a → y ≡ pos 0 → x +ℤ y ≡ a
line_first x y a h k = omega (arith, ints)

line_second : (x y a : ℤ) → x ≡ pos 0 → y ≡ a → x +ℤ y ≡ a
line_second x y a h k = omega (arith, ints)

-- ---- numbers at places

pub value_plus : (k : ℕ) (v f g : Numbers) → value k v (λ i. f i +ℤ g i) ≡ value k v f +ℤ value k v g
value_plus zero v f g = refl
value_plus (suc k) v f g =
    line_plus (value k v f) (value k v g) (f k *ℤ v k) (g k *ℤ v k) _ _ (value_plus k v f g) (distribute (f k) (g k) (v k))

pub value_minus : (k : ℕ) (v f g : Numbers) → value k v (λ i. f i -ℤ g i) ≡ value k v f -ℤ value k v g
value_minus zero v f g = refl
value_minus (suc k) v f g =
    line_minus (value k v f) (value k v g) (f k *ℤ v k) (g k *ℤ v k) _ _ (value_minus k v f g) (distribute_minus (f k) (g k) (v k))

pub value_times : (k : ℕ) (v f : Numbers) (c : ℤ) → value k v (λ i. c *ℤ f i) ≡ value k v f *ℤ c
value_times zero v f c = sym (zero-*ℤ c)
value_times (suc k) v f c =
    line_both _ _ (value k v f *ℤ c) ((f k *ℤ v k) *ℤ c) (value_times k v f c) (associate c (f k) (v k) ∙ *ℤ_comm c (f k *ℤ v k))
    ∙ sym (distribute (value k v f) (f k *ℤ v k) c)

pub value_scaled : (k : ℕ) (v f : Numbers) (c : ℤ) → value k v (λ i. f i *ℤ c) ≡ value k v f *ℤ c
value_scaled k v f c = ap (value k v) (λ j i. *ℤ_comm (f i) c j) ∙ value_times k v f c

-- ---- terms

plus_part : (a b : Combination) (i : ℕ) → part (plus a b) i ≡ part a i +ℤ part b i
plus_part a b zero = refl
plus_part a b (suc s) = plus_at a b s

pub value_of_plus : (v : Numbers) (a b : Combination) → value_of v (part (plus a b)) ≡ value_of v (part a) +ℤ value_of v (part b)
value_of_plus v a b = ap (value (suc most) v) (λ j i. plus_part a b i j) ∙ value_plus (suc most) v (part a) (part b)

minus_part : (a b : Combination) (i : ℕ) → part (minus a b) i ≡ part a i -ℤ part b i
minus_part a b zero = refl
minus_part a b (suc s) = minus_at a b s

pub value_of_minus : (v : Numbers) (a b : Combination) → value_of v (part (minus a b)) ≡ value_of v (part a) -ℤ value_of v (part b)
value_of_minus v a b = ap (value (suc most) v) (λ j i. minus_part a b i j) ∙ value_minus (suc most) v (part a) (part b)

times_part : (k : ℤ) (a : Combination) (i : ℕ) → part (times k a) i ≡ part a i *ℤ k
times_part k a zero = refl
times_part k a (suc s) = times_at k a s

pub value_of_times : (v : Numbers) (k : ℤ) (a : Combination) → value_of v (part (times k a)) ≡ value_of v (part a) *ℤ k
value_of_times v k a = ap (value (suc most) v) (λ j i. times_part k a i j) ∙ value_scaled (suc most) v (part a) k

constant_below : (k : ℕ) (v : Numbers) (n : ℤ) → v 0 ≡ pos 1 → value (suc k) v (part (constant n)) ≡ n
constant_below zero v n h = line_second (pos 0) (n *ℤ v 0) n refl (ap (λ (z : ℤ). n *ℤ z) h ∙ times_one n)
constant_below (suc k) v n h = line_first _ (pos 0 *ℤ v (suc k)) n (constant_below k v n h) (zero-*ℤ (v (suc k)))

pub value_of_constant : (v : Numbers) (n : ℤ) → v 0 ≡ pos 1 → value_of v (part (constant n)) ≡ n
value_of_constant v n h = constant_below most v n h

-- a symbol counts at its own place alone
elsewhere : (v : Numbers) (s k : ℕ) → (k ≡ suc s → ⊥) → part (symbol s) k *ℤ v k ≡ pos 0
elsewhere v s zero h = zero-*ℤ (v 0)
elsewhere v s (suc t) h = ap (λ (z : ℤ). z *ℤ v (suc t)) (symbol_other s t (λ e. h (ap suc (sym e)))) ∙ zero-*ℤ (v (suc t))

symbol_before : (v : Numbers) (s k : ℕ) → k ≤ suc s → value k v (part (symbol s)) ≡ pos 0
symbol_before v s zero h = refl
symbol_before v s (suc k) h =
    line_first (value k v (part (symbol s))) (part (symbol s) k *ℤ v k) (pos 0) (symbol_before v s k (omega arith)) (elsewhere v s k (λ e. omega arith))

symbol_there : (v : Numbers) (s : ℕ) → value (suc (suc s)) v (part (symbol s)) ≡ v (suc s)
symbol_there v s =
    line_second (value (suc s) v (part (symbol s))) (part (symbol s) (suc s) *ℤ v (suc s)) (v (suc s)) (symbol_before v s (suc s) (omega arith))
    (ap (λ (z : ℤ). z *ℤ v (suc s)) (symbol_own s) ∙ one_times (v (suc s)))

symbol_below : (v : Numbers) (s k : ℕ) → suc s < k → value k v (part (symbol s)) ≡ v (suc s)
symbol_below v s zero h = absurd (omega arith)
symbol_below v s (suc k) h =
    elim (cases_eq k (suc s)) [
      | inl e ↦ subst (λ (n : ℕ). value (suc n) v (part (symbol s)) ≡ v (suc s)) (sym e) (symbol_there v s)
      | inr d ↦ line_first (value k v (part (symbol s))) (part (symbol s) k *ℤ v k) (v (suc s)) (symbol_below v s k (omega arith)) (elsewhere v s k d)
    ]

-- symbols are numbered below 512
pub value_of_symbol : (v : Numbers) (s : ℕ) → s < 512 → value_of v (part (symbol s)) ≡ v (suc s)
unfolding most
value_of_symbol v s h = symbol_below v s (suc most) (omega arith)
