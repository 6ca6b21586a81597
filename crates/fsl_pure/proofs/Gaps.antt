-- Differences in arrays.
use Rattle.std.proofs.Common.{◌≡◌, ℕ, zero, suc, ◌<◌, List, length, set, ℤ, pos, ◌+ℤ◌, ◌-ℤ◌, ap, ◌∙◌, arith}
use Rattle.std.proofs.lemmas.Int.{ints}
use Rattle.std.proofs.lemmas.List.{get_or-set_same, get_or-set_other}
use Rattle.fsl_lin.specs.Numbers.{Numbers, listed, gapped}

line_none : (x y z : ℤ) → x ≡ y -ℤ z → x ≡ (y -ℤ z) +ℤ pos 0
line_none x y z h = omega (arith, ints)

difference_at : (m a b : Numbers) → ((j : ℕ) → m j ≡ a j -ℤ b j) → (j : ℕ) → m j ≡ gapped a b (pos 0) j
difference_at m a b h zero = line_none (m zero) (a zero) (b zero) (h zero)
difference_at m a b h (suc s) = h (suc s)

pub difference_is : (m a b : Numbers) → ((j : ℕ) → m j ≡ a j -ℤ b j) → m ≡ gapped a b (pos 0)
difference_is m a b h = λ i j. difference_at m a b h j i

line_gap : (x y z w g : ℤ) → x ≡ w +ℤ g → w ≡ (y -ℤ z) +ℤ pos 0 → x ≡ (y -ℤ z) +ℤ g
line_gap x y z w g h k = omega (arith, ints)

gap_at : (ns : List ℤ) (a b : Numbers) (x gap : ℤ) → 0 < length ns → ((j : ℕ) → listed ns j ≡ gapped a b (pos 0) j) → x ≡ listed ns 0 +ℤ gap
    → (j : ℕ) → listed (set ns 0 x) j ≡ gapped a b gap j
gap_at ns a b x gap within h is zero = get_or-set_same ns 0 x (pos 0) within ∙ line_gap x (a zero) (b zero) (listed ns 0) gap is (h zero)
gap_at ns a b x gap within h is (suc s) = get_or-set_other ns 0 (suc s) x (pos 0) (λ e. omega arith) ∙ h (suc s)

pub gap_added : (ns : List ℤ) (a b : Numbers) (x gap : ℤ) → 0 < length ns → listed ns ≡ gapped a b (pos 0) → x ≡ listed ns 0 +ℤ gap
    → listed (set ns 0 x) ≡ gapped a b gap
gap_added ns a b x gap within h is = λ i j. gap_at ns a b x gap within (λ k. ap (λ (n : Numbers). n k) h) is j i
