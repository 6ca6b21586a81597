-- Sums and products of numbers of bounded size.
use Rattle.std.proofs.Common.{◌≡◌, ℕ, zero, suc, ◌+◌, ◌*◌, ◌<◌, ◌≤◌, ◌^◌, true, ℤ, pos, negsuc, ◌-ℤ◌, ◌*ℤ◌, unsigned_abs, FitsSigned, to_z, of_z, lit<, ◌∙◌, arith}
use Rattle.std.specs.Int.{w128}
use Rattle.std.proofs.lemmas.Int.{ints, to_z-of_z, unsigned_abs-mul, fits_signed_from_abs}
use Rattle.std.proofs.lemmas.Nat.{mul-le}
use Rattle.std.proofs.lemmas.Bool.{leb-true, ltb-true}
use Rattle.fsl_lin.specs.Combination.{Combination, IsKept, coefficient, is_within}
use Rattle.fsl_lin.specs.Numbers.{part}
use Rattle.fsl_lin.specs.Sizes.{IsSize}
use Rattle.fsl_lin.proofs.Kept.{each_within, terms_within, rest_within}

pub size_within : (b : ℕ) (x : ℤ) → is_within b x ≡ true → IsSize b x
size_within b (pos n) h = let k : n ≤ b = leb-true n b h in record { low = omega (arith, ints); high = omega (arith, ints) }
size_within b (negsuc n) h = let k : n < b = ltb-true n b h in record { low = omega (arith, ints); high = omega (arith, ints) }

abs_size : (b : ℕ) (x : ℤ) → IsSize b x → unsigned_abs x ≤ b
abs_size b (pos n) h = let k = h.high in omega (arith, ints)
abs_size b (negsuc n) h = let k = h.low in omega (arith, ints)

size_abs : (b : ℕ) (x : ℤ) → unsigned_abs x ≤ b → IsSize b x
size_abs b (pos n) h = record { low = omega (arith, ints); high = omega (arith, ints) }
size_abs b (negsuc n) h = record { low = omega (arith, ints); high = omega (arith, ints) }

pub size_product : (a b : ℕ) (x y : ℤ) → IsSize a x → IsSize b y → IsSize (a * b) (x *ℤ y)
size_product a b x y h k =
    size_abs (a * b) (x *ℤ y) (rw (unsigned_abs-mul x y) (mul-le _ _ _ _ (abs_size a x h) (abs_size b y k)))

pub size_difference : (a b c : ℕ) (x y : ℤ) → IsSize a x → IsSize b y → a + b ≤ c → IsSize c (x -ℤ y)
size_difference a b c x y h k l = record { low = omega (arith, ints); high = omega (arith, ints) }

pub size_fits : (b : ℕ) (x : ℤ) → IsSize b x → b < 2 ^ 127 → FitsSigned w128 x
size_fits b x h k = fits_signed_from_abs w128 x (let a : unsigned_abs x ≤ b = abs_size b x h in omega arith)

-- the product of a coefficient and a number, as code computes it
share_size : (x y : ℤ) → is_within (2 ^ 24) x ≡ true → is_within (2 ^ 90) y ≡ true → IsSize (2 ^ 114) (x *ℤ y)
share_size x y h k = size_product (2 ^ 24) (2 ^ 90) x y (size_within (2 ^ 24) x h) (size_within (2 ^ 90) y k)

fits_within : (b : ℕ) (x : ℤ) → is_within b x ≡ true → b < 2 ^ 127 → FitsSigned w128 x
fits_within b x h k = size_fits b x (size_within b x h) k

pub share_fits : (x y : ℤ) → is_within (2 ^ 24) x ≡ true → is_within (2 ^ 90) y ≡ true
    → FitsSigned w128 (to_z w128 (of_z w128 x) *ℤ to_z w128 (of_z w128 y))
share_fits x y h k =
    rw (to_z-of_z w128 x (fits_within (2 ^ 24) x h (lit< tt)), to_z-of_z w128 y (fits_within (2 ^ 90) y k (lit< tt)))
    (size_fits (2 ^ 114) (x *ℤ y) (share_size x y h k) (lit< tt))

pub share_value : (x y : ℤ) → is_within (2 ^ 24) x ≡ true → is_within (2 ^ 90) y ≡ true
    → to_z w128 (of_z w128 (to_z w128 (of_z w128 x) *ℤ to_z w128 (of_z w128 y))) ≡ x *ℤ y
share_value x y h k =
    to_z-of_z w128 (to_z w128 (of_z w128 x) *ℤ to_z w128 (of_z w128 y)) (share_fits x y h k)
    ∙ (λ i. to_z-of_z w128 x (fits_within (2 ^ 24) x h (lit< tt)) i *ℤ to_z-of_z w128 y (fits_within (2 ^ 90) y k (lit< tt)) i)

pub share_sized : (x y : ℤ) → is_within (2 ^ 24) x ≡ true → is_within (2 ^ 90) y ≡ true
    → IsSize (2 ^ 114) (to_z w128 (of_z w128 (to_z w128 (of_z w128 x) *ℤ to_z w128 (of_z w128 y))))
share_sized x y h k = rw (share_value x y h k) (share_size x y h k)

size_more : (a b : ℕ) (x : ℤ) → IsSize a x → a ≤ b → IsSize b x
size_more a b x h k = record { low = let l = h.low in omega (arith, ints); high = let l = h.high in omega (arith, ints) }

-- the numbers of a term that is kept
coefficient_size : (c : Combination) → IsKept c → (s : ℕ) → IsSize (2 ^ 24) (coefficient c s)
coefficient_size c kept s = size_within (2 ^ 24) (coefficient c s) (each_within (2 ^ 24) c.terms s (terms_within c kept))

part_size : (c : Combination) → IsKept c → (i : ℕ) → IsSize (2 ^ 90) (part c i)
part_size c kept zero = size_within (2 ^ 90) c.rest (rest_within c kept)
part_size c kept (suc s) = size_more (2 ^ 24) (2 ^ 90) (coefficient c s) (coefficient_size c kept s) (omega arith)

-- a number of a term from which no equation, one more, or all have taken their shares
pub start_size : (c : Combination) (x : ℤ) (i : ℕ) → IsKept c → x ≡ part c i → IsSize (2 ^ 90 + 0 * 2 ^ 114) x
start_size c x i kept is = rw is (size_more (2 ^ 90) (2 ^ 90 + 0 * 2 ^ 114) (part c i) (part_size c kept i) (omega arith))

pub next_size : (k : ℕ) (t e : Combination) (s i : ℕ) (x y : ℤ) → IsKept t → IsKept e → IsSize (2 ^ 90 + k * 2 ^ 114) x
    → y ≡ x -ℤ (coefficient t s *ℤ part e i) → IsSize (2 ^ 90 + (k + 1) * 2 ^ 114) y
next_size k t e s i x y kept kept_e h is =
    rw is (size_difference (2 ^ 90 + k * 2 ^ 114) (2 ^ 114) (2 ^ 90 + (k + 1) * 2 ^ 114) x (coefficient t s *ℤ part e i) h
    (size_product (2 ^ 24) (2 ^ 90) (coefficient t s) (part e i) (coefficient_size t kept s) (part_size e kept_e i)) (omega arith))

pub left_size : (k : ℕ) (x : ℤ) → k ≤ 512 → IsSize (2 ^ 90 + k * 2 ^ 114) x → IsSize (2 ^ 124) x
left_size k x few h = size_more (2 ^ 90 + k * 2 ^ 114) (2 ^ 124) x h (omega arith)
