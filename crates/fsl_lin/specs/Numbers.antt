-- A term as the numbers of its places: place 0 has the constant, and place s + 1 the coefficient of symbol s.
use Rattle.std.specs.Prelude.{ℕ, zero, suc, ◌^◌, Bool, true, ◌&&◌, ℤ, pos, neg_ℤ, List, get_or, ◌+ℤ◌, ◌-ℤ◌, ◌*ℤ◌}
use Rattle.std.specs.Ordering.{int_eq}
use Rattle.fsl_lin.specs.Combination.{Combination, coefficient, is_within}

abbrev pub Numbers : Type 0
Numbers = ℕ → ℤ

-- the last place of a term, since symbols are numbered below 512; opaque, so that nothing counts up to it
unfoldable pub most : ℕ
most = 512

abbrev pub part : Combination → Numbers
part c zero = c.rest
part c (suc s) = coefficient c s

-- 0 at every place
abbrev pub none : Numbers
none i = pos 0

-- the numbers of -t
abbrev pub opposite : Numbers → Numbers
opposite n i = neg_ℤ (n i)

-- the numbers of a - b + gap
abbrev pub gapped : Numbers → Numbers → ℤ → Numbers
gapped a b gap zero = (a zero -ℤ b zero) +ℤ gap
gapped a b gap (suc s) = a (suc s) -ℤ b (suc s)

-- the same number at each place from 1 to k
abbrev pub same_above : ℕ → Numbers → Numbers → Bool
same_above zero f g = true
same_above (suc k) f g = int_eq (f (suc k)) (g (suc k)) && same_above k f g

-- no symbol has a coefficient
abbrev pub is_constant : Numbers → Bool
is_constant n = same_above most n none

-- each number at the places from 1 to k is at most `bound` in size
abbrev pub within_above : ℕ → ℕ → Numbers → Bool
within_above bound zero n = true
within_above bound (suc k) n = is_within bound (n (suc k)) && within_above bound k n

-- a `Lin` has room for these numbers: each coefficient is at most 2^24 in size, and the constant at most 2^90
abbrev pub fits : Numbers → Bool
fits n = is_within (2 ^ 90) (n 0) && within_above (2 ^ 24) most n

-- the numbers of a list, and 0 past its end
abbrev pub listed : List ℤ → Numbers
listed ns i = get_or ns i (pos 0)

-- k times each number
abbrev pub scaled : ℤ → Numbers → Numbers
scaled k n i = n i *ℤ k
