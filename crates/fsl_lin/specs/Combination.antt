-- Whole-number combinations of symbols and a constant, and the operations on them. None of these has a
-- bound; `is_narrow` says which combinations a `Lin` holds.
use Rattle.std.specs.Prelude.{◌≡◌, ℕ, zero, ◌≤◌, ◌^◌, Bool, true, false, Option, MatchOption, ◌&&◌, List, [], ◌∷◌, ◌++◌, length, get_or, replicate, ℤ, pos, negsuc, ◌+ℤ◌, ◌-ℤ◌, ◌*ℤ◌, nat_le, nat_lt}

-- item s of `terms` is the coefficient of symbol s, and a symbol past the end has 0; `rest` is the constant
pub record Combination : Type 0 where
  pub terms : List ℤ
  pub rest : ℤ

abbrev pub coefficient : Combination → ℕ → ℤ
coefficient c s = get_or c.terms s (pos 0)

-- a list without the zeros at its end
abbrev pub lead : ℤ → List ℤ → List ℤ
lead (pos zero) [] = []
lead c cs = c ∷ cs

abbrev pub trim : List ℤ → List ℤ
trim [] = []
trim (c ∷ cs) = lead c (trim cs)

-- a combination from its coefficients, which may end in zeros, and its constant
abbrev pub trimmed : List ℤ → ℤ → Combination
trimmed terms rest = record { terms = trim terms; rest = rest }

-- f at each place of two lists, 0 where one has ended
abbrev pub joined : (ℤ → ℤ → ℤ) → List ℤ → List ℤ → List ℤ
joined f [] [] = []
joined f [] (y ∷ ys) = f (pos 0) y ∷ joined f [] ys
joined f (x ∷ xs) [] = f x (pos 0) ∷ joined f xs []
joined f (x ∷ xs) (y ∷ ys) = f x y ∷ joined f xs ys

abbrev pub combined : (ℤ → ℤ → ℤ) → Combination → Combination → Combination
combined f a b = trimmed (joined f a.terms b.terms) (f a.rest b.rest)

abbrev pub plus : Combination → Combination → Combination
plus = combined (λ x y. x +ℤ y)

abbrev pub minus : Combination → Combination → Combination
minus = combined (λ x y. x -ℤ y)

-- k times each number of a list
abbrev pub products : ℤ → List ℤ → List ℤ
products k [] = []
products k (x ∷ xs) = (x *ℤ k) ∷ products k xs

abbrev pub times : ℤ → Combination → Combination
times k c = trimmed (products k c.terms) (c.rest *ℤ k)

abbrev pub constant : ℤ → Combination
constant n = record { terms = []; rest = n }

abbrev pub symbol : ℕ → Combination
symbol s = record { terms = replicate s (pos 0) ++ pos 1 ∷ []; rest = pos 0 }

-- |x| <= bound
abbrev pub is_within : ℕ → ℤ → Bool
is_within bound (pos n) = nat_le n bound
is_within bound (negsuc n) = nat_lt n bound

abbrev pub are_within : ℕ → List ℤ → Bool
are_within bound [] = true
are_within bound (x ∷ xs) = is_within bound x && are_within bound xs

-- each coefficient is at most 2^24 in size, and the constant at most 2^90
abbrev pub is_narrow : Combination → Bool
is_narrow c = are_within (2 ^ 24) c.terms && is_within (2 ^ 90) c.rest

-- the number n, or `None` exactly where it is greater than a coefficient may be, than a constant may be
pub record IsNarrowed (bound : ℕ) (n : ℤ) (found : ℤ) : Type 0 where
  pub is : found ≡ n
  pub within : is_within bound n ≡ true

abbrev pub IsTerm : ℤ → Option ℤ → Type 0
IsTerm n found = MatchOption found (is_within (2 ^ 24) n ≡ false) (IsNarrowed (2 ^ 24) n)

abbrev pub IsRest : ℤ → Option ℤ → Type 0
IsRest n found = MatchOption found (is_within (2 ^ 90) n ≡ false) (IsNarrowed (2 ^ 90) n)

-- what a `Lin` keeps: few symbols, no zero at the end, numbers within their bounds
pub record IsKept (c : Combination) : Type 0 where
  pub few : length c.terms ≤ 512
  pub trimmed : trim c.terms ≡ c.terms
  pub narrow : is_narrow c ≡ true
