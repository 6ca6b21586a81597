-- Sums and least numbers over views of which one changes, and over lists of numbers.
use Rattle.std.proofs.Common.{◌≡◌, ◌≢◌, ℕ, zero, suc, ◌+◌, ◌<◌, ◌≤◌, min, List, [], ◌∷◌, ◌++◌, set, nat_lt, if◌then◌else◌, ◌==◌, refl, sym, ap, arith}
use mathlib.Core.Option.{some, some-injective, some-ne-none}
use lib.ListN.{get_elem?}
use Rattle.fsl_claim.specs.declared.view.View.{View}
use Rattle.fsl_claim.specs.Views.{total, lowest, times, least_of}

abbrev pub At : List View → ℕ → View → Type 0
At vs i v = get_elem? vs i ≡ some v

-- ---- sums

pub total_set : (f : View → ℕ) (vs : List View) (i : ℕ) (v w : View) → At vs i v → total f (set vs i w) + f v ≡ total f vs + f w
total_set f [] i v w at = absurd (some-ne-none v (sym at))
total_set f (x ∷ xs) zero v w at = let same : f x ≡ f v = ap f (some-injective x v at) in omega (arith, same)
total_set f (x ∷ xs) (suc i) v w at = let deeper = total_set f xs i v w at in omega (arith, deeper)

pub total_here : (f : View → ℕ) (vs : List View) (i : ℕ) (v : View) → At vs i v → f v ≤ total f vs
total_here f [] i v at = absurd (some-ne-none v (sym at))
total_here f (x ∷ xs) zero v at = let same : f x ≡ f v = ap f (some-injective x v at) in omega (arith, same)
total_here f (x ∷ xs) (suc i) v at = let deeper = total_here f xs i v at in omega (arith, deeper)

pub total_two : (f : View → ℕ) (vs : List View) (i j : ℕ) (v u : View) → At vs i v → At vs j u → j ≢ i → f v + f u ≤ total f vs
total_two f [] i j v u at there apart = absurd (some-ne-none v (sym at))
total_two f (x ∷ xs) zero zero v u at there apart = absurd (apart refl)
total_two f (x ∷ xs) zero (suc j) v u at there apart = let same : f x ≡ f v = ap f (some-injective x v at) in let deeper = total_here f xs j u there in omega (arith, same, deeper)
total_two f (x ∷ xs) (suc i) zero v u at there apart = let same : f x ≡ f u = ap f (some-injective x u there) in let deeper = total_here f xs i v at in omega (arith, same, deeper)
total_two f (x ∷ xs) (suc i) (suc j) v u at there apart = let deeper = total_two f xs i j v u at there (λ e. apart (ap suc e)) in omega (arith, deeper)

pub total_last : (f : View → ℕ) (vs : List View) (w : View) → total f (vs ++ w ∷ []) ≡ total f vs + f w
total_last f [] w = omega arith
total_last f (x ∷ xs) w = let deeper = total_last f xs w in omega (arith, deeper)

pub total_under : (f g : View → ℕ) (vs : List View) → ((i : ℕ) (v : View) → At vs i v → f v ≤ g v) → total f vs ≤ total g vs
total_under f g [] under = omega arith
total_under f g (x ∷ xs) under = let here = under 0 x refl in let deeper = total_under f g xs (λ i v at. under (suc i) v at) in omega (arith, here, deeper)

pub total_none : (f : View → ℕ) (vs : List View) → ((i : ℕ) (v : View) → At vs i v → f v ≡ 0) → total f vs ≡ 0
total_none f [] none_ = refl
total_none f (x ∷ xs) none_ = let here = none_ 0 x refl in let deeper = total_none f xs (λ i v at. none_ (suc i) v at) in omega (arith, here, deeper)

pub total_alone : (f : View → ℕ) (vs : List View) (i : ℕ) (v : View) → At vs i v → ((j : ℕ) (u : View) → j ≢ i → At vs j u → f u ≡ 0) → total f vs ≡ f v
total_alone f [] i v at others = absurd (some-ne-none v (sym at))
total_alone f (x ∷ xs) zero v at others = let same : f x ≡ f v = ap f (some-injective x v at) in let deeper = total_none f xs (λ j u there. others (suc j) u (λ e. omega arith) there) in omega (arith, same, deeper)
total_alone f (x ∷ xs) (suc i) v at others = let here = others 0 x (λ e. omega arith) refl in let deeper = total_alone f xs i v at (λ j u apart there. others (suc j) u (λ e. apart (omega arith)) there) in omega (arith, here, deeper)

-- ---- least numbers

pub lowest_most : (f : View → ℕ) (most : ℕ) (vs : List View) → lowest f most vs ≤ most
lowest_most f most [] = omega arith
lowest_most f most (x ∷ xs) = let deeper = lowest_most f most xs in omega (arith, deeper)

pub lowest_here : (f : View → ℕ) (most : ℕ) (vs : List View) (i : ℕ) (v : View) → At vs i v → lowest f most vs ≤ f v
lowest_here f most [] i v at = absurd (some-ne-none v (sym at))
lowest_here f most (x ∷ xs) zero v at = let same : f x ≡ f v = ap f (some-injective x v at) in omega (arith, same)
lowest_here f most (x ∷ xs) (suc i) v at = let deeper = lowest_here f most xs i v at in omega (arith, deeper)

pub lowest_set : (f : View → ℕ) (most : ℕ) (vs : List View) (i : ℕ) (v w : View) → At vs i v → f w ≤ f v → lowest f most (set vs i w) ≡ min (f w) (lowest f most vs)
lowest_set f most [] i v w at falls = absurd (some-ne-none v (sym at))
lowest_set f most (x ∷ xs) zero v w at falls = let same : f x ≡ f v = ap f (some-injective x v at) in omega (arith, same, falls)
lowest_set f most (x ∷ xs) (suc i) v w at falls = let deeper = lowest_set f most xs i v w at falls in omega (arith, deeper)

pub lowest_same : (f : View → ℕ) (most : ℕ) (vs : List View) (i : ℕ) (v w : View) → At vs i v → f w ≡ f v → lowest f most (set vs i w) ≡ lowest f most vs
lowest_same f most vs i v w at same = let falls = lowest_set f most vs i v w at (omega (arith, same)) in let here = lowest_here f most vs i v at in omega (arith, falls, here, same)

-- where a view rises to `most`, what it had gone missing at most
pub lowest_raised : (f : View → ℕ) (most : ℕ) (vs : List View) (i : ℕ) (v w : View) → At vs i v → most ≤ f w → min (f v) (lowest f most (set vs i w)) ≡ lowest f most vs
lowest_raised f most [] i v w at high = absurd (some-ne-none v (sym at))
lowest_raised f most (x ∷ xs) zero v w at high = let same : f x ≡ f v = ap f (some-injective x v at) in let rest = lowest_most f most xs in omega (arith, same, rest, high)
lowest_raised f most (x ∷ xs) (suc i) v w at high = let deeper = lowest_raised f most xs i v w at high in omega (arith, deeper)

-- where another view is as low, nothing is lost
pub lowest_kept : (f : View → ℕ) (most : ℕ) (vs : List View) (i j : ℕ) (v w u : View) → At vs i v → At vs j u → j ≢ i → f u ≤ f v → most ≤ f w → lowest f most (set vs i w) ≡ lowest f most vs
lowest_kept f most [] i j v w u at there apart low high = absurd (some-ne-none v (sym at))
lowest_kept f most (x ∷ xs) zero zero v w u at there apart low high = absurd (apart refl)
lowest_kept f most (x ∷ xs) zero (suc j) v w u at there apart low high = let same : f x ≡ f v = ap f (some-injective x v at) in let rest = lowest_here f most xs j u there in let top = lowest_most f most xs in omega (arith, same, rest, top, low, high)
lowest_kept f most (x ∷ xs) (suc i) zero v w u at there apart low high = let same : f x ≡ f u = ap f (some-injective x u there) in let rest = lowest_raised f most xs i v w at high in omega (arith, same, rest, low)
lowest_kept f most (x ∷ xs) (suc i) (suc j) v w u at there apart low high = let deeper = lowest_kept f most xs i j v w u at there (λ e. apart (ap suc e)) low high in omega (arith, deeper)

pub lowest_last : (f : View → ℕ) (most : ℕ) (vs : List View) (w : View) → lowest f most (vs ++ w ∷ []) ≡ min (f w) (lowest f most vs)
lowest_last f most [] w = refl
lowest_last f most (x ∷ xs) w = let deeper = lowest_last f most xs w in omega (arith, deeper)

pub lowest_none : (f : View → ℕ) (most : ℕ) (vs : List View) → ((i : ℕ) (v : View) → At vs i v → most ≤ f v) → lowest f most vs ≡ most
lowest_none f most [] high = refl
lowest_none f most (x ∷ xs) high = let here = high 0 x refl in let deeper = lowest_none f most xs (λ i v at. high (suc i) v at) in omega (arith, here, deeper)

pub lowest_alone : (f : View → ℕ) (most : ℕ) (vs : List View) (i : ℕ) (v : View) → At vs i v → ((j : ℕ) (u : View) → j ≢ i → At vs j u → most ≤ f u) → lowest f most vs ≡ min (f v) most
lowest_alone f most [] i v at others = absurd (some-ne-none v (sym at))
lowest_alone f most (x ∷ xs) zero v at others = let same : f x ≡ f v = ap f (some-injective x v at) in let deeper = lowest_none f most xs (λ j u there. others (suc j) u (λ e. omega arith) there) in omega (arith, same, deeper)
lowest_alone f most (x ∷ xs) (suc i) v at others = let here = others 0 x (λ e. omega arith) refl in let deeper = lowest_alone f most xs i v at (λ j u apart there. others (suc j) u (λ e. apart (omega arith)) there) in omega (arith, here, deeper)

-- ---- lists of numbers

pub times_append : (x : ℕ) (xs ys : List ℕ) → times x (xs ++ ys) ≡ times x xs + times x ys
times_append x [] ys = omega arith
times_append x (z ∷ zs) ys = let deeper = times_append x zs ys in omega (arith, deeper)

pub least_most : (most : ℕ) (xs : List ℕ) → least_of most xs ≤ most
least_most most [] = omega arith
least_most most (x ∷ xs) = let deeper = least_most most xs in omega (arith, deeper)

pub least_append : (most : ℕ) (xs ys : List ℕ) → least_of most (xs ++ ys) ≡ min (least_of most xs) (least_of most ys)
least_append most [] ys = let top = least_most most ys in omega (arith, top)
least_append most (x ∷ xs) ys = let deeper = least_append most xs ys in omega (arith, deeper)

abbrev pub one_at : ℕ → ℕ → ℕ
one_at x y = if x == y then 1 else 0

abbrev pub one_below : ℕ → ℕ → ℕ
one_below x c = if nat_lt x c then 1 else 0

-- the numbers below c, and c itself, are those below c + 1
pub one_more : (x c : ℕ) → one_below x c + one_at x c ≡ one_below x (c + 1)
one_more x c = grind arith

pub one_at_same : (x : ℕ) → one_at x x ≡ 1
one_at_same x = grind arith

pub one_at_other : (x y : ℕ) → x ≢ y → one_at x y ≡ 0
one_at_other x y apart = grind (arith, apart)

pub below_where : (x c : ℕ) → 0 < one_below x c → x < c
below_where x c h = grind (arith, h)

pub none_below : (x : ℕ) → 0 ≡ one_below x 0
none_below x = grind arith
