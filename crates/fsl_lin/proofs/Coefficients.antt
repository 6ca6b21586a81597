-- The coefficients of sums, differences and products, and equality by coefficients.
use Rattle.std.proofs.Common.{◌≡◌, ℕ, zero, suc, List, [], ◌∷◌, get_or, ℤ, pos, negsuc, ◌+ℤ◌, ◌-ℤ◌, ◌*ℤ◌, refl, sym, ap, ◌∙◌}
use Rattle.std.proofs.Math.IntN.{zero-*ℤ}
use Rattle.fsl_lin.specs.Combination.{Combination, IsKept, coefficient, lead, trim, joined, products, plus, minus, times, symbol}

lead_at : (x : ℤ) (xs : List ℤ) (s : ℕ) → get_or (lead x xs) s (pos 0) ≡ get_or (x ∷ xs) s (pos 0)
lead_at (pos zero) [] zero = refl
lead_at (pos zero) [] (suc s) = refl
lead_at (pos (suc n)) [] s = refl
lead_at (negsuc n) [] s = refl
lead_at (pos zero) (y ∷ ys) s = refl
lead_at (pos (suc n)) (y ∷ ys) s = refl
lead_at (negsuc n) (y ∷ ys) s = refl

pub trim_at : (xs : List ℤ) (s : ℕ) → get_or (trim xs) s (pos 0) ≡ get_or xs s (pos 0)
trim_at [] s = refl
trim_at (x ∷ xs) zero = lead_at x (trim xs) zero
trim_at (x ∷ xs) (suc s) = lead_at x (trim xs) (suc s) ∙ trim_at xs s

pub joined_at : (f : ℤ → ℤ → ℤ) → f (pos 0) (pos 0) ≡ pos 0 → (xs ys : List ℤ) (s : ℕ)
    → get_or (joined f xs ys) s (pos 0) ≡ f (get_or xs s (pos 0)) (get_or ys s (pos 0))
joined_at f h [] [] s = sym h
joined_at f h [] (y ∷ ys) zero = refl
joined_at f h [] (y ∷ ys) (suc s) = joined_at f h [] ys s
joined_at f h (x ∷ xs) [] zero = refl
joined_at f h (x ∷ xs) [] (suc s) = joined_at f h xs [] s
joined_at f h (x ∷ xs) (y ∷ ys) zero = refl
joined_at f h (x ∷ xs) (y ∷ ys) (suc s) = joined_at f h xs ys s

pub products_at : (k : ℤ) (xs : List ℤ) (s : ℕ) → get_or (products k xs) s (pos 0) ≡ get_or xs s (pos 0) *ℤ k
products_at k [] s = sym (zero-*ℤ k)
products_at k (x ∷ xs) zero = refl
products_at k (x ∷ xs) (suc s) = products_at k xs s

pub plus_at : (a b : Combination) (s : ℕ) → coefficient (plus a b) s ≡ coefficient a s +ℤ coefficient b s
plus_at a b s = trim_at (joined (λ x y. x +ℤ y) a.terms b.terms) s ∙ joined_at (λ x y. x +ℤ y) refl a.terms b.terms s

pub minus_at : (a b : Combination) (s : ℕ) → coefficient (minus a b) s ≡ coefficient a s -ℤ coefficient b s
minus_at a b s = trim_at (joined (λ x y. x -ℤ y) a.terms b.terms) s ∙ joined_at (λ x y. x -ℤ y) refl a.terms b.terms s

pub times_at : (k : ℤ) (a : Combination) (s : ℕ) → coefficient (times k a) s ≡ coefficient a s *ℤ k
times_at k a s = trim_at (products k a.terms) s ∙ products_at k a.terms s

pub symbol_own : (s : ℕ) → coefficient (symbol s) s ≡ pos 1
symbol_own zero = refl
symbol_own (suc s) = symbol_own s

pub symbol_other : (s t : ℕ) → (s ≡ t → ⊥) → coefficient (symbol s) t ≡ pos 0
symbol_other zero zero h = absurd (h refl)
symbol_other zero (suc t) h = refl
symbol_other (suc s) zero h = refl
symbol_other (suc s) (suc t) h = symbol_other s t (λ e. h (ap suc e))

-- a list of zeros trims to nothing
zeros_gone : (xs : List ℤ) → ((s : ℕ) → get_or xs s (pos 0) ≡ pos 0) → trim xs ≡ []
zeros_gone [] h = refl
zeros_gone (x ∷ xs) h = ap (lead x) (zeros_gone xs (λ s. h (suc s))) ∙ ap (λ (y : ℤ). lead y []) (h zero)

pub trim_by_items : (xs ys : List ℤ) → ((s : ℕ) → get_or xs s (pos 0) ≡ get_or ys s (pos 0)) → trim xs ≡ trim ys
trim_by_items [] ys h = sym (zeros_gone ys (λ s. sym (h s)))
trim_by_items (x ∷ xs) [] h = zeros_gone (x ∷ xs) h
trim_by_items (x ∷ xs) (y ∷ ys) h = ap (lead x) (trim_by_items xs ys (λ s. h (suc s))) ∙ ap (λ (z : ℤ). lead z (trim ys)) (h zero)

pub equal_by_coefficients : (a b : Combination) → IsKept a → IsKept b → ((s : ℕ) → coefficient a s ≡ coefficient b s) → a.rest ≡ b.rest → a ≡ b
equal_by_coefficients a b k l h r =
    let e : a.terms ≡ b.terms = sym k.trimmed ∙ trim_by_items a.terms b.terms h ∙ l.trimmed in
    λ i. record { terms = e i; rest = r i }
