-- Lists with one more item at the end.
use Rattle.std.proofs.Common.{◌≡◌, ◌<◌, ◌++◌, ℕ, zero, suc, List, [], ◌∷◌, length, slice_get, Some, ◌⊎◌, inl, inr, refl, arith}

pub get_more : {A : Type 0} (xs ys : List A) (i : ℕ) (y : A) → slice_get xs i ≡ Some y → slice_get (xs ++ ys) i ≡ Some y
get_more [] ys i y h = cc
get_more (x ∷ xs) ys zero y h = h
get_more (x ∷ xs) ys (suc i) y h = get_more xs ys i y h

pub get_last : {A : Type 0} (xs : List A) (x : A) → slice_get (xs ++ x ∷ []) (length xs) ≡ Some x
get_last [] x = refl
get_last (y ∷ xs) x = get_last xs x

-- an item is one of those before, or the new one
pub get_cases : {A : Type 0} (xs : List A) (x : A) (i : ℕ) (y : A) → slice_get (xs ++ x ∷ []) i ≡ Some y
    → (slice_get xs i ≡ Some y) ⊎ ((i ≡ length xs) × (x ≡ y))
get_cases [] x zero y h = inr (refl, cc)
get_cases [] x (suc i) y h = cc
get_cases (z ∷ xs) x zero y h = inl h
get_cases (z ∷ xs) x (suc i) y h = elim (get_cases xs x i y h) [ inl p ↦ inl p | inr q ↦ inr (omega (arith, q.0), q.1) ]

pub get_within : {A : Type 0} (xs : List A) (i : ℕ) (y : A) → slice_get xs i ≡ Some y → i < length xs
get_within [] i y h = cc
get_within (x ∷ xs) zero y h = omega arith
get_within (x ∷ xs) (suc i) y h = let rest = get_within xs i y h in omega arith

-- an item below the length is one of those before
pub get_before : {A : Type 0} (xs : List A) (x : A) (i : ℕ) (y : A) → slice_get (xs ++ x ∷ []) i ≡ Some y → i < length xs → slice_get xs i ≡ Some y
get_before [] x i y h k = absurd (omega arith)
get_before (z ∷ xs) x zero y h k = h
get_before (z ∷ xs) x (suc i) y h k = get_before xs x i y h (omega arith)

pub get_there : {A : Type 0} (xs : List A) (i : ℕ) → i < length xs → (y : A) × (slice_get xs i ≡ Some y)
get_there [] i k = absurd (omega arith)
get_there (x ∷ xs) zero k = (x, refl)
get_there (x ∷ xs) (suc i) k = get_there xs i (omega arith)
