-- Numbers of variables at calls and in loops.
use Rattle.std.specs.Prelude.{ℕ, zero, suc, ◌==◌, Bool, List, [], ◌∷◌, ◌++◌, Option, Some, None, ℤ, pos, get_or, slice_set, if◌then◌else◌}
use Rattle.std.specs.List.{list_any}
use Rattle.fsl_lin.specs.Combination.{Combination}
use Rattle.fsl_lin.specs.Numbers.{Numbers}
use Rattle.fsl_meaning.specs.Means.{Means}

-- the result of a call, where it has one
abbrev pub ResultMeans : ℕ → Numbers → Option Combination → Option ℤ → Type 0
ResultMeans n v None None = Unit {0}
ResultMeans n v None (Some x) = ⊥
ResultMeans n v (Some t) None = ⊥
ResultMeans n v (Some t) (Some x) = Means n v t x

abbrev pub result_number : Bool → ℤ → Option ℤ
result_number b x = if b then Some x else None

-- the result stands behind the variables
abbrev pub numbers_with : List ℤ → Option ℤ → List ℤ
numbers_with xs None = xs
numbers_with xs (Some x) = xs ++ x ∷ []

-- the variable that a call sets
abbrev pub numbers_set : List ℤ → Option ℕ → Option ℤ → List ℤ
numbers_set slots None x = slots
numbers_set slots (Some slot) None = slots
numbers_set slots (Some slot) (Some x) = slice_set slots slot x

-- of the first n variables, those that are set have the numbers of ys
abbrev pub renewed : ℕ → List ℕ → List ℤ → List ℤ → List ℤ
renewed zero sets ys slots = slots
renewed (suc n) sets ys slots = if list_any (λ slot. slot == n) sets then slice_set (renewed n sets ys slots) n (get_or ys n (pos 0)) else renewed n sets ys slots
