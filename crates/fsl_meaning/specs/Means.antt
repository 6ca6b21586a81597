-- What terms and facts mean at a place of a path, where the first n symbols were made and v gives them numbers: what
-- they come to however the symbols that come later are chosen.
use Rattle.std.specs.Prelude.{◌≡◌, ℕ, suc, ◌<◌, ◌≤◌, ◌-◌, List, [], ◌∷◌, ◌++◌, length, replicate, Option, Some, None, ℤ, pos}
use Rattle.fsl_lin.specs.Combination.{Combination}
use Rattle.fsl_lin.specs.Numbers.{Numbers, part}
use Rattle.fsl_lin.specs.Values.{value_of, AllHold}
use Rattle.fsl_lin.specs.declared.fact.Fact.{Fact}

-- w gives the first n symbols the numbers of v
pub record Extends (n : ℕ) (v w : Numbers) : Type 0 where
  pub one : w 0 ≡ pos 1
  pub same : (s : ℕ) → s < n → w (suc s) ≡ v (suc s)

-- the term t is the number x
pub record Means (n : ℕ) (v : Numbers) (t : Combination) (x : ℤ) : Type 0 where
  pub is : (w : Numbers) → Extends n v w → value_of w (part t) ≡ x

abbrev pub EachMeans : ℕ → Numbers → List Combination → List ℤ → Type 0
EachMeans n v [] [] = Unit {0}
EachMeans n v [] (x ∷ xs) = ⊥
EachMeans n v (t ∷ ts) [] = ⊥
EachMeans n v (t ∷ ts) (x ∷ xs) = Means n v t x × EachMeans n v ts xs

-- several terms are these numbers
pub record AllMean (n : ℕ) (v : Numbers) (ts : List Combination) (xs : List ℤ) : Type 0 where
  pub each : EachMeans n v ts xs

-- t is the number that is said
pub record IsSaid (n : ℕ) (v : Numbers) (t : Combination) (said : Option ℤ) : Type 0 where
  pub number : ℤ
  pub is : said ≡ Some number
  pub means : Means n v t number

-- a term, where there is one, is the number that is said
abbrev pub IsKnown : ℕ → Numbers → Option Combination → Option ℤ → Type 0
IsKnown n v None said = Unit {0}
IsKnown n v (Some t) said = IsSaid n v t said

-- all facts hold
pub record HoldAll (n : ℕ) (v : Numbers) (fs : List Fact) : Type 0 where
  pub all : (w : Numbers) → Extends n v w → AllHold w fs

-- a later place of the path: more symbols, and the earlier ones have their numbers
pub record Grows (n : ℕ) (v : Numbers) (m : ℕ) (w : Numbers) : Type 0 where
  pub more : n ≤ m
  pub agree : (s : ℕ) → s < n → w (suc s) ≡ v (suc s)

-- numbers of variables, with 0 for those that aren't set yet
abbrev pub padded_numbers : ℕ → List ℤ → List ℤ
padded_numbers slots xs = xs ++ replicate (slots - length xs) (pos 0)
