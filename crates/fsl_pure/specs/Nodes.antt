-- Terms that are a number, or a symbol and a number, by their nodes: 0, and s + 1 for symbol s.
use Rattle.std.specs.Prelude.{◌≡◌, ℕ, zero, suc, ◌≤◌, Bool, true, false, ◌||◌, List, [], ◌∷◌, ◌++◌, ℤ, pos, if◌then◌else◌, ◌==◌}
use Rattle.fsl_lin.specs.declared.sym.Sym.{Sym}
use Rattle.fsl_lin.specs.declared.took.Took.{Took}
use Rattle.fsl_lin.specs.declared.took.Took.TheVariants.{Pivot, Trivial, Absurd, NoPivot}
use Rattle.fsl_lin.specs.Combination.{Combination, coefficient}
use Rattle.fsl_lin.specs.Rows.{Row, AtPivots}

-- 1 at the place of a node
abbrev pub unit : ℕ → ℕ → ℤ
unit x i = if i == x then pos 1 else pos 0

-- t is a number and, where x is not 0, the symbol of node x
pub record IsNode (x : ℕ) (t : Combination) : Type 0 where
  pub few : x ≤ 512
  pub each : (s : ℕ) → coefficient t s ≡ unit x (suc s)

-- a place of a symbol, and not that of node x
abbrev pub IsFree : ℕ → ℕ → Type 0
IsFree x zero = ⊥
IsFree x (suc s) = suc s ≡ x → ⊥

-- a place of a symbol, at which the nodes x and y differ by 0
abbrev pub IsLevel : ℕ → ℕ → ℕ → Type 0
IsLevel x y zero = ⊥
IsLevel x y (suc s) = unit x (suc s) ≡ unit y (suc s)

-- two such terms, whose difference has no pivot
pub record AreNodes (rs : List Row) (x y : ℕ) (a b : Combination) : Type 0 where
  pub first : IsNode x a
  pub second : IsNode y b
  pub level : AtPivots (IsLevel x y) rs

-- a number is that of one of these symbols
abbrev pub among : ℕ → List Sym → Bool
among n [] = false
among n (s ∷ ss) = n == s.0 || among n ss

-- a place is that of one of these symbols
abbrev pub IsAmong : List Sym → ℕ → Type 0
IsAmong ss zero = ⊥
IsAmong ss (suc n) = among n ss ≡ true

-- the pivots with that of one more equation
abbrev pub noted : Took → List Sym → List Sym
noted (Pivot s) ss = ss ++ s ∷ []
noted Trivial ss = ss
noted Absurd ss = ss
noted NoPivot ss = ss
