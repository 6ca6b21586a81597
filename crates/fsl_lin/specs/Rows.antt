-- Equations that are kept reduced: each has a pivot, with coefficient 1, that stands in no other one.
use Rattle.std.specs.Prelude.{◌≡◌, ℕ, zero, suc, ◌-◌, Bool, true, ◌&&◌, List, [], ◌∷◌, length, Option, Some, None, ℤ, pos, negsuc, ◌+ℤ◌, ◌-ℤ◌, ◌*ℤ◌, if◌then◌else◌, ◌==◌}
use Rattle.std.specs.Ordering.{int_eq}
use Rattle.fsl_lin.specs.Numbers.{Numbers, most, is_constant, fits}
use Rattle.fsl_lin.specs.declared.took.Took.{Took}
use Rattle.fsl_lin.specs.declared.took.Took.TheVariants.{Pivot, Trivial, Absurd, NoPivot}

-- the equation that these numbers come to 0; the number at the pivot is 1
pub record Row : Type 0 where
  pub pivot : ℕ
  pub numbers : Numbers

-- the combination of the equations with these multipliers
abbrev pub combined : List ℤ → List Row → Numbers
combined [] rs i = pos 0
combined (k ∷ ks) [] i = pos 0
combined (k ∷ ks) (r ∷ rs) i = (k *ℤ r.numbers i) +ℤ combined ks rs i

-- P holds at each pivot
abbrev pub AtPivots : (ℕ → Type 0) → List Row → Type 0
AtPivots P [] = Unit {0}
AtPivots P (r ∷ rs) = P r.pivot × AtPivots P rs

-- no row has this place
abbrev pub AreFree : ℕ → List Row → Type 0
AreFree p [] = Unit {0}
AreFree p (r ∷ rs) = (r.numbers p ≡ pos 0) × AreFree p rs

-- each row has 1 at its pivot, and 0 at the pivots of the others
abbrev pub IsReduced : List Row → Type 0
IsReduced [] = Unit {0}
IsReduced (r ∷ rs) = (r.numbers r.pivot ≡ pos 1) × AtPivots (λ p. r.numbers p ≡ pos 0) rs × AreFree r.pivot rs × IsReduced rs

-- n has no pivot, and t differs from it by a whole-number combination of the rows
pub record IsNormalForm (rs : List Row) (t n : Numbers) : Type 0 where
  pub free : AtPivots (λ p. n p ≡ pos 0) rs
  pub multipliers : List ℤ
  pub long : length multipliers ≡ length rs
  pub each : (i : ℕ) → t i ≡ n i +ℤ combined multipliers rs i

-- the combination of reduced rows that has the numbers of t at their pivots
abbrev pub taken : List Row → Numbers → Numbers
taken [] t i = pos 0
taken (r ∷ rs) t i = (t r.pivot *ℤ r.numbers i) +ℤ taken rs t i

-- the normal form of t, where the rows are reduced
abbrev pub normal : List Row → Numbers → Numbers
normal rs t i = t i -ℤ taken rs t i

abbrev pub is_unit : ℤ → Bool
is_unit (pos n) = n == 1
is_unit (negsuc n) = n == 0

-- the greatest place from 1 to k with 1 or -1
abbrev pub pivot_below : ℕ → Numbers → Option ℕ
pivot_below zero n = None
pivot_below (suc k) n = if is_unit (n (suc k)) then Some (suc k) else pivot_below k n

-- an equation times the 1 or -1 at its pivot
abbrev pub turned : ℕ → Numbers → Numbers
turned p n i = n i *ℤ n p

-- f without place p, by the equation e with 1 there
abbrev pub without : ℕ → Numbers → Numbers → Numbers
without p e f i = f i -ℤ (f p *ℤ e i)

abbrev pub all_without : ℕ → Numbers → List Row → List Row
all_without p e [] = []
all_without p e (r ∷ rs) = record { pivot = r.pivot; numbers = without p e r.numbers } ∷ all_without p e rs

-- the rows and one more equation, in normal form, with its pivot
abbrev pub extended : List Row → Numbers → Option ℕ → List Row
extended rs n None = rs
extended rs n (Some p) = record { pivot = p; numbers = turned p n } ∷ all_without p (turned p n) rs

-- the rows once `t = 0` is assumed too
abbrev pub assumed : List Row → Numbers → List Row
assumed rs t = extended rs (normal rs t) (pivot_below most (normal rs t))

-- what becomes of an equation in normal form
abbrev pub took_of : Numbers → Option ℕ → Took
took_of n (Some p) = Pivot (record { 0 = p - 1 })
took_of n None = if is_constant n then (if int_eq (n 0) (pos 0) then Trivial else Absurd) else NoPivot

-- what becomes of the equation `t = 0`
abbrev pub took : List Row → Numbers → Took
took rs t = took_of (normal rs t) (pivot_below most (normal rs t))

-- a `Lin` has room for each row
abbrev pub rows_fit : List Row → Bool
rows_fit [] = true
rows_fit (r ∷ rs) = fits r.numbers && rows_fit rs

-- each row in normal form by others
abbrev pub all_normal : List Row → List Row → List Row
all_normal rs [] = []
all_normal rs (q ∷ qs) = record { pivot = q.pivot; numbers = normal rs q.numbers } ∷ all_normal rs qs
