-- Arrays from which the numbers of a term are taken, place by place.
use Rattle.std.proofs.Common.{◌≡◌, ℕ, ◌<◌, ◌≤◌, inl, inr, List, length, ℤ, pos, ◌-ℤ◌, arith}
use Rattle.std.proofs.lemmas.Int.{ints}
use Rattle.std.proofs.lemmas.Bool.{cases_lt}
use Rattle.fsl_lin.specs.Numbers.{Numbers, listed}

-- the numbers n are taken before place i, and nothing from there on
pub record TakenBefore (old now : List ℤ) (n : Numbers) (i : ℕ) : Type 0 where
  pub long : length now ≡ length old
  pub done : (j : ℕ) → j < i → listed now j ≡ listed old j -ℤ n j
  pub left : (j : ℕ) → i ≤ j → listed now j ≡ listed old j

line_none : (x y z : ℤ) → x ≡ y → z ≡ pos 0 → x ≡ y -ℤ z
line_none x y z h k = omega (arith, ints)

pub taken_end : {old now : List ℤ} {n : Numbers} {i : ℕ} → TakenBefore old now n i → ((j : ℕ) → i ≤ j → n j ≡ pos 0)
    → (j : ℕ) → listed now j ≡ listed old j -ℤ n j
taken_end {old = old} {now = now} {n = n} {i = i} h zero j =
    elim (cases_lt j i) [ inl l ↦ h.done j l | inr l ↦ line_none _ _ _ (h.left j l) (zero j l) ]
