-- What terms and facts come to, where each symbol has a whole number.
use Rattle.std.specs.Prelude.{◌≡◌, ℕ, zero, suc, List, [], ◌∷◌, ℤ, pos, ◌+ℤ◌, ◌*ℤ◌, ◌≤ℤ◌}
use Rattle.fsl_lin.specs.Numbers.{Numbers, most, part}
use Rattle.fsl_lin.specs.Rows.{Row}
use Rattle.fsl_lin.specs.declared.fact.Fact.{Fact}
use Rattle.fsl_lin.specs.declared.fact.Fact.TheVariants.{Le, Is}

-- the value of the places below k, where v gives each place its number: place 0 has 1, and place s + 1 the value of symbol s
abbrev pub value : ℕ → Numbers → Numbers → ℤ
value zero v n = pos 0
value (suc k) v n = value k v n +ℤ (n k *ℤ v k)

-- the value of a term
abbrev pub value_of : Numbers → Numbers → ℤ
value_of v n = value (suc most) v n

abbrev pub Holds : Numbers → Fact → Type 0
Holds v (Le t) = value_of v (part t) ≤ℤ pos 0
Holds v (Is t) = value_of v (part t) ≡ pos 0

abbrev pub AllHold : Numbers → List Fact → Type 0
AllHold v [] = Unit {0}
AllHold v (f ∷ fs) = Holds v f × AllHold v fs

-- each row comes to 0 below place k
abbrev pub Satisfies : ℕ → Numbers → List Row → Type 0
Satisfies k v [] = Unit {0}
Satisfies k v (r ∷ rs) = (value k v r.numbers ≡ pos 0) × Satisfies k v rs

-- P holds under every valuation in whole numbers that satisfies the facts
abbrev pub Follows : List Fact → (Numbers → Type 0) → Type 0
Follows fs P = (v : Numbers) → v 0 ≡ pos 1 → AllHold v fs → P v
