-- The outside of the program: what a shelf holds and gives, what a sink holds, how often the system failed.
use Rattle.std.specs.Prelude.{◌≡◌, ℕ, ◌+◌, ◌-◌, ◌^◌, ◌≤◌, min, List, Option, None, Some, Result, Ok, Err}

-- what each name holds, and `None` at a name that isn't there; nothing is told where the whole is `None`
abbrev pub Content : Type 0
Content = Option (List ℕ → Option (List ℕ))

-- a count raised by some steps: it never falls, and stands still at the last number of 64 bits
abbrev pub raised : ℕ → ℕ → ℕ
raised count steps = min (count + steps) (2 ^ 64 - 1)

-- a count of faults rose, or stands still
abbrev pub Rose : ℕ → ℕ → Type 0
Rose before now = raised before 1 ≤ now

-- the shelf tells what it holds, and holds nothing under the name
abbrev pub HoldsNo : Content → List ℕ → Type 0
HoldsNo None name = ⊥
HoldsNo (Some held) name = held name ≡ None

-- where the shelf tells what it holds, what is left is told and is the whole content of the name
abbrev pub IsWhole : Content → List ℕ → Option (List ℕ) → Type 0
IsWhole None name left = Unit {0}
IsWhole (Some held) name None = ⊥
IsWhole (Some held) name (Some left) = held name ≡ Some left

-- how many bytes a pull gave
abbrev pub pulled : {E : Type 0} → Result ℕ E → ℕ
pulled (Ok count) = count
pulled (Err e) = 0
