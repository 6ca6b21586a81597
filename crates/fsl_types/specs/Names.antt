-- Names with what stands behind them, in the order in which they were declared.
use Rattle.std.specs.Prelude.{ℕ, ◌-◌, List, [], ◌∷◌, ◌++◌, Option, Some, None, take, drop, if◌then◌else◌}
use Rattle.std.specs.Map.{lookup}
use Rattle.std.specs.Option.{is_some}
use Rattle.std.specs.Str.{bytes_eq}
use Rattle.fsl_base.specs.declared.span.Span.{Span}
use Rattle.fsl_types.specs.declared.variable.Signature.{Signature}
use Rattle.fsl_types.specs.declared.variable.Sort.{Sort}
use Rattle.fsl_types.specs.declared.variable.Variable.{Variable}

-- variables, and invariants or procedures, by their names
abbrev pub Names : Type 0
Names = List (List ℕ × Variable)

abbrev pub Signatures : Type 0
Signatures = List (List ℕ × Signature)

-- the bytes of a span
abbrev pub text_at : List ℕ → Span → List ℕ
text_at bytes at = take (at.to - at.from) (drop at.from bytes)

-- what stands behind a name
abbrev pub found : {V : Type 0} → List ℕ → List (List ℕ × V) → Option V
found name entries = lookup (bytes_eq name) entries

-- one name more, unless it stands there already
abbrev pub with_name : {V : Type 0} → List ℕ → V → List (List ℕ × V) → List (List ℕ × V)
with_name name value entries = if is_some (found name entries) then entries else entries ++ (name, value) ∷ []

-- the slot of the variable that is named at a place, 0 where none is
abbrev pub slot_of : Option Variable → ℕ
slot_of None = 0
slot_of (Some variable) = variable.slot

abbrev pub slot_at : List ℕ → Names → Span → ℕ
slot_at bytes names place = slot_of (found (text_at bytes place) names)

-- what the variable that is named at a place is, where one is
abbrev pub sort_of : Option Variable → Option Sort
sort_of None = None
sort_of (Some variable) = Some variable.sort

abbrev pub sort_at : List ℕ → Names → Span → Option Sort
sort_at bytes names place = sort_of (found (text_at bytes place) names)
