-- The parts of a location's invariant at a value, as assertions with the numbers that they are read with, and what they
-- ask for together.
use Rattle.std.specs.Prelude.{◌≡◌, ℕ, List, [], ◌∷◌, ◌++◌, map, Option, Some, None, ℤ, slice_get}
use Rattle.fsl_core.specs.declared.assertion.Asrt.{Asrt}
use Rattle.fsl_core.specs.declared.declaration.Inv.{Inv}
use Rattle.fsl_core.specs.declared.mode.Rung.{Rung}
use Rattle.fsl_core.specs.Programs.{Program}
use Rattle.fsl_core.specs.Values.{with_value}
use Rattle.fsl_core.specs.logic.Assertions.{asrt_of}
use Rattle.fsl_core.specs.logic.Locations.{Piece}
use Rattle.fsl_lin.specs.Numbers.{Numbers}
use Rattle.fsl_meaning.specs.Means.{AllMean, padded_numbers}
use Rattle.fsl_meaning.specs.Heaps.{nothing, Truth}
use Rattle.fsl_asserted.specs.Needs.{Need, need, asks, both_asked}

pub record Part : Type 0 where
  pub asrt : Asrt
  pub numbers : List ℤ

abbrev pub parts_by : Option Inv → List ℤ → ℤ → List Part
parts_by None args x = []
parts_by (Some inv) args x = map (λ a. record { asrt = a; numbers = padded_numbers inv.slots (args ++ x ∷ []) }) inv.parts

-- all parts of an invariant of the program at the value x
abbrev pub parts_in : Program → ℕ → List ℤ → ℤ → List Part
parts_in p inv args x = parts_by (slice_get p.invs inv) args x

-- binders of one part are not seen in another
abbrev pub parts_asked : Truth → Rung → List Part → Option Need
parts_asked t rung [] = Some (need nothing [] [])
parts_asked t rung (p ∷ ps) = with_value (asks t p.asrt rung p.numbers) (λ n. with_value (parts_asked t rung ps) (λ m. Some (both_asked n m)))

-- the pieces of a rule are these parts
abbrev pub EachPiece : ℕ → Numbers → List Piece → List Part → Type 0
EachPiece n v [] [] = Unit {0}
EachPiece n v [] (p ∷ ps) = ⊥
EachPiece n v (x ∷ xs) [] = ⊥
EachPiece n v (x ∷ xs) (p ∷ ps) = (x.asrt ≡ asrt_of p.asrt) × AllMean n v x.env p.numbers × EachPiece n v xs ps

pub record ArePieces (n : ℕ) (v : Numbers) (xs : List Piece) (ps : List Part) : Type 0 where
  pub each : EachPiece n v xs ps
