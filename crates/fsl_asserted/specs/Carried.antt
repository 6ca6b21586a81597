-- What an assertion without modalities asks for at another rung: the same, with its cells and what it knows of atomic
-- locations there.
use Rattle.std.specs.Prelude.{◌≡◌, true, false, List, map, Some, ℤ, if◌then◌else◌}
use Rattle.fsl_core.specs.declared.assertion.Asrt.{Asrt}
use Rattle.fsl_core.specs.declared.declaration.Inv.{Inv}
use Rattle.fsl_core.specs.declared.mode.Rung.{Rung}
use Rattle.fsl_core.specs.WellFormed.{asrt_fits}
use Rattle.fsl_core.specs.logic.Chunks.{same_rung}
use Rattle.fsl_meaning.specs.Heaps.{Cell, Permission, Tokens, Bank, Heap, Truth, Claim, IsInit, MayWrite, MayRead, MayUpdate, Agrees}
use Rattle.fsl_asserted.specs.Needs.{Need, need, asks}

-- the cells of one rung stand at another one, and those of the others are gone
abbrev pub moved : Rung → Rung → Heap → Heap
moved from to h (Cell r l) = if same_rung to r then h (Cell from l) else 0
moved from to h (Permission l p) = h (Permission l p)
moved from to h (Tokens b) = h (Tokens b)
moved from to h (Bank b) = h (Bank b)

abbrev pub claim_at : Rung → Claim → Claim
claim_at to (IsInit r l) = IsInit to l
claim_at to (MayWrite l i xs) = MayWrite l i xs
claim_at to (MayRead l i xs) = MayRead l i xs
claim_at to (MayUpdate l i xs) = MayUpdate l i xs

abbrev pub carried : Rung → Rung → Need → Need
carried from to n = need (moved from to n.heap) (map (claim_at to) n.claims) n.env

-- no modality stands in it
abbrev pub IsPlain : List Inv → Asrt → Type 0
IsPlain invs a = asrt_fits invs a false ≡ true

abbrev pub AsksCarried : Type 0
AsksCarried = (invs : List Inv) (t : Truth) (a : Asrt) (from to : Rung) (xs : List ℤ) (n : Need) → IsPlain invs a → asks t a from xs ≡ Some n → asks t a to xs ≡ Some (carried from to n)

-- what is asked for stays where nothing changed of it
abbrev pub AsksStay : Type 0
AsksStay = (t later : Truth) (a : Asrt) (rung : Rung) (xs : List ℤ) (n : Need) → asks t a rung xs ≡ Some n → Agrees t later n.heap → asks later a rung xs ≡ Some n
