-- The invariants of a program, as its statements refer to them.
use Rattle.std.proofs.Common.{◌≡◌, ℕ, map, slice_get, Option, sym, ap, ◌∙◌}
use Rattle.std.specs.Option.{option_map}
use Rattle.std.proofs.lemmas.Option.{slice_get-map}
use Rattle.fsl_core.specs.declared.declaration.Inv.{Inv}
use Rattle.fsl_core.specs.Programs.{Program}
use Rattle.fsl_core.specs.logic.Assertions.{asrt_of}
use Rattle.fsl_core.specs.logic.Locations.{setting_of, Invariant}

abbrev pub inv_of : Inv → Invariant
inv_of inv = record { slots = inv.slots; parts = map asrt_of inv.parts }

pub invariant_at : (p : Program) (n : ℕ) (o : Option Inv) → o ≡ slice_get p.invs n
    → slice_get (setting_of asrt_of p).invs n ≡ option_map inv_of o
invariant_at p n o h = slice_get-map inv_of p.invs n ∙ ap (option_map inv_of) (sym h)
