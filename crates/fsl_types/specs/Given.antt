-- What a file gives to all of its parts: its bytes, and the invariants and procedures by their names.
use Rattle.std.specs.Prelude.{ℕ, List}
use Rattle.fsl_types.specs.declared.given.Globals.{Globals}
use Rattle.fsl_types.specs.Names.{Signatures}

pub record Given : Type 0 where
  pub bytes : List ℕ
  pub invariants : Signatures
  pub procedures : Signatures

abbrev pub given_of : Globals → Given
given_of globals = record { bytes = globals.bytes.now; invariants = globals.invariants; procedures = globals.procedures }
