-- The parts of the invariants of a program, as the code reads them.
use Rattle.std.specs.Prelude.{ℕ, List, [], ◌∷◌, ◌++◌, map, Option, slice_get}
use Rattle.fsl_core.specs.declared.assertion.Asrt.{Asrt}
use Rattle.fsl_core.specs.declared.declaration.Inv.{Inv}
use Rattle.fsl_core.specs.declared.mode.Rung.{Rung}
use Rattle.fsl_core.specs.declared.verdict.Mood.TheVariants as mood
use Rattle.fsl_core.specs.logic.States.{Env, Action, ◌>>◌, done}
use Rattle.fsl_core.specs.logic.Assertions.{Assertion, asrt_of}
use Rattle.fsl_core.specs.logic.Locations.{Piece, padded}
use Rattle.fsl_lin.specs.Combination.{Combination}

abbrev pub piece_in : Env → Assertion → Piece
piece_in env a = record { asrt = a; env = env }

abbrev pub parts_in : Env → List Asrt → List Piece
parts_in env parts = map (piece_in env) (map asrt_of parts)

-- a part of an invariant with these arguments, at a value
abbrev pub piece_at : Inv → List Combination → ℕ → Combination → Option Piece
piece_at inv args part v = slice_get (parts_in (padded inv.slots (args ++ v ∷ [])) inv.parts) part

-- a part is consumed alone
abbrev pub part_consumed : Rung → Env → Assertion → Action
part_consumed rung env a = do
  a.consume mood.Cond rung env
  done
