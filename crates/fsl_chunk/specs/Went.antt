-- The branches that the answer of a call stands for.
use Rattle.std.specs.Prelude.{[], ◌∷◌}
use Rattle.fsl_core.specs.logic.States.{Branches, goes, fails}
use Rattle.fsl_lin.specs.Combination.{Combination}
use Rattle.fsl_chunk.specs.declared.went.Made.{Made}
use Rattle.fsl_chunk.specs.declared.went.Made.TheVariants as made
use Rattle.fsl_chunk.specs.declared.went.Went.{Went}
use Rattle.fsl_chunk.specs.declared.went.Went.TheVariants as went

abbrev pub branches : Went → Branches (Unit {0})
branches (went.Goes state) = goes tt state ∷ []
branches went.Infeasible = []
branches (went.Fails kind) = fails kind ∷ []

abbrev pub branches_made : Made → Branches Combination
branches_made (made.Goes state symbol) = goes symbol state ∷ []
branches_made (made.Fails kind) = fails kind ∷ []
