-- Programs over non-atomic cells, and what becomes of each.
use Rattle.std.specs.Prelude.{◌≡◌}
use Rattle.fsl_core.specs.declared.verdict.Kind.TheVariants as kind
use Rattle.fsl_core.specs.declared.verdict.Verdict.TheVariants.{Accepted, Failed}
use Rattle.fsl_core.specs.logic.Verdicts.{verdict_of}
use Rattle.fsl_judged.specs.Words.{span}
use Rattle.fsl_judged.specs.ExampleCells.{unset_cell, half_a_share, freed_cell, no_share, first_cell, bounds, counted_loop}

pub record CellsAreJudged : Type 0 where
  pub unset_cell_is : verdict_of unset_cell ≡ Failed 0 (span 32 51) kind.Uninit
  pub half_a_share_is : verdict_of half_a_share ≡ Failed 0 (span 52 67) kind.Share
  pub freed_cell_is : verdict_of freed_cell ≡ Failed 0 (span 41 60) kind.Points
  pub no_share_is : verdict_of no_share ≡ Failed 0 (span 33 34) kind.Share
  pub first_cell_is : verdict_of first_cell ≡ Accepted 2
  pub bounds_is : verdict_of bounds ≡ Accepted 2
  pub counted_loop_is : verdict_of counted_loop ≡ Accepted 1
