-- Parts of the rule of atomic stores.
use Rattle.fsl_core.specs.declared.mode.Rung.{Rung}
use Rattle.fsl_core.specs.declared.mode.Rung.TheVariants.{Plain}
use Rattle.fsl_core.specs.logic.States.{Action, ◌>>◌}
use Rattle.fsl_core.specs.logic.Chunks.{Leave}
use Rattle.fsl_core.specs.logic.Joining.{produce_init}
use Rattle.fsl_core.specs.logic.Locations.{Setting, parts_at, consume_parts}
use Rattle.fsl_lin.specs.Combination.{Combination}

-- a location that may be written under an invariant gets a value
abbrev pub written_under : Setting → Rung → Combination → Combination → Leave → Action
written_under p rung at v l = do
  consume_parts rung (parts_at p l v)
  produce_init Plain at
