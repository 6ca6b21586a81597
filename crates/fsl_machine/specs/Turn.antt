-- The moves of straight programs.
use Rattle.std.specs.Prelude.{Bool, true, false}
use Rattle.fsl_core.specs.declared.mode.AllocKind.TheVariants as kind
use Rattle.fsl_core.specs.declared.mode.Mode.TheVariants as mode
use Rattle.fsl_core.specs.declared.need.Need.{Need}
use Rattle.fsl_core.specs.declared.need.Need.TheVariants as need

-- what a move of a straight program asks
abbrev pub is_plain_need : Need → Bool
is_plain_need need.Local = true
is_plain_need (need.Load mode.Na l) = true
is_plain_need (need.Store mode.Na l v) = true
is_plain_need (need.Alloc kind.Na) = true
is_plain_need (need.Print v) = true
is_plain_need (need.End v) = true
is_plain_need _ = false
