-- Memory orders (C11 7.17.3): which are atomic, which acquire, and which release.
use Rattle.std.specs.Prelude.{Bool, true, false}
use Rattle.fsl_core.specs.declared.mode.Mode.{Mode}
use Rattle.fsl_core.specs.declared.mode.Mode.TheVariants as mode

abbrev pub is_atomic : Mode → Bool
is_atomic mode.Na = false
is_atomic mode.Rlx = true
is_atomic mode.Acq = true
is_atomic mode.Rel = true
is_atomic mode.AcqRel = true

abbrev pub acquires : Mode → Bool
acquires mode.Na = false
acquires mode.Rlx = false
acquires mode.Acq = true
acquires mode.Rel = false
acquires mode.AcqRel = true

abbrev pub releases : Mode → Bool
releases mode.Na = false
releases mode.Rlx = false
releases mode.Acq = false
releases mode.Rel = true
releases mode.AcqRel = true
