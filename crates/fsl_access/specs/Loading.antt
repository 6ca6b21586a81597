-- Parts of the rule of atomic loads.
use Rattle.std.specs.Prelude.{ℕ}
use Rattle.fsl_core.specs.declared.mode.Rung.{Rung}
use Rattle.fsl_core.specs.logic.States.{Action, ◌>>=◌, ◌>>◌, look, set}
use Rattle.fsl_core.specs.logic.Locations.{Setting}
use Rattle.fsl_core.specs.logic.Accesses.{permissions, permission_in, gain_by, gain_each}
use Rattle.fsl_lin.specs.Combination.{Combination}

-- what stands at a place gives what it gives at a value
abbrev pub gained_at : Setting → Rung → Combination → Combination → ℕ → Action
gained_at p rung at v place = do
  x ← look (permission_in at place)
  gain_by p rung v place x

-- a value was read
abbrev pub loaded : Setting → ℕ → Rung → Combination → Combination → Action
loaded p slot rung at v = do
  places ← look (λ s. permissions s.facts at 0 s.chunks)
  gain_each p rung at v places
  set slot v
