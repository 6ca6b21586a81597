-- A points-to whose expressions are read first.
use Rattle.std.specs.Prelude.{[], ◌∷◌, Option, Some, None}
use Rattle.fsl_asrt.specs.declared.pointed.PointsTo.{PointsTo}
use Rattle.fsl_asrt.specs.declared.pointed.Value.{Value}
use Rattle.fsl_asrt.specs.declared.pointed.Value.TheVariants as value
use Rattle.fsl_core.specs.declared.verdict.Kind.TheVariants.{Term}
use Rattle.fsl_core.specs.declared.mode.Rung.{Rung}
use Rattle.fsl_core.specs.logic.States.{Env, Rule, goes, fails, ◌>>=◌, ◌>>◌, give}
use Rattle.fsl_core.specs.logic.Chunks.{Cell}
use Rattle.fsl_core.specs.logic.Terms.{Expression, term}
use Rattle.fsl_core.specs.logic.Joining.{assume_share, add_cell}
use Rattle.fsl_core.specs.logic.Producing.{Wanted, any, bind, equals, Pattern, wanted, add_wanted}
use Rattle.fsl_lin.specs.Combination.{Combination}

abbrev pub wanted_of : Value → Wanted Combination
wanted_of value.Any = any
wanted_of (value.Bind slot) = bind slot
wanted_of (value.Is t) = equals t

abbrev pub wanted_read : Option Value → Rule (Wanted Combination)
wanted_read None s = fails Term ∷ []
wanted_read (Some v) s = goes (wanted_of v) s ∷ []

-- what is done with the terms of a points-to
abbrev pub After : Type 0
After = Combination → Combination → Wanted Combination → Rule Env

-- address, share and pattern are read in this order
abbrev pub with_terms : Expression → Expression → Pattern → Env → After → Rule Env
with_terms at share pat env after = do
  a ← term at env
  k ← term share env
  w ← wanted pat env
  after a k w

abbrev pub pointed : Option PointsTo → After → Rule Env
pointed None after s = fails Term ∷ []
pointed (Some p) after s = after p.at p.share (wanted_of p.value) s

-- a share is assumed to be one and added
abbrev pub produced : Rung → PointsTo → Env → Rule Env
produced rung p env = do
  assume_share p.share
  add_wanted rung p.at p.share (wanted_of p.value) env

abbrev pub added : Rung → Cell → Env → Rule Env
added rung c env = do
  add_cell rung c
  give env
