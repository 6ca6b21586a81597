-- The passes of some claims, and what each of them knows.
use Rattle.std.specs.Prelude.{◌≡◌, ◌<◌, []}
use Rattle.fsl_claim.specs.declared.view.View.{View}
use Rattle.fsl_claim.specs.declared.claims.Claims.{Claims}
use Rattle.fsl_claim.specs.declared.claims.Pass.{Pass}
use Rattle.fsl_claim.specs.Steps.{unused}

abbrev pub view : Pass → View
view pass = pass.seat.me.0

-- a pass of these claims
pub record IsPassOf (claims : Claims) (pass : Pass) : Type 0 where
  pub table : pass.seat.table_id ≡ claims.table.shared.table_id
  pub holds_nothing : pass.seat.me.1 ≡ []
  pub units : (view pass).units ≡ claims.units
  pub one : (view pass).passes ≡ 1

-- one that has drawn, reported and seen nothing
pub record IsNew (claims : Claims) (pass : Pass) : Type 0 where
  pub of_claims : IsPassOf claims pass
  pub unused_yet : view pass ≡ unused claims.units claims.workers 1

-- a pass that stands for one or more passes of these claims
pub record StandsForSome (claims : Claims) (pass : Pass) : Type 0 where
  pub table : pass.seat.table_id ≡ claims.table.shared.table_id
  pub holds_nothing : pass.seat.me.1 ≡ []
  pub units : (view pass).units ≡ claims.units
  pub live : 0 < (view pass).passes
