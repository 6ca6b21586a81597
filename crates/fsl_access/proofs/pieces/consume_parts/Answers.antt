use Rattle.std.proofs.Common.{◌≡◌, List, ◌∷◌, [], ◌++◌, sym, ap, ◌∙◌}
use Rattle.fsl_core.specs.declared.assertion.Asrt.{Asrt}
use Rattle.fsl_core.specs.logic.Locations.{Piece, padded, consume_parts}
use Rattle.fsl_lin.specs.Combination.{Combination}
use Rattle.fsl_chunk.specs.Fits.{leave_of}
use Rattle.fsl_asrt.specs.Branch.{branches}
use Rattle.fsl_asrt.proofs.Keeping.{ok_then}
use Rattle.fsl_access.specs.Pieces.{parts_in}
use Rattle.fsl_access.proofs.PiecesLemmas.{parts_found, parts_lack}
use Rattle.fsl_access.proofs.pieces.consume_parts.Goals as goal

pub returns-in_ok-env-in-Some : goal.returns-in_ok-env-in-Some
returns-in_ok-env-in-Some c =
    let l = leave_of c.args.l.now in
    let v = c.args.v.now in
    let inv = c.in-Some.inv.now in
    let env = c.in_ok-env-in-Some.env in
    let read : env ≡ padded inv.slots (l.args ++ v ∷ []) =
    c.in_ok-env-in-Some.ensures ∙ ap (λ (args : List Combination). padded inv.slots (args ++ v ∷ [])) c.as_slice.ensures in
    ok_then c.consume_each.result branches _ _
    (ap (λ (parts : List Asrt). consume_parts c.args.rung (parts_in env parts) c.args.state) c.as_slice-in-Some.ensures
    ∙ ap (λ (xs : List Piece). consume_parts c.args.rung xs c.args.state) (sym (parts_found c.args.p.now l v inv env c.in-Some.ensures.value read)))
    c.consume_each.ensures

pub returns-in-None : goal.returns-in-None
returns-in-None c =
    ok_then c.going.result branches _ _
    (ap (λ (xs : List Piece). consume_parts c.args.rung xs c.args.state) (sym (parts_lack c.args.p.now (leave_of c.args.l.now) c.args.v.now c.in-None.ensures.value)))
    c.going.ensures
