use Rattle.std.proofs.Common.{List, Option, sym, ap, ◌∙◌}
use Rattle.fsl_core.specs.logic.Locations.{Piece, produce_part}
use Rattle.fsl_lin.specs.Combination.{Combination}
use Rattle.fsl_chunk.specs.Fits.{leave_of}
use Rattle.fsl_asrt.specs.Branch.{branches}
use Rattle.fsl_asrt.proofs.Keeping.{ok_then}
use Rattle.fsl_access.specs.Pieces.{piece_at}
use Rattle.fsl_access.proofs.PiecesLemmas.{part_found, part_lacks}
use Rattle.fsl_access.proofs.pieces.produce_part.Goals as goal

pub returns-in-Some : goal.returns-in-Some
returns-in-Some c =
    let v = c.args.v.now in
    let inv = c.in-Some.inv.now in
    ok_then c.produce_of.result branches _ _
    (ap (λ (args : List Combination). produce_part c.args.rung (piece_at inv args c.args.part v) c.args.state) c.as_slice.ensures
    ∙ ap (λ (o : Option Piece). produce_part c.args.rung o c.args.state)
    (sym (part_found c.args.p.now (leave_of c.args.l.now) c.args.part v inv c.in-Some.ensures.value)))
    c.produce_of.ensures

pub returns-in-None : goal.returns-in-None
returns-in-None c =
    ok_then c.going.result branches _ _
    (ap (λ (o : Option Piece). produce_part c.args.rung o c.args.state)
    (sym (part_lacks c.args.p.now (leave_of c.args.l.now) c.args.part c.args.v.now c.in-None.ensures.value)))
    c.going.ensures
