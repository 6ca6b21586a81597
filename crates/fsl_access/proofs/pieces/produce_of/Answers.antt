use Rattle.fsl_asrt.specs.Branch.{branches, bounds}
use Rattle.fsl_asrt.proofs.Keeping.{ok_then}
use Rattle.fsl_access.proofs.PiecesLemmas.{piece_produced, nothing_produced}
use Rattle.fsl_access.proofs.pieces.produce_of.Goals as goal

pub returns-in_ok-bound-in-Some : goal.returns-in_ok-bound-in-Some
returns-in_ok-bound-in-Some c =
    ok_then c.without_env.result branches _ _
    (piece_produced c.args.rung c.args.inv.now c.args.args.now c.args.part c.args.v.now c.args.state c.in-Some.asrt.now c.in_ok-env-in-Some.env
    (bounds c.in_ok-bound-in-Some.bound) c.in-Some.ensures.value c.in_ok-env-in-Some.ensures c.in_ok-bound-in-Some.ensures)
    c.without_env.ensures

pub returns-in-None : goal.returns-in-None
returns-in-None c =
    ok_then c.going.result branches _ _
    (nothing_produced c.args.rung c.args.inv.now c.args.args.now c.args.part c.args.v.now c.args.state c.in-None.ensures.value) c.going.ensures
