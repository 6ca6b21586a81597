use Rattle.std.proofs.Common.{◌≡◌, [], ◌∷◌, sym, subst}
use Rattle.fsl_asrt.specs.declared.take.Search.{Search}
use Rattle.fsl_asrt.specs.Branch.{bounds}
use Rattle.fsl_asrt.specs.Pointed.{wanted_of}
use Rattle.fsl_asrt.specs.Take.{IsTheCell, IsSearched, taken_from}
use Rattle.fsl_asrt.proofs.Keeping.{ok_then}
use Rattle.fsl_asrt.proofs.TakeLemmas.{consumed, not_found}
use Rattle.fsl_core.specs.logic.States.{fails}
use Rattle.fsl_core.specs.logic.Consuming.{find_cell, consume_cell}
use Rattle.fsl_asrt.proofs.take.take_found.Goals as goal

pub returns-in-Found : goal.returns-in-Found
returns-in-Found c =
    let s = c.args.state in
    let p = c.args.p in
    let rung = c.args.rung in
    let cell = c.in-Found.cell in
    let t : IsTheCell rung p.at p.share s cell = subst (λ (r : Search). IsSearched rung p.at p.share s r) c.in-Found.is c.in_ok-cell.ensures in
    ok_then c.take.result bounds (taken_from rung cell p.share (wanted_of p.value) c.args.env s)
    (consume_cell rung p.at p.share (wanted_of p.value) c.args.env s)
    (consumed rung s t.found cell p.at p.share (wanted_of p.value) c.args.env t.same c.requires t.finds) c.take.ensures

pub returns-in-Lacks : goal.returns-in-Lacks
returns-in-Lacks c =
    let s = c.args.state in
    let p = c.args.p in
    let rung = c.args.rung in
    let kind = c.in-Lacks.kind in
    let m : find_cell rung p.at p.share s ≡ fails kind ∷ [] = subst (λ (r : Search). IsSearched rung p.at p.share s r) c.in-Lacks.is c.in_ok-cell.ensures in
    ok_then c.failing.result bounds (fails kind ∷ []) (consume_cell rung p.at p.share (wanted_of p.value) c.args.env s)
    (sym (not_found rung s p.at p.share (wanted_of p.value) c.args.env kind c.requires m)) c.failing.ensures
