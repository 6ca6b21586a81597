use Rattle.std.proofs.Common.{◌≡◌, Option, Some, IfSome, slice_get}
use Rattle.std.specs.Option.{option_map}
use Rattle.fsl_asrt.specs.declared.cells.FoundCell.{FoundCell}
use Rattle.fsl_asrt.specs.Cells.{IsFoundBy, cell_of, cell_in}
use Rattle.fsl_asrt.proofs.CellsLemmas.{found_cell, cell_at_reads}
use Rattle.fsl_asrt.proofs.Keeping.{ok_both}
use Rattle.fsl_core.specs.logic.Chunks.{first, cell_at}
use Rattle.fsl_asrt.proofs.cells.cell_at.Goals as goal

pub returns-in-Some : goal.returns-in-Some
returns-in-Some c =
    let s = c.args.state.now in
    let n = c.in-Some.number in
    let chunk = c.at.result.now in
    let reads = cell_at c.args.rung c.args.at.now s.facts in
    let there : slice_get s.chunks n ≡ Some chunk = rw c.heap.ensures at c.at.ensures in
    ok_both c.cell.result
    (λ (r : Option FoundCell). option_map cell_of r ≡ cell_in chunk)
    (λ (r : Option FoundCell). IfSome r (λ x. x.number ≡ n))
    (λ (r : Option FoundCell). IsFoundBy c.args.rung s.chunks (first reads s.chunks) r)
    (λ r p q. found_cell c.args.rung reads s.chunks n chunk r (cell_at_reads c.args.rung c.args.at.now s.facts) c.in-Some.ensures.first there p q)
    c.cell.ensures.cell c.cell.ensures.number
