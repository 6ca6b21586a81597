use Rattle.std.proofs.Common.{Option, Some, sym, subst}
use Rattle.fsl_chunk.specs.Went.{branches}
use Rattle.fsl_asrt.specs.declared.cells.FoundCell.{FoundCell}
use Rattle.fsl_asrt.specs.Cells.{IsFoundBy, joined_at}
use Rattle.fsl_asrt.proofs.JoinLemmas.{joined_first}
use Rattle.fsl_asrt.proofs.Keeping.{ok_then}
use Rattle.fsl_core.specs.logic.Chunks.{Cell, first, cell_at}
use Rattle.fsl_core.specs.logic.Joining.{add_cell}
use Rattle.fsl_asrt.proofs.join.add_cell.Goals as goal

pub returns-in-Some : goal.returns-in-Some
returns-in-Some c =
    let s = c.args.state in
    let x : Cell = record { at = c.args.at; share = c.args.share; value = c.args.value } in
    let found : IsFoundBy c.args.rung s.chunks (first (cell_at c.args.rung x.at s.facts) s.chunks) (Some c.in-Some.c) =
    subst (λ (o : Option FoundCell). IsFoundBy c.args.rung s.chunks (first (cell_at c.args.rung x.at s.facts) s.chunks) o) c.in-Some.is c.in_ok-c.ensures in
    ok_then c.join.result branches (joined_at c.args.rung c.in-Some.c x.share x.value s) (add_cell c.args.rung x s)
    (sym (joined_first c.args.rung s x c.in-Some.c found)) c.join.ensures
