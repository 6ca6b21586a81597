use Rattle.std.proofs.Common.{Option, Some, sym, subst}
use Rattle.fsl_core.specs.declared.mode.Rung.TheVariants.{Plain}
use Rattle.fsl_core.specs.logic.Terms.{expr_of}
use Rattle.fsl_core.specs.logic.Chunks.{first, cell_at}
use Rattle.fsl_chunk.specs.Went.{branches}
use Rattle.fsl_asrt.specs.Cells.{IsFoundBy}
use Rattle.fsl_asrt.specs.declared.cells.FoundCell.{FoundCell}
use Rattle.fsl_asrt.proofs.Keeping.{ok_then}
use Rattle.fsl_asrt.proofs.Laws.{has_term}
use Rattle.fsl_access.proofs.AccessesLemmas.{free_found}
use Rattle.fsl_access.proofs.accesses.free.Goals as goal

pub returns-in-Some-2 : goal.returns-in-Some-2
returns-in-Some-2 c =
    let s = c.args.state in
    let at = expr_of c.args.at.now in
    let a = c.in-Some.a in
    let cell = c.in-Some-2.c in
    let found : IsFoundBy Plain s.chunks (first (cell_at Plain a s.facts) s.chunks) (Some cell) =
    subst (λ (o : Option FoundCell). IsFoundBy Plain s.chunks (first (cell_at Plain a s.facts) s.chunks) o) c.in-Some-2.is c.in_ok-c.ensures in
    ok_then c.freed.result branches _ _
    (sym (free_found at s a cell (has_term at s _ _ a c.env.ensures c.in_ok-a.ensures c.in-Some.is) found))
    c.freed.ensures
