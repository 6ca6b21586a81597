use Rattle.std.proofs.Common.{Option, Some, sym, subst}
use Rattle.fsl_core.specs.declared.mode.Rung.TheVariants.{Plain}
use Rattle.fsl_core.specs.logic.Terms.{expr_of}
use Rattle.fsl_core.specs.logic.Chunks.{first, cell_at}
use Rattle.fsl_chunk.specs.Went.{branches}
use Rattle.fsl_asrt.specs.Cells.{IsFoundBy}
use Rattle.fsl_asrt.specs.declared.cells.FoundCell.{FoundCell}
use Rattle.fsl_asrt.proofs.Keeping.{ok_then}
use Rattle.fsl_asrt.proofs.Laws.{has_term}
use Rattle.fsl_access.proofs.AccessesLemmas.{store_found}
use Rattle.fsl_access.proofs.accesses.store_na.Goals as goal

pub returns-in-Some-3 : goal.returns-in-Some-3
returns-in-Some-3 c =
    let s = c.args.state in
    let at = expr_of c.args.at.now in
    let e = expr_of c.args.e.now in
    let a = c.in-Some.a in
    let v = c.in-Some-2.v in
    let cell = c.in-Some-3.c in
    let found : IsFoundBy Plain s.chunks (first (cell_at Plain a s.facts) s.chunks) (Some cell) =
    subst (λ (o : Option FoundCell). IsFoundBy Plain s.chunks (first (cell_at Plain a s.facts) s.chunks) o) c.in-Some-3.is c.in_ok-c.ensures in
    ok_then c.written.result branches _ _
    (sym (store_found at e s a v cell (has_term at s _ _ a c.env.ensures c.in_ok-a.ensures c.in-Some.is) (has_term e s _ _ v c.env-2.ensures c.in_ok-v.ensures c.in-Some-2.is) found))
    c.written.ensures
