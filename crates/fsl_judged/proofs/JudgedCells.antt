-- Programs over non-atomic cells: the verdict on each, by computing.
use Rattle.std.proofs.Common.{◌≡◌, refl}
use Rattle.fsl_lin.specs.Numbers.{most}
use Rattle.fsl_core.specs.declared.act.Act.TheBlock.{shown-the_row-Stmt-0}
use Rattle.fsl_core.specs.declared.act.Act.TheViews.{roll-Act, out-Act}
use Rattle.fsl_core.specs.declared.assertion.Asrt.TheBlock.{shown-the_row-Asrt-1}
use Rattle.fsl_core.specs.declared.assertion.Asrt.TheViews.{roll-Asrt, out-Asrt}
use Rattle.fsl_core.specs.declared.expr.Expr.TheBlock.{shown-the_row-Expr-2, shown-the_row-Part-1}
use Rattle.fsl_core.specs.declared.expr.Expr.TheViews.{roll-Expr, out-Expr}
use Rattle.fsl_core.specs.declared.verdict.Kind.TheVariants as kind
use Rattle.fsl_core.specs.declared.verdict.Verdict.TheVariants.{Accepted, Failed}
use Rattle.fsl_core.specs.logic.Verdicts.{verdict_by}
use Rattle.fsl_judged.specs.Words.{span}
use Rattle.fsl_judged.specs.ExampleCells.{unset_cell, half_a_share, freed_cell, no_share, first_cell, bounds, counted_loop}
use Rattle.fsl_judged.specs.JudgedCells.{CellsAreJudged}
use Rattle.fsl_judged.proofs.Quick.{quick_ends, verdict_quick}

unset_cell_whole : verdict_by (quick_ends unset_cell) unset_cell.procs ≡ Failed 0 (span 32 51) kind.Uninit
unfolding most out-Asrt denote.Hole.Carrier.out roll-Asrt denote.Hole.Carrier.roll out-Act roll-Act out-Expr roll-Expr denote.Hole.Carrier.shown denote.Hole.Carrier.hidden shown-the_row-Expr-2
unset_cell_whole = refl

half_a_share_whole : verdict_by (quick_ends half_a_share) half_a_share.procs ≡ Failed 0 (span 52 67) kind.Share
unfolding most out-Asrt denote.Hole.Carrier.out roll-Asrt denote.Hole.Carrier.roll out-Act roll-Act out-Expr roll-Expr denote.Hole.Carrier.shown denote.Hole.Carrier.hidden shown-the_row-Expr-2
half_a_share_whole = refl

freed_cell_whole : verdict_by (quick_ends freed_cell) freed_cell.procs ≡ Failed 0 (span 41 60) kind.Points
unfolding most out-Asrt denote.Hole.Carrier.out roll-Asrt denote.Hole.Carrier.roll out-Act roll-Act out-Expr roll-Expr denote.Hole.Carrier.shown denote.Hole.Carrier.hidden shown-the_row-Expr-2
freed_cell_whole = refl

no_share_whole : verdict_by (quick_ends no_share) no_share.procs ≡ Failed 0 (span 33 34) kind.Share
unfolding most out-Asrt denote.Hole.Carrier.out roll-Asrt denote.Hole.Carrier.roll out-Act roll-Act out-Expr roll-Expr denote.Hole.Carrier.shown denote.Hole.Carrier.hidden shown-the_row-Expr-2
no_share_whole = refl

first_cell_whole : verdict_by (quick_ends first_cell) first_cell.procs ≡ Accepted 2
unfolding most out-Asrt denote.Hole.Carrier.out roll-Asrt denote.Hole.Carrier.roll out-Act roll-Act out-Expr roll-Expr denote.Hole.Carrier.shown denote.Hole.Carrier.hidden shown-the_row-Asrt-1 shown-the_row-Expr-2
first_cell_whole = refl

bounds_whole : verdict_by (quick_ends bounds) bounds.procs ≡ Accepted 2
unfolding most out-Asrt denote.Hole.Carrier.out roll-Asrt denote.Hole.Carrier.roll out-Act roll-Act out-Expr roll-Expr denote.Hole.Carrier.shown denote.Hole.Carrier.hidden shown-the_row-Stmt-0 shown-the_row-Expr-2
bounds_whole = refl

counted_loop_whole : verdict_by (quick_ends counted_loop) counted_loop.procs ≡ Accepted 1
unfolding most out-Asrt denote.Hole.Carrier.out roll-Asrt denote.Hole.Carrier.roll out-Act roll-Act out-Expr roll-Expr denote.Hole.Carrier.shown denote.Hole.Carrier.hidden shown-the_row-Stmt-0 shown-the_row-Part-1 shown-the_row-Expr-2
counted_loop_whole = refl

pub cells_are_judged : CellsAreJudged
cells_are_judged = record {
  unset_cell_is = verdict_quick unset_cell (Failed 0 (span 32 51) kind.Uninit) unset_cell_whole;
  half_a_share_is = verdict_quick half_a_share (Failed 0 (span 52 67) kind.Share) half_a_share_whole;
  freed_cell_is = verdict_quick freed_cell (Failed 0 (span 41 60) kind.Points) freed_cell_whole;
  no_share_is = verdict_quick no_share (Failed 0 (span 33 34) kind.Share) no_share_whole;
  first_cell_is = verdict_quick first_cell (Accepted 2) first_cell_whole;
  bounds_is = verdict_quick bounds (Accepted 2) bounds_whole;
  counted_loop_is = verdict_quick counted_loop (Accepted 1) counted_loop_whole;
}
