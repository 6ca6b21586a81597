-- Programs with relaxed accesses and fences: the verdict on each, by computing.
use Rattle.std.proofs.Common.{◌≡◌, refl}
use Rattle.fsl_lin.specs.Numbers.{most}
use Rattle.fsl_core.specs.declared.act.Act.TheBlock.{shown-the_row-Stmt-0}
use Rattle.fsl_core.specs.declared.act.Act.TheViews.{roll-Act, out-Act}
use Rattle.fsl_core.specs.declared.assertion.Asrt.TheBlock.{shown-the_row-Asrt-1}
use Rattle.fsl_core.specs.declared.assertion.Asrt.TheViews.{roll-Asrt, out-Asrt}
use Rattle.fsl_core.specs.declared.expr.Expr.TheBlock.{shown-the_row-Expr-2}
use Rattle.fsl_core.specs.declared.expr.Expr.TheViews.{roll-Expr, out-Expr}
use Rattle.fsl_core.specs.declared.verdict.Kind.TheVariants as kind
use Rattle.fsl_core.specs.declared.verdict.Verdict.TheVariants.{Accepted, Failed}
use Rattle.fsl_core.specs.logic.Verdicts.{verdict_by}
use Rattle.fsl_judged.specs.Words.{span}
use Rattle.fsl_judged.specs.ExampleFences.{relaxed_store, no_acquire_fence, binder_anew, by_fences}
use Rattle.fsl_judged.specs.JudgedFences.{FencesAreJudged}
use Rattle.fsl_judged.proofs.Quick.{quick_ends, verdict_quick}

relaxed_store_whole : verdict_by (quick_ends relaxed_store) relaxed_store.procs ≡ Failed 0 (span 135 151) kind.Points
unfolding most out-Asrt denote.Hole.Carrier.out roll-Asrt denote.Hole.Carrier.roll out-Act roll-Act out-Expr roll-Expr denote.Hole.Carrier.shown denote.Hole.Carrier.hidden shown-the_row-Stmt-0 shown-the_row-Asrt-1 shown-the_row-Expr-2
relaxed_store_whole = refl

no_acquire_fence_whole : verdict_by (quick_ends no_acquire_fence) no_acquire_fence.procs ≡ Failed 1 (span 389 408) kind.Points
unfolding most out-Asrt denote.Hole.Carrier.out roll-Asrt denote.Hole.Carrier.roll out-Act roll-Act out-Expr roll-Expr denote.Hole.Carrier.shown denote.Hole.Carrier.hidden shown-the_row-Stmt-0 shown-the_row-Asrt-1 shown-the_row-Expr-2
no_acquire_fence_whole = refl

binder_anew_whole : verdict_by (quick_ends binder_anew) binder_anew.procs ≡ Failed 0 (span 99 115) kind.Value
unfolding most out-Asrt denote.Hole.Carrier.out roll-Asrt denote.Hole.Carrier.roll out-Act roll-Act out-Expr roll-Expr denote.Hole.Carrier.shown denote.Hole.Carrier.hidden shown-the_row-Asrt-1 shown-the_row-Expr-2
binder_anew_whole = refl

by_fences_whole : verdict_by (quick_ends by_fences) by_fences.procs ≡ Accepted 3
unfolding most out-Asrt denote.Hole.Carrier.out roll-Asrt denote.Hole.Carrier.roll out-Act roll-Act out-Expr roll-Expr denote.Hole.Carrier.shown denote.Hole.Carrier.hidden shown-the_row-Stmt-0 shown-the_row-Asrt-1 shown-the_row-Expr-2
by_fences_whole = refl

pub fences_are_judged : FencesAreJudged
fences_are_judged = record {
  relaxed_store_is = verdict_quick relaxed_store (Failed 0 (span 135 151) kind.Points) relaxed_store_whole;
  no_acquire_fence_is = verdict_quick no_acquire_fence (Failed 1 (span 389 408) kind.Points) no_acquire_fence_whole;
  binder_anew_is = verdict_quick binder_anew (Failed 0 (span 99 115) kind.Value) binder_anew_whole;
  by_fences_is = verdict_quick by_fences (Accepted 3) by_fences_whole;
}
