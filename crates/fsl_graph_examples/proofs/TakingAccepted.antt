-- The rules derive each obligation of the program of the box, procedure by procedure, by computing.
use Rattle.std.proofs.Common.{◌≡◌, refl, true}
use Rattle.fsl_lin.specs.Numbers.{most}
use Rattle.fsl_core.specs.declared.act.Act.TheBlock.{shown-the_row-Stmt-0}
use Rattle.fsl_core.specs.declared.act.Act.TheViews.{roll-Act, out-Act}
use Rattle.fsl_core.specs.declared.assertion.Asrt.TheBlock.{shown-the_row-Asrt-1}
use Rattle.fsl_core.specs.declared.assertion.Asrt.TheViews.{roll-Asrt, out-Asrt}
use Rattle.fsl_core.specs.declared.expr.Expr.TheBlock.{shown-the_row-Expr-2}
use Rattle.fsl_core.specs.declared.expr.Expr.TheViews.{roll-Expr, out-Expr}
use Rattle.fsl_core.specs.declared.verdict.Verdict.TheVariants.{Accepted}
use Rattle.fsl_core.specs.Verdicts.{outcome_from}
use Rattle.fsl_core.specs.logic.Verdicts.{verdict_of}
use Rattle.fsl_judged.proofs.Quick.{quick_ends, proc_at, is_derived, accepted_quick}
use Rattle.fsl_graph_examples.specs.Taking.{taking}

give_derived : is_derived (outcome_from 0 0 (quick_ends taking (proc_at 0 taking.procs))) ≡ true
unfolding most out-Asrt denote.Hole.Carrier.out roll-Asrt denote.Hole.Carrier.roll out-Act roll-Act out-Expr roll-Expr denote.Hole.Carrier.shown denote.Hole.Carrier.hidden shown-the_row-Stmt-0 shown-the_row-Asrt-1 shown-the_row-Expr-2
give_derived = refl

take_derived : is_derived (outcome_from 1 0 (quick_ends taking (proc_at 1 taking.procs))) ≡ true
unfolding most out-Asrt denote.Hole.Carrier.out roll-Asrt denote.Hole.Carrier.roll out-Act roll-Act out-Expr roll-Expr denote.Hole.Carrier.shown denote.Hole.Carrier.hidden shown-the_row-Stmt-0 shown-the_row-Asrt-1 shown-the_row-Expr-2
take_derived = refl

main_derived : is_derived (outcome_from 2 0 (quick_ends taking (proc_at 2 taking.procs))) ≡ true
unfolding most out-Asrt denote.Hole.Carrier.out roll-Asrt denote.Hole.Carrier.roll out-Act roll-Act out-Expr roll-Expr denote.Hole.Carrier.shown denote.Hole.Carrier.hidden shown-the_row-Stmt-0 shown-the_row-Asrt-1 shown-the_row-Expr-2
main_derived = refl

pub taking_accepted : verdict_of taking ≡ Accepted 3
taking_accepted = accepted_quick taking (give_derived, (take_derived, (main_derived, tt)))
