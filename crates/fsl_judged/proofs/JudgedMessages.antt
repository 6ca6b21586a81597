-- Programs with release stores and acquire loads: the verdict on each, by computing.
use Rattle.std.proofs.Common.{◌≡◌, refl, true}
use Rattle.fsl_lin.specs.Numbers.{most}
use Rattle.fsl_core.specs.declared.act.Act.TheBlock.{shown-the_row-Stmt-0}
use Rattle.fsl_core.specs.declared.act.Act.TheViews.{roll-Act, out-Act}
use Rattle.fsl_core.specs.declared.assertion.Asrt.TheBlock.{shown-the_row-Asrt-1}
use Rattle.fsl_core.specs.declared.assertion.Asrt.TheViews.{roll-Asrt, out-Asrt}
use Rattle.fsl_core.specs.declared.expr.Expr.TheBlock.{shown-the_row-Expr-2}
use Rattle.fsl_core.specs.declared.expr.Expr.TheViews.{roll-Expr, out-Expr}
use Rattle.fsl_core.specs.declared.verdict.Kind.TheVariants as kind
use Rattle.fsl_core.specs.declared.verdict.Verdict.TheVariants.{Accepted, Failed}
use Rattle.fsl_core.specs.Verdicts.{outcome_from}
use Rattle.fsl_core.specs.logic.Verdicts.{verdict_by}
use Rattle.fsl_judged.specs.Words.{span}
use Rattle.fsl_judged.specs.ExampleMessages.{not_written, no_leave, wrong_value, one_part_only, read_twice, equal_locations, hand_over, two_parts}
use Rattle.fsl_judged.specs.JudgedMessages.{MessagesAreJudged}
use Rattle.fsl_judged.proofs.Quick.{quick_ends, verdict_quick, proc_at, is_derived, accepted_quick}

not_written_whole : verdict_by (quick_ends not_written) not_written.procs ≡ Failed 0 (span 12 32) kind.Init
unfolding most out-Asrt denote.Hole.Carrier.out roll-Asrt denote.Hole.Carrier.roll out-Act roll-Act out-Expr roll-Expr denote.Hole.Carrier.shown denote.Hole.Carrier.hidden shown-the_row-Expr-2
not_written_whole = refl

no_leave_whole : verdict_by (quick_ends no_leave) no_leave.procs ≡ Failed 0 (span 31 47) kind.Rel
unfolding most out-Asrt denote.Hole.Carrier.out roll-Asrt denote.Hole.Carrier.roll out-Act roll-Act out-Expr roll-Expr denote.Hole.Carrier.shown denote.Hole.Carrier.hidden shown-the_row-Expr-2
no_leave_whole = refl

wrong_value_whole : verdict_by (quick_ends wrong_value) wrong_value.procs ≡ Failed 0 (span 64 80) kind.Cond
unfolding most out-Asrt denote.Hole.Carrier.out roll-Asrt denote.Hole.Carrier.roll out-Act roll-Act out-Expr roll-Expr denote.Hole.Carrier.shown denote.Hole.Carrier.hidden shown-the_row-Expr-2
wrong_value_whole = refl

one_part_only_whole : verdict_by (quick_ends one_part_only) one_part_only.procs ≡ Failed 0 (span 93 94) kind.Acq
unfolding most out-Asrt denote.Hole.Carrier.out roll-Asrt denote.Hole.Carrier.roll out-Act roll-Act out-Expr roll-Expr denote.Hole.Carrier.shown denote.Hole.Carrier.hidden shown-the_row-Expr-2
one_part_only_whole = refl

read_twice_whole : verdict_by (quick_ends read_twice) read_twice.procs ≡ Failed 0 (span 249 264) kind.Points
unfolding most out-Asrt denote.Hole.Carrier.out roll-Asrt denote.Hole.Carrier.roll out-Act roll-Act out-Expr roll-Expr denote.Hole.Carrier.shown denote.Hole.Carrier.hidden shown-the_row-Stmt-0 shown-the_row-Asrt-1 shown-the_row-Expr-2
read_twice_whole = refl

equal_locations_whole : verdict_by (quick_ends equal_locations) equal_locations.procs ≡ Accepted 2
unfolding most out-Asrt denote.Hole.Carrier.out roll-Asrt denote.Hole.Carrier.roll out-Act roll-Act out-Expr roll-Expr denote.Hole.Carrier.shown denote.Hole.Carrier.hidden shown-the_row-Asrt-1 shown-the_row-Expr-2
equal_locations_whole = refl

hand_over_whole : verdict_by (quick_ends hand_over) hand_over.procs ≡ Accepted 3
unfolding most out-Asrt denote.Hole.Carrier.out roll-Asrt denote.Hole.Carrier.roll out-Act roll-Act out-Expr roll-Expr denote.Hole.Carrier.shown denote.Hole.Carrier.hidden shown-the_row-Stmt-0 shown-the_row-Asrt-1 shown-the_row-Expr-2
hand_over_whole = refl

two_parts_0 : is_derived (outcome_from 0 0 (quick_ends two_parts (proc_at 0 two_parts.procs))) ≡ true
unfolding most out-Asrt denote.Hole.Carrier.out roll-Asrt denote.Hole.Carrier.roll out-Act roll-Act out-Expr roll-Expr denote.Hole.Carrier.shown denote.Hole.Carrier.hidden shown-the_row-Stmt-0 shown-the_row-Asrt-1 shown-the_row-Expr-2
two_parts_0 = refl

two_parts_1 : is_derived (outcome_from 1 0 (quick_ends two_parts (proc_at 1 two_parts.procs))) ≡ true
unfolding most out-Asrt denote.Hole.Carrier.out roll-Asrt denote.Hole.Carrier.roll out-Act roll-Act out-Expr roll-Expr denote.Hole.Carrier.shown denote.Hole.Carrier.hidden shown-the_row-Stmt-0 shown-the_row-Asrt-1 shown-the_row-Expr-2
two_parts_1 = refl

two_parts_2 : is_derived (outcome_from 2 0 (quick_ends two_parts (proc_at 2 two_parts.procs))) ≡ true
unfolding most out-Asrt denote.Hole.Carrier.out roll-Asrt denote.Hole.Carrier.roll out-Act roll-Act out-Expr roll-Expr denote.Hole.Carrier.shown denote.Hole.Carrier.hidden shown-the_row-Stmt-0 shown-the_row-Asrt-1 shown-the_row-Expr-2
two_parts_2 = refl

two_parts_3 : is_derived (outcome_from 3 0 (quick_ends two_parts (proc_at 3 two_parts.procs))) ≡ true
unfolding most out-Asrt denote.Hole.Carrier.out roll-Asrt denote.Hole.Carrier.roll out-Act roll-Act out-Expr roll-Expr denote.Hole.Carrier.shown denote.Hole.Carrier.hidden shown-the_row-Stmt-0 shown-the_row-Asrt-1 shown-the_row-Expr-2
two_parts_3 = refl

pub messages_are_judged : MessagesAreJudged
messages_are_judged = record {
  not_written_is = verdict_quick not_written (Failed 0 (span 12 32) kind.Init) not_written_whole;
  no_leave_is = verdict_quick no_leave (Failed 0 (span 31 47) kind.Rel) no_leave_whole;
  wrong_value_is = verdict_quick wrong_value (Failed 0 (span 64 80) kind.Cond) wrong_value_whole;
  one_part_only_is = verdict_quick one_part_only (Failed 0 (span 93 94) kind.Acq) one_part_only_whole;
  read_twice_is = verdict_quick read_twice (Failed 0 (span 249 264) kind.Points) read_twice_whole;
  equal_locations_is = verdict_quick equal_locations (Accepted 2) equal_locations_whole;
  hand_over_is = verdict_quick hand_over (Accepted 3) hand_over_whole;
  two_parts_is = accepted_quick two_parts (two_parts_0, (two_parts_1, (two_parts_2, (two_parts_3, tt))));
}
