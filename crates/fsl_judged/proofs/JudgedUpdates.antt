-- Programs with read-modify-writes and counting tokens: the verdict on each, by computing.
use Rattle.std.proofs.Common.{◌≡◌, refl, true}
use Rattle.fsl_lin.specs.Numbers.{most}
use Rattle.fsl_core.specs.declared.act.Act.TheBlock.{shown-the_row-Stmt-0}
use Rattle.fsl_core.specs.declared.act.Act.TheViews.{roll-Act, out-Act}
use Rattle.fsl_core.specs.declared.assertion.Asrt.TheBlock.{shown-the_row-Asrt-1}
use Rattle.fsl_core.specs.declared.assertion.Asrt.TheViews.{roll-Asrt, out-Asrt}
use Rattle.fsl_core.specs.declared.expr.Expr.TheBlock.{shown-the_row-Expr-2, shown-the_row-Part-1}
use Rattle.fsl_core.specs.declared.expr.Expr.TheViews.{roll-Expr, out-Expr}
use Rattle.fsl_core.specs.declared.verdict.Kind.TheVariants as kind
use Rattle.fsl_core.specs.declared.verdict.Verdict.TheVariants.{Accepted, Failed}
use Rattle.fsl_core.specs.Verdicts.{outcome_from}
use Rattle.fsl_core.specs.logic.Verdicts.{verdict_by}
use Rattle.fsl_judged.specs.Words.{span}
use Rattle.fsl_judged.specs.ExampleUpdates.{never_written, no_update_leave, no_tokens, burnt_twice, two_invariants, rest_of_message, try_lock, token_lock, relaxed_lock, counter}
use Rattle.fsl_judged.specs.JudgedUpdates.{UpdatesAreJudged}
use Rattle.fsl_judged.proofs.Quick.{quick_ends, verdict_quick, proc_at, is_derived, accepted_quick}

never_written_whole : verdict_by (quick_ends never_written) never_written.procs ≡ Failed 0 (span 26 79) kind.Init
unfolding most out-Asrt denote.Hole.Carrier.out roll-Asrt denote.Hole.Carrier.roll out-Act roll-Act out-Expr roll-Expr denote.Hole.Carrier.shown denote.Hole.Carrier.hidden shown-the_row-Expr-2
never_written_whole = refl

no_update_leave_whole : verdict_by (quick_ends no_update_leave) no_update_leave.procs ≡ Failed 0 (span 68 126) kind.Rmw
unfolding most out-Asrt denote.Hole.Carrier.out roll-Asrt denote.Hole.Carrier.roll out-Act roll-Act out-Expr roll-Expr denote.Hole.Carrier.shown denote.Hole.Carrier.hidden shown-the_row-Asrt-1 shown-the_row-Expr-2
no_update_leave_whole = refl

no_tokens_whole : verdict_by (quick_ends no_tokens) no_tokens.procs ≡ Failed 0 (span 37 38) kind.Token
unfolding most out-Asrt denote.Hole.Carrier.out roll-Asrt denote.Hole.Carrier.roll out-Act roll-Act out-Expr roll-Expr denote.Hole.Carrier.shown denote.Hole.Carrier.hidden shown-the_row-Expr-2
no_tokens_whole = refl

burnt_twice_whole : verdict_by (quick_ends burnt_twice) burnt_twice.procs ≡ Failed 0 (span 54 65) kind.Token
unfolding most out-Asrt denote.Hole.Carrier.out roll-Asrt denote.Hole.Carrier.roll out-Act roll-Act out-Expr roll-Expr denote.Hole.Carrier.shown denote.Hole.Carrier.hidden shown-the_row-Expr-2
burnt_twice_whole = refl

two_invariants_whole : verdict_by (quick_ends two_invariants) two_invariants.procs ≡ Accepted 2
unfolding most out-Asrt denote.Hole.Carrier.out roll-Asrt denote.Hole.Carrier.roll out-Act roll-Act out-Expr roll-Expr denote.Hole.Carrier.shown denote.Hole.Carrier.hidden shown-the_row-Asrt-1 shown-the_row-Expr-2
two_invariants_whole = refl

rest_of_message_whole : verdict_by (quick_ends rest_of_message) rest_of_message.procs ≡ Accepted 2
unfolding most out-Asrt denote.Hole.Carrier.out roll-Asrt denote.Hole.Carrier.roll out-Act roll-Act out-Expr roll-Expr denote.Hole.Carrier.shown denote.Hole.Carrier.hidden shown-the_row-Stmt-0 shown-the_row-Asrt-1 shown-the_row-Expr-2
rest_of_message_whole = refl

try_lock_whole : verdict_by (quick_ends try_lock) try_lock.procs ≡ Accepted 2
unfolding most out-Asrt denote.Hole.Carrier.out roll-Asrt denote.Hole.Carrier.roll out-Act roll-Act out-Expr roll-Expr denote.Hole.Carrier.shown denote.Hole.Carrier.hidden shown-the_row-Stmt-0 shown-the_row-Asrt-1 shown-the_row-Expr-2
try_lock_whole = refl

token_lock_whole : verdict_by (quick_ends token_lock) token_lock.procs ≡ Accepted 2
unfolding most out-Asrt denote.Hole.Carrier.out roll-Asrt denote.Hole.Carrier.roll out-Act roll-Act out-Expr roll-Expr denote.Hole.Carrier.shown denote.Hole.Carrier.hidden shown-the_row-Stmt-0 shown-the_row-Asrt-1 shown-the_row-Expr-2
token_lock_whole = refl

relaxed_lock_whole : verdict_by (quick_ends relaxed_lock) relaxed_lock.procs ≡ Failed 0 (span 173 322) kind.Points
unfolding most out-Asrt denote.Hole.Carrier.out roll-Asrt denote.Hole.Carrier.roll out-Act roll-Act out-Expr roll-Expr denote.Hole.Carrier.shown denote.Hole.Carrier.hidden shown-the_row-Stmt-0 shown-the_row-Asrt-1 shown-the_row-Part-1 shown-the_row-Expr-2
relaxed_lock_whole = refl

counter_0 : is_derived (outcome_from 0 0 (quick_ends counter (proc_at 0 counter.procs))) ≡ true
unfolding most out-Asrt denote.Hole.Carrier.out roll-Asrt denote.Hole.Carrier.roll out-Act roll-Act out-Expr roll-Expr denote.Hole.Carrier.shown denote.Hole.Carrier.hidden shown-the_row-Stmt-0 shown-the_row-Asrt-1 shown-the_row-Part-1 shown-the_row-Expr-2
counter_0 = refl

counter_1 : is_derived (outcome_from 1 0 (quick_ends counter (proc_at 1 counter.procs))) ≡ true
unfolding most out-Asrt denote.Hole.Carrier.out roll-Asrt denote.Hole.Carrier.roll out-Act roll-Act out-Expr roll-Expr denote.Hole.Carrier.shown denote.Hole.Carrier.hidden shown-the_row-Stmt-0 shown-the_row-Asrt-1 shown-the_row-Part-1 shown-the_row-Expr-2
counter_1 = refl

counter_2 : is_derived (outcome_from 2 0 (quick_ends counter (proc_at 2 counter.procs))) ≡ true
unfolding most out-Asrt denote.Hole.Carrier.out roll-Asrt denote.Hole.Carrier.roll out-Act roll-Act out-Expr roll-Expr denote.Hole.Carrier.shown denote.Hole.Carrier.hidden shown-the_row-Stmt-0 shown-the_row-Asrt-1 shown-the_row-Part-1 shown-the_row-Expr-2
counter_2 = refl

pub updates_are_judged : UpdatesAreJudged
updates_are_judged = record {
  never_written_is = verdict_quick never_written (Failed 0 (span 26 79) kind.Init) never_written_whole;
  no_update_leave_is = verdict_quick no_update_leave (Failed 0 (span 68 126) kind.Rmw) no_update_leave_whole;
  no_tokens_is = verdict_quick no_tokens (Failed 0 (span 37 38) kind.Token) no_tokens_whole;
  burnt_twice_is = verdict_quick burnt_twice (Failed 0 (span 54 65) kind.Token) burnt_twice_whole;
  two_invariants_is = verdict_quick two_invariants (Accepted 2) two_invariants_whole;
  rest_of_message_is = verdict_quick rest_of_message (Accepted 2) rest_of_message_whole;
  try_lock_is = verdict_quick try_lock (Accepted 2) try_lock_whole;
  token_lock_is = verdict_quick token_lock (Accepted 2) token_lock_whole;
  relaxed_lock_is = verdict_quick relaxed_lock (Failed 0 (span 173 322) kind.Points) relaxed_lock_whole;
  counter_is = accepted_quick counter (counter_0, (counter_1, (counter_2, tt)));
}
