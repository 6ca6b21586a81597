-- Programs with read-modify-writes and counting tokens, and what becomes of each.
use Rattle.std.specs.Prelude.{◌≡◌}
use Rattle.fsl_core.specs.declared.verdict.Kind.TheVariants as kind
use Rattle.fsl_core.specs.declared.verdict.Verdict.TheVariants.{Accepted, Failed}
use Rattle.fsl_core.specs.logic.Verdicts.{verdict_of}
use Rattle.fsl_judged.specs.Words.{span}
use Rattle.fsl_judged.specs.ExampleUpdates.{never_written, no_update_leave, no_tokens, burnt_twice, two_invariants, rest_of_message, try_lock, token_lock, relaxed_lock, counter}

pub record UpdatesAreJudged : Type 0 where
  pub never_written_is : verdict_of never_written ≡ Failed 0 (span 26 79) kind.Init
  pub no_update_leave_is : verdict_of no_update_leave ≡ Failed 0 (span 68 126) kind.Rmw
  pub no_tokens_is : verdict_of no_tokens ≡ Failed 0 (span 37 38) kind.Token
  pub burnt_twice_is : verdict_of burnt_twice ≡ Failed 0 (span 54 65) kind.Token
  pub two_invariants_is : verdict_of two_invariants ≡ Accepted 2
  pub rest_of_message_is : verdict_of rest_of_message ≡ Accepted 2
  pub try_lock_is : verdict_of try_lock ≡ Accepted 2
  pub token_lock_is : verdict_of token_lock ≡ Accepted 2
  pub relaxed_lock_is : verdict_of relaxed_lock ≡ Failed 0 (span 173 322) kind.Points
  pub counter_is : verdict_of counter ≡ Accepted 3
