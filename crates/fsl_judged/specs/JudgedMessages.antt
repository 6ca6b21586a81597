-- Programs with release stores and acquire loads, and what becomes of each.
use Rattle.std.specs.Prelude.{◌≡◌}
use Rattle.fsl_core.specs.declared.verdict.Kind.TheVariants as kind
use Rattle.fsl_core.specs.declared.verdict.Verdict.TheVariants.{Accepted, Failed}
use Rattle.fsl_core.specs.logic.Verdicts.{verdict_of}
use Rattle.fsl_judged.specs.Words.{span}
use Rattle.fsl_judged.specs.ExampleMessages.{not_written, no_leave, wrong_value, one_part_only, read_twice, equal_locations, hand_over, two_parts}

pub record MessagesAreJudged : Type 0 where
  pub not_written_is : verdict_of not_written ≡ Failed 0 (span 12 32) kind.Init
  pub no_leave_is : verdict_of no_leave ≡ Failed 0 (span 31 47) kind.Rel
  pub wrong_value_is : verdict_of wrong_value ≡ Failed 0 (span 64 80) kind.Cond
  pub one_part_only_is : verdict_of one_part_only ≡ Failed 0 (span 93 94) kind.Acq
  pub read_twice_is : verdict_of read_twice ≡ Failed 0 (span 249 264) kind.Points
  pub equal_locations_is : verdict_of equal_locations ≡ Accepted 2
  pub hand_over_is : verdict_of hand_over ≡ Accepted 3
  pub two_parts_is : verdict_of two_parts ≡ Accepted 4
