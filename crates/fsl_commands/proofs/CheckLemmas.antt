-- What is known of an answer of `check` once it is composed.
use Rattle.std.proofs.Common.{◌≡◌, List, ℕ, Some, Result, Ok, Err, IfOk}
use Rattle.fsl_core.specs.Programs.{Program}
use Rattle.fsl_commands.specs.declared.answer.Answer.{Answer}
use Rattle.fsl_commands.specs.declared.command.Command.TheVariants.{Check}
use Rattle.fsl_commands.specs.declared.unread.Unread.{Unread}
use Rattle.fsl_commands.specs.Changes.{Reading}
use Rattle.fsl_commands.specs.Check.{IsChecked, IsVerdictOn, judged, refused}
use Rattle.fsl_commands.specs.Loading.{CausedBy, IsProgramOf}
use Rattle.fsl_commands.specs.Unread.{refusal}

pub judged_is : {E : Type 0} (r : Reading) (bytes : List ℕ) (p : Program) → IsProgramOf Check r bytes p
    → (result : Result Answer E) → IfOk result (IsVerdictOn bytes p) → IfOk result (λ a. IsChecked r a)
judged_is r bytes p program (Ok a) is = judged bytes p program is
judged_is r bytes p program (Err e) is = tt

pub refused_is : {E : Type 0} (r : Reading) (none : Unread) → CausedBy Check r none
    → (result : Result Answer E) → IfOk result (λ a. refusal none ≡ Some a) → IfOk result (λ a. IsChecked r a)
refused_is r none cause (Ok a) is = refused none cause is
refused_is r none cause (Err e) is = tt
