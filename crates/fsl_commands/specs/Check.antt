-- What `check` answers.
use Rattle.std.specs.Prelude.{◌≡◌, ℕ, List, Some}
use Rattle.fsl_core.specs.Programs.{Program}
use Rattle.fsl_core.specs.declared.verdict.Verdict.{Verdict}
use Rattle.fsl_core.specs.declared.verdict.Verdict.TheVariants.{Accepted, Failed}
use Rattle.fsl_core.specs.logic.Verdicts.{verdict_of}
use Rattle.fsl_derived.specs.Laws.{AcceptedIsSafe}
use Rattle.fsl_report.specs.Verdicts.{verdict_text}
use Rattle.fsl_commands.specs.declared.answer.Answer.{Answer}
use Rattle.fsl_commands.specs.declared.command.Command.TheVariants.{Check}
use Rattle.fsl_commands.specs.declared.unread.Unread.{Unread}
use Rattle.fsl_commands.specs.Answer.{answer}
use Rattle.fsl_commands.specs.Changes.{Reading}
use Rattle.fsl_commands.specs.Loading.{CausedBy, IsProgramOf}
use Rattle.fsl_commands.specs.Unread.{refusal}

-- 0 or 1
abbrev pub verdict_status : Verdict → ℕ
verdict_status (Accepted procs) = 0
verdict_status (Failed proc at kind) = 1

-- the answer on the program that these bytes are
abbrev pub verdict_answer : List ℕ → Program → Answer
verdict_answer bytes p = answer (verdict_status (verdict_of p)) (verdict_text bytes p (verdict_of p))

-- the answer is the verdict of the rules, and what the rules accept is safe
pub record IsVerdictOn (bytes : List ℕ) (p : Program) (a : Answer) : Type 0 where
  pub is : a ≡ verdict_answer bytes p
  pub safe : AcceptedIsSafe p

-- an answer of `check`: the verdict of the rules on the one program that the file is, or a refusal with its cause
pub data IsChecked (r : Reading) (a : Answer) : Type 0 where
  judged : (bytes : List ℕ) (p : Program) → IsProgramOf Check r bytes p → IsVerdictOn bytes p a → IsChecked r a
  refused : (unread : Unread) → CausedBy Check r unread → refusal unread ≡ Some a → IsChecked r a
