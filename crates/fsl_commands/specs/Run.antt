-- What `run` answers.
use Rattle.std.specs.Prelude.{◌≡◌, ℕ, List, Some}
use Rattle.fsl_core.specs.Programs.{Program}
use Rattle.fsl_core.specs.logic.Verdicts.{verdict_of}
use Rattle.fsl_exec_text.specs.Texts.{execution_text}
use Rattle.fsl_derived.specs.Laws.{AcceptedIsSafe}
use Rattle.fsl_graph.specs.declared.graph.Graph.{Graph}
use Rattle.fsl_graph.specs.declared.ending.End.{End}
use Rattle.fsl_graph.specs.declared.ending.End.TheVariants as ends
use Rattle.fsl_run.specs.Running.{IsRunOf}
use Rattle.fsl_commands.specs.declared.answer.Answer.{Answer}
use Rattle.fsl_commands.specs.declared.command.Command.TheVariants.{Run}
use Rattle.fsl_commands.specs.declared.unread.Unread.{Unread}
use Rattle.fsl_commands.specs.Answer.{answer}
use Rattle.fsl_commands.specs.Changes.{Reading}
use Rattle.fsl_commands.specs.Check.{verdict_answer, verdict_status}
use Rattle.fsl_commands.specs.Loading.{CausedBy, IsProgramOf}
use Rattle.fsl_commands.specs.Unread.{refusal}

-- 0 where every thread has returned, 7 where the moves are spent, 8 where a thread has halted, 9 at a limit
abbrev pub end_status : End → ℕ
end_status ends.Finished = 0
end_status ends.Spent = 7
end_status (ends.Halted t) = 8
end_status (ends.Limit kind) = 9

-- the answer on a run
abbrev pub run_answer : Graph → End → Answer
run_answer g end = answer (end_status end) (execution_text g end)

-- the answer of `run` on the program that these bytes are: the verdict of the rules where it fails, else one run
pub data IsRunAnswer (bytes : List ℕ) (p : Program) (steps : ℕ) (a : Answer) : Type 0 where
  fails : verdict_status (verdict_of p) ≡ 1 → a ≡ verdict_answer bytes p → IsRunAnswer bytes p steps a
  runs : verdict_status (verdict_of p) ≡ 0 → AcceptedIsSafe p → (g : Graph) (end : End) → IsRunOf p steps g end → a ≡ run_answer g end
      → IsRunAnswer bytes p steps a

-- an answer of `run`: that on the one program that the file is, or a refusal with its cause
pub data IsRan (r : Reading) (steps : ℕ) (a : Answer) : Type 0 where
  has_program : (bytes : List ℕ) (p : Program) → IsProgramOf Run r bytes p → IsRunAnswer bytes p steps a → IsRan r steps a
  has_none : (unread : Unread) → CausedBy Run r unread → refusal unread ≡ Some a → IsRan r steps a
