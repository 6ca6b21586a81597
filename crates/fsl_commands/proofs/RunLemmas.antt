-- What is known of an answer of `run` once it is composed.
use Rattle.std.proofs.Common.{◌≡◌, ℕ, List, Some, Result, Ok, Err, IfOk}
use Rattle.fsl_core.specs.Programs.{Program}
use Rattle.fsl_core.specs.logic.Verdicts.{verdict_of}
use Rattle.fsl_derived.specs.Laws.{AcceptedIsSafe}
use Rattle.fsl_graph.specs.declared.graph.Graph.{Graph}
use Rattle.fsl_graph.specs.declared.ending.End.{End}
use Rattle.fsl_run.specs.Running.{IsRunOf}
use Rattle.fsl_commands.specs.declared.answer.Answer.{Answer}
use Rattle.fsl_commands.specs.declared.command.Command.TheVariants.{Run}
use Rattle.fsl_commands.specs.declared.unread.Unread.{Unread}
use Rattle.fsl_commands.specs.Changes.{Reading}
use Rattle.fsl_commands.specs.Check.{verdict_status}
use Rattle.fsl_commands.specs.Loading.{CausedBy, IsProgramOf}
use Rattle.fsl_commands.specs.Run.{IsRan, IsRunAnswer, has_none, has_program, run_answer, runs}
use Rattle.fsl_commands.specs.Unread.{refusal}

pub run_is : {E : Type 0} (r : Reading) (steps : ℕ) (bytes : List ℕ) (p : Program) → IsProgramOf Run r bytes p
    → (result : Result Answer E) → IfOk result (IsRunAnswer bytes p steps) → IfOk result (IsRan r steps)
run_is r steps bytes p program (Ok a) is = has_program bytes p program is
run_is r steps bytes p program (Err e) is = tt

pub not_read_is : {E : Type 0} (r : Reading) (steps : ℕ) (none : Unread) → CausedBy Run r none
    → (result : Result Answer E) → IfOk result (λ a. refusal none ≡ Some a) → IfOk result (IsRan r steps)
not_read_is r steps none cause (Ok a) is = has_none none cause is
not_read_is r steps none cause (Err e) is = tt

pub runs_so : {E : Type 0} (bytes : List ℕ) (p : Program) (steps : ℕ) (g : Graph) (end : End) → verdict_status (verdict_of p) ≡ 0 → AcceptedIsSafe p → IsRunOf p steps g end
    → (result : Result Answer E) → IfOk result (λ a. a ≡ run_answer g end) → IfOk result (IsRunAnswer bytes p steps)
runs_so bytes p steps g end accepted safe is (Ok a) said = runs accepted safe g end is said
runs_so bytes p steps g end accepted safe is (Err e) said = tt
