-- What a move makes of the procedures that run.
use Rattle.std.specs.Prelude.{ℕ, ◌≡◌, ◌+◌, ◌<◌, ◌^◌, Bool, true, false, slice_get, List, Option, Some}
use Rattle.fsl_core.specs.declared.act.Stmt.{Stmt}
use Rattle.fsl_core.specs.declared.label.Label.TheVariants as label
use Rattle.fsl_core.specs.Programs.{Program}
use Rattle.fsl_core.specs.Moves.{Moved, returned, halted, failed, unlabelled, showing}
use Rattle.fsl_moves.specs.declared.config.Arm.{Arm}
use Rattle.fsl_moves.specs.declared.config.Arm.TheVariants as arm
use Rattle.fsl_moves.specs.declared.config.Children.{Children}
use Rattle.fsl_moves.specs.declared.config.Frame.{Frame}
use Rattle.fsl_moves.specs.declared.done.Done.{Done}
use Rattle.fsl_moves.specs.declared.done.Done.TheVariants as done
use Rattle.fsl_moves.specs.declared.done.Turn.{Turn}
use Rattle.fsl_moves.specs.declared.done.Turn.TheVariants as turn
use Rattle.fsl_moves.specs.Config.{body_of, innermost, left_from, frame_of, frames_of, running_or_joining}

abbrev pub body_in : Program → Frame → List Stmt
body_in p f = body_of (slice_get p.procs f.proc)

-- the procedure stands at a statement
pub record IsAt (p : Program) (f : Frame) (stmt : Stmt) : Type 0 where
  pub there : slice_get (innermost (body_in p f) f.path.items) f.at ≡ Some stmt
  pub room : f.at + 1 < 2 ^ 64

-- what is left behind the statement
abbrev pub behind : Program → Frame → List Stmt
behind p f = left_from (body_in p f) f.path.items (f.at + 1)

-- where the block around goes on: a loop is made again, an `if` is done
abbrev pub onward_at : Arm → ℕ → ℕ
onward_at arm.Body at = at
onward_at _ at = at + 1

-- a block or a procedure is entered
abbrev pub is_entry : Done → Bool
is_entry (done.Enters arm) = true
is_entry (done.Calls callee) = true
is_entry _ = false

-- the thread after a turn, with the label of the move
abbrev pub turned : Program → Frame → List Frame → Option Children → Turn → Moved
turned p f below children (turn.Goes label) = record { config = running_or_joining children (frame_of p f) (frames_of p below); label = label }
turned p f below children (turn.Returns v) = showing (label.End v) (returned v)
turned p f below children (turn.Halts label) = record { config = halted; label = label }
turned p f below children turn.Fails = unlabelled failed
