-- Procedures that run, and those that wait.
use Rattle.std.proofs.Common.{◌≡◌, ℕ, ◌-◌, ℤ, pos, List, [], ◌++◌, length, replicate, slice_get, Option, Some, refl, sym, ◌∙◌}
use Rattle.fsl_core.specs.declared.act.Act.TheViews.{out-Act}
use Rattle.fsl_core.specs.declared.act.Stmt.{Stmt}
use Rattle.fsl_core.specs.declared.declaration.Proc.{Proc}
use Rattle.fsl_core.specs.declared.need.Reply.{Reply}
use Rattle.fsl_core.specs.Programs.{Program}
use Rattle.fsl_core.specs.Moves as moves
use Rattle.fsl_core.specs.Moves.{Moved, moved, move_of, running, returned, showing, unlabelled, returning, act_move}
use Rattle.fsl_moves.specs.declared.config.Frame.{Frame}
use Rattle.fsl_moves.specs.declared.done.Done.{Done}
use Rattle.fsl_moves.specs.Config.{body_of, frame_of, left_from}
use Rattle.fsl_moves.specs.Done.{Ends, after}
use Rattle.fsl_moves.specs.Turn.{IsAt, body_in, behind}
use Rattle.fsl_moves.proofs.ReachLemmas.{starts, next_left}

-- a procedure that starts with these arguments
pub entered_is : (p : Program) (n : ℕ) (args : List ℤ) (target : Option ℕ) (proc : Proc) (f : Frame) → slice_get p.procs n ≡ Some proc
    → f.proc ≡ n → f.path.items ≡ [] → f.at ≡ 0 → f.env ≡ args ++ replicate (proc.slots - length args) (pos 0) → f.target ≡ target
    → Some (frame_of p f) ≡ moves.entered (slice_get p.procs n) args target
entered_is p n args target proc f is at path place env goes =
    let body : left_from (body_of (slice_get p.procs f.proc)) f.path.items f.at ≡ proc.body =
    rw (at, path, place, is) (starts proc.body) in
    rw (is, body, env, goes) refl

-- the move of a procedure that stands at a statement
pub goes : (p : Program) (f : Frame) (stmt : Stmt) (fs : List moves.Frame) (reply : Reply) (env : List ℤ) (done : Done) (d : Moved) → IsAt p f stmt
    → Ends p (out-Act stmt.act) f.env reply env done
    → d ≡ after p (out-Act stmt.act) stmt (behind p f) f.target fs env done
    → moved p (running (frame_of p f) fs) reply ≡ d
goes p f stmt fs reply env done d is ends to =
    let left = next_left (body_in p f) f.path.items f.at stmt is.there in
    rw left (ends stmt (behind p f) f.target fs ∙ sym to)
