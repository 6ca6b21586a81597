-- Moves of a thread over whole numbers: what the next one asks, what each answer makes of the thread, and the
-- label that the move shows. A move without a label is local. An expression or condition without a value
-- halts the thread.
use Rattle.std.specs.Prelude.{ℕ, zero, suc, slice_get, ◌+◌, ◌-◌, Bool, true, false, List, [], ◌∷◌, ◌++◌, length, Option, Some, None, ℤ, pos, ◌+ℤ◌, ◌==◌, replicate, slice_set, if◌then◌else◌}
use Rattle.std.specs.List.{list_any}
use Rattle.std.specs.Ordering.{int_eq}
use Rattle.fsl_core.specs.declared.act.Act.{Act}
use Rattle.fsl_core.specs.declared.act.Act.TheOpen.{Act-F}
use Rattle.fsl_core.specs.declared.act.Act.TheViews.{out-Act}
use Rattle.fsl_core.specs.declared.act.Called.{Called}
use Rattle.fsl_core.specs.declared.act.Stmt.{Stmt}
use Rattle.fsl_core.specs.declared.expr.Expr.{Expr}
use Rattle.fsl_core.specs.declared.label.Ended.{Ended}
use Rattle.fsl_core.specs.declared.label.Label.{Label}
use Rattle.fsl_core.specs.declared.mode.AllocKind.{AllocKind}
use Rattle.fsl_core.specs.declared.mode.AllocKind.TheVariants as kind
use Rattle.fsl_core.specs.declared.mode.Mode.{Mode}
use Rattle.fsl_core.specs.declared.mode.Mode.TheVariants as mode
use Rattle.fsl_core.specs.declared.need.Need.{Need}
use Rattle.fsl_core.specs.declared.need.Need.TheVariants as need
use Rattle.fsl_core.specs.declared.need.Reply.{Reply}
use Rattle.fsl_core.specs.declared.need.Reply.TheVariants as reply
use Rattle.fsl_core.specs.declared.need.RmwOp.TheVariants as op
use Rattle.fsl_core.specs.declared.need.Standing.{Standing}
use Rattle.fsl_core.specs.declared.need.Standing.TheVariants as standing
use Rattle.fsl_core.specs.declared.need.Started.{Started}
use Rattle.fsl_core.specs.declared.declaration.Proc.{Proc}
use Rattle.fsl_core.specs.Programs.{Program}
use Rattle.fsl_core.specs.Values.{in_range, value_of, holds_of, with_value}

-- the values of the variables
abbrev pub Values : Type 0
Values = List ℤ

-- a procedure that runs: the statements that are left, its variables, and the variable of its caller that
-- gets the result
pub record Frame : Type 0 where
  pub stmts : List Stmt
  pub env : Values
  pub target : Option ℕ

-- a thread: the procedure that runs and those that wait for it, the innermost first; it may wait for threads
-- that it has started, or have ended
pub data Config : Type 0 where
  running : Frame → List Frame → Config
  joining : (first count : ℕ) → Frame → List Frame → Config
  returned : ℤ → Config
  halted : Config
  failed : Config

-- what a move leads to, with its label unless it is local
pub record Moved : Type 0 where
  pub config : Config
  pub label : Option Label

-- what the next move asks, and what each answer makes of it
pub record Move : Type 0 where
  pub need : Need
  pub answered : Reply → Moved

abbrev pub unlabelled : Config → Moved
unlabelled c = record { config = c; label = None }

abbrev pub showing : Label → Config → Moved
showing l c = record { config = c; label = Some l }

abbrev pub local : Config → Move
local c = record { need = need.Local; answered = λ r. unlabelled c }

abbrev pub halting : Move
halting = local halted

-- the rest of a move with the value of an expression
abbrev pub given : Option ℤ → (ℤ → Move) → Move
given None f = halting
given (Some v) f = f v

-- the frame with a variable set
abbrev pub set_var : ℕ → ℤ → Frame → Frame
set_var slot v f = record f { env = slice_set f.env slot v }

abbrev pub set_target : Option ℕ → ℤ → Frame → Frame
set_target None v f = f
set_target (Some slot) v f = set_var slot v f

-- the value of an argument; that of a bank is 0
abbrev pub argument : Bool → Expr → Values → Option ℤ
argument true e env = Some (pos 0)
argument false e env = value_of e env

-- the values of arguments, the first of which is for the parameter `slot`, of a procedure with these banks;
-- `None` where one has none
abbrev pub arguments_from : List ℕ → ℕ → List Expr → Values → Option Values
arguments_from banks slot [] env = Some []
arguments_from banks slot (e ∷ es) env =
    with_value (argument (list_any (λ bank. bank == slot) banks) e env) (λ v.
    with_value (arguments_from banks (slot + 1) es env) (λ vs. Some (v ∷ vs)))

-- the arguments of a call of a procedure, which is there
abbrev pub arguments_of : Option Proc → List Expr → Values → Option Values
arguments_of None args env = None
arguments_of (Some proc) args env = arguments_from proc.banks 0 args env

-- a procedure with its arguments; its other variables are 0
abbrev pub entered : Option Proc → Values → Option ℕ → Option Frame
entered None args target = None
entered (Some proc) args target =
    Some (record { stmts = proc.body; env = args ++ replicate (proc.slots - length args) (pos 0); target = target })

-- what a read makes of the reply, by the value read; other replies are never given
abbrev pub read_reply : Reply → (ℤ → Moved) → Moved
read_reply (reply.Read v) f = f v
read_reply _ f = unlabelled failed

abbrev pub place_reply : Reply → (ℤ → Moved) → Moved
place_reply (reply.Place loc) f = f loc
place_reply _ f = unlabelled failed

abbrev pub threads_reply : Reply → (ℕ → Moved) → Moved
threads_reply (reply.Threads first) f = f first
threads_reply _ f = unlabelled failed

abbrev pub results_reply : Reply → (List ℤ → Moved) → Moved
results_reply (reply.Results values) f = f values
results_reply _ f = unlabelled failed

-- the read of a read-modify-write that doesn't write: it acquires where the whole would have
abbrev pub reading_mode : Mode → Mode
reading_mode mode.Acq = mode.Acq
reading_mode mode.AcqRel = mode.Acq
reading_mode _ = mode.Rlx

-- n numbers from one on
abbrev pub numbers_from : ℕ → ℕ → List ℕ
numbers_from first zero = []
numbers_from first (suc n) = first ∷ numbers_from (first + 1) n

abbrev pub joined_from : ℕ → List ℤ → List Ended
joined_from first [] = []
joined_from first (v ∷ vs) = record { thread = first; value = v } ∷ joined_from (first + 1) vs

-- the threads that calls start
abbrev pub started_of : Program → List Called → Values → Option (List Started)
started_of p [] env = Some []
started_of p (c ∷ cs) env =
    with_value (arguments_of (slice_get p.procs c.proc) c.args env) (λ args.
    with_value (started_of p cs env) (λ rest. Some (record { proc = c.proc; args = args } ∷ rest)))

-- a compare-exchange has read v
abbrev pub exchanged : Mode → Mode → ℤ → ℤ → ℤ → ℤ → Config → Moved
exchanged m fail loc old new v c =
    if int_eq v old then showing (Label.Rmw m loc v new) c else showing (Label.Load fail loc v) c

-- a sum is written, or leaves the range and halts the thread
abbrev pub added : Mode → ℤ → ℤ → Option ℤ → Config → Moved
added m loc v None c = showing (Label.Load (reading_mode m) loc v) halted
added m loc v (Some sum) c = showing (Label.Rmw m loc v sum) c

abbrev pub kind_at : Bool → AllocKind
kind_at true = kind.Rmw
kind_at false = kind.Acq

abbrev pub allocating : AllocKind → (ℤ → Config) → Move
allocating k after = record {
  need = need.Alloc k;
  answered = λ r. place_reply r (λ loc. showing (Label.Alloc k loc) (after loc));
}

-- an `if` or a `while` goes on with statements in front
abbrev pub branching : Option Bool → (Bool → Config) → Move
branching None after = halting
branching (Some b) after = local (after b)

abbrev pub after_assert : Config → Bool → Config
after_assert c true = c
after_assert c false = failed

abbrev pub ending : ℤ → Move
ending v = record { need = need.End v; answered = λ r. showing (Label.End v) (returned v) }

-- the result of a procedure goes to the one that called it; that of the last one ends the thread
abbrev pub returning : Option ℕ → List Frame → ℤ → Move
returning target [] v = ending v
returning target (below ∷ frames) v = local (running (set_target target v below) frames)

abbrev pub entering : Option Frame → List Frame → Move
entering None frames = halting
entering (Some f) frames = local (running f frames)

-- a call of a procedure with arguments, above the frames that wait
abbrev pub calling : Option Proc → Option ℕ → Option Values → List Frame → Move
calling proc target None frames = halting
calling proc target (Some args) frames = entering (entered proc args target) frames

abbrev pub forking : Option (List Started) → (ℕ → Config) → Move
forking None after = halting
forking (Some calls) after = record {
  need = need.Fork calls;
  answered = λ r. threads_reply r (λ first. showing (Label.Fork (numbers_from first (length calls))) (after first));
}

abbrev pub with_stmts : List Stmt → Frame → Frame
with_stmts stmts f = record f { stmts = stmts }

-- the move of a statement: its act, the statement itself, and the frame without it
abbrev pub act_move : Program → Act-F Act Stmt → Stmt → Frame → List Frame → Move
act_move p (Act-F.Set slot e) stmt f fs = given (value_of e f.env) (λ v. local (running (set_var slot v f) fs))
act_move p (Act-F.AllocNa slot) stmt f fs = allocating kind.Na (λ loc. running (set_var slot loc f) fs)
act_move p (Act-F.AllocAt slot rmw inst) stmt f fs = allocating (kind_at rmw) (λ loc. running (set_var slot loc f) fs)
act_move p (Act-F.Free at) stmt f fs = given (value_of at f.env) (λ loc. record {
  need = need.Free loc;
  answered = λ r. showing (Label.Free loc) (running f fs);
})
act_move p (Act-F.Load slot m at) stmt f fs = given (value_of at f.env) (λ loc. record {
  need = need.Load m loc;
  answered = λ r. read_reply r (λ v. showing (Label.Load m loc v) (running (set_var slot v f) fs));
})
act_move p (Act-F.Store m at e) stmt f fs = given (value_of at f.env) (λ loc. given (value_of e f.env) (λ v. record {
  need = need.Store m loc v;
  answered = λ r. showing (Label.Store m loc v) (running f fs);
}))
act_move p (Act-F.Cas slot m fail at old new steps) stmt f fs =
    given (value_of at f.env) (λ loc. given (value_of old f.env) (λ o. given (value_of new f.env) (λ n. record {
      need = need.Rmw m fail loc (op.Cas o n);
      answered = λ r. read_reply r (λ v. exchanged m fail loc o n v (running (set_var slot v f) fs));
    })))
act_move p (Act-F.Add slot m at e steps) stmt f fs = given (value_of at f.env) (λ loc. given (value_of e f.env) (λ n. record {
  need = need.Rmw m (reading_mode m) loc (op.Add n);
  answered = λ r. read_reply r (λ v. added m loc v (in_range (v +ℤ n)) (running (set_var slot v f) fs));
}))
act_move p (Act-F.Swap slot m at e steps) stmt f fs = given (value_of at f.env) (λ loc. given (value_of e f.env) (λ n. record {
  need = need.Rmw m (reading_mode m) loc (op.Swap n);
  answered = λ r. read_reply r (λ v. showing (Label.Rmw m loc v n) (running (set_var slot v f) fs));
}))
act_move p (Act-F.Call slot proc args) stmt f fs =
    calling (slice_get p.procs proc) slot (arguments_of (slice_get p.procs proc) args f.env) (f ∷ fs)
act_move p (Act-F.Par calls) stmt f fs =
    forking (started_of p calls f.env) (λ first. joining first (length calls) f fs)
act_move p (Act-F.Fence m asrt) stmt f fs = record {
  need = need.Fence m;
  answered = λ r. showing (Label.Fence m) (running f fs);
}
act_move p (Act-F.If cond a b) stmt f fs =
    branching (holds_of cond f.env) (λ h. running (with_stmts ((if h then a else b) ++ f.stmts) f) fs)
act_move p (Act-F.While cond inv body) stmt f fs =
    branching (holds_of cond f.env) (λ h. running (with_stmts (if h then body ++ stmt ∷ f.stmts else f.stmts) f) fs)
act_move p (Act-F.Assert cond) stmt f fs = branching (holds_of cond f.env) (after_assert (running f fs))
act_move p (Act-F.Print e) stmt f fs = given (value_of e f.env) (λ v. record {
  need = need.Print v;
  answered = λ r. showing (Label.Print v) (running f fs);
})
act_move p (Act-F.Return e) stmt f fs = given (value_of e f.env) (returning f.target fs)
act_move p (Act-F.Bank slot) stmt f fs = local (running (set_var slot (pos 0) f) fs)
act_move p (Act-F.Step step) stmt f fs = local (running f fs)

-- a procedure at its end returns 0
abbrev pub frame_move : Program → List Stmt → Frame → List Frame → Move
frame_move p [] f fs = returning f.target fs (pos 0)
frame_move p (stmt ∷ stmts) f fs = act_move p (out-Act stmt.act) stmt (with_stmts stmts f) fs

abbrev pub ended : Need → Config → Move
ended n c = record { need = n; answered = λ r. unlabelled c }

-- the next move of a thread; one that has ended stays as it is
abbrev pub move_of : Program → Config → Move
move_of p (running f fs) = frame_move p f.stmts f fs
move_of p (joining first count f fs) = record {
  need = need.Join (numbers_from first count);
  answered = λ r. results_reply r (λ vs. showing (Label.Join (joined_from first vs)) (running f fs));
}
move_of p (returned v) = ended (need.Returned v) (returned v)
move_of p halted = ended need.Halted halted
move_of p failed = ended need.Failed failed

-- what the next move asks
abbrev pub need_of : Program → Config → Need
need_of p c = (move_of p c).need

-- the move with a reply
abbrev pub moved : Program → Config → Reply → Moved
moved p c r = (move_of p c).answered r

-- where a thread starts
abbrev pub started_at : Option Frame → Config
started_at None = halted
started_at (Some f) = running f []

abbrev pub start_of : Program → ℕ → Values → Config
start_of p proc args = started_at (entered (slice_get p.procs proc) args None)

-- how a thread stands
abbrev pub standing_of : Config → Standing
standing_of (running f fs) = standing.Going
standing_of (joining first count f fs) = standing.Joining first count
standing_of (returned v) = standing.Returned v
standing_of halted = standing.Halted
standing_of failed = standing.Failed
