-- The move by which a thread returns shows its End, and no other move leads there.
use Rattle.std.proofs.Common.{◌≡◌, ℕ, Bool, true, false, if◌then◌else◌, ◌⊎◌, inl, inr, List, [], ◌∷◌, Option, Some, None, slice_get, ℤ, pos, ◌+ℤ◌, int_eq, refl}
use Rattle.fsl_core.specs.declared.act.Act.TheOpen.{Act-F}
use Rattle.fsl_core.specs.declared.act.Act.{Act}
use Rattle.fsl_core.specs.declared.act.Act.TheViews.{out-Act}
use Rattle.fsl_core.specs.declared.act.Stmt.{Stmt}
use Rattle.fsl_core.specs.declared.label.Label.{Label}
use Rattle.fsl_core.specs.declared.mode.Mode.{Mode}
use Rattle.fsl_core.specs.declared.need.Reply.{Reply}
use Rattle.fsl_core.specs.declared.need.Reply.TheVariants as reply
use Rattle.fsl_core.specs.declared.need.Started.{Started}
use Rattle.fsl_core.specs.declared.declaration.Proc.{Proc}
use Rattle.fsl_core.specs.Programs.{Program}
use Rattle.fsl_core.specs.Values.{in_range, value_of, holds_of}
use Rattle.fsl_core.specs.Moves.{Frame, Config, running, joining, returned, halted, failed, Moved, Move, showing, given, entered, read_reply, place_reply, threads_reply, results_reply, added, branching, after_assert, ending, returning, entering, calling, forking, with_stmts, act_move, frame_move, move_of, started_at, started_of, arguments_of}

-- a configuration, what a move leads to, and a move, where no thread has returned
abbrev pub Stays : Config → Type 0
Stays c = (v : ℤ) → c ≡ returned v → ⊥

abbrev pub Goes : Moved → Type 0
Goes m = Stays m.config

abbrev pub Never : Move → Type 0
Never m = (r : Reply) → Goes (m.answered r)

abbrev pub Kind : Move → Type 0
Kind m = Never m ⊎ ((v : ℤ) × (m ≡ ending v))

pub running_stays : (f : Frame) (fs : List Frame) → Stays (running f fs)
running_stays f fs v e = absurd (cc)

pub joining_stays : (a n : ℕ) (f : Frame) (fs : List Frame) → Stays (joining a n f fs)
joining_stays a n f fs v e = absurd (cc)

pub halted_stays : Stays halted
halted_stays v e = absurd (cc)

pub failed_stays : Stays failed
failed_stays v e = absurd (cc)

-- ---- replies

read_goes : (r : Reply) (f : ℤ → Moved) → ((v : ℤ) → Goes (f v)) → Goes (read_reply r f)
read_goes (reply.Read v) f h = h v
read_goes _ f h = failed_stays

place_goes : (r : Reply) (f : ℤ → Moved) → ((v : ℤ) → Goes (f v)) → Goes (place_reply r f)
place_goes (reply.Place v) f h = h v
place_goes _ f h = failed_stays

threads_goes : (r : Reply) (f : ℕ → Moved) → ((n : ℕ) → Goes (f n)) → Goes (threads_reply r f)
threads_goes (reply.Threads n) f h = h n
threads_goes _ f h = failed_stays

results_goes : (r : Reply) (f : List ℤ → Moved) → ((vs : List ℤ) → Goes (f vs)) → Goes (results_reply r f)
results_goes (reply.Results vs) f h = h vs
results_goes _ f h = failed_stays

choice_goes : (b : Bool) (k l : Label) (c : Config) → Stays c → Goes (if b then showing k c else showing l c)
choice_goes true k l c h = h
choice_goes false k l c h = h

added_goes : (m : Mode) (loc v : ℤ) (o : Option ℤ) (c : Config) → Stays c → Goes (added m loc v o c)
added_goes m loc v None c h = halted_stays
added_goes m loc v (Some s) c h = h

-- ---- moves

given_never : (o : Option ℤ) (f : ℤ → Move) → ((v : ℤ) → Never (f v)) → Never (given o f)
given_never None f h r = halted_stays
given_never (Some v) f h r = h v r

branching_never : (o : Option Bool) (after : Bool → Config) → ((b : Bool) → Stays (after b)) → Never (branching o after)
branching_never None after h r = halted_stays
branching_never (Some b) after h r = h b

assert_stays : (f : Frame) (fs : List Frame) (b : Bool) → Stays (after_assert (running f fs) b)
assert_stays f fs true = running_stays f fs
assert_stays f fs false = failed_stays

entering_never : (o : Option Frame) (fs : List Frame) → Never (entering o fs)
entering_never None fs r = halted_stays
entering_never (Some f) fs r = running_stays f fs

calling_never : (proc : Option Proc) (target : Option ℕ) (args : Option (List ℤ)) (fs : List Frame) → Never (calling proc target args fs)
calling_never proc target None fs r = halted_stays
calling_never proc target (Some args) fs r = entering_never (entered proc args target) fs r

forking_never : (calls : Option (List Started)) (after : ℕ → Config) → ((n : ℕ) → Stays (after n)) → Never (forking calls after)
forking_never None after h r = halted_stays
forking_never (Some calls) after h r = threads_goes r _ h

returning_kind : (target : Option ℕ) (fs : List Frame) (v : ℤ) → Kind (returning target fs v)
returning_kind target [] v = inr (v, refl)
returning_kind target (f ∷ fs) v = inl (λ r. running_stays _ _)

given_kind : (o : Option ℤ) (f : ℤ → Move) → ((v : ℤ) → Kind (f v)) → Kind (given o f)
given_kind None f h = inl (λ r. halted_stays)
given_kind (Some v) f h = h v

act_kind : (p : Program) (a : Act-F Act Stmt) (stmt : Stmt) (f : Frame) (fs : List Frame) → Kind (act_move p a stmt f fs)
act_kind p (Act-F.Set slot e) stmt f fs = inl (given_never (value_of e f.env) _ (λ v r. running_stays _ _))
act_kind p (Act-F.AllocNa slot) stmt f fs = inl (λ r. place_goes r _ (λ v. running_stays _ _))
act_kind p (Act-F.AllocAt slot rmw inst) stmt f fs = inl (λ r. place_goes r _ (λ v. running_stays _ _))
act_kind p (Act-F.Free at) stmt f fs = inl (given_never (value_of at f.env) _ (λ v r. running_stays _ _))
act_kind p (Act-F.Load slot m at) stmt f fs = inl (given_never (value_of at f.env) _ (λ v r. read_goes r _ (λ u. running_stays _ _)))
act_kind p (Act-F.Store m at e) stmt f fs = inl (given_never (value_of at f.env) _ (λ l. given_never (value_of e f.env) _ (λ v r. running_stays _ _)))
act_kind p (Act-F.Cas slot m fail at old new steps) stmt f fs =
    inl (given_never (value_of at f.env) _ (λ l. given_never (value_of old f.env) _ (λ o. given_never (value_of new f.env) _ (λ n r.
    read_goes r _ (λ v. choice_goes (int_eq v o) _ _ _ (running_stays _ _))))))
act_kind p (Act-F.Add slot m at e steps) stmt f fs =
    inl (given_never (value_of at f.env) _ (λ l. given_never (value_of e f.env) _ (λ n r.
    read_goes r _ (λ v. added_goes m l v (in_range (v +ℤ n)) _ (running_stays _ _)))))
act_kind p (Act-F.Swap slot m at e steps) stmt f fs =
    inl (given_never (value_of at f.env) _ (λ l. given_never (value_of e f.env) _ (λ n r. read_goes r _ (λ v. running_stays _ _))))
act_kind p (Act-F.Call slot proc args) stmt f fs =
    inl (calling_never (slice_get p.procs proc) slot (arguments_of (slice_get p.procs proc) args f.env) (f ∷ fs))
act_kind p (Act-F.Par calls) stmt f fs = inl (forking_never (started_of p calls f.env) _ (λ n. joining_stays _ _ _ _))
act_kind p (Act-F.Fence m asrt) stmt f fs = inl (λ r. running_stays _ _)
act_kind p (Act-F.If cond a b) stmt f fs = inl (branching_never (holds_of cond f.env) _ (λ h. running_stays _ _))
act_kind p (Act-F.While cond inv body) stmt f fs = inl (branching_never (holds_of cond f.env) _ (λ h. running_stays _ _))
act_kind p (Act-F.Assert cond) stmt f fs = inl (branching_never (holds_of cond f.env) _ (assert_stays f fs))
act_kind p (Act-F.Print e) stmt f fs = inl (given_never (value_of e f.env) _ (λ v r. running_stays _ _))
act_kind p (Act-F.Return e) stmt f fs = given_kind (value_of e f.env) _ (returning_kind f.target fs)
act_kind p (Act-F.Bank slot) stmt f fs = inl (λ r. running_stays _ _)
act_kind p (Act-F.Step step) stmt f fs = inl (λ r. running_stays _ _)

frame_kind : (p : Program) (stmts : List Stmt) (f : Frame) (fs : List Frame) → Kind (frame_move p stmts f fs)
frame_kind p [] f fs = returning_kind f.target fs (pos 0)
frame_kind p (stmt ∷ stmts) f fs = act_kind p (out-Act stmt.act) stmt (with_stmts stmts f) fs

-- a thread that hasn't returned doesn't return by this move, or ends by it
pub move_kind : (p : Program) (c : Config) → Stays c → Kind (move_of p c)
move_kind p (running f fs) h = frame_kind p f.stmts f fs
move_kind p (joining first count f fs) h = inl (λ r. results_goes r _ (λ vs. running_stays f fs))
move_kind p (returned v) h = absurd (h v refl)
move_kind p halted h = inl (λ r. halted_stays)
move_kind p failed h = inl (λ r. failed_stays)

pub start_stays : (o : Option Frame) → Stays (started_at o)
start_stays None = halted_stays
start_stays (Some f) = running_stays f []
