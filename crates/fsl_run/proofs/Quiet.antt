-- A local move shows nothing.
use Rattle.std.proofs.Common.{◌≡◌, ℕ, Bool, List, [], ◌∷◌, Option, Some, None, slice_get, ℤ, pos, refl}
use Rattle.fsl_core.specs.declared.act.Act.TheOpen.{Act-F}
use Rattle.fsl_core.specs.declared.act.Act.{Act}
use Rattle.fsl_core.specs.declared.act.Act.TheViews.{out-Act}
use Rattle.fsl_core.specs.declared.act.Stmt.{Stmt}
use Rattle.fsl_core.specs.declared.need.Need.TheVariants as need
use Rattle.fsl_core.specs.declared.need.Reply.{Reply}
use Rattle.fsl_core.specs.declared.need.Started.{Started}
use Rattle.fsl_core.specs.declared.declaration.Proc.{Proc}
use Rattle.fsl_core.specs.Programs.{Program}
use Rattle.fsl_core.specs.Values.{value_of, holds_of}
use Rattle.fsl_core.specs.Moves.{Frame, Config, running, joining, returned, halted, failed, Move, given, entered, branching, returning, entering, calling, forking, with_stmts, act_move, frame_move, move_of, started_of, arguments_of}

abbrev pub IsQuiet : Move → Type 0
IsQuiet m = m.need ≡ need.Local → (r : Reply) → (m.answered r).label ≡ None

given_quiet : (o : Option ℤ) (f : ℤ → Move) → ((v : ℤ) → IsQuiet (f v)) → IsQuiet (given o f)
given_quiet None f h e r = refl
given_quiet (Some v) f h e r = h v e r

branching_quiet : (o : Option Bool) (after : Bool → Config) → IsQuiet (branching o after)
branching_quiet None after e r = refl
branching_quiet (Some b) after e r = refl

returning_quiet : (target : Option ℕ) (fs : List Frame) (v : ℤ) → IsQuiet (returning target fs v)
returning_quiet target [] v e r = absurd cc
returning_quiet target (f ∷ fs) v e r = refl

entering_quiet : (o : Option Frame) (fs : List Frame) → IsQuiet (entering o fs)
entering_quiet None fs e r = refl
entering_quiet (Some f) fs e r = refl

calling_quiet : (proc : Option Proc) (target : Option ℕ) (args : Option (List ℤ)) (fs : List Frame) → IsQuiet (calling proc target args fs)
calling_quiet proc target None fs e r = refl
calling_quiet proc target (Some args) fs e r = entering_quiet (entered proc args target) fs e r

forking_quiet : (calls : Option (List Started)) (after : ℕ → Config) → IsQuiet (forking calls after)
forking_quiet None after e r = refl
forking_quiet (Some calls) after e r = absurd cc

act_quiet : (p : Program) (a : Act-F Act Stmt) (stmt : Stmt) (f : Frame) (fs : List Frame) → IsQuiet (act_move p a stmt f fs)
act_quiet p (Act-F.Set slot e) stmt f fs = given_quiet (value_of e f.env) _ (λ v e r. refl)
act_quiet p (Act-F.AllocNa slot) stmt f fs = λ e r. absurd cc
act_quiet p (Act-F.AllocAt slot rmw inst) stmt f fs = λ e r. absurd cc
act_quiet p (Act-F.Free at) stmt f fs = given_quiet (value_of at f.env) _ (λ v e r. absurd cc)
act_quiet p (Act-F.Load slot m at) stmt f fs = given_quiet (value_of at f.env) _ (λ v e r. absurd cc)
act_quiet p (Act-F.Store m at v) stmt f fs = given_quiet (value_of at f.env) _ (λ l. given_quiet (value_of v f.env) _ (λ u e r. absurd cc))
act_quiet p (Act-F.Cas slot m fail at old new steps) stmt f fs =
    given_quiet (value_of at f.env) _ (λ l. given_quiet (value_of old f.env) _ (λ o. given_quiet (value_of new f.env) _ (λ n e r. absurd cc)))
act_quiet p (Act-F.Add slot m at v steps) stmt f fs = given_quiet (value_of at f.env) _ (λ l. given_quiet (value_of v f.env) _ (λ n e r. absurd cc))
act_quiet p (Act-F.Swap slot m at v steps) stmt f fs = given_quiet (value_of at f.env) _ (λ l. given_quiet (value_of v f.env) _ (λ n e r. absurd cc))
act_quiet p (Act-F.Call slot proc args) stmt f fs =
    calling_quiet (slice_get p.procs proc) slot (arguments_of (slice_get p.procs proc) args f.env) (f ∷ fs)
act_quiet p (Act-F.Par calls) stmt f fs = forking_quiet (started_of p calls f.env) _
act_quiet p (Act-F.Fence m asrt) stmt f fs = λ e r. absurd cc
act_quiet p (Act-F.If cond a b) stmt f fs = branching_quiet (holds_of cond f.env) _
act_quiet p (Act-F.While cond inv body) stmt f fs = branching_quiet (holds_of cond f.env) _
act_quiet p (Act-F.Assert cond) stmt f fs = branching_quiet (holds_of cond f.env) _
act_quiet p (Act-F.Print v) stmt f fs = given_quiet (value_of v f.env) _ (λ u e r. absurd cc)
act_quiet p (Act-F.Return v) stmt f fs = given_quiet (value_of v f.env) _ (returning_quiet f.target fs)
act_quiet p (Act-F.Bank slot) stmt f fs = λ e r. refl
act_quiet p (Act-F.Step step) stmt f fs = λ e r. refl

frame_quiet : (p : Program) (stmts : List Stmt) (f : Frame) (fs : List Frame) → IsQuiet (frame_move p stmts f fs)
frame_quiet p [] f fs = returning_quiet f.target fs (pos 0)
frame_quiet p (stmt ∷ stmts) f fs = act_quiet p (out-Act stmt.act) stmt (with_stmts stmts f) fs

pub is_quiet : (p : Program) (c : Config) → IsQuiet (move_of p c)
is_quiet p (running f fs) = frame_quiet p f.stmts f fs
is_quiet p (joining first count f fs) = λ e r. absurd cc
is_quiet p (returned v) = λ e r. refl
is_quiet p halted = λ e r. refl
is_quiet p failed = λ e r. refl
