-- The numbers of threads that are started and waited for.
use Rattle.std.proofs.Common.{◌≡◌, ℕ, zero, suc, ◌+◌, ◌-◌, ◌<◌, ◌^◌, ◌++◌, ℤ, append_assoc, arith, sym, subst, ◌∙◌, List, [], ◌∷◌, length, slice_get, Option, Some, None, refl, ap}
use Rattle.fsl_core.specs.declared.act.Act.{Act}
use Rattle.fsl_core.specs.declared.act.Act.TheOpen.{Act-F}
use Rattle.fsl_core.specs.declared.act.Called.{Called}
use Rattle.fsl_core.specs.declared.act.Stmt.{Stmt}
use Rattle.fsl_core.specs.declared.need.Need.TheVariants as need
use Rattle.fsl_core.specs.declared.need.Reply.{Reply}
use Rattle.fsl_core.specs.declared.need.Reply.TheVariants as reply
use Rattle.fsl_core.specs.declared.need.Started.{Started}
use Rattle.fsl_core.specs.Programs.{Program}
use Rattle.fsl_core.specs.Moves.{Values, Frame, Config, running, joining, returned, halted, failed, Move, need_of, act_move, frame_move, forking, branching, calling, entering, started_of, arguments_of, entered}
use Rattle.fsl_core.specs.Values.{with_value}
use Rattle.fsl_core.specs.Moves as moves
use Rattle.fsl_moves.specs.Moves.{grows, HasNumbers, CanStart, CanNumber}

-- ---- the numbers of threads that are started

can_start : (o : Option (List Started)) (to : ℕ → Config) (r : Reply) → HasNumbers (forking o to).need r → CanStart o r
can_start None to r h = tt
can_start (Some calls) to (reply.Threads first) h = h
can_start (Some calls) to reply.Nothing h = tt
can_start (Some calls) to (reply.Read v) h = tt
can_start (Some calls) to (reply.Place l) h = tt
can_start (Some calls) to (reply.Results vs) h = tt

pub can_number : (p : Program) (act : Act-F Act Stmt) (stmt : Stmt) (f : Frame) (fs : List Frame) (r : Reply)
    → HasNumbers (act_move p act stmt f fs).need r → CanNumber p act f.env r
can_number p (Act-F.Par calls) stmt f fs r h = can_start (started_of p calls f.env) (λ first. joining first (length calls) f fs) r h
can_number p _ stmt f fs r h = tt

one_started : (n : ℕ) (args : Option Values) (more : Option (List Started)) (calls : List Called) (threads : List Started)
    → ((ts : List Started) → more ≡ Some ts → length ts ≡ length calls)
    → with_value args (λ vs. with_value more (λ rest. Some (record { proc = n; args = vs } ∷ rest))) ≡ Some threads
    → length threads ≡ suc (length calls)
one_started n None more calls threads each is = cc
one_started n (Some vs) None calls threads each is = cc
one_started n (Some vs) (Some rest) calls threads each is =
    let same : record { proc = n; args = vs } ∷ rest ≡ threads = cc in rw (← same) (ap suc (each rest refl))

pub started_length : (p : Program) (calls : List Called) (env : Values) (threads : List Started) → started_of p calls env ≡ Some threads
    → length threads ≡ length calls
started_length p [] env threads is = let same : [] ≡ threads = cc in rw (← same) refl
started_length p (c ∷ calls) env threads is =
    one_started c.proc (arguments_of (slice_get p.procs c.proc) c.args env) (started_of p calls env) calls threads
    (λ ts h. started_length p calls env ts h) is

-- ---- numbers

pub length_numbers : (first count : ℕ) → length (moves.numbers_from first count) ≡ count
length_numbers first zero = refl
length_numbers first (suc count) = ap suc (length_numbers (first + 1) count)

pub numbers_on : (out more : List ℕ) (thread end : ℕ) (whole : List ℕ) → thread < end → more ≡ out ++ thread ∷ []
    → out ++ moves.numbers_from thread (end - thread) ≡ whole → more ++ moves.numbers_from (thread + 1) (end - (thread + 1)) ≡ whole
numbers_on out more thread end whole lt grows so =
    let left : end - thread ≡ suc (end - (thread + 1)) = omega arith in
    ap (λ (ns : List ℕ). ns ++ moves.numbers_from (thread + 1) (end - (thread + 1))) grows
    ∙ append_assoc out (thread ∷ []) (moves.numbers_from (thread + 1) (end - (thread + 1)))
    ∙ ap (λ n. out ++ moves.numbers_from thread n) (sym left) ∙ so

-- each thread that is waited for has a result
pub results_fit : (first count : ℕ) (values xs : List ℤ) (r : Reply) → r ≡ reply.Results values → xs ≡ values
    → HasNumbers (need.Join (moves.numbers_from first count)) r → first + count < 2 ^ 32 → first + length xs < 2 ^ 32
results_fit first count values xs r is same h below =
    let long : length values ≡ length (moves.numbers_from first count) =
    subst (λ (q : Reply). HasNumbers (need.Join (moves.numbers_from first count)) q) is h in
    let all : length xs ≡ count = ap length same ∙ long ∙ length_numbers first count in
    subst (λ n. first + n < 2 ^ 32) (sym all) below
