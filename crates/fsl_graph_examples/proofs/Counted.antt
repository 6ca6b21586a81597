-- The counter's execution: move by move, and by tests of its graph.
use Rattle.std.proofs.Common.{◌≡◌, ℕ, zero, suc, Bool, true, false, ◌&&◌, nat_lt, inl, inr, List, [], ◌∷◌, drop, Option, Some, None, is_some, ℤ, ◌<ℤ◌, ◌+ℤ◌, pos, ◌⊎◌, refl, sym, ap, subst, ◌∙◌, arith, int_eq}
use Rattle.std.proofs.lemmas.Bool.{and_parts, ltb-true}
use Rattle.std.proofs.lemmas.Int.{ints}
use Rattle.std.proofs.lemmas.Bool.Decides.{Decides-int_eq}
use Rattle.fsl_core.specs.declared.act.Act.TheBlock.{shown-the_row-Stmt-0}
use Rattle.fsl_core.specs.declared.act.Act.TheViews.{roll-Act, out-Act}
use Rattle.fsl_core.specs.declared.act.Called.{Called}
use Rattle.fsl_core.specs.declared.label.Ended.{Ended}
use Rattle.fsl_core.specs.declared.label.Label.{Label}
use Rattle.fsl_core.specs.declared.label.Label.TheVariants as label
use Rattle.fsl_core.specs.declared.mode.AllocKind.{AllocKind}
use Rattle.fsl_core.specs.declared.mode.AllocKind.TheVariants as kind
use Rattle.fsl_core.specs.declared.mode.Mode.TheVariants as mode
use Rattle.fsl_core.specs.declared.need.Need.{Need}
use Rattle.fsl_core.specs.declared.need.Need.TheVariants as need
use Rattle.fsl_core.specs.declared.need.Reply.TheVariants as reply
use Rattle.fsl_core.specs.declared.need.RmwOp.TheVariants as op
use Rattle.fsl_core.specs.declared.need.Started.{Started}
use Rattle.fsl_core.specs.Values.{value_of, in_range, with_value}
use Rattle.fsl_core.specs.Moves.{Config, running, joining, returned, showing, moved, need_of, start_of, Move, move_of, started_of, added, read_reply, forking}
use Rattle.fsl_graph.specs.declared.event.Event.{Event}
use Rattle.fsl_graph.specs.declared.graph.Thread.{Thread}
use Rattle.fsl_graph.specs.Events.{Is, read_by, Touch}
use Rattle.fsl_graph.specs.Graphs.{does, reads, load, store}
use Rattle.fsl_graph.specs.Execution.{Runs, Answers, IsThread, Allocates, events_of}
use Rattle.fsl_graph.specs.Execution.Runs.{stands, shows}
use Rattle.fsl_graph.specs.Safe.{access_by, Access, Accesses, IsAccess, IsAllocated, IsSafe}
use Rattle.fsl_graph.proofs.Every.{every, every_at}
use Rattle.fsl_graph.proofs.Possible.{possible}
use Rattle.fsl_graph.proofs.Threads.{one_event}
use Rattle.fsl_judged.specs.Words.{num, var, thread as calls}
use Rattle.fsl_graph_examples.specs.Counted.{CountedIsExecution}
use Rattle.fsl_graph_examples.specs.Executions.{counting, counting_from_0, runs, counted, all_returned}
use Rattle.fsl_graph_examples.proofs.Moving.{value_var, value_num, given_one, given_two, shows_by, asks_by}
use Rattle.fsl_graph_examples.proofs.Testing.{is_alloc, none, none_is, only_is}
use Rattle.fsl_graph_examples.proofs.Pairs.{no_zero, starts_two, forks_two, joins_two}
use Rattle.fsl_graph_examples.proofs.Runs.{run_of}

-- ---- the first thread

-- so many of its statements are done; the variable is the location
main_at : ℕ → Config
main_at n = running (record { stmts = drop n counting_from_0; env = pos 1 ∷ []; target = None }) []

alloc_shows : moved counting (start_of counting 2 []) (reply.Place (pos 1)) ≡ showing (label.Alloc kind.Rmw (pos 1)) (main_at 1)
unfolding out-Act roll-Act denote.Hole.Carrier.out denote.Hole.Carrier.roll denote.Hole.Carrier.shown denote.Hole.Carrier.hidden shown-the_row-Stmt-0 main_at
alloc_shows = refl

alloc_asks : need_of counting (start_of counting 2 []) ≡ need.Alloc kind.Rmw
unfolding out-Act roll-Act denote.Hole.Carrier.out denote.Hole.Carrier.roll denote.Hole.Carrier.shown denote.Hole.Carrier.hidden shown-the_row-Stmt-0
alloc_asks = refl

store_move : Move
store_move = record { need = need.Store mode.Rel (pos 1) (pos 0); answered = λ r. showing (label.Store mode.Rel (pos 1) (pos 0)) (main_at 2) }

store_is : move_of counting (main_at 1) ≡ store_move
unfolding out-Act roll-Act denote.Hole.Carrier.out denote.Hole.Carrier.roll denote.Hole.Carrier.shown denote.Hole.Carrier.hidden shown-the_row-Stmt-0 main_at store_move
store_is = given_two (value_of (var 0) (pos 1 ∷ [])) (value_of (num 0) (pos 1 ∷ [])) (pos 1) (pos 0) _ (value_var 0 (pos 1 ∷ [])) (value_num 0 (pos 1 ∷ []))

both_started : List Started
both_started = record { proc = 0; args = pos 1 ∷ [] } ∷ record { proc = 1; args = pos 1 ∷ [] } ∷ []

calls_both : List Called
calls_both = calls 0 (var 0 ∷ []) ∷ calls 1 (var 0 ∷ []) ∷ []

calls_start : started_of counting calls_both (pos 1 ∷ []) ≡ Some both_started
unfolding both_started calls_both
calls_start = ap (λ (o : Option ℤ).
    with_value (with_value o (λ v. with_value (Some []) (λ vs. Some (v ∷ vs)))) (λ args.
    with_value (with_value (with_value o (λ v. with_value (Some []) (λ vs. Some (v ∷ vs)))) (λ args.
    with_value (Some []) (λ rest. Some (record { proc = 1; args = args } ∷ rest)))) (λ rest. Some (record { proc = 0; args = args } ∷ rest))))
    (value_var 0 (pos 1 ∷ []))

waiting : Config
waiting = joining 1 2 (record { stmts = []; env = pos 1 ∷ []; target = None }) []

fork_move : Move
fork_move = forking (Some both_started) (λ first. joining first 2 (record { stmts = []; env = pos 1 ∷ []; target = None }) [])

fork_is : move_of counting (main_at 2) ≡ fork_move
unfolding out-Act roll-Act denote.Hole.Carrier.out denote.Hole.Carrier.roll denote.Hole.Carrier.shown denote.Hole.Carrier.hidden shown-the_row-Stmt-0 main_at fork_move calls_both
fork_is = ap (λ (o : Option (List Started)). forking o (λ first. joining first 2 (record { stmts = []; env = pos 1 ∷ []; target = None }) [])) calls_start

both_ended : List Ended
both_ended = record { thread = 1; value = pos 0 } ∷ record { thread = 2; value = pos 0 } ∷ []

main_runs : Runs counting counted (start_of counting 2 []) 5 (0 ∷ 1 ∷ 2 ∷ 7 ∷ 8 ∷ []) (returned (pos 0))
unfolding store_move fork_move both_started main_at
main_runs =
    shows (does 0 (label.Alloc kind.Rmw (pos 1))) refl alloc_shows (subst (λ (n : Need). Answers counted n (label.Alloc kind.Rmw (pos 1))) (sym alloc_asks) tt)
    (shows (does 0 (store mode.Rel 1 0)) refl (shows_by counting (main_at 1) store_move reply.Nothing store_is)
    (subst (λ (n : Need). Answers counted n (store mode.Rel 1 0)) (sym (asks_by counting (main_at 1) store_move store_is)) tt)
    (shows (does 0 (label.Fork (1 ∷ 2 ∷ []))) refl (shows_by counting (main_at 2) fork_move (reply.Threads 1) fork_is)
    (subst (λ (n : Need). Answers counted n (label.Fork (1 ∷ 2 ∷ []))) (sym (asks_by counting (main_at 2) fork_move fork_is))
    ((runs 0 (1 ∷ []) 2, refl, refl, refl), ((runs 1 (1 ∷ []) 2, refl, refl, refl), tt)))
    (shows (does 0 (label.Join (record { thread = 1; value = pos 0 } ∷ record { thread = 2; value = pos 0 } ∷ []))) refl refl refl
    (shows (does 0 (label.End (pos 0))) refl refl tt stands))))

-- ---- the two others

added_frame : ℤ → Config
added_frame v = running (record { stmts = []; env = pos 1 ∷ v ∷ []; target = None }) []

add_move : Move
add_move = record {
  need = need.Rmw mode.AcqRel mode.Acq (pos 1) (op.Add (pos 1));
  answered = λ r. read_reply r (λ v. added mode.AcqRel (pos 1) v (in_range (v +ℤ pos 1)) (added_frame v));
}

add_is : move_of counting (start_of counting 0 (pos 1 ∷ [])) ≡ add_move
unfolding out-Act roll-Act denote.Hole.Carrier.out denote.Hole.Carrier.roll denote.Hole.Carrier.shown denote.Hole.Carrier.hidden shown-the_row-Stmt-0 add_move added_frame
add_is = given_two (value_of (var 0) (pos 1 ∷ pos 0 ∷ [])) (value_of (num 1) (pos 1 ∷ pos 0 ∷ [])) (pos 1) (pos 1) _ (value_var 0 (pos 1 ∷ pos 0 ∷ [])) (value_num 1 (pos 1 ∷ pos 0 ∷ []))

adds : Runs counting counted (start_of counting 0 (pos 1 ∷ [])) 2 (3 ∷ 4 ∷ []) (returned (pos 0))
unfolding add_move added_frame
adds =
    shows (reads 1 (label.Rmw mode.AcqRel (pos 1) (pos 0) (pos 1)) 1) refl (shows_by counting (start_of counting 0 (pos 1 ∷ [])) add_move (reply.Read (pos 0)) add_is)
    (subst (λ (n : Need). Answers counted n (label.Rmw mode.AcqRel (pos 1) (pos 0) (pos 1))) (sym (asks_by counting (start_of counting 0 (pos 1 ∷ [])) add_move add_is)) tt)
    (shows (does 1 (label.End (pos 0))) refl refl tt stands)

load_move : Move
load_move = record {
  need = need.Load mode.Acq (pos 1);
  answered = λ r. read_reply r (λ v. showing (label.Load mode.Acq (pos 1) v) (added_frame v));
}

load_is : move_of counting (start_of counting 1 (pos 1 ∷ [])) ≡ load_move
unfolding out-Act roll-Act denote.Hole.Carrier.out denote.Hole.Carrier.roll denote.Hole.Carrier.shown denote.Hole.Carrier.hidden shown-the_row-Stmt-0 load_move added_frame
load_is = given_one (value_of (var 0) (pos 1 ∷ pos 0 ∷ [])) (pos 1) _ (value_var 0 (pos 1 ∷ pos 0 ∷ []))

sees : Runs counting counted (start_of counting 1 (pos 1 ∷ [])) 2 (5 ∷ 6 ∷ []) (returned (pos 0))
unfolding load_move added_frame
sees =
    shows (reads 2 (load mode.Acq 1 1) 3) refl (shows_by counting (start_of counting 1 (pos 1 ∷ [])) load_move (reply.Read (pos 1)) load_is)
    (subst (λ (n : Need). Answers counted n (load mode.Acq 1 1)) (sym (asks_by counting (start_of counting 1 (pos 1 ∷ [])) load_move load_is)) tt)
    (shows (does 2 (label.End (pos 0))) refl refl tt stands)

-- ---- the execution

threads_move : (t : ℕ) (thread : Thread) → IsThread counted t thread → Runs counting counted (start_of counting thread.proc thread.args) thread.moves (events_of counted t) (all_returned t)
threads_move zero thread is = run_of counting counted (0 ∷ 1 ∷ 2 ∷ 7 ∷ 8 ∷ []) (returned (pos 0)) 0 (runs 2 [] 5) thread refl is main_runs
threads_move (suc zero) thread is = run_of counting counted (3 ∷ 4 ∷ []) (returned (pos 0)) 1 (runs 0 (1 ∷ []) 2) thread refl is adds
threads_move (suc (suc zero)) thread is = run_of counting counted (5 ∷ 6 ∷ []) (returned (pos 0)) 2 (runs 1 (1 ∷ []) 2) thread refl is sees
threads_move (suc (suc (suc t))) thread is = absurd (let f : None ≡ Some thread = is in cc)

allocates_at : (e : ℕ) (k : AllocKind) (l : ℤ) → Allocates counted e k l → (e ≡ 0) × (kind.Rmw ≡ k) × (pos 1 ≡ l)
allocates_at e k l a =
    let at : e ≡ 0 = only_is is_alloc 0 counted e a.event refl a.is (ap is_alloc a.allocates) in
    let same : does 0 (label.Alloc kind.Rmw (pos 1)) ≡ a.event =
    one_event counted 0 (does 0 (label.Alloc kind.Rmw (pos 1))) a.event refl (subst (λ (n : ℕ). Is counted n a.event) at a.is) in
    let f : label.Alloc kind.Rmw (pos 1) ≡ label.Alloc k l = ap (λ (x : Event). x.label) same ∙ a.allocates in
    (at, cc, cc)

threads_known : every (λ e (x : Event). nat_lt x.thread 3) 0 counted.events ≡ true
threads_known = refl

-- ---- safety

-- an atomic access of the counter, or none
is_counter : Option Access → Bool
is_counter None = true
is_counter (Some (Accesses l atomic changes)) = int_eq l (pos 1) && atomic

counter_alone : every (λ e (x : Event). is_counter (access_by x.label)) 0 counted.events ≡ true
unfolding is_counter
counter_alone = refl

accesses_counter : (e : ℕ) (x : Event) (l : ℤ) (atomic changes : Bool) → IsAccess counted e x l atomic changes → (l ≡ pos 1) × (atomic ≡ true)
unfolding is_counter
accesses_counter e x l atomic changes a =
    let t = every_at (λ e (x : Event). is_counter (access_by x.label)) e counted.events x counter_alone a.is in
    let u = and_parts (int_eq l (pos 1)) atomic (subst (λ (o : Option Access). is_counter o ≡ true) a.accesses t) in
    ((Decides-int_eq l (pos 1)).0 u.0, u.1)

has_source : Option Touch → Option ℕ → Bool
has_source None from = true
has_source (Some t) from = is_some from

sources_there : every (λ e (x : Event). has_source (read_by x.label) x.from) 0 counted.events ≡ true
unfolding has_source
sources_there = refl

some_of : (o : Option ℕ) → is_some o ≡ true → (w : ℕ) × (o ≡ Some w)
some_of None h = absurd (let f : false ≡ true = h in cc)
some_of (Some w) h = (w, refl)

is_free : Label → Bool
is_free (label.Free l) = true
is_free _ = false

none_freed : none is_free counted ≡ true
unfolding is_free
none_freed = refl

both_atomic : (a b : Bool) → a ≡ true → b ≡ true → (a ≡ false) ⊎ (b ≡ false) → ⊥
both_atomic a b h k (inl f) = absurd (cc)
both_atomic a b h k (inr f) = absurd (cc)

is_safe : IsSafe counted all_returned
unfolding has_source is_free
is_safe = record {
  no_race = λ a b r. both_atomic r.a_atomic r.b_atomic (accesses_counter a r.x r.loc r.a_atomic r.a_changes r.accesses).1
      (accesses_counter b r.y r.loc r.b_atomic r.b_changes r.other).1 r.plain;
  initialised = λ e x t is reads.
      let h = every_at (λ e (x : Event). has_source (read_by x.label) x.from) e counted.events x sources_there is in
      some_of x.from (subst (λ (o : Option Touch). has_source o x.from ≡ true) reads h);
  allocated = λ e x l atomic changes a.
      let c = accesses_counter e x l atomic changes a in
      subst (λ (n : ℤ). IsAllocated counted n atomic) (sym c.0) (subst (λ (b : Bool). IsAllocated counted (pos 1) b) (sym c.1)
      (record { alloc = 0; kind = kind.Rmw; allocates = record { event = does 0 (label.Alloc kind.Rmw (pos 1)); is = refl; allocates = refl }; fits = refl }));
  freed = λ e f x l atomic changes free a. absurd (none_is is_free counted f free.event none_freed free.is (ap is_free free.frees));
  no_failure = λ t l e. absurd (cc);
}

pub counted_is_execution : CountedIsExecution
counted_is_execution =
    let p = possible counted refl in
    record {
      execution = record {
        main = (runs 2 [] 5, refl, refl, refl);
        forked = forks_two counted 2 refl;
        first = λ e s. no_zero (starts_two counted 2 refl refl e 0 s).1;
        once = λ d e t s u. (starts_two counted 2 refl refl d t s).0 ∙ sym (starts_two counted 2 refl refl e t u).0;
        known = λ e x is. ltb-true x.thread 3 (every_at (λ e (x : Event). nat_lt x.thread 3) e counted.events x threads_known is);
        moves = threads_move;
        joined = joins_two counted 7 refl refl;
        positive = λ e k l a. subst (λ (n : ℤ). pos 0 <ℤ n) (allocates_at e k l a).2 (omega (arith, ints));
        distinct = λ d e j k l a b. (allocates_at d j l a).0 ∙ sym (allocates_at e k l b).0;
      };
      consistent = p.0;
      acyclic = p.1;
      safe = is_safe;
    }
