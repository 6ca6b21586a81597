-- The execution of the box: move by move, and by tests of its graph; and that the theorem speaks of it.
use Rattle.std.proofs.Common.{◌≡◌, ℕ, zero, suc, Bool, true, nat_lt, int_eq, List, [], ◌∷◌, ◌++◌, if◌then◌else◌, drop, Option, Some, None, ℤ, ◌<ℤ◌, pos, refl, sym, ap, subst, ◌∙◌, arith}
use Rattle.std.proofs.lemmas.Bool.{ltb-true}
use Rattle.std.proofs.lemmas.Bool.Decides.{Decides-int_eq}
use Rattle.std.proofs.lemmas.Int.{ints}
use Rattle.fsl_core.specs.declared.act.Act.TheBlock.{shown-the_row-Stmt-0}
use Rattle.fsl_core.specs.declared.act.Act.TheViews.{roll-Act, out-Act}
use Rattle.fsl_core.specs.declared.act.Stmt.{Stmt}
use Rattle.fsl_core.specs.declared.expr.CmpOp.TheVariants as cmp_op
use Rattle.fsl_core.specs.declared.label.Label.{Label}
use Rattle.fsl_core.specs.declared.label.Label.TheVariants as label
use Rattle.fsl_core.specs.declared.mode.AllocKind.{AllocKind}
use Rattle.fsl_core.specs.declared.mode.AllocKind.TheVariants as kind
use Rattle.fsl_core.specs.declared.mode.Mode.TheVariants as mode
use Rattle.fsl_core.specs.declared.need.Need.{Need}
use Rattle.fsl_core.specs.declared.need.Need.TheVariants as need
use Rattle.fsl_core.specs.declared.need.Reply.TheVariants as reply
use Rattle.fsl_core.specs.declared.need.RmwOp.TheVariants as op
use Rattle.fsl_core.specs.declared.need.Started.{Started}
use Rattle.fsl_core.specs.Values.{value_of, with_value}
use Rattle.fsl_core.specs.Moves.{Config, running, joining, returned, showing, moved, need_of, start_of, Move, move_of, started_of, read_reply, forking, branching, local, with_stmts}
use Rattle.fsl_graph.specs.declared.event.Event.{Event}
use Rattle.fsl_graph.specs.declared.graph.Thread.{Thread}
use Rattle.fsl_graph.specs.Execution.{Runs, Answers, IsThread, Allocates, events_of, IsExecution}
use Rattle.fsl_graph.specs.Execution.Runs.{stands, shows}
use Rattle.fsl_graph.specs.Graphs.{does, reads, load, store}
use Rattle.fsl_graph.specs.Happens.{Hb}
use Rattle.fsl_graph.specs.Happens.HbEdge.{by_sb, by_sw}
use Rattle.fsl_graph.specs.Happens.ReleasePoint.{at_write}
use Rattle.fsl_graph.specs.Happens.AcquirePoint.{at_read}
use Rattle.fsl_graph.specs.Happens.InSequence.{head}
use Rattle.fsl_graph.specs.Sequenced.Path.{one, more}
use Rattle.fsl_graph.specs.Sequenced.SbEdge.{by_order}
use Rattle.fsl_graph.proofs.Every.{every, every_at}
use Rattle.fsl_graph.proofs.Possible.{possible}
use Rattle.fsl_judged.specs.Words.{num, var}
use Rattle.fsl_graph_examples.specs.Executions.{runs, all_returned}
use Rattle.fsl_graph_examples.specs.Taking.{taking, taken, both_called, starting, emptying, giving, looking, TheoremApplies}
use Rattle.fsl_graph_examples.proofs.Moving.{value_var, value_num, given_one, given_two, holds_by, arguments_two, goes_by, tells_by}
use Rattle.fsl_graph_examples.proofs.Pairs.{no_zero, starts_two, forks_two, joins_two}
use Rattle.fsl_graph_examples.proofs.Runs.{run_of}
use Rattle.fsl_graph_examples.proofs.TakingAccepted.{taking_accepted}
use Rattle.fsl_graph_examples.proofs.TakingWell.{taking_well}

-- ---- the first thread

-- so many of its statements are done; the cell is 1, the box 2
main_at : ℕ → Config
main_at n = running (record { stmts = drop n starting; env = pos 1 ∷ pos 2 ∷ []; target = None }) []

-- the cell is made, and the box isn't
cell_made : Config
cell_made = running (record { stmts = drop 1 starting; env = pos 1 ∷ pos 0 ∷ []; target = None }) []

cell_shows : moved taking (start_of taking 2 []) (reply.Place (pos 1)) ≡ showing (label.Alloc kind.Na (pos 1)) cell_made
unfolding out-Act roll-Act denote.Hole.Carrier.out denote.Hole.Carrier.roll denote.Hole.Carrier.shown denote.Hole.Carrier.hidden shown-the_row-Stmt-0 cell_made
cell_shows = refl

cell_asks : need_of taking (start_of taking 2 []) ≡ need.Alloc kind.Na
unfolding out-Act roll-Act denote.Hole.Carrier.out denote.Hole.Carrier.roll denote.Hole.Carrier.shown denote.Hole.Carrier.hidden shown-the_row-Stmt-0
cell_asks = refl

box_shows : moved taking cell_made (reply.Place (pos 2)) ≡ showing (label.Alloc kind.Rmw (pos 2)) (main_at 2)
unfolding out-Act roll-Act denote.Hole.Carrier.out denote.Hole.Carrier.roll denote.Hole.Carrier.shown denote.Hole.Carrier.hidden shown-the_row-Stmt-0 cell_made main_at
box_shows = refl

box_asks : need_of taking cell_made ≡ need.Alloc kind.Rmw
unfolding out-Act roll-Act denote.Hole.Carrier.out denote.Hole.Carrier.roll denote.Hole.Carrier.shown denote.Hole.Carrier.hidden shown-the_row-Stmt-0 cell_made
box_asks = refl

store_move : Move
store_move = record { need = need.Store mode.Rel (pos 2) (pos 0); answered = λ r. showing (label.Store mode.Rel (pos 2) (pos 0)) (main_at 3) }

store_is : move_of taking (main_at 2) ≡ store_move
unfolding out-Act roll-Act denote.Hole.Carrier.out denote.Hole.Carrier.roll denote.Hole.Carrier.shown denote.Hole.Carrier.hidden shown-the_row-Stmt-0 main_at store_move
store_is = given_two (value_of (var 1) (pos 1 ∷ pos 2 ∷ [])) (value_of (num 0) (pos 1 ∷ pos 2 ∷ [])) (pos 2) (pos 0) _
    (value_var 1 (pos 1 ∷ pos 2 ∷ [])) (value_num 0 (pos 1 ∷ pos 2 ∷ []))

both_started : List Started
both_started = record { proc = 0; args = pos 2 ∷ pos 1 ∷ [] } ∷ record { proc = 1; args = pos 2 ∷ pos 1 ∷ [] } ∷ []

calls_start : started_of taking both_called (pos 1 ∷ pos 2 ∷ []) ≡ Some both_started
unfolding both_started
calls_start = ap (λ (o : Option (List ℤ)).
    with_value o (λ args. with_value (with_value o (λ args. with_value (Some []) (λ rest. Some (record { proc = 1; args = args } ∷ rest))))
    (λ rest. Some (record { proc = 0; args = args } ∷ rest))))
    (arguments_two (var 1) (var 0) (pos 1 ∷ pos 2 ∷ []) (pos 2) (pos 1) (value_var 1 (pos 1 ∷ pos 2 ∷ [])) (value_var 0 (pos 1 ∷ pos 2 ∷ [])))

waiting : ℕ → Config
waiting first = joining first 2 (record { stmts = []; env = pos 1 ∷ pos 2 ∷ []; target = None }) []

fork_move : Move
fork_move = forking (Some both_started) waiting

fork_is : move_of taking (main_at 3) ≡ fork_move
unfolding out-Act roll-Act denote.Hole.Carrier.out denote.Hole.Carrier.roll denote.Hole.Carrier.shown denote.Hole.Carrier.hidden shown-the_row-Stmt-0 main_at fork_move waiting
fork_is = ap (λ (o : Option (List Started)). forking o (λ first. joining first 2 (record { stmts = []; env = pos 1 ∷ pos 2 ∷ []; target = None }) [])) calls_start

main_runs : Runs taking taken (start_of taking 2 []) 6 (0 ∷ 1 ∷ 2 ∷ 3 ∷ 11 ∷ 12 ∷ []) (returned (pos 0))
unfolding store_move fork_move both_started waiting
main_runs =
    shows (does 0 (label.Alloc kind.Na (pos 1))) refl cell_shows (subst (λ (n : Need). Answers taken n (label.Alloc kind.Na (pos 1))) (sym cell_asks) tt)
    (shows (does 0 (label.Alloc kind.Rmw (pos 2))) refl box_shows (subst (λ (n : Need). Answers taken n (label.Alloc kind.Rmw (pos 2))) (sym box_asks) tt)
    (tells_by taking taken (main_at 2) (main_at 3) (returned (pos 0)) store_move 2 3 (3 ∷ 11 ∷ 12 ∷ []) (does 0 (store mode.Rel 2 0)) refl store_is refl tt
    (tells_by taking taken (main_at 3) (waiting 1) (returned (pos 0)) fork_move 3 2 (11 ∷ 12 ∷ []) (does 0 (label.Fork (1 ∷ 2 ∷ []))) refl fork_is refl
    ((runs 0 (2 ∷ 1 ∷ []) 3, refl, refl, refl), ((runs 1 (2 ∷ 1 ∷ []) 5, refl, refl, refl), tt))
    (shows (does 0 (label.Join (record { thread = 1; value = pos 0 } ∷ record { thread = 2; value = pos 0 } ∷ []))) refl refl refl
    (shows (does 0 (label.End (pos 0))) refl refl tt stands)))))

-- ---- the one that gives

give_at : ℕ → Config
give_at n = running (record { stmts = drop n giving; env = pos 2 ∷ pos 1 ∷ []; target = None }) []

put_move : Move
put_move = record { need = need.Store mode.Na (pos 1) (pos 7); answered = λ r. showing (label.Store mode.Na (pos 1) (pos 7)) (give_at 1) }

put_is : move_of taking (give_at 0) ≡ put_move
unfolding out-Act roll-Act denote.Hole.Carrier.out denote.Hole.Carrier.roll denote.Hole.Carrier.shown denote.Hole.Carrier.hidden shown-the_row-Stmt-0 give_at put_move
put_is = given_two (value_of (var 1) (pos 2 ∷ pos 1 ∷ [])) (value_of (num 7) (pos 2 ∷ pos 1 ∷ [])) (pos 1) (pos 7) _
    (value_var 1 (pos 2 ∷ pos 1 ∷ [])) (value_num 7 (pos 2 ∷ pos 1 ∷ []))

fill_move : Move
fill_move = record { need = need.Store mode.Rel (pos 2) (pos 1); answered = λ r. showing (label.Store mode.Rel (pos 2) (pos 1)) (give_at 2) }

fill_is : move_of taking (give_at 1) ≡ fill_move
unfolding out-Act roll-Act denote.Hole.Carrier.out denote.Hole.Carrier.roll denote.Hole.Carrier.shown denote.Hole.Carrier.hidden shown-the_row-Stmt-0 give_at fill_move
fill_is = given_two (value_of (var 0) (pos 2 ∷ pos 1 ∷ [])) (value_of (num 1) (pos 2 ∷ pos 1 ∷ [])) (pos 2) (pos 1) _
    (value_var 0 (pos 2 ∷ pos 1 ∷ [])) (value_num 1 (pos 2 ∷ pos 1 ∷ []))

gives : Runs taking taken (start_of taking 0 (pos 2 ∷ pos 1 ∷ [])) 3 (4 ∷ 5 ∷ 6 ∷ []) (returned (pos 0))
unfolding put_move fill_move give_at
gives =
    tells_by taking taken (give_at 0) (give_at 1) (returned (pos 0)) put_move 4 2 (5 ∷ 6 ∷ []) (does 1 (store mode.Na 1 7)) refl put_is refl tt
    (tells_by taking taken (give_at 1) (give_at 2) (returned (pos 0)) fill_move 5 1 (6 ∷ []) (does 1 (store mode.Rel 2 1)) refl fill_is refl tt
    (shows (does 1 (label.End (pos 0))) refl refl tt stands))

-- ---- the one that takes

-- the statements that are left, what the exchange read, and what the load read
take_at : List Stmt → ℤ → ℤ → Config
take_at left o x = running (record { stmts = left; env = pos 2 ∷ pos 1 ∷ o ∷ x ∷ []; target = None }) []

swap_move : Move
swap_move = record {
  need = need.Rmw mode.Acq mode.Acq (pos 2) (op.Swap (pos 0));
  answered = λ r. read_reply r (λ v. showing (label.Rmw mode.Acq (pos 2) v (pos 0)) (take_at (drop 1 emptying) v (pos 0)));
}

swap_is : move_of taking (take_at emptying (pos 0) (pos 0)) ≡ swap_move
unfolding out-Act roll-Act denote.Hole.Carrier.out denote.Hole.Carrier.roll denote.Hole.Carrier.shown denote.Hole.Carrier.hidden shown-the_row-Stmt-0 take_at swap_move
swap_is =
    let env = pos 2 ∷ pos 1 ∷ pos 0 ∷ pos 0 ∷ [] in
    given_two (value_of (var 0) env) (value_of (num 0) env) (pos 2) (pos 0) _ (value_var 0 env) (value_num 0 env)

-- where the test leads, by its answer
chosen : Bool → Config
chosen full = running (with_stmts ((if full then looking else []) ++ []) (record { stmts = []; env = pos 2 ∷ pos 1 ∷ pos 1 ∷ pos 0 ∷ []; target = None })) []

if_is : move_of taking (take_at (drop 1 emptying) (pos 1) (pos 0)) ≡ local (take_at looking (pos 1) (pos 0))
unfolding out-Act roll-Act denote.Hole.Carrier.out denote.Hole.Carrier.roll denote.Hole.Carrier.shown denote.Hole.Carrier.hidden shown-the_row-Stmt-0 take_at chosen
if_is =
    let env = pos 2 ∷ pos 1 ∷ pos 1 ∷ pos 0 ∷ [] in
    ap (λ (o : Option Bool). branching o chosen) (holds_by cmp_op.Ne (var 2) (num 0) env (pos 1) (pos 0) (value_var 2 env) (value_num 0 env))

look_move : Move
look_move = record {
  need = need.Load mode.Na (pos 1);
  answered = λ r. read_reply r (λ v. showing (label.Load mode.Na (pos 1) v) (take_at (drop 1 looking) (pos 1) v));
}

look_is : move_of taking (take_at looking (pos 1) (pos 0)) ≡ look_move
unfolding out-Act roll-Act denote.Hole.Carrier.out denote.Hole.Carrier.roll denote.Hole.Carrier.shown denote.Hole.Carrier.hidden shown-the_row-Stmt-0 take_at look_move
look_is =
    let env = pos 2 ∷ pos 1 ∷ pos 1 ∷ pos 0 ∷ [] in
    given_one (value_of (var 1) env) (pos 1) _ (value_var 1 env)

drop_move : Move
drop_move = record { need = need.Free (pos 1); answered = λ r. showing (label.Free (pos 1)) (take_at [] (pos 1) (pos 7)) }

drop_is : move_of taking (take_at (drop 1 looking) (pos 1) (pos 7)) ≡ drop_move
unfolding out-Act roll-Act denote.Hole.Carrier.out denote.Hole.Carrier.roll denote.Hole.Carrier.shown denote.Hole.Carrier.hidden shown-the_row-Stmt-0 take_at drop_move
drop_is =
    let env = pos 2 ∷ pos 1 ∷ pos 1 ∷ pos 7 ∷ [] in
    given_one (value_of (var 1) env) (pos 1) _ (value_var 1 env)

takes : Runs taking taken (start_of taking 1 (pos 2 ∷ pos 1 ∷ [])) 5 (7 ∷ 8 ∷ 9 ∷ 10 ∷ []) (returned (pos 0))
unfolding swap_move look_move drop_move take_at
takes =
    tells_by taking taken (take_at emptying (pos 0) (pos 0)) (take_at (drop 1 emptying) (pos 1) (pos 0)) (returned (pos 0)) swap_move 7 4 (8 ∷ 9 ∷ 10 ∷ [])
    (reads 2 (label.Rmw mode.Acq (pos 2) (pos 1) (pos 0)) 5) refl swap_is refl tt
    (goes_by taking taken (take_at (drop 1 emptying) (pos 1) (pos 0)) (take_at looking (pos 1) (pos 0)) (returned (pos 0)) 3 (8 ∷ 9 ∷ 10 ∷ []) if_is
    (tells_by taking taken (take_at looking (pos 1) (pos 0)) (take_at (drop 1 looking) (pos 1) (pos 7)) (returned (pos 0)) look_move 8 2 (9 ∷ 10 ∷ [])
    (reads 2 (load mode.Na 1 7) 4) refl look_is refl tt
    (tells_by taking taken (take_at (drop 1 looking) (pos 1) (pos 7)) (take_at [] (pos 1) (pos 7)) (returned (pos 0)) drop_move 9 1 (10 ∷ [])
    (does 2 (label.Free (pos 1))) refl drop_is refl tt
    (shows (does 2 (label.End (pos 0))) refl refl tt stands))))

-- ---- the execution

threads_move : (t : ℕ) (thread : Thread) → IsThread taken t thread → Runs taking taken (start_of taking thread.proc thread.args) thread.moves (events_of taken t) (all_returned t)
threads_move zero thread is = run_of taking taken (0 ∷ 1 ∷ 2 ∷ 3 ∷ 11 ∷ 12 ∷ []) (returned (pos 0)) 0 (runs 2 [] 6) thread refl is main_runs
threads_move (suc zero) thread is = run_of taking taken (4 ∷ 5 ∷ 6 ∷ []) (returned (pos 0)) 1 (runs 0 (2 ∷ 1 ∷ []) 3) thread refl is gives
threads_move (suc (suc zero)) thread is = run_of taking taken (7 ∷ 8 ∷ 9 ∷ 10 ∷ []) (returned (pos 0)) 2 (runs 1 (2 ∷ 1 ∷ []) 5) thread refl is takes
threads_move (suc (suc (suc t))) thread is = absurd (let f : None ≡ Some thread = is in cc)

threads_known : every (λ e (x : Event). nat_lt x.thread 3) 0 taken.events ≡ true
threads_known = refl

-- what event e allocates, if it does, is the location e + 1
places : ℕ → Label → Bool
places e (label.Alloc k l) = int_eq l (pos (suc e))
places e _ = true

all_placed : every (λ e (x : Event). places e x.label) 0 taken.events ≡ true
unfolding places
all_placed = refl

allocates_next : (e : ℕ) (k : AllocKind) (l : ℤ) → Allocates taken e k l → l ≡ pos (suc e)
unfolding places
allocates_next e k l a =
    (Decides-int_eq l (pos (suc e))).0
    (subst (λ (x : Label). places e x ≡ true) a.allocates (every_at (λ e (x : Event). places e x.label) e taken.events a.event all_placed a.is))

one_place : (d e : ℕ) (l : ℤ) → l ≡ pos (suc d) → l ≡ pos (suc e) → d ≡ e
one_place d e l h k = let f : pos (suc d) ≡ pos (suc e) = sym h ∙ k in cc

is_execution : IsExecution taking taken all_returned
is_execution = record {
  main = (runs 2 [] 6, refl, refl, refl);
  forked = forks_two taken 3 refl;
  first = λ e s. no_zero (starts_two taken 3 refl refl e 0 s).1;
  once = λ d e t s u. (starts_two taken 3 refl refl d t s).0 ∙ sym (starts_two taken 3 refl refl e t u).0;
  known = λ e x is. ltb-true x.thread 3 (every_at (λ e (x : Event). nat_lt x.thread 3) e taken.events x threads_known is);
  moves = threads_move;
  joined = joins_two taken 11 refl refl;
  positive = λ e k l a. subst (λ (n : ℤ). pos 0 <ℤ n) (sym (allocates_next e k l a)) (omega (arith, ints));
  distinct = λ d e j k l a b. one_place d e l (allocates_next d j l a) (allocates_next e k l b);
}

-- ---- the cell is handed over

store_cell : Event
store_cell = does 1 (store mode.Na 1 7)

fill : Event
fill = does 1 (store mode.Rel 2 1)

exchange : Event
exchange = reads 2 (label.Rmw mode.Acq (pos 2) (pos 1) (pos 0)) 5

load_cell : Event
load_cell = reads 2 (load mode.Na 1 7) 4

in_order : Hb taken 4 8
unfolding store_cell fill exchange load_cell
in_order =
    more (by_sb (by_order (record { earlier = store_cell; later = fill; is_earlier = refl; is_later = refl; thread = refl; before = omega arith })))
    (more (by_sw (record {
      write = 5;
      source = 5;
      read = 7;
      release = at_write (record { event = fill; is = refl; writes = refl }) refl refl;
      sequence = head;
      reads = record { reader = exchange; is = refl; source = refl };
      acquire = at_read (record { event = exchange; is = refl; reads = refl }) refl refl;
    }))
    (one (by_sb (by_order (record { earlier = exchange; later = load_cell; is_earlier = refl; is_later = refl; thread = refl; before = omega arith })))))

pub theorem_applies : TheoremApplies
unfolding store_cell fill exchange load_cell
theorem_applies =
    let p = possible taken refl in
    record {
      well_formed = taking_well;
      accepted = taking_accepted;
      execution = is_execution;
      consistent = p.0;
      acyclic = p.1;
      exchanged = record {
        writer = fill;
        reader = exchange;
        is_writer = refl;
        is_reader = refl;
        mode = mode.Acq;
        loc = pos 2;
        old = pos 1;
        new = pos 0;
        updates = refl;
        source = record { reader = exchange; is = refl; source = refl };
        threads = λ e. absurd (omega (arith, e));
      };
      stored = record { event = store_cell; is = refl; writes = refl };
      loaded = record { event = load_cell; is = refl; reads = refl };
      ordered = in_order;
      freed = record { event = does 2 (label.Free (pos 1)); is = refl; frees = refl };
    }
