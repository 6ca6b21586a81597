-- What a machine keeps over a step.
use Rattle.std.proofs.Common.{◌≡◌, ◌≤◌, ◌<◌, ◌+◌, ℕ, true, false, ◌==◌, [], ◌∷◌, length, length-append, Option, Some, None, refl, ap, sym, subst, ◌∙◌, arith}
use Rattle.std.proofs.lemmas.Bool.Decides.{nat_tests}
use Rattle.std.specs.Option.{IfSome}
use Rattle.fsl_core.specs.declared.label.Label.{Label}
use Rattle.fsl_core.specs.declared.need.Need.{Need}
use Rattle.fsl_core.specs.declared.need.Reply.{Reply}
use Rattle.fsl_core.specs.Programs.{Program}
use Rattle.fsl_core.specs.Moves.{Config, need_of, moved, move_of, start_of, running, joining, returned, halted, failed}
use Rattle.fsl_core.specs.Straight.{is_straight}
use Rattle.fsl_graph.specs.Execution.{Runs, stands, events_of}
use Rattle.fsl_graph.specs.Lone.{is_plain}
use Rattle.fsl_moves.specs.declared.config.Config.{Config as Place}
use Rattle.fsl_moves.specs.Config.{config_of, Fits}
use Rattle.fsl_moves.specs.Moves.{is_list, grows, HasNumbers}
use Rattle.fsl_machine.specs.declared.steps.Readiness.TheVariants as readiness
use Rattle.fsl_graph.specs.declared.ending.End.TheVariants as ends
use Rattle.fsl_graph.specs.declared.ending.LimitKind.{LimitKind}
use Rattle.fsl_graph.specs.Ending.{limit_of, IsEnd, IsReady}
use Rattle.fsl_moves.specs.Label.{label_of}
use Rattle.fsl_machine.specs.Machine.{IsRun}
use Rattle.fsl_machine.specs.States.{State, grown, lone_graph, need_in, move_in, next_state}
use Rattle.fsl_machine.specs.Steps.{readiness_of, refusal_of}
use Rattle.fsl_machine.specs.History.{Trace, answer_of, event_of}
use Rattle.fsl_machine.proofs.TurnLemmas.{IsPlainMove, is_plain_move, asks_no_list, has_numbers, never_grows, never_waits}
use Rattle.fsl_machine.proofs.Runs.{is_shown, one_move}

-- before the first move
pub begins : (p : Program) (bound : ℕ) (c : Place) (t : Trace) → is_straight p ≡ true → Fits p c → config_of p c ≡ start_of p 0 []
    → t ≡ record { events = []; mo = [] } → IsRun p bound c 0 t
begins p bound c t straight fits starts is = rw is (record {
  straight = straight;
  fits = fits;
  within = omega arith;
  short = omega arith;
  runs = subst (λ (q : Config). Runs p (lone_graph 0 (record { events = []; mo = [] })) (start_of p 0 []) 0 [] q) (sym starts) stands;
})

-- the next move is that of a straight program
move_is_plain : (p : Program) (bound : ℕ) (c : Place) (m : ℕ) (t : Trace) → IsRun p bound c m t → readiness_of (config_of p c) ≡ readiness.Ready
    → IsPlainMove t (move_of p (config_of p c))
move_is_plain p bound c m t run ready =
    is_plain_move t p (lone_graph m t) m (events_of (lone_graph m t) 0) (config_of p c) run.straight run.runs ready

-- it asks no list
pub asks_no_threads : (p : Program) (bound : ℕ) (c : Place) (m : ℕ) (t : Trace) → IsRun p bound c m t → readiness_of (config_of p c) ≡ readiness.Ready
    → is_list (need_of p (config_of p c)) ≡ false
asks_no_threads p bound c m t run ready = asks_no_list t (move_of p (config_of p c)) (move_is_plain p bound c m t run ready)

pub names_no_threads : (p : Program) (bound : ℕ) (c : Place) (m : ℕ) (t : Trace) (r : Reply) → IsRun p bound c m t
    → readiness_of (config_of p c) ≡ readiness.Ready → HasNumbers (need_of p (config_of p c)) r
names_no_threads p bound c m t r run ready = has_numbers t (move_of p (config_of p c)) r (move_is_plain p bound c m t run ready)

-- it takes no memory
pub takes_none : (p : Program) (bound : ℕ) (c : Place) (m : ℕ) (t : Trace) → IsRun p bound c m t → grows (config_of p c) ≡ false
takes_none p bound c m t run = never_grows p (lone_graph m t) m (events_of (lone_graph m t) 0) (config_of p c) run.straight run.runs

pub waits_for_none : (p : Program) (bound : ℕ) (c : Place) (m : ℕ) (t : Trace) → IsRun p bound c m t
    → readiness_of (config_of p c) ≡ readiness.Waiting → ⊥
waits_for_none p bound c m t run is =
    never_waits p (lone_graph m t) m (events_of (lone_graph m t) 0) (config_of p c) run.straight run.runs is

labels_plain : (t : Trace) (n : Need) (label : Option Label) → ((x : Label) → label ≡ Some x → is_plain x ≡ true) → IfSome label (λ x. is_plain x ≡ true)
labels_plain t n None h = tt
labels_plain t n (Some x) h = h x refl

-- the label of the next move is plain
pub shows_plain : (p : Program) (bound : ℕ) (c : Place) (m : ℕ) (t : Trace) (n : Need) (r : Reply) (label : Option Label) → IsRun p bound c m t
    → readiness_of (config_of p c) ≡ readiness.Ready → n ≡ need_of p (config_of p c) → r ≡ answer_of t n → label ≡ label_of n r
    → IfSome label (λ x. is_plain x ≡ true)
shows_plain p bound c m t n r label run ready need_is reply_is label_is =
    let move = move_is_plain p bound c m t run ready in
    labels_plain t n label (λ x is. (is_shown t n x (rw need_is move.asks) (ap (label_of n) (sym reply_is) ∙ sym label_is ∙ is)).plain)

grown_length : (label : Option Label) (t : Trace) (m : ℕ) → length t.events ≤ m → length (grown label t).events ≤ m + 1
grown_length None t m h = omega arith
grown_length (Some x) t m h = omega (arith, length-append t.events (event_of t x ∷ []))

-- the label of the move is that of the answer
pub label_made : (p : Program) (bound : ℕ) (c : Place) (m : ℕ) (t : Trace) (n : Need) → IsRun p bound c m t
    → readiness_of (config_of p c) ≡ readiness.Ready → n ≡ need_of p (config_of p c)
    → (moved p (config_of p c) (answer_of t n)).label ≡ label_of n (answer_of t n)
label_made p bound c m t n run ready need_is =
    let move = move_is_plain p bound c m t run ready in
    subst (λ (q : Need). (moved p (config_of p c) (answer_of t q)).label ≡ label_of q (answer_of t q)) (sym need_is) move.shows

pub steps_on : (p : Program) (bound : ℕ) (c d : Place) (m : ℕ) (t u : Trace) (n : Need) (r : Reply) (label : Option Label) → IsRun p bound c m t
    → readiness_of (config_of p c) ≡ readiness.Ready → (m ≡ bound → ⊥) → n ≡ need_of p (config_of p c) → r ≡ answer_of t n → label ≡ label_of n r
    → u ≡ grown label t → config_of p d ≡ (moved p (config_of p c) r).config → Fits p d → IsRun p bound d (m + 1) u
steps_on p bound c d m t u n r label run ready more need_is reply_is label_is grows moves fits =
    let move = move_is_plain p bound c m t run ready in
    let within = run.within in
    let shown_by : label ≡ label_of n (answer_of t n) = label_is ∙ ap (label_of n) reply_is in
    rw grows (record {
      straight = run.straight;
      fits = fits;
      within = omega (arith, within, more);
      short = grown_length label t m run.short;
      runs = one_move p (start_of p 0 []) (config_of p c) (config_of p d) m t n label run.runs need_is (rw need_is move.asks) shown_by
          (label_made p bound c m t n run ready need_is ∙ sym shown_by)
          (sym (moves ∙ ap (λ (q : Reply). (moved p (config_of p c) q).config) reply_is));
    })

-- ---- the state

abbrev state_of : (p : Program) (bound : ℕ) (c : Place) (m : ℕ) (t : Trace) → State
state_of p bound c m t = record { program = p; bound = bound; config = config_of p c; graph = lone_graph m t }

abbrev state_with : (p : Program) (bound : ℕ) → Config → (m : ℕ) → Trace → State
state_with p bound k m t = record { program = p; bound = bound; config = k; graph = lone_graph (m + 1) t }

not_spent : (m bound : ℕ) → (m ≡ bound → ⊥) → (m + 0 == bound) ≡ false
not_spent m bound more = grind (arith, nat_tests)

-- a move that is made, from the state s before it
pub makes_next : (p : Program) (bound : ℕ) (c d : Place) (m : ℕ) (t u : Trace) (n : Need) (r : Reply) (label : Option Label) (s : State) → IsRun p bound c m t
    → state_of p bound c m t ≡ s
    → readiness_of (config_of p c) ≡ readiness.Ready → (m ≡ bound → ⊥) → n ≡ need_of p (config_of p c) → limit_of n (lone_graph m t) ≡ None
    → r ≡ answer_of t n → label ≡ label_of n r → u ≡ grown label t → config_of p d ≡ (moved p (config_of p c) r).config
    → (refusal_of s ≡ None) × (state_of p bound d (m + 1) u ≡ next_state s)
makes_next p bound c d m t u n r label s run view ready more need_is free reply_is label_is grows moves =
    let q = state_of p bound c m t in
    let limit : limit_of (need_in q) (lone_graph m t) ≡ None = subst (λ (k : Need). limit_of k (lone_graph m t) ≡ None) need_is free in
    let goes : refusal_of q ≡ None = rw (ready, not_spent m bound more, limit) refl in
    let reply : r ≡ answer_of t (need_in q) = reply_is ∙ ap (answer_of t) need_is in
    let config : config_of p d ≡ (move_in q).config = moves ∙ ap (λ (k : Reply). (moved p (config_of p c) k).config) reply in
    let shown : label ≡ (move_in q).label =
    label_is ∙ ap (label_of n) reply_is ∙ sym (label_made p bound c m t n run ready need_is)
    ∙ ap (λ (k : Need). (moved p (config_of p c) (answer_of t k)).label) need_is in
    let trace : u ≡ grown (move_in q).label t = grows ∙ ap (λ (k : Option Label). grown k t) shown in
    let next : state_of p bound d (m + 1) u ≡ next_state q =
    ap (λ (k : Config). state_with p bound k m u) config ∙ ap (λ (k : Trace). state_with p bound (move_in q).config m k) trace in
    subst (λ (v : State). (refusal_of v ≡ None) × (state_of p bound d (m + 1) u ≡ next_state v)) view (goes, next)

-- ---- the limit that a move meets

is_ready : (last : ℕ → Config) (c : Config) → readiness_of c ≡ readiness.Ready → IsReady last c
is_ready last (running f fs) is = tt
is_ready last (joining first count f fs) is = cc
is_ready last (returned v) is = cc
is_ready last halted is = cc
is_ready last failed is = cc

pub meets : (p : Program) (bound : ℕ) (c : Place) (m : ℕ) (t : Trace) (n : Need) (kind : LimitKind) (s : State) → IsRun p bound c m t
    → state_of p bound c m t ≡ s
    → readiness_of (config_of p c) ≡ readiness.Ready → (m ≡ bound → ⊥) → n ≡ need_of p (config_of p c) → limit_of n (lone_graph m t) ≡ Some kind
    → IsEnd s.program s.bound s.graph (λ thread. s.config) (ends.Limit kind)
meets p bound c m t n kind s run view ready more need_is limit =
    let within = run.within in
    let below : m + 0 < bound = omega (arith, within, more) in
    let first : 0 < 1 = omega arith in
    let meets_it : limit_of (need_of p (config_of p c)) (lone_graph m t) ≡ Some kind =
    subst (λ (k : Need). limit_of k (lone_graph m t) ≡ Some kind) need_is limit in
    subst (λ (v : State). IsEnd v.program v.bound v.graph (λ thread. v.config) (ends.Limit kind)) view
    (below, (0, first, is_ready (λ thread. config_of p c) (config_of p c) ready, meets_it))
