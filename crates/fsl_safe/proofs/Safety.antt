-- A good program is safe: all threads stand at the start, each event keeps them standing, and at the end nothing unsafe
-- was done.
use Rattle.std.proofs.Common.{◌≡◌, ◌≤◌, ◌<◌, ◌+◌, ℕ, zero, suc, ◌⊎◌, inl, inr, List, [], ◌∷◌, map, length, Option, Some, None, slice_get, ℤ, refl, sym, ap, subst, ◌∙◌, arith}
use Rattle.std.proofs.lemmas.Bool.{cases_eq}
use Rattle.fsl_core.specs.declared.label.Label.{Label}
use Rattle.fsl_core.specs.declared.label.Label.TheVariants as label
use Rattle.fsl_core.specs.declared.need.Started.{Started}
use Rattle.fsl_core.specs.Programs.{Program}
use Rattle.fsl_core.specs.Moves.{Config, Frame, returned, failed, start_of, started_at, entered}
use Rattle.fsl_graph.specs.declared.event.Event.{Event}
use Rattle.fsl_graph.specs.declared.graph.Graph.{Graph}
use Rattle.fsl_graph.specs.Events.{Is}
use Rattle.fsl_graph.specs.Sequenced.{In, Edge, IsAcyclic}
use Rattle.fsl_graph.specs.Consistent.{IsConsistent}
use Rattle.fsl_graph.specs.Execution.{Runs, Starts, Awaits, IsExecution, events_of}
use Rattle.fsl_graph.specs.Keeping.{children_of}
use Rattle.fsl_graph.specs.Safe.{IsSafe, IsAccess, IsFreed, IsRace}
use Rattle.fsl_graph.specs.Orders.{IsClosed, IsForwardFrom, IsForwardOrder, Comes}
use Rattle.fsl_graph.specs.Threads.{Ahead}
use Rattle.fsl_graph.specs.Positions.{Holder}
use Rattle.fsl_graph.proofs.Along.{next_comes}
use Rattle.fsl_graph.proofs.Forward.{forward_order, is_event}
use Rattle.fsl_graph.proofs.Threads.{all_ahead, each_number_is_one}
use Rattle.fsl_own.specs.Owning.{Resource, Cell, World, Known, Owned}
use Rattle.fsl_ground.specs.Ground.{Meaning, Ground, IsSafeSoFar}
use Rattle.fsl_good.specs.Pieces.{AtPlain, Piece, all_placed, Fits}
use Rattle.fsl_good.specs.Good.{Logic, Good}
use Rattle.fsl_safe.specs.Threads.{IsBegun, IsAwaited, IsChild, Goes, HasEnded, AllStand, IsAccepted, IsMain, GoodIsSafe}
use Rattle.fsl_safe.proofs.Acts.{IsOwn}
use Rattle.fsl_safe.proofs.Advancing.{never_fails}
use Rattle.fsl_safe.proofs.Stepping.{own_step, end_step, is_in_or}
use Rattle.fsl_safe.proofs.Forking.{fork_step, start_children}
use Rattle.fsl_safe.proofs.Joining.{join_step}

-- ---- one event more

step_by : (l : Logic) (p : Program) (g : Graph) (last : ℕ → Config) (done : List ℕ) (e : ℕ) (x : Event) (shown : Label) → x.label ≡ shown → IsAccepted l p → IsExecution p g last → IsConsistent g → IsAcyclic g
    → Comes g done e x → AllStand l p g last done → AllStand l p g last (e ∷ done)
step_by l p g last done e x (label.Fork cs) is accepted ex consistent acyclic comes s = fork_step l p g last done e x cs accepted ex comes is s
step_by l p g last done e x (label.Join rs) is accepted ex consistent acyclic comes s = join_step l p g last done e x rs acyclic ex comes is s
step_by l p g last done e x (label.End v) is accepted ex consistent acyclic comes s = end_step l p g last done e x v ex comes is s
step_by l p g last done e x (label.Alloc k c) is accepted ex consistent acyclic comes s = own_step l p g last done e x ex consistent comes (subst (λ (y : Label). IsOwn y) (sym is) tt) s
step_by l p g last done e x (label.Free c) is accepted ex consistent acyclic comes s = own_step l p g last done e x ex consistent comes (subst (λ (y : Label). IsOwn y) (sym is) tt) s
step_by l p g last done e x (label.Load m c v) is accepted ex consistent acyclic comes s = own_step l p g last done e x ex consistent comes (subst (λ (y : Label). IsOwn y) (sym is) tt) s
step_by l p g last done e x (label.Store m c v) is accepted ex consistent acyclic comes s = own_step l p g last done e x ex consistent comes (subst (λ (y : Label). IsOwn y) (sym is) tt) s
step_by l p g last done e x (label.Rmw m c o n) is accepted ex consistent acyclic comes s = own_step l p g last done e x ex consistent comes (subst (λ (y : Label). IsOwn y) (sym is) tt) s
step_by l p g last done e x (label.Fence m) is accepted ex consistent acyclic comes s = own_step l p g last done e x ex consistent comes (subst (λ (y : Label). IsOwn y) (sym is) tt) s
step_by l p g last done e x (label.Print v) is accepted ex consistent acyclic comes s = own_step l p g last done e x ex consistent comes (subst (λ (y : Label). IsOwn y) (sym is) tt) s

-- ---- the start

abbrev nothing_known : Known
nothing_known = record { values = λ c. None; out = λ c part. []; counts = λ b. 0; banks = 0; deals = λ c. None }

abbrev no_world : World
no_world h r = 0

nothing_owned : (g : Graph) → Owned g [] nothing_known no_world
nothing_owned g = record {
  holders = [];
  apart = tt;
  support = λ h r l. absurd (omega (arith, l));
  there = λ h r l. absurd (omega (arith, l));
  within = λ r. omega arith;
  knows = λ h c l. absurd (omega (arith, l));
  seen = λ a c i u. elim i [ ];
}

first_ground : (asks : Meaning) (g : Graph) → Ground asks g [] [] nothing_known no_world
first_ground asks g = record {
  owned = nothing_owned g;
  right = λ c v e. absurd (let f : None ≡ Some v = e in cc);
  made = λ c d e. absurd (let f : None ≡ Some d = e in cc);
  messages = λ m d c v part i n s due. elim i [ ];
  safe = record {
    no_race = λ a b i j r. elim i [ ];
    initialised = λ e x t i at r. elim i [ ];
    allocated = λ e x c atomic changes i a. elim i [ ];
    freed = λ e f x c atomic changes i j free a. elim i [ ];
  };
}

first_stand : (l : Logic) (p : Program) (g : Graph) (last : ℕ → Config) → IsAccepted l p → IsMain l p → IsExecution p g last → AllStand l p g last []
first_stand l p g last accepted main ex = record {
  known = nothing_known;
  world = no_world;
  ground = first_ground l.asks g;
  owed = λ t. main.owed;
  thread = λ t begun unawaited. inl (elim begun [
    | inl z ↦ subst (λ (u : ℕ). Goes l p g [] nothing_known no_world (λ t. main.owed) u (last u)) (sym z) first
    | inr b ↦ elim b.1 [ ]
  ]);
}
  where
    call : Started
    call = record { proc = ex.main.0.proc; args = ex.main.0.args }

    none : children_of (start_of p ex.main.0.proc ex.main.0.args) ≡ []
    none = start_children (entered (slice_get p.procs ex.main.0.proc) ex.main.0.args None)

    first : Goes l p g [] nothing_known no_world (λ t. main.owed) 0 (last 0)
    first = record {
      config = start_of p ex.main.0.proc ex.main.0.args;
      moves = ex.main.0.moves;
      events = events_of g 0;
      runs = ex.moves 0 ex.main.0 ex.main.1;
      ahead = all_ahead g [] 0 (λ e x is t i. elim i [ ]);
      children = λ u i. elim (subst (λ (us : List ℕ). In u us) none i) [ ];
      pieces = [];
      fits = record { enough = λ a r. omega arith; right = tt };
      good = subst (λ (us : List ℕ). Good l p main.owed ex.main.0.moves (start_of p ex.main.0.proc ex.main.0.args) (map (λ t. main.owed) us) []) (sym none)
          (accepted main.owed call [] (main.starts call ex.main.2 ex.main.3) ex.main.0.moves);
      unended = λ e i c. elim i [ ];
    }

-- ---- along a forward order

to_the_end : (l : Logic) (p : Program) (g : Graph) (last : ℕ → Config) → IsAccepted l p → IsExecution p g last → IsConsistent g → IsAcyclic g → (rest done : List ℕ) → ((e : ℕ) → In e rest → e < length g.events)
    → IsClosed (Edge g) done → IsForwardFrom (Edge g) done rest → AllStand l p g last done → (all : List ℕ) × AllStand l p g last all × ((e : ℕ) → In e done → In e all) × ((e : ℕ) → In e rest → In e all)
to_the_end l p g last accepted ex consistent acyclic [] done there closed forward s = (done, s, (λ e i. i), (λ e i. elim i [ ]))
to_the_end l p g last accepted ex consistent acyclic (e ∷ rest) done there closed forward s =
    let x = each_number_is_one g e (there e (inl refl)) in
    let comes = next_comes g done rest e x.0 closed forward x.1 in
    let more = to_the_end l p g last accepted ex consistent acyclic rest (e ∷ done) (λ d i. there d (inr i)) comes.1 forward.2
    (step_by l p g last done e x.0 x.0.label refl accepted ex consistent acyclic comes.0 s) in
    (more.0, more.1, (λ d i. more.2 d (inr i)), (λ d i. elim i [ inl q ↦ more.2 d (inl q) | inr j ↦ more.3 d j ]))

-- ---- safety

-- where all events are done, no thread has failed
none_failed : (l : Logic) (p : Program) (g : Graph) (last : ℕ → Config) (done : List ℕ) → IsExecution p g last → AllStand l p g last done → ((e : ℕ) → e < length g.events → In e done) → (t : ℕ) → t < length g.threads
    → (IsAwaited g done t → ⊥) → last t ≡ failed → ⊥
none_failed l p g last done ex s all t there unawaited bad = by (s.thread t begun unawaited)
  where
    begun : IsBegun g done t
    begun = elim (cases_eq t 0) [
      | inl z ↦ inl z
      | inr n ↦ let f = ex.forked t (omega arith) there in inr (f.0, all f.0 (is_event g f.0 f.1.event f.1.is), f.1)
    ]

    by : Goes l p g done s.known s.world s.owed t (last t) ⊎ HasEnded l g done s.known s.world s.owed t (last t) → ⊥
    by (inr h) = absurd (let q : returned h.value ≡ failed = sym h.at ∙ bad in cc)
    by (inl h) = never_fails l p g done t (s.owed t) s.owed (last t) h.config h.moves h.events h.runs (none h.events h.ahead) s.known s.world h.pieces s.ground h.fits h.good bad
      where
        none : (es : List ℕ) → Ahead g done t es → es ≡ []
        none [] a = refl
        none (e ∷ es) a = let x = a.from e (inl refl) in absurd (a.new e (inl refl) (all e (is_event g e x.0 x.1)))

-- an execution whose events are all done, and whose threads all stand, is safe
all_safe : (l : Logic) (p : Program) (g : Graph) (last : ℕ → Config) (done : List ℕ) → IsExecution p g last → AllStand l p g last done → ((e : ℕ) → e < length g.events → In e done) → IsSafe g last
all_safe l p g last done ex s all = record {
  no_race = λ a b r. s.ground.safe.no_race a b (all a (is_event g a r.x r.accesses.is)) (all b (is_event g b r.y r.other.is)) r;
  initialised = λ e x t is reads. s.ground.safe.initialised e x t (all e (is_event g e x is)) is reads;
  allocated = λ e x c atomic changes a.
      let h = s.ground.safe.allocated e x c atomic changes (all e (is_event g e x a.is)) a in
      record { alloc = h.alloc; kind = h.kind; allocates = h.allocates; fits = h.fits };
  freed = λ e f x c atomic changes free a. s.ground.safe.freed e f x c atomic changes (all e (is_event g e x a.is)) (all f (is_event g f free.event free.is)) free a;
  no_failure = λ t there bad. none_failed l p g last done ex s all t there (λ w. absurd (let h = (ex.joined w.0 t w.1 w.3).1 in let q : returned w.1 ≡ failed = sym h ∙ bad in cc)) bad;
}

pub good_is_safe : GoodIsSafe
good_is_safe l p g last accepted main ex consistent acyclic =
    let order = forward_order g consistent acyclic in
    let end = to_the_end l p g last accepted ex consistent acyclic order.0 [] (λ e i. order.1.only e i) (λ a b r i. elim i [ ]) order.1.forward (first_stand l p g last accepted main ex) in
    all_safe l p g last end.0 ex end.1 (λ e b. end.3 e (order.1.every e b))
