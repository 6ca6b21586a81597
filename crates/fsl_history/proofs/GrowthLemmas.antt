-- One more move keeps an execution: its thread's moves go on, and nothing is so of the others that was not so before.
use Rattle.std.proofs.Common.{◌≡◌, ◌≤◌, ◌<◌, ◌==◌, ◌+◌, ◌++◌, ◌⊎◌, ℕ, zero, suc, ℤ, pos, ◌<ℤ◌, Bool, true, false, cond, List, [], ◌∷◌, length, length-append, map, slice_get, Option, Some, None, inl, inr, refl, ap, sym, subst, ◌∙◌, arith}
use Rattle.std.proofs.lemmas.Bool.{cases_eq, cases_lt, eqb-true, eqb-false, eq-eqb, ne_eqb}
use Rattle.fsl_core.specs.declared.label.Ended.{Ended}
use Rattle.fsl_core.specs.declared.label.Label.{Label}
use Rattle.fsl_core.specs.declared.label.Label.TheVariants as label
use Rattle.fsl_core.specs.declared.mode.AllocKind.{AllocKind}
use Rattle.fsl_core.specs.declared.need.Need.{Need}
use Rattle.fsl_core.specs.declared.need.Need.TheVariants as need
use Rattle.fsl_core.specs.declared.need.Reply.TheVariants as reply
use Rattle.fsl_core.specs.declared.need.Started.{Started}
use Rattle.fsl_core.specs.Moves.{Config, Moved, returned, showing, moved, need_of, start_of, numbers_from}
use Rattle.fsl_core.specs.Programs.{Program, main_of}
use Rattle.fsl_graph.specs.declared.event.Event.{Event}
use Rattle.fsl_graph.specs.declared.graph.Graph.{Graph}
use Rattle.fsl_graph.specs.declared.graph.Thread.{Thread}
use Rattle.fsl_graph.specs.Events.{Is}
use Rattle.fsl_graph.specs.Execution.{IsThread, numbered_of, events_of, first_of, IsStarted, AreStarted, Answers, reply_of, Runs, stands, silent, shows, Starts, Allocates, Awaits, IsExecution}
use Rattle.fsl_graph.specs.Sequenced.{In, thread_of}
use Rattle.fsl_history.specs.Growth.{one_more, begun, is_fork, IsGoing, MovesAlone, MovesBy, LocalMoveGoesOn, EventGoesOn, FirstGraphGoes}

-- ---- lists

get_front : {X : Type 0} (xs ys : List X) (i : ℕ) (x : X) → slice_get xs i ≡ Some x → slice_get (xs ++ ys) i ≡ Some x
get_front [] ys i x e = cc
get_front (y ∷ xs) ys zero x e = e
get_front (y ∷ xs) ys (suc i) x e = get_front xs ys i x e

get_last : {X : Type 0} (xs : List X) (x : X) → slice_get (xs ++ x ∷ []) (length xs) ≡ Some x
get_last [] x = refl
get_last (y ∷ xs) x = get_last xs x

get_cases : {X : Type 0} (xs ys : List X) (i : ℕ) (x : X) → slice_get (xs ++ ys) i ≡ Some x
    → (slice_get xs i ≡ Some x) ⊎ ((j : ℕ) × (i ≡ length xs + j) × (slice_get ys j ≡ Some x))
get_cases [] ys i x e = inr (i, omega arith, e)
get_cases (y ∷ xs) ys zero x e = inl e
get_cases (y ∷ xs) ys (suc i) x e = elim (get_cases xs ys i x e) [
  | inl old ↦ inl old
  | inr new ↦ (let at = new.1 in inr (new.0, omega (arith, at), new.2))
]

get_under : {X : Type 0} (xs : List X) (i : ℕ) (x : X) → slice_get xs i ≡ Some x → i < length xs
get_under [] i x e = cc
get_under (y ∷ xs) zero x e = omega arith
get_under (y ∷ xs) (suc i) x e = let rest = get_under xs i x e in omega (arith, rest)

-- ---- threads

length_more : (t : ℕ) (xs : List Thread) → length (one_more t xs) ≡ length xs
length_more t [] = refl
length_more zero (x ∷ xs) = refl
length_more (suc t) (x ∷ xs) = ap suc (length_more t xs)

length_begun : (cs : List Started) → length (begun cs) ≡ length cs
length_begun [] = refl
length_begun (c ∷ cs) = ap suc (length_begun cs)

-- the thread that moves, and the others
thread_moved : (t : ℕ) (xs : List Thread) (x : Thread) → slice_get xs t ≡ Some x → slice_get (one_more t xs) t ≡ Some (record x { moves = x.moves + 1 })
thread_moved t [] x e = cc
thread_moved zero (y ∷ xs) x e = let same : y ≡ x = cc in ap (λ (z : Thread). Some (record z { moves = z.moves + 1 })) same
thread_moved (suc t) (y ∷ xs) x e = thread_moved t xs x e

thread_stays : (t i : ℕ) (xs : List Thread) → (i ≡ t → ⊥) → slice_get (one_more t xs) i ≡ slice_get xs i
thread_stays t i [] apart = refl
thread_stays zero zero (x ∷ xs) apart = absurd (apart refl)
thread_stays zero (suc i) (x ∷ xs) apart = refl
thread_stays (suc t) zero (x ∷ xs) apart = refl
thread_stays (suc t) (suc i) (x ∷ xs) apart = thread_stays t i xs (λ e. apart (ap suc e))

-- each old thread is there with what it was started with
record Kept (g h : Graph) : Type 0 where
  threads : (i : ℕ) (x : Thread) → IsThread g i x → (y : Thread) × IsThread h i y × (y.proc ≡ x.proc) × (y.args ≡ x.args)
  events : (e : ℕ) (x : Event) → Is g e x → Is h e x

thread_kept : (t i : ℕ) (xs : List Thread) (x : Thread) → slice_get xs i ≡ Some x
    → (y : Thread) × (slice_get (one_more t xs) i ≡ Some y) × (y.proc ≡ x.proc) × (y.args ≡ x.args)
thread_kept t i xs x e = elim (cases_eq i t) [
  | inl same ↦ (
    record x { moves = x.moves + 1 },
    subst (λ j. slice_get (one_more t xs) j ≡ Some (record x { moves = x.moves + 1 })) (sym same)
        (thread_moved t xs x (subst (λ j. slice_get xs j ≡ Some x) same e)),
    refl,
    refl,
  )
  | inr apart ↦ (x, thread_stays t i xs apart ∙ e, refl, refl)
]

-- ---- runs in a graph that has more

started_kept : (g h : Graph) → Kept g h → (first : ℕ) (call : Started) → IsStarted g first call → IsStarted h first call
started_kept g h k first call s =
    let y = k.threads first s.0 s.1 in
    (y.0, y.1, y.2 ∙ s.2, y.3 ∙ s.3)

all_kept : (g h : Graph) → Kept g h → (first : ℕ) (calls : List Started) → AreStarted g first calls → AreStarted h first calls
all_kept g h k first [] s = tt
all_kept g h k first (call ∷ calls) s = (started_kept g h k first call s.0, all_kept g h k (suc first) calls s.1)

answers_kept : (g h : Graph) → Kept g h → (n : Need) (x : Label) → Answers g n x → Answers h n x
answers_kept g h k (need.Fork calls) (label.Fork children) s = all_kept g h k (first_of children) calls s
answers_kept g h k (need.Fork calls) _ s = tt
answers_kept g h k (need.Join children) (label.Join results) s = s
answers_kept g h k (need.Join children) _ s = tt
answers_kept g h k _ x s = tt

runs_kept : {p : Program} (g h : Graph) → Kept g h → {c d : Config} {n : ℕ} {es : List ℕ} → Runs p g c n es d → Runs p h c n es d
runs_kept g h k stands = stands
runs_kept g h k (silent is rest) = silent is (runs_kept g h k rest)
runs_kept g h k (shows x is makes answers rest) = shows x (k.events _ x is) makes (answers_kept g h k _ x.label answers) (runs_kept g h k rest)

then_silent : {p : Program} {g : Graph} {c d : Config} {n : ℕ} {es : List ℕ} → Runs p g c n es d → need_of p d ≡ need.Local
    → Runs p g c (suc n) es (moved p d reply.Nothing).config
then_silent stands h = silent h stands
then_silent (silent is rest) h = silent is (then_silent rest h)
then_silent (shows x is makes answers rest) h = shows x is makes answers (then_silent rest h)

then_shows : {p : Program} {g : Graph} {c d : Config} {n : ℕ} {es : List ℕ} (next : Config) (e : ℕ) (x : Event) → Runs p g c n es d → Is g e x
    → moved p d (reply_of x.label) ≡ showing x.label next → Answers g (need_of p d) x.label → Runs p g c (suc n) (es ++ e ∷ []) next
then_shows next e x stands is makes answers = shows x is makes answers stands
then_shows next e x (silent local rest) is makes answers = silent local (then_shows next e x rest is makes answers)
then_shows next e x (shows y was made did rest) is makes answers = shows y was made did (then_shows next e x rest is makes answers)

-- ---- the numbers of a thread's events

numbered_own : (t n : ℕ) (xs : List Event) (y : Event) → y.thread ≡ t → numbered_of t n (xs ++ y ∷ []) ≡ numbered_of t n xs ++ (n + length xs) ∷ []
numbered_own t n [] y own =
    let tested : (y.thread == t) ≡ true = eq-eqb y.thread t own in
    let at : n ≡ n + 0 = omega arith in
    rw tested (ap (λ k. k ∷ []) at)
numbered_own t n (x ∷ xs) y own =
    let at : suc n + length xs ≡ n + length (x ∷ xs) = omega arith in
    let rest = numbered_own t (suc n) xs y own in
    let there : numbered_of t (suc n) (xs ++ y ∷ []) ≡ numbered_of t (suc n) xs ++ (n + length (x ∷ xs)) ∷ [] =
    rest ∙ ap (λ k. numbered_of t (suc n) xs ++ k ∷ []) at in
    split (x.thread == t) there where
      split : (b : Bool) → numbered_of t (suc n) (xs ++ y ∷ []) ≡ numbered_of t (suc n) xs ++ (n + length (x ∷ xs)) ∷ []
          → cond b (n ∷ numbered_of t (suc n) (xs ++ y ∷ [])) (numbered_of t (suc n) (xs ++ y ∷ []))
          ≡ cond b (n ∷ numbered_of t (suc n) xs) (numbered_of t (suc n) xs) ++ (n + length (x ∷ xs)) ∷ []
      split true e = ap (λ (ks : List ℕ). n ∷ ks) e
      split false e = e

numbered_other : (t n : ℕ) (xs : List Event) (y : Event) → (y.thread ≡ t → ⊥) → numbered_of t n (xs ++ y ∷ []) ≡ numbered_of t n xs
numbered_other t n [] y apart = let tested : (y.thread == t) ≡ false = ne_eqb y.thread t apart in rw tested refl
numbered_other t n (x ∷ xs) y apart = split (x.thread == t) (numbered_other t (suc n) xs y apart)
  where
    split : (b : Bool) → numbered_of t (suc n) (xs ++ y ∷ []) ≡ numbered_of t (suc n) xs
        → cond b (n ∷ numbered_of t (suc n) (xs ++ y ∷ [])) (numbered_of t (suc n) (xs ++ y ∷ [])) ≡ cond b (n ∷ numbered_of t (suc n) xs) (numbered_of t (suc n) xs)
    split true e = ap (λ (ks : List ℕ). n ∷ ks) e
    split false e = e

-- a thread that is not there has none
numbered_none : (t n : ℕ) (xs : List Event) → ((e : ℕ) (x : Event) → slice_get xs e ≡ Some x → x.thread ≡ t → ⊥) → numbered_of t n xs ≡ []
numbered_none t n [] none = refl
numbered_none t n (x ∷ xs) none =
    let tested : (x.thread == t) ≡ false = ne_eqb x.thread t (none 0 x refl) in
    rw tested (numbered_none t (suc n) xs (λ e y is. none (suc e) y is))

-- ---- labels

-- a thread that has returned makes no move
not_returned : (p : Program) (c : Config) (v : ℤ) (x : Label) (next : Config) → moved p c (reply_of x) ≡ showing x next → c ≡ returned v → ⊥
not_returned p c v x next makes is =
    let none : (moved p c (reply_of x)).label ≡ None = subst (λ (k : Config). (moved p k (reply_of x)).label ≡ None) (sym is) refl in
    let some : (moved p c (reply_of x)).label ≡ Some x = ap (λ (m : Moved). m.label) makes in
    cc

not_local : (p : Program) (c : Config) (v : ℤ) → need_of p c ≡ need.Local → c ≡ returned v → ⊥
not_local p c v local is =
    let asks : need_of p c ≡ need.Returned v = subst (λ (k : Config). need_of p k ≡ need.Returned v) (sym is) refl in
    cc

in_numbers : (first n u : ℕ) → first ≤ u → u < first + n → In u (numbers_from first n)
in_numbers first zero u a b = absurd (omega (arith, a, b))
in_numbers first (suc n) u a b = elim (cases_eq u first) [
  | inl same ↦ inl same
  | inr apart ↦ inr (in_numbers (first + 1) n u (omega (arith, a, apart)) (omega (arith, b)))
]

number_within : (first n u : ℕ) → In u (numbers_from first n) → (first ≤ u) × (u < first + n)
number_within first zero u i = absurd i
number_within first (suc n) u (inl same) = (omega (arith, same), omega (arith, same))
number_within first (suc n) u (inr i) = let rest = number_within (first + 1) n u i in let a = rest.0 in let b = rest.1 in (omega (arith, a), omega (arith, b))

fork_or_not : (x : Label) → ((ts : List ℕ) × (x ≡ label.Fork ts)) ⊎ (is_fork x ≡ false)
fork_or_not (label.Fork ts) = inl (ts, refl)
fork_or_not (label.Alloc k l) = inr refl
fork_or_not (label.Free l) = inr refl
fork_or_not (label.Load m l v) = inr refl
fork_or_not (label.Store m l v) = inr refl
fork_or_not (label.Rmw m l o n) = inr refl
fork_or_not (label.Fence m) = inr refl
fork_or_not (label.Join rs) = inr refl
fork_or_not (label.Print v) = inr refl
fork_or_not (label.End v) = inr refl

get_there : {X : Type 0} (xs : List X) (i : ℕ) → i < length xs → (x : X) × (slice_get xs i ≡ Some x)
get_there [] i less = absurd (omega (arith, less))
get_there (x ∷ xs) zero less = (x, refl)
get_there (x ∷ xs) (suc i) less = get_there xs i (omega (arith, less))

begun_at : (cs : List Started) (j : ℕ) (y : Thread) → slice_get (begun cs) j ≡ Some y
    → (c : Started) × (slice_get cs j ≡ Some c) × (record { proc = c.proc; args = c.args; moves = 0 } ≡ y)
begun_at [] j y e = cc
begun_at (c ∷ cs) zero y e = (c, refl, cc)
begun_at (c ∷ cs) (suc j) y e = begun_at cs j y e

-- ---- runs of all threads

-- what the run of a thread is told by
abbrev RunsTo : Program → Graph → (ℕ → Config) → ℕ → Thread → Type 0
RunsTo p g last i x = Runs p g (start_of p x.proc x.args) x.moves (events_of g i) (last i)

own_run : (p : Program) (g h : Graph) (last after : ℕ → Config) (x : Event) (y : Thread) → Kept g h → Is h (length g.events) x
    → h.events ≡ g.events ++ x ∷ [] → moved p (last x.thread) (reply_of x.label) ≡ showing x.label (after x.thread)
    → Answers h (need_of p (last x.thread)) x.label → RunsTo p g last x.thread y
    → RunsTo p h after x.thread (record y { moves = y.moves + 1 })
own_run p g h last after x y k is events makes answers run =
    let one : suc y.moves ≡ y.moves + 1 = omega arith in
    let at : 0 + length g.events ≡ length g.events = omega arith in
    let numbers : events_of h x.thread ≡ events_of g x.thread ++ length g.events ∷ [] =
    ap (λ (es : List Event). numbered_of x.thread 0 es) events ∙ numbered_own x.thread 0 g.events x refl ∙ ap (λ e. events_of g x.thread ++ e ∷ []) at in
    subst (λ (es : List ℕ). Runs p h (start_of p y.proc y.args) (y.moves + 1) es (after x.thread)) (sym numbers)
    (subst (λ n. Runs p h (start_of p y.proc y.args) n (events_of g x.thread ++ length g.events ∷ []) (after x.thread)) one
    (then_shows (after x.thread) (length g.events) x (runs_kept g h k run) is makes answers))

other_run : (p : Program) (g h : Graph) (last after : ℕ → Config) (i : ℕ) (y : Thread) → Kept g h → events_of h i ≡ events_of g i → after i ≡ last i
    → RunsTo p g last i y → RunsTo p h after i y
other_run p g h last after i y k numbers same run =
    subst (λ (es : List ℕ). Runs p h (start_of p y.proc y.args) y.moves es (after i)) (sym numbers)
    (subst (λ (c : Config). Runs p h (start_of p y.proc y.args) y.moves (events_of g i) c) (sym same) (runs_kept g h k run))

new_run : (p : Program) (h : Graph) (after : ℕ → Config) (i : ℕ) (c : Started) → events_of h i ≡ [] → after i ≡ start_of p c.proc c.args
    → RunsTo p h after i (record { proc = c.proc; args = c.args; moves = 0 })
new_run p h after i c numbers same =
    subst (λ (es : List ℕ). Runs p h (start_of p c.proc c.args) 0 es (after i)) (sym numbers)
    (subst (λ (d : Config). Runs p h (start_of p c.proc c.args) 0 [] d) (sym same) stands)

-- ---- the graph with one more event

record Facts (p : Program) (g h : Graph) (last after : ℕ → Config) (x : Event) (calls : List Started) : Type 0 where
  kept : Kept g h
  size : length h.threads ≡ length g.threads + length calls
  is : Is h (length g.events) x
  back : (e : ℕ) (y : Event) → Is h e y → Is g e y ⊎ ((e ≡ length g.events) × (y ≡ x))

facts : (p : Program) (g h : Graph) (last after : ℕ → Config) (x : Event) (calls : List Started) → MovesBy p g h last after x calls → Facts p g h last after x calls
facts p g h last after x calls m = record {
  kept = record {
    threads = λ i y is. (
        let old = thread_kept x.thread i g.threads y is in
        (old.0, ap (λ (ts : List Thread). slice_get ts i) m.threads ∙ get_front (one_more x.thread g.threads) (begun calls) i old.0 old.1, old.2, old.3));
    events = λ e y is. ap (λ (es : List Event). slice_get es e) m.events ∙ get_front g.events (x ∷ []) e y is;
  };
  size = (
      let a = ap length m.threads ∙ length-append (one_more x.thread g.threads) (begun calls) in
      let b = length_more x.thread g.threads in
      let c = length_begun calls in
      omega (arith, a, b, c));
  is = ap (λ (es : List Event). slice_get es (length g.events)) m.events ∙ get_last g.events x;
  back = λ e y is. elim (get_cases g.events (x ∷ []) e y (ap (λ (es : List Event). slice_get es e) (sym m.events) ∙ is)) [
    | inl old ↦ inl old
    | inr new ↦ inr (at_end new.0 (new.1) new.2)
  ];
}
  where
    at_end : {e : ℕ} {y : Event} (j : ℕ) → e ≡ length g.events + j → slice_get (x ∷ []) j ≡ Some y → (e ≡ length g.events) × (y ≡ x)
    at_end zero at got = (omega (arith, at), cc)
    at_end (suc j) at got = cc

-- a Fork of the whole is an old one, or the new event
starts_cases : (p : Program) (g h : Graph) (last after : ℕ → Config) (x : Event) (calls : List Started) → Facts p g h last after x calls
    → (e u : ℕ) → Starts h e u → Starts g e u ⊎ ((e ≡ length g.events) × ((ts : List ℕ) × (x.label ≡ label.Fork ts) × In u ts))
starts_cases p g h last after x calls f e u s = elim (f.back e s.event s.is) [
  | inl old ↦ inl (record { event = s.event; is = old; children = s.children; forks = s.forks; child = s.child })
  | inr new ↦ inr (new.0, (s.children, ap (λ (y : Event). y.label) (sym new.1) ∙ s.forks, s.child))
]

new_child : (p : Program) (g h : Graph) (last after : ℕ → Config) (x : Event) (calls : List Started) → MovesBy p g h last after x calls
    → (u : ℕ) (ts : List ℕ) → x.label ≡ label.Fork ts → In u ts → (length g.threads ≤ u) × (u < length g.threads + length calls)
new_child p g h last after x calls m u ts forks child =
    number_within (length g.threads) (length calls) u (subst (λ (ns : List ℕ). In u ns) (m.forks ts forks) child)

-- what a child of the whole is
started_once : (p : Program) (g h : Graph) (last after : ℕ → Config) (x : Event) (calls : List Started) → IsGoing p g last → MovesBy p g h last after x calls
    → Facts p g h last after x calls → (d e u : ℕ) → Starts h d u → Starts h e u → d ≡ e
started_once p g h last after x calls going m f d e u s r = elim (starts_cases p g h last after x calls f d u s) [
  | inl old ↦ elim (starts_cases p g h last after x calls f e u r) [
    | inl same ↦ going.execution.once d e u old same
    | inr new ↦ (
        let under = going.there d u old in
        let above = (new_child p g h last after x calls m u new.1.0 new.1.1 new.1.2).0 in
        absurd (omega (arith, under, above)))
  ]
  | inr new ↦ elim (starts_cases p g h last after x calls f e u r) [
    | inl old ↦ (
        let under = going.there e u old in
        let above = (new_child p g h last after x calls m u new.1.0 new.1.1 new.1.2).0 in
        absurd (omega (arith, under, above)))
    | inr also ↦ new.0 ∙ sym also.0
  ]
]

-- the run of each thread of the whole
runs_on : (p : Program) (g h : Graph) (last after : ℕ → Config) (x : Event) (calls : List Started) → IsGoing p g last → MovesBy p g h last after x calls
    → Facts p g h last after x calls → (i : ℕ) (y : Thread) → IsThread h i y → RunsTo p h after i y
runs_on p g h last after x calls going m f i y is =
    elim (get_cases (one_more x.thread g.threads) (begun calls) i y (ap (λ (ts : List Thread). slice_get ts i) (sym m.threads) ∙ is)) [
      | inl old ↦ elim (cases_eq i x.thread) [
        | inl same ↦ own same old
        | inr apart ↦ other apart old
      ]
      | inr new ↦ started new.0 new.1 new.2
    ]
  where
    own : i ≡ x.thread → slice_get (one_more x.thread g.threads) i ≡ Some y → RunsTo p h after i y
    own same old =
        let was = get_there g.threads x.thread m.there in
        let now = thread_moved x.thread g.threads was.0 was.1 in
        let at : slice_get (one_more x.thread g.threads) x.thread ≡ Some y = subst (λ j. slice_get (one_more x.thread g.threads) j ≡ Some y) same old in
        let thread : record was.0 { moves = was.0.moves + 1 } ≡ y = cc in
        let run = own_run p g h last after x was.0 f.kept f.is m.events m.moves m.answers (going.execution.moves x.thread was.0 was.1) in
        subst (λ j. RunsTo p h after j y) (sym same) (subst (λ (z : Thread). RunsTo p h after x.thread z) thread run)

    other : (i ≡ x.thread → ⊥) → slice_get (one_more x.thread g.threads) i ≡ Some y → RunsTo p h after i y
    other apart old =
        let was : slice_get g.threads i ≡ Some y = sym (thread_stays x.thread i g.threads apart) ∙ old in
        let under = get_under g.threads i y was in
        let numbers : events_of h i ≡ events_of g i =
        ap (λ (es : List Event). numbered_of i 0 es) m.events ∙ numbered_other i 0 g.events x (λ e. apart (sym e)) in
        other_run p g h last after i y f.kept numbers (m.others i under apart) (going.execution.moves i y was)

    started : (j : ℕ) → i ≡ length (one_more x.thread g.threads) + j → slice_get (begun calls) j ≡ Some y → RunsTo p h after i y
    started j at got =
        let call = begun_at calls j y got in
        let size = length_more x.thread g.threads in
        let number : i ≡ length g.threads + j = omega (arith, at, size) in
        let mine = m.there in
        let none : events_of h i ≡ [] = ap (λ (es : List Event). numbered_of i 0 es) m.events
        ∙ numbered_other i 0 g.events x (λ e. omega (arith, e, number, mine))
        ∙ numbered_none i 0 g.events (λ e z there own. (let under = going.execution.known e z there in omega (arith, own, under, number))) in
        let stood : after i ≡ start_of p call.0.proc call.0.args = ap after number ∙ m.starts j call.0 call.1 in
        subst (λ (z : Thread). RunsTo p h after i z) call.2 (new_run p h after i call.0 none stood)

pub event_goes_on : EventGoesOn
event_goes_on p g h last after x calls going m = record { execution = whole; there = below }
  where
    f : Facts p g h last after x calls
    f = facts p g h last after x calls m

    below : (e u : ℕ) → Starts h e u → u < length h.threads
    below e u s = elim (starts_cases p g h last after x calls f e u s) [
      | inl old ↦ (let under = going.there e u old in let size = f.size in omega (arith, under, size))
      | inr new ↦ (let under = (new_child p g h last after x calls m u new.1.0 new.1.1 new.1.2).1 in let size = f.size in omega (arith, under, size))
    ]

    child : (u : ℕ) → length g.threads ≤ u → u < length h.threads → (e : ℕ) × Starts h e u
    child u above under = elim (fork_or_not x.label) [
      | inl fork ↦ (
          let size = f.size in
          let numbers = m.forks fork.0 fork.1 in (
            length g.events,
            record {
              event = x;
              is = f.is;
              children = fork.0;
              forks = fork.1;
              child = subst (λ (ns : List ℕ). In u ns) (sym numbers) (in_numbers (length g.threads) (length calls) u above (omega (arith, under, size)));
            },
          ))
      | inr none ↦ (
          let size = f.size in
          let empty = ap length (m.alone none) in
          absurd (omega (arith, size, empty, above, under)))
    ]

    stays : (u : ℕ) (v : ℤ) → u < length g.threads → last u ≡ returned v → (u < length h.threads) × (after u ≡ returned v)
    stays u v under is =
        let size = f.size in
        let apart : u ≡ x.thread → ⊥ = λ same. not_returned p (last x.thread) v x.label (after x.thread) m.moves (ap last (sym same) ∙ is) in
        (omega (arith, under, size), m.others u under apart ∙ is)

    kept_allocates : (e : ℕ) (k : AllocKind) (l : ℤ) → Allocates h e k l → Allocates g e k l ⊎ ((e ≡ length g.events) × (x.label ≡ label.Alloc k l))
    kept_allocates e k l a = elim (f.back e a.event a.is) [
      | inl old ↦ inl (record { event = a.event; is = old; allocates = a.allocates })
      | inr new ↦ inr (new.0, ap (λ (y : Event). y.label) (sym new.1) ∙ a.allocates)
    ]

    main : (thread : Thread) × IsThread g 0 thread × (main_of p ≡ Some thread.proc) × (thread.args ≡ [])
    main = going.execution.main

    whole : IsExecution p h after
    whole = record {
      main = (let y = f.kept.threads 0 main.0 main.1 in (y.0, y.1, main.2 ∙ ap Some (sym y.2), y.3 ∙ main.3));
      forked = λ u some under. elim (cases_lt u (length g.threads)) [
        | inl old ↦ (
            let s = going.execution.forked u some old in
            (s.0, record { event = s.1.event; is = f.kept.events s.0 s.1.event s.1.is; children = s.1.children; forks = s.1.forks; child = s.1.child }))
        | inr new ↦ child u new under
      ];
      first = λ e s. elim (starts_cases p g h last after x calls f e 0 s) [
        | inl old ↦ going.execution.first e old
        | inr new ↦ (let above = (new_child p g h last after x calls m 0 new.1.0 new.1.1 new.1.2).0 in let mine = m.there in omega (arith, above, mine))
      ];
      once = started_once p g h last after x calls going m f;
      known = λ e y is. elim (f.back e y is) [
        | inl old ↦ (let under = going.execution.known e y old in let size = f.size in omega (arith, under, size))
        | inr new ↦ (let thread = ap (λ (z : Event). z.thread) new.1 in let mine = m.there in let size = f.size in omega (arith, thread, mine, size))
      ];
      moves = runs_on p g h last after x calls going m f;
      joined = λ e u v a. elim (f.back e a.event a.is) [
        | inl old ↦ (
            let done = going.execution.joined e u v (record { event = a.event; is = old; results = a.results; joins = a.joins; entry = a.entry; ended = a.ended; among = a.among; thread = a.thread; value = a.value }) in
            stays u v done.0 done.1)
        | inr new ↦ (
            let done = m.joins a.results a.entry a.ended (ap (λ (y : Event). y.label) (sym new.1) ∙ a.joins) a.among in
            let under : u < length g.threads = subst (λ k. k < length g.threads) a.thread done.0 in
            let is : last u ≡ returned v = ap last (sym a.thread) ∙ done.1 ∙ ap returned a.value in
            stays u v under is)
      ];
      positive = λ e k l a. elim (kept_allocates e k l a) [
        | inl old ↦ going.execution.positive e k l old
        | inr new ↦ (m.allocates k l new.1).0
      ];
      distinct = λ d e j k l a b. elim (kept_allocates d j l a) [
        | inl old ↦ elim (kept_allocates e k l b) [
          | inl also ↦ going.execution.distinct d e j k l old also
          | inr new ↦ absurd ((m.allocates k l new.1).1 d j old)
        ]
        | inr new ↦ elim (kept_allocates e k l b) [
          | inl old ↦ absurd ((m.allocates j l new.1).1 e k old)
          | inr also ↦ new.0 ∙ sym also.0
        ]
      ];
    }

-- ---- a local move

local_kept : (p : Program) (g h : Graph) (last after : ℕ → Config) (t : ℕ) → MovesAlone p g h last after t → Kept g h
local_kept p g h last after t m = record {
  threads = λ i y is. (
      let old = thread_kept t i g.threads y is in
      (old.0, ap (λ (ts : List Thread). slice_get ts i) m.threads ∙ old.1, old.2, old.3));
  events = λ e y is. ap (λ (es : List Event). slice_get es e) m.events ∙ is;
}

local_run : (p : Program) (g h : Graph) (last after : ℕ → Config) (t : ℕ) → IsExecution p g last → MovesAlone p g h last after t
    → (i : ℕ) (y : Thread) → IsThread h i y → RunsTo p h after i y
local_run p g h last after t done m i y is = elim (cases_eq i t) [
  | inl same ↦ own same
  | inr apart ↦ other apart
]
  where
    at : slice_get (one_more t g.threads) i ≡ Some y
    at = ap (λ (ts : List Thread). slice_get ts i) (sym m.threads) ∙ is

    kept : Kept g h
    kept = local_kept p g h last after t m

    numbers : events_of h i ≡ events_of g i
    numbers = ap (λ (es : List Event). numbered_of i 0 es) m.events

    own : i ≡ t → RunsTo p h after i y
    own same =
        let was = get_there g.threads t m.there in
        let now = thread_moved t g.threads was.0 was.1 in
        let here : slice_get (one_more t g.threads) t ≡ Some y = subst (λ j. slice_get (one_more t g.threads) j ≡ Some y) same at in
        let thread : record was.0 { moves = was.0.moves + 1 } ≡ y = cc in
        let one : suc was.0.moves ≡ was.0.moves + 1 = omega arith in
        let events : events_of g t ≡ events_of h i = ap (events_of g) (sym same) ∙ sym numbers in
        let config : (moved p (last t) reply.Nothing).config ≡ after i = sym m.moves ∙ ap after (sym same) in
        let run = then_silent (runs_kept g h kept (done.moves t was.0 was.1)) m.local in
        subst (λ (z : Thread). RunsTo p h after i z) thread
        (subst (λ n. Runs p h (start_of p was.0.proc was.0.args) n (events_of h i) (after i)) one
        (subst (λ (es : List ℕ). Runs p h (start_of p was.0.proc was.0.args) (suc was.0.moves) es (after i)) events
        (subst (λ (c : Config). Runs p h (start_of p was.0.proc was.0.args) (suc was.0.moves) (events_of g t) c) config run)))

    other : (i ≡ t → ⊥) → RunsTo p h after i y
    other apart =
        let was : slice_get g.threads i ≡ Some y = sym (thread_stays t i g.threads apart) ∙ at in
        other_run p g h last after i y kept numbers (m.others i apart) (done.moves i y was)

pub local_move_goes_on : LocalMoveGoesOn
local_move_goes_on p g h last after t going m = record {
  execution = record {
    main = (let main = going.execution.main in let y = kept.threads 0 main.0 main.1 in (y.0, y.1, main.2 ∙ ap Some (sym y.2), y.3 ∙ main.3));
    forked = λ u some under. (
        let s = going.execution.forked u some (omega (arith, under, size)) in
        (s.0, record { event = s.1.event; is = kept.events s.0 s.1.event s.1.is; children = s.1.children; forks = s.1.forks; child = s.1.child }));
    first = λ e s. going.execution.first e (back e 0 s);
    once = λ d e u s r. going.execution.once d e u (back d u s) (back e u r);
    known = λ e y is. (let under = going.execution.known e y (old e y is) in omega (arith, under, size));
    moves = local_run p g h last after t going.execution m;
    joined = λ e u v a. (
        let done = going.execution.joined e u v (record { event = a.event; is = old e a.event a.is; results = a.results; joins = a.joins; entry = a.entry; ended = a.ended; among = a.among; thread = a.thread; value = a.value }) in
        let under = done.0 in
        let apart : u ≡ t → ⊥ = λ same. not_local p (last t) v m.local (ap last (sym same) ∙ done.1) in
        (omega (arith, under, size), m.others u apart ∙ done.1));
    positive = λ e k l a. going.execution.positive e k l (allocated e k l a);
    distinct = λ d e j k l a b. going.execution.distinct d e j k l (allocated d j l a) (allocated e k l b);
  };
  there = λ e u s. (let under = going.there e u (back e u s) in omega (arith, under, size));
}
  where
    kept : Kept g h
    kept = local_kept p g h last after t m

    size : length h.threads ≡ length g.threads
    size = ap length m.threads ∙ length_more t g.threads

    old : (e : ℕ) (y : Event) → Is h e y → Is g e y
    old e y is = ap (λ (es : List Event). slice_get es e) (sym m.events) ∙ is

    back : (e u : ℕ) → Starts h e u → Starts g e u
    back e u s = record { event = s.event; is = old e s.event s.is; children = s.children; forks = s.forks; child = s.child }

    allocated : (e : ℕ) (k : AllocKind) (l : ℤ) → Allocates h e k l → Allocates g e k l
    allocated e k l a = record { event = a.event; is = old e a.event a.is; allocates = a.allocates }

-- ---- the first graph

nothing_there : (g : Graph) (e : ℕ) (x : Event) → g.events ≡ [] → Is g e x → ⊥
nothing_there g e x none is = let got : slice_get [] e ≡ Some x = ap (λ (es : List Event). slice_get es e) (sym none) ∙ is in cc

pub first_graph_goes : FirstGraphGoes
first_graph_goes p g proc main threads none = record {
  execution = record {
    main = (thread, ap (λ (ts : List Thread). slice_get ts 0) threads, main, refl);
    forked = λ u some under. (let size = ap length threads in absurd (omega (arith, size, some, under)));
    first = λ e s. nothing_there g e s.event none s.is;
    once = λ d e u s r. absurd (nothing_there g d s.event none s.is);
    known = λ e y is. absurd (nothing_there g e y none is);
    moves = λ i y is. runs i y (ap (λ (ts : List Thread). slice_get ts i) (sym threads) ∙ is);
    joined = λ e u v a. absurd (nothing_there g e a.event none a.is);
    positive = λ e k l a. absurd (nothing_there g e a.event none a.is);
    distinct = λ d e j k l a b. absurd (nothing_there g d a.event none a.is);
  };
  there = λ e u s. absurd (nothing_there g e s.event none s.is);
}
  where
    thread : Thread
    thread = record { proc = proc; args = []; moves = 0 }

    runs : (i : ℕ) (y : Thread) → slice_get (thread ∷ []) i ≡ Some y → RunsTo p g (λ t. start_of p proc []) i y
    runs zero y e =
        let same : thread ≡ y = cc in
        let numbers : events_of g 0 ≡ [] = ap (λ (es : List Event). numbered_of 0 0 es) none in
        subst (λ (z : Thread). RunsTo p g (λ t. start_of p proc []) 0 z) same
        (subst (λ (es : List ℕ). Runs p g (start_of p proc []) 0 es (start_of p proc [])) (sym numbers) stands)
    runs (suc i) y e = cc
