-- Threads are started: each gets what its start takes.
use Rattle.std.proofs.Common.{◌≡◌, ◌≤◌, ◌<◌, ◌+◌, ◌==◌, ℕ, zero, suc, Bool, true, false, if◌then◌else◌, ◌⊎◌, inl, inr, List, [], ◌∷◌, ◌++◌, map, length, Option, Some, None, slice_get, ℤ, refl, sym, ap, subst, ◌∙◌, arith}
use Rattle.std.proofs.lemmas.Bool.{cases_eq, cases_Bool, eqb-true, eq-eqb}
use Rattle.fsl_core.specs.declared.label.Label.{Label}
use Rattle.fsl_core.specs.declared.label.Label.TheVariants as label
use Rattle.fsl_core.specs.declared.need.Need.{Need}
use Rattle.fsl_core.specs.declared.need.Need.TheVariants as need
use Rattle.fsl_core.specs.declared.need.Started.{Started}
use Rattle.fsl_core.specs.declared.declaration.Proc.{Proc}
use Rattle.fsl_core.specs.Programs.{Program}
use Rattle.fsl_core.specs.Moves.{Config, Frame, need_of, numbers_from, start_of, started_at, entered}
use Rattle.fsl_graph.specs.declared.event.Event.{Event}
use Rattle.fsl_graph.specs.declared.graph.Graph.{Graph}
use Rattle.fsl_graph.specs.declared.graph.Thread.{Thread}
use Rattle.fsl_graph.specs.Events.{Is, read_by, written_by}
use Rattle.fsl_graph.specs.Sequenced.{In, Edge}
use Rattle.fsl_graph.specs.Sequenced.SbEdge.{by_fork as fork_edge}
use Rattle.fsl_graph.specs.Sequenced.Edge.{by_sb}
use Rattle.fsl_graph.specs.Execution.{Runs, Answers, AreStarted, IsStarted, IsThread, Starts, Awaits, IsExecution, first_of, events_of, reply_of}
use Rattle.fsl_graph.specs.Keeping.{children_of, IsAsked, Leads}
use Rattle.fsl_graph.specs.Safe.{access_by}
use Rattle.fsl_graph.specs.Orders.{Comes}
use Rattle.fsl_graph.specs.Positions.{Holder}
use Rattle.fsl_graph.specs.Positions.{Holder as holder}
use Rattle.fsl_graph.proofs.Keeping.{labels_are_asked}
use Rattle.fsl_graph.proofs.Threads.{one_event, all_ahead}
use Rattle.fsl_own.specs.Knowledge.{Tells}
use Rattle.fsl_own.specs.Owning.{Resource, World, Known, KeepsDeals}
use Rattle.fsl_own.specs.Atoms.{Atom, demand}
use Rattle.fsl_own.proofs.Telling.{fork_tells}
use Rattle.fsl_ground.specs.Ground.{Meaning, Ground}
use Rattle.fsl_ground.proofs.Ground.{same_agrees}
use Rattle.fsl_ground.proofs.Cells.{quiet_keeps}
use Rattle.fsl_good.specs.Pieces.{together, Level, AtPlain, holder_of, Piece, all_placed, demand_at, Fits}
use Rattle.fsl_good.specs.Good.{Logic, Good, Allows, EachStarts, Spawns}
use Rattle.fsl_good.specs.Keeping.{Keeps}
use Rattle.fsl_good.proofs.Pieces.{demand_more, right_first, fits_entailed}
use Rattle.fsl_good.proofs.Shifting.{keeps_then}
use Rattle.fsl_good.proofs.Acting.{fits_later, other_holder}
use Rattle.fsl_good.proofs.Sending.{placed_more}
use Rattle.fsl_safe.specs.Threads.{IsBegun, IsAwaited, IsChild, Ends, Goes, HasEnded, AllStand, IsAccepted}
use Rattle.fsl_safe.proofs.Advancing.{Reached, same_keeps}
use Rattle.fsl_safe.proofs.Standing.{ahead_own, awaited_done, Left, stands_after}
use Rattle.fsl_safe.proofs.Stepping.{Mover, mover, allowed, leads_on, no_join, unawaited_before}
use Rattle.fsl_safe.proofs.Handing.{plain_demand, Given, give, given_right, front_goes, front_comes, others_keep, fits_more, pieces_behind}

-- ---- who owes what

-- from a number on, these are owed
with_owed : {A : Type 0} → ℕ → List A → (ℕ → A) → ℕ → A
with_owed first [] owed u = owed u
with_owed first (o ∷ os) owed u = if u == first then o else with_owed (first + 1) os owed u

above_first : (first n u : ℕ) → In u (numbers_from first n) → first ≤ u
above_first first zero u i = elim i [ ]
above_first first (suc n) u (inl q) = omega (arith, q)
above_first first (suc n) u (inr i) = let l = above_first (first + 1) n u i in omega arith

owed_first : {A : Type 0} (first : ℕ) (o : A) (os : List A) (owed : ℕ → A) → with_owed first (o ∷ os) owed first ≡ o
unfolding with_owed
owed_first first o os owed = let e = eq-eqb first first refl in rw e refl

owed_behind : {A : Type 0} (first : ℕ) (o : A) (os : List A) (owed : ℕ → A) (u : ℕ) → (u ≡ first → ⊥) → with_owed first (o ∷ os) owed u ≡ with_owed (first + 1) os owed u
unfolding with_owed
owed_behind first o os owed u n = elim (cases_Bool (u == first)) [ inl t ↦ absurd (n (eqb-true u first t)) | inr f ↦ rw f refl ]

owed_none : {A : Type 0} (first : ℕ) (owed : ℕ → A) (u : ℕ) → with_owed first [] owed u ≡ owed u
unfolding with_owed
owed_none first owed u = refl

owed_other : {A : Type 0} (first : ℕ) (os : List A) (owed : ℕ → A) (u : ℕ) → (In u (numbers_from first (length os)) → ⊥) → with_owed first os owed u ≡ owed u
owed_other first [] owed u n = owed_none first owed u
owed_other first (o ∷ os) owed u n = owed_behind first o os owed u (λ q. n (inl q)) ∙ owed_other (first + 1) os owed u (λ i. n (inr i))

owed_all : {A : Type 0} (first : ℕ) (os : List A) (owed : ℕ → A) → map (with_owed first os owed) (numbers_from first (length os)) ≡ os
owed_all first [] owed = refl
owed_all first (o ∷ os) owed =
    let e = owed_first first o os owed in
    let r = shifted (numbers_from (first + 1) (length os)) (λ u i. let l = above_first (first + 1) (length os) u i in omega arith) in
    let s = owed_all (first + 1) os owed in
    cc
  where
    shifted : (us : List ℕ) → ((u : ℕ) → In u us → first < u) → map (with_owed first (o ∷ os) owed) us ≡ map (with_owed (first + 1) os owed) us
    shifted [] h = refl
    shifted (u ∷ us) h =
        let e = owed_behind first o os owed u (λ q. absurd (let l = h u (inl refl) in omega arith)) in
        let r = shifted us (λ v i. h v (inr i)) in
        cc

-- ---- gifts to children

record Spawned (asks : Meaning) (g : Graph) (done : List ℕ) (k : Known) (w : World) (t first : ℕ) (atoms : List (List Atom)) (rest : List Piece) : Type 0 where
  world : World
  ground : Ground asks g done [] k world
  fits : Fits g done k world t rest
  each : (j : ℕ) (ys : List Atom) → slice_get atoms j ≡ Some ys → Fits g done k world (first + j) (all_placed AtPlain ys)
  others : (u : ℕ) (a : Level) → (u ≡ t → ⊥) → Keeps k k w world (holder_of u a)

no_pieces : (g : Graph) (done : List ℕ) (k : Known) (w : World) (u : ℕ) → Fits g done k w u []
no_pieces g done k w u = record { enough = λ a r. omega arith; right = tt }

append_none : (xs : List Piece) → xs ++ [] ≡ xs
append_none [] = refl
append_none (x ∷ xs) = ap (λ (p : List Piece). x ∷ p) (append_none xs)

spawn_all : (asks : Meaning) (g : Graph) (done : List ℕ) (k : Known) (t : ℕ) (rest : List Piece) (atoms : List (List Atom)) (first n : ℕ) (w : World) → length atoms ≡ n → Ground asks g done [] k w
    → Fits g done k w t (all_placed AtPlain (together atoms) ++ rest) → ((u : ℕ) → In u (numbers_from first n) → (t ≡ u → ⊥) × Tells g done (holder.Plain t) (holder.Plain u)) → Spawned asks g done k w t first atoms rest
spawn_all asks g done k t rest [] first n w long x f children = record {
  world = w;
  ground = x;
  fits = f;
  each = λ j ys e. absurd (let q : None ≡ Some ys = e in cc);
  others = λ u a m. same_keeps k w (holder_of u a);
}
spawn_all asks g done k t rest (ys ∷ atoms) first zero w long x f children = absurd (omega (arith, long))
spawn_all asks g done k t rest (ys ∷ atoms) first (suc n) w long x f children =
    from (give asks g done k w t first ys x (λ r. let p = whole.enough AtPlain r in let q = demand_more AtPlain (all_placed AtPlain ys) behind r in let s = plain_demand AtPlain ys r in omega arith) here.1)
    (λ v y h. spawn_all asks g done k t rest atoms (first + 1) n v (omega (arith, long)) y h (λ u i. children u (inr i)))
  where
    here : (t ≡ first → ⊥) × Tells g done (holder.Plain t) (holder.Plain first)
    here = children first (inl refl)

    behind : List Piece
    behind = all_placed AtPlain (together atoms) ++ rest

    whole : Fits g done k w t (all_placed AtPlain ys ++ (all_placed AtPlain (together atoms) ++ rest))
    whole = subst (λ (p : List Piece). Fits g done k w t p)
        (ap (λ (p : List Piece). p ++ rest) (placed_more AtPlain ys (together atoms)) ∙ pieces_behind (all_placed AtPlain ys) (all_placed AtPlain (together atoms)) rest) f

    own : (v : Given asks g done k w t first ys) → Fits g done k v.world first (all_placed AtPlain ys)
    own v = subst (λ (p : List Piece). Fits g done k v.world first p) (append_none (all_placed AtPlain ys))
        (front_comes g done k w v.world t first ys [] here.0 v.gift (given_right g done k t first ys here.1 (right_first g done k t (all_placed AtPlain ys) (all_placed AtPlain (together atoms) ++ rest) whole.right)) (no_pieces g done k w first))

    each_of : (v : Given asks g done k w t first ys) → (more : Spawned asks g done k v.world t (first + 1) atoms rest) → (j : ℕ) (zs : List Atom) → slice_get (ys ∷ atoms) j ≡ Some zs
        → Fits g done k more.world (first + j) (all_placed AtPlain zs)
    each_of v more zero zs e =
        let q : Some ys ≡ Some zs = e in
        let same : ys ≡ zs = cc in
        let n : first ≡ first + 0 = omega arith in
        subst (λ (u : ℕ). Fits g done k more.world u (all_placed AtPlain zs)) n (subst (λ (p : List Atom). Fits g done k more.world first (all_placed AtPlain p)) same
        (fits_more g done k v.world more.world first (all_placed AtPlain ys) (λ a r. (more.others first a (λ q. here.0 (sym q))).grows r) (own v)))
    each_of v more (suc j) zs e =
        let n : first + 1 + j ≡ first + suc j = omega arith in
        subst (λ (u : ℕ). Fits g done k more.world u (all_placed AtPlain zs)) n (more.each j zs e)

    from : (v : Given asks g done k w t first ys) → ((y : World) → Ground asks g done [] k y → Fits g done k y t (all_placed AtPlain (together atoms) ++ rest) → Spawned asks g done k y t (first + 1) atoms rest)
        → Spawned asks g done k w t first (ys ∷ atoms) rest
    from v go =
        let more = go v.world v.ground (front_goes g done k w v.world t first ys (all_placed AtPlain (together atoms) ++ rest) here.0 v.gift whole) in
        record {
          world = more.world;
          ground = more.ground;
          fits = more.fits;
          each = each_of v more;
          others = λ u a m. keeps_then k k k w v.world more.world (holder_of u a) (others_keep k w v.world t first (demand ys) u a m v.gift) (more.others u a m);
        }

-- ---- the children

record Child (l : Logic) (g : Graph) (done : List ℕ) (k : Known) (w : World) (owed : ℕ → l.Owed) (u : ℕ) : Type 0 where
  call : Started
  atoms : List Atom
  started : IsStarted g u call
  starts : l.starts (owed u) call atoms
  fits : Fits g done k w u (all_placed AtPlain atoms)

-- as many as are owed
starts_long : (l : Logic) (os : List l.Owed) (calls : List Started) (atoms : List (List Atom)) → EachStarts l os calls atoms → (length os ≡ length calls) × (length atoms ≡ length calls)
starts_long l [] [] [] h = (refl, refl)
starts_long l (o ∷ os) (call ∷ calls) (ys ∷ atoms) h = let r = starts_long l os calls atoms h.1 in let a = r.0 in let b = r.1 in (omega arith, omega arith)
starts_long l [] [] (ys ∷ atoms) h = elim h [ ]
starts_long l [] (call ∷ calls) atoms h = elim h [ ]
starts_long l (o ∷ os) [] atoms h = elim h [ ]
starts_long l (o ∷ os) (call ∷ calls) [] h = elim h [ ]

plus_none : (n : ℕ) → ◌≡◌ {A = ℕ} (n + 0) n
plus_none n = omega arith

one_more : (n : ℕ) → ◌≡◌ {A = ℕ} (n + 1) (suc n)
one_more n = omega arith

step_on : (n j : ℕ) → ◌≡◌ {A = ℕ} (n + suc j) (n + 1 + j)
step_on n j = omega arith

child_of : (l : Logic) (g : Graph) (done : List ℕ) (k : Known) (w : World) (owed : ℕ → l.Owed) (os : List l.Owed) (calls : List Started) (atoms : List (List Atom)) (first u : ℕ) → EachStarts l os calls atoms
    → AreStarted g first calls → ((j : ℕ) (ys : List Atom) → slice_get atoms j ≡ Some ys → Fits g done k w (first + j) (all_placed AtPlain ys)) → In u (numbers_from first (length calls))
    → Child l g done k w (with_owed first os owed) u
child_of l g done k w owed [] [] [] first u starts started fits i = elim i [ ]
child_of l g done k w owed (o ∷ os) (call ∷ calls) (ys ∷ atoms) first u starts started fits (inl q) = subst (λ (v : ℕ). Child l g done k w (with_owed first (o ∷ os) owed) v) (sym q) (record {
  call = call;
  atoms = ys;
  started = started.0;
  starts = subst (λ (p : l.Owed). l.starts p call ys) (sym (owed_first first o os owed)) starts.0;
  fits = subst (λ (v : ℕ). Fits g done k w v (all_placed AtPlain ys)) (plus_none first) (fits 0 ys refl);
})
child_of l g done k w owed (o ∷ os) (call ∷ calls) (ys ∷ atoms) first u starts started fits (inr i) =
    let c = child_of l g done k w owed os calls atoms (first + 1) u starts.1 (subst (λ (v : ℕ). AreStarted g v calls) (sym (one_more first)) started.1)
    (λ j zs e. subst (λ (v : ℕ). Fits g done k w v (all_placed AtPlain zs)) (step_on first j) (fits (suc j) zs e)) i in
    let far = above_first (first + 1) (length calls) u i in
    record {
      call = c.call;
      atoms = c.atoms;
      started = c.started;
      starts = subst (λ (p : l.Owed). l.starts p c.call c.atoms) (sym (owed_behind first o os owed u (λ q. absurd (omega (arith, q, far))))) c.starts;
      fits = c.fits;
    }
child_of l g done k w owed [] [] (ys ∷ atoms) first u starts started fits i = elim starts [ ]
child_of l g done k w owed [] (call ∷ calls) atoms first u starts started fits i = elim starts [ ]
child_of l g done k w owed (o ∷ os) [] atoms first u starts started fits i = elim starts [ ]
child_of l g done k w owed (o ∷ os) (call ∷ calls) [] first u starts started fits i = elim starts [ ]

-- ---- the Fork

pub start_children : (o : Option Frame) → children_of (started_at o) ≡ []
start_children None = refl
start_children (Some f) = refl

-- what is known at a Fork, for its step
record Forks (l : Logic) (p : Program) (g : Graph) (last : ℕ → Config) (done : List ℕ) (e : ℕ) (x : Event) (cs : List ℕ) (s : AllStand l p g last done) : Type 0 where
  m : Mover l p g last done e x s
  calls : List Started
  numbers : cs ≡ numbers_from (first_of cs) (length calls)
  started : AreStarted g (first_of cs) calls
  leads : children_of m.reached.next ≡ cs
  spawns : Spawns l calls (λ os. Good l p (s.owed x.thread) m.reached.moves m.reached.next os) m.reached.pieces

-- an event of a child comes behind its Fork
child_new : (g : Graph) (done : List ℕ) (e : ℕ) (x : Event) (cs : List ℕ) → Comes g done e x → x.label ≡ label.Fork cs → (d : ℕ) (y : Event) → Is g d y → In y.thread cs → In d done → ⊥
child_new g done e x cs comes is d y at child i = comes.fresh (comes.closed e d (by_sb (fork_edge (record {
  fork = x;
  event = y;
  children = cs;
  is_fork = comes.is;
  is_event = at;
  forks = is;
  child = child;
}))) i)

-- and the one that forks is no child of it
not_own_child : (g : Graph) (done : List ℕ) (e : ℕ) (x : Event) (cs : List ℕ) → Comes g done e x → x.label ≡ label.Fork cs → In x.thread cs → ⊥
not_own_child g done e x cs comes is i = comes.fresh (comes.before e (by_sb (fork_edge (record {
  fork = x;
  event = x;
  children = cs;
  is_fork = comes.is;
  is_event = comes.is;
  forks = is;
  child = i;
}))))

starts_these : (g : Graph) (e u : ℕ) (x : Event) (cs : List ℕ) → Is g e x → x.label ≡ label.Fork cs → Starts g e u → In u cs
starts_these g e u x cs is forks s =
    let same = one_event g e x s.event is s.is in
    let q : label.Fork cs ≡ label.Fork s.children = sym forks ∙ ap (λ (y : Event). y.label) same ∙ s.forks in
    let k : cs ≡ s.children = cc in
    subst (λ (us : List ℕ). In u us) (sym k) s.child

abbrev does_start : (g : Graph) (e u : ℕ) (x : Event) (cs : List ℕ) → Is g e x → x.label ≡ label.Fork cs → In u cs → Starts g e u
does_start g e u x cs is forks i = record { event = x; is = is; children = cs; forks = forks; child = i }

fork_stands : (l : Logic) (p : Program) (g : Graph) (last : ℕ → Config) (done : List ℕ) (e : ℕ) (x : Event) (cs : List ℕ) → IsAccepted l p → IsExecution p g last → Comes g done e x → x.label ≡ label.Fork cs
    → (s : AllStand l p g last done) → (h : Forks l p g last done e x cs s)
    → Spawned l.asks g (e ∷ done) h.m.reached.known h.m.reached.world x.thread (first_of cs) h.spawns.atoms h.spawns.rest → AllStand l p g last (e ∷ done)
fork_stands l p g last done e x cs accepted ex comes is s h sp = record {
  known = h.m.reached.known;
  world = sp.world;
  ground = sp.ground;
  owed = owed;
  thread = λ u begun unawaited. elim (cases_eq u x.thread) [
    | inl q ↦ subst (λ (t : ℕ). Goes l p g (e ∷ done) h.m.reached.known sp.world owed t (last t) ⊎ HasEnded l g (e ∷ done) h.m.reached.known sp.world owed t (last t)) (sym q) (inl parent)
    | inr f ↦ other u f unawaited begun
  ];
}
  where
    owed : ℕ → l.Owed
    owed = with_owed (first_of cs) h.spawns.owed s.owed

    long : length h.spawns.owed ≡ length h.calls
    long = (starts_long l h.spawns.owed h.calls h.spawns.atoms h.spawns.starts).0

    listed : cs ≡ numbers_from (first_of cs) (length h.spawns.owed)
    listed = h.numbers ∙ ap (numbers_from (first_of cs)) (sym long)

    old_owed : (u : ℕ) → (In u cs → ⊥) → with_owed (first_of cs) h.spawns.owed s.owed u ≡ s.owed u
    old_owed u n = owed_other (first_of cs) h.spawns.owed s.owed u (λ i. n (subst (λ (us : List ℕ). In u us) (sym listed) i))

    begun_old : (u : ℕ) → IsBegun g done u → In u cs → ⊥
    begun_old u (inl z) i = ex.first e (subst (λ (v : ℕ). Starts g e v) z (does_start g e u x cs comes.is is i))
    begun_old u (inr b) i = comes.fresh (subst (λ (d : ℕ). In d done) (ex.once b.0 e u b.2 (does_start g e u x cs comes.is is i)) b.1)

    unawaited_child : (u : ℕ) → In u cs → IsAwaited g (e ∷ done) u → ⊥
    unawaited_child u i w = elim w.2 [
      | inl q ↦ no_join g e u w.1 x comes.is (λ rs y. absurd (let z : label.Fork cs ≡ label.Join rs = sym is ∙ y in cc)) (subst (λ (d : ℕ). Awaits g d u w.1) q w.3)
      | inr o ↦
          let n = awaited_done p g last done u ex comes.closed (w.0, w.1, o, w.3) in
          child_new g done e x cs comes is n.0 n.2.event n.2.is (subst (λ (v : ℕ). In v cs) (sym n.2.thread) i) n.3
    ]

    parent : Goes l p g (e ∷ done) h.m.reached.known sp.world (with_owed (first_of cs) h.spawns.owed s.owed) x.thread (last x.thread)
    parent = record {
      config = h.m.reached.next;
      moves = h.m.reached.moves;
      events = h.m.rest;
      runs = h.m.reached.runs;
      ahead = ahead_own g done x.thread e h.m.rest h.m.ahead;
      children = λ u i.
          let c : In u cs = subst (λ (us : List ℕ). In u us) h.leads i in
          record { fork = e; past = inl refl; starts = does_start g e u x cs comes.is is c; parent = refl; unawaited = unawaited_child u c };
      pieces = h.spawns.rest;
      fits = sp.fits;
      good = subst (λ (os : List l.Owed). Good l p (with_owed (first_of cs) h.spawns.owed s.owed x.thread) h.m.reached.moves h.m.reached.next os h.spawns.rest)
          (sym (ap (map (with_owed (first_of cs) h.spawns.owed s.owed)) (h.leads ∙ listed) ∙ owed_all (first_of cs) h.spawns.owed s.owed))
          (subst (λ (o : l.Owed). Good l p o h.m.reached.moves h.m.reached.next h.spawns.owed h.spawns.rest) (sym (old_owed x.thread (not_own_child g done e x cs comes is))) h.spawns.next);
      unended = λ d i c. elim i [
        | inl q ↦ absurd (let y : label.Fork cs ≡ label.End c.value = sym is ∙ ap (λ (z : Event). z.label) (one_event g e x c.event comes.is (subst (λ (o : ℕ). Is g o c.event) q c.is)) ∙ c.ends in cc)
        | inr o ↦ h.m.goes.unended d o c
      ];
    }

    none_done : (u : ℕ) → In u cs → (d : ℕ) (y : Event) → Is g d y → y.thread ≡ u → In d (e ∷ done) → ⊥
    none_done u i d y at t (inl q) = not_own_child g done e x cs comes is (subst (λ (v : ℕ). In v cs) (sym t ∙ ap (λ (z : Event). z.thread) (one_event g e y x (subst (λ (o : ℕ). Is g o y) q at) comes.is)) i)
    none_done u i d y at t (inr o) = child_new g done e x cs comes is d y at (subst (λ (v : ℕ). In v cs) (sym t) i) o

    begins : (u : ℕ) → In u cs → (c : Child l g (e ∷ done) h.m.reached.known sp.world (with_owed (first_of cs) h.spawns.owed s.owed) u)
        → Goes l p g (e ∷ done) h.m.reached.known sp.world (with_owed (first_of cs) h.spawns.owed s.owed) u (last u)
    begins u i c =
        let thread = c.started.0 in
        let runs = ex.moves u thread c.started.1 in
        let none = start_children (entered (slice_get p.procs c.call.proc) c.call.args None) in
        record {
          config = start_of p c.call.proc c.call.args;
          moves = thread.moves;
          events = events_of g u;
          runs = subst (λ (proc : ℕ). Runs p g (start_of p proc c.call.args) thread.moves (events_of g u) (last u)) c.started.2
              (subst (λ (args : List ℤ). Runs p g (start_of p thread.proc args) thread.moves (events_of g u) (last u)) c.started.3 runs);
          ahead = all_ahead g (e ∷ done) u (λ d y at t o. none_done u i d y at t o);
          children = λ v j. elim (subst (λ (us : List ℕ). In v us) none j) [ ];
          pieces = all_placed AtPlain c.atoms;
          fits = c.fits;
          good = subst (λ (us : List ℕ). Good l p (with_owed (first_of cs) h.spawns.owed s.owed u) thread.moves (start_of p c.call.proc c.call.args) (map (with_owed (first_of cs) h.spawns.owed s.owed) us) (all_placed AtPlain c.atoms))
              (sym none) (accepted (with_owed (first_of cs) h.spawns.owed s.owed u) c.call c.atoms c.starts thread.moves);
          unended = λ d o y. none_done u i d y.event y.is y.thread o;
        }

    old : (u : ℕ) → (u ≡ x.thread → ⊥) → (IsAwaited g (e ∷ done) u → ⊥) → IsBegun g done u
        → Goes l p g (e ∷ done) h.m.reached.known sp.world (with_owed (first_of cs) h.spawns.owed s.owed) u (last u) ⊎ HasEnded l g (e ∷ done) h.m.reached.known sp.world (with_owed (first_of cs) h.spawns.owed s.owed) u (last u)
    old u f unawaited begun = stands_after l p g done e x s.known h.m.reached.known s.world sp.world s.owed (with_owed (first_of cs) h.spawns.owed s.owed) u (last u) comes.is (λ q. f (sym q)) (record {
      keeps = λ b. keeps_then s.known h.m.reached.known h.m.reached.known s.world h.m.reached.world sp.world (holder_of u b) (h.m.reached.others (holder_of u b) (other_holder u x.thread b f)) (sp.others u b f);
      deals = h.m.reached.deals;
      same = λ v b. old_owed v (begun_old v b);
      begun = begun;
      waits = λ v r c w. no_join g e v r x comes.is (λ rs y. absurd (let z : label.Fork cs ≡ label.Join rs = sym is ∙ y in cc)) w;
    }) (s.thread u begun (unawaited_before g done e u unawaited))

    other : (u : ℕ) → (u ≡ x.thread → ⊥) → (IsAwaited g (e ∷ done) u → ⊥) → IsBegun g (e ∷ done) u
        → Goes l p g (e ∷ done) h.m.reached.known sp.world (with_owed (first_of cs) h.spawns.owed s.owed) u (last u) ⊎ HasEnded l g (e ∷ done) h.m.reached.known sp.world (with_owed (first_of cs) h.spawns.owed s.owed) u (last u)
    other u f unawaited (inl z) = old u f unawaited (inl z)
    other u f unawaited (inr b) = elim b.1 [
      | inl q ↦
          let i = starts_these g e u x cs comes.is is (subst (λ (d : ℕ). Starts g d u) q b.2) in
          inl (begins u i (child_of l g (e ∷ done) h.m.reached.known sp.world s.owed h.spawns.owed h.calls h.spawns.atoms (first_of cs) u h.spawns.starts h.started sp.each
          (subst (λ (us : List ℕ). In u us) h.numbers i)))
      | inr o ↦ old u f unawaited (inr (b.0, o, b.2))
    ]

pub fork_step : (l : Logic) (p : Program) (g : Graph) (last : ℕ → Config) (done : List ℕ) (e : ℕ) (x : Event) (cs : List ℕ) → IsAccepted l p → IsExecution p g last → Comes g done e x → x.label ≡ label.Fork cs
    → (s : AllStand l p g last done) → AllStand l p g last (e ∷ done)
fork_step l p g last done e x cs accepted ex comes is s = with_mover (mover l p g last done e x ex comes s)
  where
    with_forks : Forks l p g last done e x cs s → AllStand l p g last (e ∷ done)
    with_forks h =
        let own = fits_later g done e h.m.reached.known h.m.reached.world x.thread (all_placed AtPlain (together h.spawns.atoms) ++ h.spawns.rest)
        (fits_entailed g done h.m.reached.known h.m.reached.world x.thread h.m.reached.pieces (all_placed AtPlain (together h.spawns.atoms) ++ h.spawns.rest) h.m.reached.fits h.spawns.gives) in
        fork_stands l p g last done e x cs accepted ex comes is s h
        (spawn_all l.asks g (e ∷ done) h.m.reached.known x.thread h.spawns.rest h.spawns.atoms (first_of cs) (length h.calls) h.m.reached.world
        (starts_long l h.spawns.owed h.calls h.spawns.atoms h.spawns.starts).1
        (quiet_keeps l.asks g done [] h.m.reached.known h.m.reached.world e x h.m.reached.ground comes (ap access_by is) (ap read_by is) (ap written_by is)) own
        (λ u i.
        let c : In u cs = subst (λ (us : List ℕ). In u us) (sym h.numbers) i in
        ((λ q. not_own_child g done e x cs comes is (subst (λ (v : ℕ). In v cs) (sym q) c)), fork_tells g done e x cs u comes is c)))

    with_mover : Mover l p g last done e x s → AllStand l p g last (e ∷ done)
    with_mover m =
        let asked = subst (λ (y : Label). IsAsked (need_of p m.reached.config) y) is (labels_are_asked p m.reached.config (reply_of x.label) x.label m.reached.next m.reached.shows) in
        let leads = subst (λ (y : Label). Leads (children_of m.reached.config) y m.reached.next) is (leads_on l p g last done e x s m) in
        let answers = subst (λ (y : Label). Answers g (need_of p m.reached.config) y) is m.reached.answers in
        let allows = subst (λ (y : Label). Allows l (s.owed x.thread) (need_of p m.reached.config) y (Good l p (s.owed x.thread) m.reached.moves m.reached.next) (map s.owed (children_of m.reached.config)) m.reached.pieces) is
        (allowed l p g last done e x s m) in
        with_forks (record {
          m = m;
          calls = asked.0;
          numbers = asked.2;
          started = subst (λ (n : Need). Answers g n (label.Fork cs)) asked.1 answers;
          leads = leads.1;
          spawns = allows asked.0 asked.1;
        })
