-- Threads that have ended are waited for: each pays what it owes.
use Rattle.std.proofs.Common.{◌≡◌, ◌≤◌, ◌<◌, ◌+◌, ℕ, zero, suc, ◌⊎◌, inl, inr, List, [], ◌∷◌, ◌++◌, map, Option, Some, None, slice_get, ℤ, refl, sym, ap, subst, ◌∙◌, arith}
use Rattle.std.proofs.lemmas.Bool.{cases_eq}
use Rattle.fsl_core.specs.declared.label.Ended.{Ended}
use Rattle.fsl_core.specs.declared.label.Label.{Label}
use Rattle.fsl_core.specs.declared.label.Label.TheVariants as label
use Rattle.fsl_core.specs.declared.need.Need.{Need}
use Rattle.fsl_core.specs.declared.need.Need.TheVariants as need
use Rattle.fsl_core.specs.Programs.{Program}
use Rattle.fsl_core.specs.Moves.{Config, running, joining, returned, halted, failed, showing, moved, need_of, numbers_from}
use Rattle.fsl_graph.specs.declared.event.Event.{Event}
use Rattle.fsl_graph.specs.declared.graph.Graph.{Graph}
use Rattle.fsl_graph.specs.Events.{Is, read_by, written_by}
use Rattle.fsl_graph.specs.Sequenced.{In, Edge, thread_of, IsAcyclic}
use Rattle.fsl_graph.specs.Sequenced.Path.{one}
use Rattle.fsl_graph.specs.Sequenced.SbEdge.{by_fork as fork_edge, by_join as join_edge}
use Rattle.fsl_graph.specs.Sequenced.Edge.{by_sb}
use Rattle.fsl_graph.specs.Execution.{Answers, Starts, Awaits, IsExecution, reply_of}
use Rattle.fsl_graph.specs.Keeping.{children_of, Leads}
use Rattle.fsl_graph.specs.Safe.{access_by}
use Rattle.fsl_graph.specs.Orders.{Comes}
use Rattle.fsl_graph.specs.Threads.{IsBelow, IsAscending}
use Rattle.fsl_graph.specs.Positions.{Holder}
use Rattle.fsl_graph.specs.Positions.{Holder as holder}
use Rattle.fsl_graph.proofs.Ended.{joined_ended}
use Rattle.fsl_graph.proofs.Keeping.{joins_wait}
use Rattle.fsl_graph.proofs.Threads.{one_event, below_each}
use Rattle.fsl_own.specs.Knowledge.{Tells}
use Rattle.fsl_own.specs.Owning.{Resource, World, Known, KeepsDeals}
use Rattle.fsl_own.specs.Atoms.{Atom, demand}
use Rattle.fsl_own.proofs.Telling.{awaited, result_of, await_tells}
use Rattle.fsl_ground.specs.Ground.{Meaning, Ground}
use Rattle.fsl_ground.proofs.Cells.{quiet_keeps}
use Rattle.fsl_good.specs.Pieces.{together, Level, AtPlain, holder_of, Piece, all_placed, demand_at, Fits}
use Rattle.fsl_good.specs.Good.{Logic, Good, Allows, EachPays}
use Rattle.fsl_good.specs.Keeping.{Keeps}
use Rattle.fsl_good.proofs.Shifting.{keeps_then}
use Rattle.fsl_good.proofs.Acting.{fits_later, other_holder}
use Rattle.fsl_good.proofs.Sending.{placed_more}
use Rattle.fsl_safe.specs.Threads.{IsBegun, IsAwaited, IsChild, Ends, Goes, HasEnded, AllStand}
use Rattle.fsl_safe.proofs.Advancing.{Reached, same_keeps}
use Rattle.fsl_safe.proofs.Standing.{ahead_own, Left, stands_after, fits_left}
use Rattle.fsl_safe.proofs.Stepping.{Mover, mover, allowed, leads_on, begun_before, unawaited_before, is_in_or}
use Rattle.fsl_safe.proofs.Handing.{plain_demand, Given, give, given_right, front_comes, others_keep, fits_more, pieces_behind}

-- ---- children ascend

numbers_below : (n first count : ℕ) → n < first → IsBelow n (numbers_from first count)
numbers_below n first zero l = tt
numbers_below n first (suc count) l = (l, numbers_below n (first + 1) count (omega (arith, l)))

numbers_up : (first count : ℕ) → IsAscending (numbers_from first count)
numbers_up first zero = tt
numbers_up first (suc count) = (numbers_below first (first + 1) count (omega arith), numbers_up (first + 1) count)

children_up : (c : Config) → IsAscending (children_of c)
children_up (joining first count f fs) = numbers_up first count
children_up (running f fs) = tt
children_up (returned v) = tt
children_up halted = tt
children_up failed = tt

-- ---- payments

-- a thread that has ended, with what it pays
record Payer (l : Logic) (g : Graph) (done : List ℕ) (k : Known) (w : World) (owed : ℕ → l.Owed) (t : ℕ) (r : Ended) : Type 0 where
  atoms : List Atom
  pays : l.pays (owed r.thread) r.value atoms
  fits : Fits g done k w r.thread (all_placed AtPlain atoms)
  tells : Tells g done (holder.Plain r.thread) (holder.Plain t)
  apart : r.thread ≡ t → ⊥

record Gathered (l : Logic) (g : Graph) (done : List ℕ) (k : Known) (w : World) (owed : ℕ → l.Owed) (t : ℕ) (rs : List Ended) (xs : List Piece) : Type 0 where
  atoms : List (List Atom)
  pays : EachPays l (map owed (map thread_of rs)) rs atoms
  world : World
  ground : Ground l.asks g done [] k world
  fits : Fits g done k world t (all_placed AtPlain (together atoms) ++ xs)
  others : (u : ℕ) (a : Level) → (u ≡ t → ⊥) → (In u (map thread_of rs) → ⊥) → Keeps k k w world (holder_of u a)

gather : (l : Logic) (g : Graph) (done : List ℕ) (k : Known) (w : World) (owed : ℕ → l.Owed) (t : ℕ) (xs : List Piece) (rs : List Ended) → IsAscending (map thread_of rs) → Ground l.asks g done [] k w
    → Fits g done k w t xs → ((j : ℕ) (r : Ended) → slice_get rs j ≡ Some r → Payer l g done k w owed t r) → Gathered l g done k w owed t rs xs
gather l g done k w owed t xs [] up x f payers = record {
  atoms = [];
  pays = tt;
  world = w;
  ground = x;
  fits = f;
  others = λ u a n m. same_keeps k w (holder_of u a);
}
gather l g done k w owed t xs (r ∷ rs) up x f payers =
    from (payers 0 r refl) (gather l g done k w owed t xs rs up.1 x f (λ j q e. payers (suc j) q e))
  where
    last : (p : Payer l g done k w owed t r) (more : Gathered l g done k w owed t rs xs) → Fits g done k more.world r.thread (all_placed AtPlain p.atoms) → Given l.asks g done k more.world r.thread t p.atoms
        → Gathered l g done k w owed t (r ∷ rs) xs
    last p more own v = record {
      atoms = p.atoms ∷ more.atoms;
      pays = (p.pays, more.pays);
      world = v.world;
      ground = v.ground;
      fits = subst (λ (ys : List Piece). Fits g done k v.world t ys)
          (sym (ap (λ (ys : List Piece). ys ++ xs) (placed_more AtPlain p.atoms (together more.atoms)) ∙ pieces_behind (all_placed AtPlain p.atoms) (all_placed AtPlain (together more.atoms)) xs))
          (front_comes g done k more.world v.world r.thread t p.atoms (all_placed AtPlain (together more.atoms) ++ xs) p.apart v.gift (given_right g done k r.thread t p.atoms p.tells own.right) more.fits);
      others = λ u a n m. keeps_then k k k w more.world v.world (holder_of u a) (more.others u a n (λ i. m (inr i))) (others_keep k more.world v.world r.thread t (demand p.atoms) u a (λ q. m (inl q)) v.gift);
    }

    from : Payer l g done k w owed t r → Gathered l g done k w owed t rs xs → Gathered l g done k w owed t (r ∷ rs) xs
    from p more =
        let own = fits_more g done k w more.world r.thread (all_placed AtPlain p.atoms)
        (λ a q. (more.others r.thread a p.apart (λ i. absurd (let b = below_each r.thread (map thread_of rs) up.0 r.thread i in omega arith))).grows q) p.fits in
        last p more own (give l.asks g done k more.world r.thread t p.atoms more.ground (λ q. let b = own.enough AtPlain q in let c = plain_demand AtPlain p.atoms q in omega arith) p.tells)

-- ---- the Join

-- a thread is no child of itself
not_of_itself : (g : Graph) (done : List ℕ) (t : ℕ) → IsAcyclic g → IsChild g done t t → ⊥
not_of_itself g done t acyclic c = acyclic c.fork (one (by_sb (fork_edge (record {
  fork = c.starts.event;
  event = c.starts.event;
  children = c.starts.children;
  is_fork = c.starts.is;
  is_event = c.starts.is;
  forks = c.starts.forks;
  child = subst (λ (v : ℕ). In v c.starts.children) (sym c.parent) c.starts.child;
}))))

-- and a child of one thread alone
one_parent : (p : Program) (g : Graph) (last : ℕ → Config) (done : List ℕ) (t u v : ℕ) → IsExecution p g last → IsChild g done t v → IsChild g done u v → t ≡ u
one_parent p g last done t u v ex c d =
    let same = ex.once c.fork d.fork v c.starts d.starts in
    let event = one_event g d.fork c.starts.event d.starts.event (subst (λ (o : ℕ). Is g o c.starts.event) same c.starts.is) d.starts.is in
    sym c.parent ∙ ap (λ (y : Event). y.thread) event ∙ d.parent

pub join_step : (l : Logic) (p : Program) (g : Graph) (last : ℕ → Config) (done : List ℕ) (e : ℕ) (x : Event) (rs : List Ended) → IsAcyclic g → IsExecution p g last → Comes g done e x → x.label ≡ label.Join rs
    → (s : AllStand l p g last done) → AllStand l p g last (e ∷ done)
join_step l p g last done e x rs acyclic ex comes is s = with_mover (mover l p g last done e x ex comes s)
  where
    no_fork : (cs : List ℕ) → x.label ≡ label.Fork cs → ⊥
    no_fork cs q = absurd (let y : label.Join rs ≡ label.Fork cs = sym is ∙ q in cc)

    waited : (m : Mover l p g last done e x s) → map thread_of rs ≡ children_of m.reached.config
    waited m =
        let shown = subst (λ (y : Label). moved p m.reached.config (reply_of x.label) ≡ showing y m.reached.next) is m.reached.shows in
        let n = joins_wait p m.reached.config (reply_of x.label) rs m.reached.next shown in
        let answers = subst (λ (y : Label). Answers g (need_of p m.reached.config) y) is m.reached.answers in
        subst (λ (q : Need). Answers g q (label.Join rs)) n answers

    child : (m : Mover l p g last done e x s) → (u : ℕ) → In u (map thread_of rs) → IsChild g done x.thread u
    child m u i = m.goes.children u (subst (λ (us : List ℕ). In u us) (waited m ∙ m.reached.waits) i)

    awaits : (j : ℕ) (r : Ended) → slice_get rs j ≡ Some r → Awaits g e r.thread r.value
    awaits j r h = record { event = x; is = comes.is; results = rs; joins = is; entry = j; ended = r; among = h; thread = refl; value = refl }

    ends_in_done : (j : ℕ) (r : Ended) → slice_get rs j ≡ Some r → (d : ℕ) × In d done × Ends g d r.thread
    ends_in_done j r h =
        let n = joined_ended p g last ex e r.thread r.value (awaits j r h) in (
          n.0,
          comes.before n.0 (by_sb (join_edge (record {
            last = n.1.event;
            join = x;
            value = r.value;
            results = rs;
            is_last = n.1.is;
            is_join = comes.is;
            ends = n.1.ends;
            joins = is;
            child = subst (λ (v : ℕ). In v (map thread_of rs)) (sym n.1.thread) (awaited rs j r h);
          }))),
          record { event = n.1.event; is = n.1.is; thread = n.1.thread; value = r.value; ends = n.1.ends },
        )

    payer : (m : Mover l p g last done e x s) → (j : ℕ) (r : Ended) → slice_get rs j ≡ Some r → Payer l g (e ∷ done) m.reached.known m.reached.world s.owed x.thread r
    payer m j r h = by (s.thread r.thread (inr (c.fork, c.past, c.starts)) c.unawaited)
      where
        c : IsChild g done x.thread r.thread
        c = child m r.thread (awaited rs j r h)

        apart : r.thread ≡ x.thread → ⊥
        apart q = not_of_itself g done x.thread acyclic (subst (λ (v : ℕ). IsChild g done x.thread v) q c)

        by : Goes l p g done s.known s.world s.owed r.thread (last r.thread) ⊎ HasEnded l g done s.known s.world s.owed r.thread (last r.thread) → Payer l g (e ∷ done) m.reached.known m.reached.world s.owed x.thread r
        by (inl goes) = let d = ends_in_done j r h in absurd (goes.unended d.0 d.1 d.2)
        by (inr ended) =
            let back : returned ended.value ≡ returned r.value = sym ended.at ∙ (ex.joined e r.thread r.value (awaits j r h)).1 in
            let same : ended.value ≡ r.value = cc in
            record {
              atoms = ended.atoms;
              pays = subst (λ (v : ℤ). l.pays (s.owed r.thread) v ended.atoms) same ended.pays;
              fits = fits_left g done e s.known m.reached.known s.world m.reached.world r.thread (all_placed AtPlain ended.atoms) (λ a. m.reached.others (holder_of r.thread a) (other_holder r.thread x.thread a apart)) m.reached.deals ended.fits;
              tells = await_tells p g last ex done e x r.thread r.value comes (awaits j r h);
              apart = apart;
            }

    stand : (m : Mover l p g last done e x s) → (h : Gathered l g (e ∷ done) m.reached.known m.reached.world s.owed x.thread rs m.reached.pieces)
        → Good l p (s.owed x.thread) m.reached.moves m.reached.next [] (all_placed AtPlain (together h.atoms) ++ m.reached.pieces) → children_of m.reached.next ≡ [] → AllStand l p g last (e ∷ done)
    stand m h good none = record {
      known = m.reached.known;
      world = h.world;
      ground = h.ground;
      owed = s.owed;
      thread = λ u begun unawaited. elim (cases_eq u x.thread) [
        | inl q ↦ subst (λ (t : ℕ). Goes l p g (e ∷ done) m.reached.known h.world s.owed t (last t) ⊎ HasEnded l g (e ∷ done) m.reached.known h.world s.owed t (last t)) (sym q) (inl (record {
          config = m.reached.next;
          moves = m.reached.moves;
          events = m.rest;
          runs = m.reached.runs;
          ahead = ahead_own g done x.thread e m.rest m.ahead;
          children = λ v i. elim (subst (λ (us : List ℕ). In v us) none i) [ ];
          pieces = all_placed AtPlain (together h.atoms) ++ m.reached.pieces;
          fits = h.fits;
          good = subst (λ (us : List ℕ). Good l p (s.owed x.thread) m.reached.moves m.reached.next (map s.owed us) (all_placed AtPlain (together h.atoms) ++ m.reached.pieces)) (sym none) good;
          unended = λ d i c. elim i [
            | inl q ↦ absurd (let y : label.Join rs ≡ label.End c.value = sym is ∙ ap (λ (z : Event). z.label) (one_event g e x c.event comes.is (subst (λ (o : ℕ). Is g o c.event) q c.is)) ∙ c.ends in cc)
            | inr o ↦ m.goes.unended d o c
          ];
        }))
        | inr f ↦ stands_after l p g done e x s.known m.reached.known s.world h.world s.owed s.owed u (last u) comes.is (λ q. f (sym q)) (record {
          keeps = λ b. keeps_then s.known m.reached.known m.reached.known s.world m.reached.world h.world (holder_of u b) (m.reached.others (holder_of u b) (other_holder u x.thread b f))
              (h.others u b f (λ i. let r = result_of rs u i in unawaited (e, r.1.value, inl refl, subst (λ (v : ℕ). Awaits g e v r.1.value) r.3 (awaits r.0 r.1 r.2))));
          deals = m.reached.deals;
          same = λ v b. refl;
          begun = begun_before g done e u x comes.is no_fork begun;
          waits = λ v r c w. f (sym (one_parent p g last done x.thread u v ex (child m v (awaited_in v r w)) c));
        }) (s.thread u (begun_before g done e u x comes.is no_fork begun) (unawaited_before g done e u unawaited))
      ];
    }
      where
        awaited_in : (v : ℕ) (r : ℤ) → Awaits g e v r → In v (map thread_of rs)
        awaited_in v r w =
            let same = one_event g e w.event x w.is comes.is in
            let q : label.Join w.results ≡ label.Join rs = sym w.joins ∙ ap (λ (y : Event). y.label) same ∙ is in
            let results : w.results ≡ rs = cc in
            subst (λ (us : List Ended). In v (map thread_of us)) results (subst (λ (o : ℕ). In o (map thread_of w.results)) w.thread (awaited w.results w.entry w.ended w.among))

    with_mover : Mover l p g last done e x s → AllStand l p g last (e ∷ done)
    with_mover m =
        let leads = subst (λ (y : Label). Leads (children_of m.reached.config) y m.reached.next) is (leads_on l p g last done e x s m) in
        let allows = subst (λ (y : Label). Allows l (s.owed x.thread) (need_of p m.reached.config) y (Good l p (s.owed x.thread) m.reached.moves m.reached.next) (map s.owed (children_of m.reached.config)) m.reached.pieces) is
        (allowed l p g last done e x s m) in
        let h = gather l g (e ∷ done) m.reached.known m.reached.world s.owed x.thread m.reached.pieces rs (subst (λ (us : List ℕ). IsAscending us) (sym (waited m)) (children_up m.reached.config))
        (quiet_keeps l.asks g done [] m.reached.known m.reached.world e x m.reached.ground comes (ap access_by is) (ap read_by is) (ap written_by is))
        (fits_later g done e m.reached.known m.reached.world x.thread m.reached.pieces m.reached.fits) (payer m) in
        stand m h (allows h.atoms (subst (λ (us : List ℕ). EachPays l (map s.owed us) rs h.atoms) (waited m) h.pays)) leads
