-- One event more: of a thread's own, or its end.
use Rattle.std.proofs.Common.{◌≡◌, ℕ, zero, suc, ◌⊎◌, inl, inr, List, [], ◌∷◌, map, Option, Some, None, ℤ, refl, sym, ap, subst, ◌∙◌, arith}
use Rattle.std.proofs.lemmas.Bool.{cases_eq}
use Rattle.fsl_core.specs.declared.label.Ended.{Ended}
use Rattle.fsl_core.specs.declared.label.Label.{Label}
use Rattle.fsl_core.specs.declared.label.Label.TheVariants as label
use Rattle.fsl_core.specs.declared.need.Need.{Need}
use Rattle.fsl_core.specs.Programs.{Program}
use Rattle.fsl_core.specs.Moves.{Config, returned, showing, moved, need_of}
use Rattle.fsl_graph.specs.declared.event.Event.{Event}
use Rattle.fsl_graph.specs.declared.graph.Graph.{Graph}
use Rattle.fsl_graph.specs.Events.{Is, read_by, written_by}
use Rattle.fsl_graph.specs.Sequenced.{In}
use Rattle.fsl_graph.specs.Consistent.{IsConsistent}
use Rattle.fsl_graph.specs.Execution.{Runs, Starts, Awaits, IsExecution, reply_of}
use Rattle.fsl_graph.specs.Keeping.{children_of, Leads}
use Rattle.fsl_graph.specs.Safe.{access_by}
use Rattle.fsl_graph.specs.Orders.{Comes}
use Rattle.fsl_graph.specs.Threads.{Ahead}
use Rattle.fsl_graph.proofs.Ended.{returned_rests}
use Rattle.fsl_graph.proofs.Keeping.{labels_lead}
use Rattle.fsl_graph.proofs.Threads.{one_event}
use Rattle.fsl_own.specs.Owning.{World, Known, KeepsDeals}
use Rattle.fsl_ground.specs.Ground.{Ground}
use Rattle.fsl_ground.proofs.Cells.{quiet_keeps}
use Rattle.fsl_good.specs.Pieces.{Level, holder_of, Piece, AtPlain, all_placed, Fits}
use Rattle.fsl_good.specs.Good.{Logic, Good, Allows, Ends as Pays}
use Rattle.fsl_good.specs.Keeping.{Keeps, Acted}
use Rattle.fsl_good.proofs.Pieces.{fits_entailed, fits_possible}
use Rattle.fsl_good.proofs.Shifting.{keeps_then}
use Rattle.fsl_good.proofs.Acting.{fits_later, other_holder}
use Rattle.fsl_safe.specs.Threads.{IsBegun, IsAwaited, IsChild, Ends, Goes, HasEnded, AllStand}
use Rattle.fsl_safe.proofs.Acts.{IsOwn, own_acts}
use Rattle.fsl_safe.proofs.Advancing.{Reached, advance}
use Rattle.fsl_safe.proofs.Standing.{ahead_own, first_ahead, event_begun, next_unawaited, Left, stands_after}

-- ---- the thread that moves

-- the thread whose event comes next, right before it
pub record Mover (l : Logic) (p : Program) (g : Graph) (last : ℕ → Config) (done : List ℕ) (e : ℕ) (x : Event) (s : AllStand l p g last done) : Type 0 where
  pub goes : Goes l p g done s.known s.world s.owed x.thread (last x.thread)
  pub rest : List ℕ
  pub ahead : Ahead g done x.thread (e ∷ rest)
  pub reached : Reached l p g done s.known s.world x.thread e x (s.owed x.thread) s.owed (children_of goes.config) rest (last x.thread)

pub mover : (l : Logic) (p : Program) (g : Graph) (last : ℕ → Config) (done : List ℕ) (e : ℕ) (x : Event) → IsExecution p g last → Comes g done e x → (s : AllStand l p g last done) → Mover l p g last done e x s
mover l p g last done e x ex comes s =
    by (s.thread x.thread (event_begun p g last done e x ex comes.is comes.before) (next_unawaited p g last done e x ex comes))
  where
    from : (h : Goes l p g done s.known s.world s.owed x.thread (last x.thread)) → (rest : List ℕ) × (h.events ≡ e ∷ rest) → Mover l p g last done e x s
    from h r = record {
      goes = h;
      rest = r.0;
      ahead = subst (λ (es : List ℕ). Ahead g done x.thread es) r.1 h.ahead;
      reached = advance l p g done x.thread e x (s.owed x.thread) s.owed r.0 (last x.thread) h.config h.moves h.events h.runs r.1 comes.is s.known s.world h.pieces s.ground h.fits h.good;
    }

    by : Goes l p g done s.known s.world s.owed x.thread (last x.thread) ⊎ HasEnded l g done s.known s.world s.owed x.thread (last x.thread) → Mover l p g last done e x s
    by (inl h) = from h (first_ahead g done e x h.events comes h.ahead)
    by (inr h) = absurd (comes.fresh (h.over e x comes.is refl))

-- what its label allows
pub allowed : (l : Logic) (p : Program) (g : Graph) (last : ℕ → Config) (done : List ℕ) (e : ℕ) (x : Event) (s : AllStand l p g last done) (m : Mover l p g last done e x s)
    → Allows l (s.owed x.thread) (need_of p m.reached.config) x.label (Good l p (s.owed x.thread) m.reached.moves m.reached.next) (map s.owed (children_of m.reached.config)) m.reached.pieces
allowed l p g last done e x s m =
    (m.reached.good (fits_possible g done m.reached.known m.reached.world x.thread m.reached.pieces m.reached.ground.owned m.reached.fits)).2 (reply_of x.label) x.label m.reached.next m.reached.shows

-- where its label leads
pub leads_on : (l : Logic) (p : Program) (g : Graph) (last : ℕ → Config) (done : List ℕ) (e : ℕ) (x : Event) (s : AllStand l p g last done) (m : Mover l p g last done e x s)
    → Leads (children_of m.reached.config) x.label m.reached.next
leads_on l p g last done e x s m = labels_lead p m.reached.config (reply_of x.label) x.label m.reached.next m.reached.shows

own_leads : (shown : Label) (waits : List ℕ) (next : Config) → IsOwn shown → Leads waits shown next → (waits ≡ []) × (children_of next ≡ [])
own_leads (label.Alloc k c) waits next own leads = leads
own_leads (label.Free c) waits next own leads = leads
own_leads (label.Load m c v) waits next own leads = leads
own_leads (label.Store m c v) waits next own leads = leads
own_leads (label.Rmw m c o n) waits next own leads = leads
own_leads (label.Fence m) waits next own leads = leads
own_leads (label.Print v) waits next own leads = leads
own_leads (label.Fork ts) waits next own leads = elim own [ ]
own_leads (label.Join rs) waits next own leads = elim own [ ]
own_leads (label.End v) waits next own leads = elim own [ ]

-- an event that is no Fork starts nobody, and one that is no Join awaits nobody
pub not_fork : (g : Graph) (e t : ℕ) (x : Event) → Is g e x → ((cs : List ℕ) → x.label ≡ label.Fork cs → ⊥) → Starts g e t → ⊥
not_fork g e t x is n s = n s.children (ap (λ (y : Event). y.label) (one_event g e x s.event is s.is) ∙ s.forks)

pub begun_before : (g : Graph) (done : List ℕ) (e t : ℕ) (x : Event) → Is g e x → ((cs : List ℕ) → x.label ≡ label.Fork cs → ⊥) → IsBegun g (e ∷ done) t → IsBegun g done t
begun_before g done e t x is n (inl z) = inl z
begun_before g done e t x is n (inr h) = elim h.1 [ inl q ↦ absurd (not_fork g e t x is n (subst (λ (d : ℕ). Starts g d t) q h.2)) | inr i ↦ inr (h.0, i, h.2) ]

pub unawaited_before : (g : Graph) (done : List ℕ) (e t : ℕ) → (IsAwaited g (e ∷ done) t → ⊥) → IsAwaited g done t → ⊥
unawaited_before g done e t n w = n (w.0, w.1, inr w.2, w.3)

own_no_fork : (x : Label) (cs : List ℕ) → IsOwn x → x ≡ label.Fork cs → ⊥
own_no_fork x cs own e = elim (subst (λ (y : Label). IsOwn y) e own) [ ]

pub no_join : (g : Graph) (e t : ℕ) (v : ℤ) (x : Event) → Is g e x → ((rs : List Ended) → x.label ≡ label.Join rs → ⊥) → Awaits g e t v → ⊥
no_join g e t v x is n w = n w.results (ap (λ (y : Event). y.label) (one_event g e x w.event is w.is) ∙ w.joins)

-- ---- an event of a thread's own

pub own_step : (l : Logic) (p : Program) (g : Graph) (last : ℕ → Config) (done : List ℕ) (e : ℕ) (x : Event) → IsExecution p g last → IsConsistent g → Comes g done e x → IsOwn x.label
    → (s : AllStand l p g last done) → AllStand l p g last (e ∷ done)
own_step l p g last done e x ex consistent comes own s = with_mover (mover l p g last done e x ex comes s)
  where
    no_fork : (cs : List ℕ) → x.label ≡ label.Fork cs → ⊥
    no_fork cs q = own_no_fork x.label cs own q

    stand : (m : Mover l p g last done e x s) → Acted l.asks g (e ∷ done) m.reached.known m.reached.world x.thread (Good l p (s.owed x.thread) m.reached.moves m.reached.next (map s.owed (children_of m.reached.config)))
        → AllStand l p g last (e ∷ done)
    stand m a = record {
      known = a.known;
      world = a.world;
      ground = a.ground;
      owed = s.owed;
      thread = λ u begun unawaited. elim (cases_eq u x.thread) [
        | inl q ↦ subst (λ (t : ℕ). Goes l p g (e ∷ done) a.known a.world s.owed t (last t) ⊎ HasEnded l g (e ∷ done) a.known a.world s.owed t (last t)) (sym q) (inl own_goes)
        | inr f ↦ stands_after l p g done e x s.known a.known s.world a.world s.owed s.owed u (last u) comes.is (λ q. f (sym q)) (record {
          keeps = λ b. keeps_then s.known m.reached.known a.known s.world m.reached.world a.world (holder_of u b) (m.reached.others (holder_of u b) (other_holder u x.thread b f)) (a.others u b f);
          deals = λ j d q. a.deals j d (m.reached.deals j d q);
          same = λ v b. refl;
          begun = begun_before g done e u x comes.is no_fork begun;
          waits = λ v r c w. no_join g e v r x comes.is (λ rs q. elim (subst (λ (y : Label). IsOwn y) q own) [ ]) w;
        }) (s.thread u (begun_before g done e u x comes.is no_fork begun) (unawaited_before g done e u unawaited))
      ];
    }
      where
        leads : (children_of m.reached.config ≡ []) × (children_of m.reached.next ≡ [])
        leads = own_leads x.label (children_of m.reached.config) m.reached.next own (leads_on l p g last done e x s m)

        own_goes : Goes l p g (e ∷ done) a.known a.world s.owed x.thread (last x.thread)
        own_goes = record {
          config = m.reached.next;
          moves = m.reached.moves;
          events = m.rest;
          runs = m.reached.runs;
          ahead = ahead_own g done x.thread e m.rest m.ahead;
          children = λ v i. elim (subst (λ (xs : List ℕ). In v xs) leads.1 i) [ ];
          pieces = a.pieces;
          fits = a.fits;
          good = subst (λ (xs : List ℕ). Good l p (s.owed x.thread) m.reached.moves m.reached.next (map s.owed xs) a.pieces) (leads.0 ∙ sym leads.1) a.next;
          unended = λ d i c. elim i [
            | inl q ↦ elim (subst (λ (y : Label). IsOwn y) (ap (λ (y : Event). y.label) (one_event g e x c.event comes.is (subst (λ (z : ℕ). Is g z c.event) q c.is)) ∙ c.ends) own) [ ]
            | inr o ↦ m.goes.unended d o c
          ];
        }

    with_mover : Mover l p g last done e x s → AllStand l p g last (e ∷ done)
    with_mover m = stand m (own_acts l g done e x m.reached.known m.reached.world (s.owed x.thread) (need_of p m.reached.config) (Good l p (s.owed x.thread) m.reached.moves m.reached.next)
        (map s.owed (children_of m.reached.config)) m.reached.pieces x.label consistent ex.distinct ex.positive m.reached.ground comes refl own m.reached.fits (allowed l p g last done e x s m))

-- a number is in a list, or it isn't
pub is_in_or : (d : ℕ) (xs : List ℕ) → In d xs ⊎ (In d xs → ⊥)
is_in_or d [] = inr (λ i. elim i [ ])
is_in_or d (x ∷ xs) = elim (cases_eq d x) [
  | inl q ↦ inl (inl q)
  | inr f ↦ elim (is_in_or d xs) [ inl i ↦ inl (inr i) | inr n ↦ inr (λ i. elim i [ inl q ↦ absurd (f q) | inr j ↦ n j ]) ]
]

-- ---- the end of a thread

pub end_step : (l : Logic) (p : Program) (g : Graph) (last : ℕ → Config) (done : List ℕ) (e : ℕ) (x : Event) (v : ℤ) → IsExecution p g last → Comes g done e x → x.label ≡ label.End v
    → (s : AllStand l p g last done) → AllStand l p g last (e ∷ done)
end_step l p g last done e x v ex comes is s = with_mover (mover l p g last done e x ex comes s)
  where
    no_fork : (cs : List ℕ) → x.label ≡ label.Fork cs → ⊥
    no_fork cs q = absurd (let y : label.End v ≡ label.Fork cs = sym is ∙ q in cc)

    stand : (m : Mover l p g last done e x s) → Pays l (s.owed x.thread) v m.reached.pieces → (m.reached.next ≡ returned v) → AllStand l p g last (e ∷ done)
    stand m pays back = record {
      known = m.reached.known;
      world = m.reached.world;
      ground = quiet_keeps l.asks g done [] m.reached.known m.reached.world e x m.reached.ground comes (ap access_by is) (ap read_by is) (ap written_by is);
      owed = s.owed;
      thread = λ u begun unawaited. elim (cases_eq u x.thread) [
        | inl q ↦ subst (λ (t : ℕ). Goes l p g (e ∷ done) m.reached.known m.reached.world s.owed t (last t) ⊎ HasEnded l g (e ∷ done) m.reached.known m.reached.world s.owed t (last t)) (sym q) (inr over)
        | inr f ↦ stands_after l p g done e x s.known m.reached.known s.world m.reached.world s.owed s.owed u (last u) comes.is (λ q. f (sym q)) (record {
          keeps = λ b. m.reached.others (holder_of u b) (other_holder u x.thread b f);
          deals = m.reached.deals;
          same = λ y b. refl;
          begun = begun_before g done e u x comes.is no_fork begun;
          waits = λ y r c w. no_join g e y r x comes.is (λ rs q. absurd (let z : label.End v ≡ label.Join rs = sym is ∙ q in cc)) w;
        }) (s.thread u (begun_before g done e u x comes.is no_fork begun) (unawaited_before g done e u unawaited))
      ];
    }
      where
        rests : (m.rest ≡ []) × (last x.thread ≡ returned v)
        rests = returned_rests p g m.reached.next (last x.thread) m.reached.moves m.rest v back m.reached.runs

        over : HasEnded l g (e ∷ done) m.reached.known m.reached.world s.owed x.thread (last x.thread)
        over = record {
          value = v;
          at = rests.1;
          over = λ d y q r. elim (cases_eq d e) [
            | inl z ↦ inl z
            | inr f ↦ inr (in_done d y q r f)
          ];
          atoms = pays.atoms;
          pays = pays.pays;
          fits = fits_later g done e m.reached.known m.reached.world x.thread (all_placed AtPlain pays.atoms)
              (fits_entailed g done m.reached.known m.reached.world x.thread m.reached.pieces (all_placed AtPlain pays.atoms) m.reached.fits pays.gives);
        }
          where
            in_done : (d : ℕ) (y : Event) → Is g d y → y.thread ≡ x.thread → (d ≡ e → ⊥) → In d done
            in_done d y q r f = by (is_in_or d done)
              where
                by : In d done ⊎ (In d done → ⊥) → In d done
                by (inl i) = i
                by (inr n) = elim (m.ahead.to d y q r n) [ inl z ↦ absurd (f z) | inr i ↦ elim (subst (λ (es : List ℕ). In d es) rests.0 i) [ ] ]

    with_mover : Mover l p g last done e x s → AllStand l p g last (e ∷ done)
    with_mover m =
        let back = subst (λ (y : Label). Leads (children_of m.reached.config) y m.reached.next) is (leads_on l p g last done e x s m) in
        stand m (subst (λ (y : Label). Allows l (s.owed x.thread) (need_of p m.reached.config) y (Good l p (s.owed x.thread) m.reached.moves m.reached.next) (map s.owed (children_of m.reached.config)) m.reached.pieces) is
        (allowed l p g last done e x s m)) back.1
