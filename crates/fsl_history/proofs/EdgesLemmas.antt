-- The edges of a history's graph go forward, and lead to what has seen as much.
use Rattle.std.proofs.Common.{◌≡◌, ◌≤◌, ◌<◌, ◌||◌, ◌==◌, ℕ, ℤ, Bool, true, false, List, [], ◌∷◌, length, map, Option, Some, None, inl, inr, refl, ap, sym, subst, ◌∙◌, arith}
use Rattle.std.proofs.lemmas.Bool.{cases_order, eqb-true, eq-eqb, or_cases, or_left, or_right}
use Rattle.fsl_core.specs.declared.label.Ended.{Ended}
use Rattle.fsl_core.specs.declared.label.Label.{Label}
use Rattle.fsl_core.specs.declared.label.Label.TheVariants as label
use Rattle.fsl_core.specs.declared.mode.Mode.{Mode}
use Rattle.fsl_graph.specs.declared.event.Event.{Event}
use Rattle.fsl_graph.specs.declared.graph.Graph.{Graph}
use Rattle.fsl_graph.specs.Edges.{is_in, starts, awaits, is_end}
use Rattle.fsl_graph.specs.Events.{Is, Touch, Touches, read_by, written_by, is_atomic, acquires, releases, Reads, Writes, Fences, Updates}
use Rattle.fsl_graph.specs.Happens.{InSequence, head, next, ReleasePoint, AcquirePoint, Sw, HbEdge, Hb}
use Rattle.fsl_graph.specs.Happens.AcquirePoint.{at_read, at_fence as acquire_fence}
use Rattle.fsl_graph.specs.Happens.HbEdge.{by_sb as hb_by_sb, by_sw}
use Rattle.fsl_graph.specs.Happens.ReleasePoint.{at_write, at_fence as release_fence}
use Rattle.fsl_graph.specs.Sequenced.{Path, one, more, In, thread_of, Po, Forks, Joins, SbEdge, by_order, by_fork, by_join, Rf}
use Rattle.fsl_history.specs.History.{Done, done, older, views_of, seen_by, seen_by_joined, end_of, message_of}
use Rattle.fsl_history.specs.Lawful.{WritesIn}
use Rattle.fsl_history.proofs.ShownLemmas.{Shows}
use Rattle.fsl_history.specs.Views.{Le, Views, joined_by, effect}
use Rattle.fsl_view.specs.Seen.{Seen}
use Rattle.fsl_history.proofs.ViewsLemmas.{le_refl, le_trans, le_left, le_right, Grows, effect_gets, effect_acquires, effect_fences, effect_sets_apart, effect_joins}
use Rattle.fsl_history.proofs.HistoryLemmas.{IsStep, Made, step_at, step_grows, sound_now, made_older, length_older, done_older, child_sees, Before, before_trans, known, reached_before}
use Rattle.fsl_history.proofs.MessagesLemmas.{write_or_update, source_of, end_some, message_some, message_within, update_message, releasing_message, atomic_message}

-- ---- events of the graph

pub is_done : (g : Graph) (h : List Done) → Shows g h → (e : ℕ) (x : Event) → Is g e x → (e < length h) × ((done h e).event ≡ x)
is_done g h s e x is = let under = s.only e x is in let there = s.there e under in (under, cc)

pub reads_done : (g : Graph) (h : List Done) → Shows g h → (e : ℕ) (m : Mode) (l v : ℤ) → Reads g e m l v
    → (e < length h) × (read_by (done h e).event.label ≡ Some (Touches m l v))
reads_done g h s e m l v r = let at = is_done g h s e r.event r.is in (at.0, ap (λ (x : Event). read_by x.label) at.1 ∙ r.reads)

pub writes_done : (g : Graph) (h : List Done) → Shows g h → (e : ℕ) (m : Mode) (l v : ℤ) → Writes g e m l v
    → (e < length h) × (written_by (done h e).event.label ≡ Some (Touches m l v))
writes_done g h s e m l v r = let at = is_done g h s e r.event r.is in (at.0, ap (λ (x : Event). written_by x.label) at.1 ∙ r.writes)

pub fences_done : (g : Graph) (h : List Done) → Shows g h → (e : ℕ) (m : Mode) → Fences g e m
    → (e < length h) × ((done h e).event.label ≡ label.Fence m)
fences_done g h s e m f = let at = is_done g h s e f.event f.is in (at.0, ap (λ (x : Event). x.label) at.1 ∙ f.fences)

pub in_is_in : (x : ℕ) (ys : List ℕ) → In x ys → is_in x ys ≡ true
in_is_in x [] i = absurd i
in_is_in x (y ∷ ys) (inl e) = or_left (x == y) (is_in x ys) (eq-eqb x y e)
in_is_in x (y ∷ ys) (inr i) = or_right (x == y) (is_in x ys) (in_is_in x ys i)

-- ---- program order

same_thread : (g : Graph) (h : List Done) → Shows g h → (a b : ℕ) → Po g a b → (done h a).event.thread ≡ (done h b).event.thread
same_thread g h s a b p =
    let x = is_done g h s a p.earlier p.is_earlier in
    let y = is_done g h s b p.later p.is_later in
    ap (λ (z : Event). z.thread) x.1 ∙ p.thread ∙ sym (ap (λ (z : Event). z.thread) y.1)

po_there : (g : Graph) (h : List Done) → Shows g h → (a b : ℕ) → Po g a b → b < length h
po_there g h s a b p = (is_done g h s b p.later p.is_later).0

-- what a thread had seen it has seen before a later event of it
po_grows : (g : Graph) (h : List Done) → Made h → Shows g h → (a b : ℕ) → Po g a b
    → Grows (done h a).views (views_of (older h b) (done h b).event.thread)
po_grows g h made s a b p =
    subst (λ t. Grows (done h a).views (views_of (older h b) t)) (same_thread g h s a b p) (reached_before h a b made p.before (po_there g h s a b p))

po_before : (g : Graph) (h : List Done) → Made h → Shows g h → (a b : ℕ) → Po g a b → Before h a b
po_before g h made s a b p = known h a b made p.before (po_there g h s a b p) (po_grows g h made s a b p).cur

-- ---- started threads

fork_less : (h : List Done) (a b : ℕ) → Made h → a < length h → b < length h → starts (done h a).event.label (done h b).event.thread ≡ true → a < b
fork_less h a b made u v st =
    let step = step_at h a made u in
    elim (cases_order a b) [
      | inl same ↦ absurd (step.allowed.apart (subst (λ k. starts (done h a).event.label (done h k).event.thread ≡ true) (sym same) st))
      | inr (inl less) ↦ less
      | inr (inr past) ↦ (
          let size = length_older h a u in
          absurd (step.allowed.fresh (done h b).event.thread b st (omega (arith, size, past)) (ap (λ (x : Done). x.event.thread) (done_older h b a past u))))
    ]

fork_before : (g : Graph) (h : List Done) → Made h → Shows g h → (a b : ℕ) → Forks g a b → Before h a b
fork_before g h made s a b f =
    let x = is_done g h s a f.fork f.is_fork in
    let y = is_done g h s b f.event f.is_event in
    let forks : starts f.fork.label f.event.thread ≡ true = subst (λ (k : Label). starts k f.event.thread ≡ true) (sym f.forks) (in_is_in f.event.thread f.children f.child) in
    let parent : starts (done h a).event.label f.event.thread ≡ true = subst (λ (z : Event). starts z.label f.event.thread ≡ true) (sym x.1) forks in
    let st : starts (done h a).event.label (done h b).event.thread ≡ true = subst (λ (z : Event). starts (done h a).event.label z.thread ≡ true) (sym y.1) parent in
    let less = fork_less h a b made x.0 y.0 st in
    let size = length_older h b y.0 in
    let same = done_older h a b less y.0 in
    let before : starts (done (older h b) a).event.label (done h b).event.thread ≡ true =
    subst (λ (z : Done). starts z.event.label (done h b).event.thread ≡ true) (sym same) st in
    let sees = child_sees (older h b) a (done h b).event.thread (made_older h b made) (omega (arith, size, less)) before in
    known h a b made less y.0 (subst (λ (z : Done). Le z.views.cur (views_of (older h b) (done h b).event.thread).cur) same sees)

-- ---- threads that are waited for

one_end : (h : List Done) (a b : ℕ) → Made h → a < b → b < length h → (done h a).event.thread ≡ (done h b).event.thread → is_end (done h a).event.label ≡ true → ⊥
one_end h a b made less u same end =
    let size = length_older h b u in
    let old = done_older h a b less u in
    (step_at h b made u).allowed.live a (omega (arith, size, less)) (ap (λ (x : Done). x.event.thread) old ∙ same)
    (subst (λ (x : Done). is_end x.event.label ≡ true) (sym old) end)

join_less : (h : List Done) (a b : ℕ) → Made h → a < length h → b < length h → is_end (done h a).event.label ≡ true
    → awaits (done h b).event.label (done h a).event.thread ≡ true → a < b
join_less h a b made u v end waits =
    let ended = (step_at h b made v).allowed.ended (done h a).event.thread waits in
    let e = ended.0 in
    let size = length_older h b v in
    let under = ended.1 in
    let less : e < b = omega (arith, size, under) in
    let there : e < length h = omega (arith, less, v) in
    let old = done_older h e b less v in
    let thread : (done h e).event.thread ≡ (done h a).event.thread = sym (ap (λ (x : Done). x.event.thread) old) ∙ ended.2 in
    let stops : is_end (done h e).event.label ≡ true = subst (λ (x : Done). is_end x.event.label ≡ true) old ended.3 in
    elim (cases_order e a) [
      | inl same ↦ omega (arith, same, less)
      | inr (inl first) ↦ absurd (one_end h e a made first u thread stops)
      | inr (inr last) ↦ absurd (one_end h a e made last there (sym thread) end)
    ]

seen_by_in : (h : List Done) (rs : List Ended) (t : ℕ) → is_in t (map thread_of rs) ≡ true → Le (views_of h t).cur (seen_by h rs)
seen_by_in h [] t e = cc
seen_by_in h (r ∷ rs) t e = elim (or_cases (t == r.thread) (is_in t (map thread_of rs)) e) [
  | inl same ↦ (
      let is : r.thread ≡ t = sym (eqb-true t r.thread same) in
      subst (λ k. Le (views_of h k).cur (seen_by h (r ∷ rs))) is (le_left (views_of h r.thread).cur (seen_by h rs)))
  | inr among ↦ le_trans (views_of h t).cur (seen_by h rs) (seen_by h (r ∷ rs)) (seen_by_in h rs t among) (le_right (views_of h r.thread).cur (seen_by h rs))
]

-- what the threads have seen, the one that waits for them has
join_sees : (h : List Done) (d : Done) (rs : List Ended) → IsStep h d → d.event.label ≡ label.Join rs → Le (seen_by h rs) d.views.cur
join_sees h d rs s joins =
    let all = effect_joins d.event.label rs (end_of h d.event.from) d.to (message_of h d.event.from) (seen_by_joined h (joined_by d.event.label)) (views_of h d.event.thread) joins in
    let which : seen_by_joined h (joined_by d.event.label) ≡ seen_by h rs = ap (λ (x : Label). seen_by_joined h (joined_by x)) joins in
    subst (λ (v : Seen). Le v d.views.cur) which
    (subst (λ (v : Views). Le (seen_by_joined h (joined_by d.event.label)) v.cur) (sym s.views) all)

join_before : (g : Graph) (h : List Done) → Made h → Shows g h → (a b : ℕ) → Joins g a b → Before h a b
join_before g h made s a b j =
    let x = is_done g h s a j.last j.is_last in
    let y = is_done g h s b j.join j.is_join in
    let end : is_end (done h a).event.label ≡ true = ap (λ (z : Event). is_end z.label) x.1 ∙ ap is_end j.ends in
    let joins : (done h b).event.label ≡ label.Join j.results = ap (λ (z : Event). z.label) y.1 ∙ j.joins in
    let thread : (done h a).event.thread ≡ j.last.thread = ap (λ (z : Event). z.thread) x.1 in
    let among : is_in (done h a).event.thread (map thread_of j.results) ≡ true =
    subst (λ t. is_in t (map thread_of j.results) ≡ true) (sym thread) (in_is_in j.last.thread (map thread_of j.results) j.child) in
    let waits : awaits (done h b).event.label (done h a).event.thread ≡ true =
    subst (λ (k : Label). awaits k (done h a).event.thread ≡ true) (sym joins) among in
    let less = join_less h a b made x.0 y.0 end waits in
    let sees = le_trans (views_of (older h b) (done h a).event.thread).cur (seen_by (older h b) j.results) (done h b).views.cur
    (seen_by_in (older h b) j.results (done h a).event.thread among) (join_sees (older h b) (done h b) j.results (step_at h b made y.0) joins) in
    record {
      earlier = less;
      there = y.0;
      grows = le_trans (done h a).views.cur (views_of (older h b) (done h a).event.thread).cur (done h b).views.cur (reached_before h a b made less y.0).cur sees;
      reads = λ m l v e. (let none : read_by (done h b).event.label ≡ None = ap read_by joins in absurd cc);
      writes = λ m l v e. (let none : written_by (done h b).event.label ≡ None = ap written_by joins in absurd cc);
    }

-- ---- synchronizes-with

-- a release fence has set apart what it has
pub fence_apart : (h : List Done) (p : ℕ) (k : Mode) → Made h → p < length h → (done h p).event.label ≡ label.Fence k → releases k ≡ true
    → Le (done h p).views.cur (done h p).views.rel
fence_apart h p k made there fences so =
    let step = step_at h p made there in
    subst (λ (u : Views). Le u.cur u.rel) (sym step.views)
    (effect_sets_apart (done h p).event.label k (end_of (older h p) (done h p).event.from) (done h p).to (message_of (older h p) (done h p).event.from)
    (seen_by_joined (older h p) (joined_by (done h p).event.label)) (views_of (older h p) (done h p).event.thread) fences so)

pub released : (g : Graph) (h : List Done) → Made h → Shows g h → (p w : ℕ) → ReleasePoint g p w
    → (p ≤ w) × Le (done h p).views.cur (done h w).message × (p < length h)
released g h made s p w (at_write {m} {l} {v} writes so at) =
    let x = writes_done g h s w m l v writes in
    let under = x.0 in
    (omega (arith, at), subst (λ q. Le (done h q).views.cur (done h w).message) (sym at) (releasing_message h w m l v made x.0 x.1 so), omega (arith, at, under))
released g h made s p w (release_fence {m} {k} {l} {v} writes atomic fence so po) =
    let x = writes_done g h s w m l v writes in
    let y = fences_done g h s p k fence in
    let thread = (done h w).event.thread in
    let here = step_grows (older h w) (done h w) (step_at h w made x.0) (sound_now (older h w) thread (made_older h w made)) in
    let less = po.before in (
      omega (arith, less),
      le_trans (done h p).views.cur (done h p).views.rel (done h w).message (fence_apart h p k made y.0 y.1 so)
          (le_trans (done h p).views.rel (views_of (older h w) thread).rel (done h w).message (po_grows g h made s p w po).rel
          (le_trans (views_of (older h w) thread).rel (done h w).views.rel (done h w).message here.rel (atomic_message h w m l v made x.0 x.1 atomic))),
      y.0,
    )

pub sequence : (g : Graph) (h : List Done) → Made h → Shows g h → (w u : ℕ) → InSequence g w u → (w ≤ u) × Le (done h w).message (done h u).message
sequence g h made s w u head = (omega arith, le_refl (done h w).message)
sequence g h made s w u (next {u = x} {m = m} {l = l} {old = old} {new = new} seq rf up) =
    let first = sequence g h made s w x seq in
    let at = is_done g h s u up.event up.is in
    let read = is_done g h s u rf.reader rf.is in
    let updates : (done h u).event.label ≡ label.Rmw m l old new = ap (λ (z : Event). z.label) at.1 ∙ up.updates in
    let from : (done h u).event.from ≡ Some x = ap (λ (z : Event). z.from) read.1 ∙ rf.source in
    let more_ = update_message h u x m l old new made at.0 updates from in
    let le = first.0 in
    let less = more_.0 in
    (omega (arith, le, less), le_trans (done h w).message (done h x).message (done h u).message first.1 more_.1)

-- b gets what the message of s has
record Gets (h : List Done) (s b : ℕ) : Type 0 where
  earlier : s < b
  there : b < length h
  grows : Le (done h s).message (done h b).views.cur
  reads : (m : Mode) (l v : ℤ) → read_by (done h b).event.label ≡ Some (Touches m l v) → (done h s).message l ≤ (done h b).from_to
  writes : (m : Mode) (l v : ℤ) → written_by (done h b).event.label ≡ Some (Touches m l v) → (done h s).message l ≤ (done h b).low

-- a read, with its source
pub record Sourced (h : List Done) (w r : ℕ) (l v : ℤ) : Type 0 where
  pub earlier : w < r
  pub there : r < length h
  pub mode : Mode
  pub writes : written_by (done h w).event.label ≡ Some (Touches mode l v)
  pub end : end_of (older h r) (done h r).event.from ≡ (done h w).to
  pub message : message_of (older h r) (done h r).event.from ≡ (done h w).message

pub sourced : (h : List Done) (w r : ℕ) (m : Mode) (l v : ℤ) → Made h → r < length h → read_by (done h r).event.label ≡ Some (Touches m l v)
    → (done h r).event.from ≡ Some w → Sourced h w r l v
sourced h w r m l v made there reads from =
    let step = step_at h r made there in
    let write = source_of (older h r) (done h r) step w m l v reads from in
    let size = length_older h r there in
    let under = write.0 in
    let less : w < r = omega (arith, size, under) in
    let same = done_older h w r less there in
    record {
      earlier = less;
      there = there;
      mode = write.1.0;
      writes = sym (ap (λ (x : Done). written_by x.event.label) same) ∙ write.1.1;
      end = end_some (older h r) (done h r).event.from w from ∙ ap (λ (x : Done). x.to) same;
      message = message_some (older h r) (done h r).event.from w from ∙ ap (λ (x : Done). x.message) same;
    }

one_touch : (o : Option Touch) (m n : Mode) (k l u v : ℤ) → o ≡ Some (Touches m k u) → o ≡ Some (Touches n l v) → k ≡ l
one_touch o m n k l u v a b = let same : Some (Touches m k u) ≡ Some (Touches n l v) = sym a ∙ b in cc

-- by its read
read_gets : (h : List Done) (w r : ℕ) (m : Mode) (l v : ℤ) → Made h → r < length h → read_by (done h r).event.label ≡ Some (Touches m l v)
    → (done h r).event.from ≡ Some w → acquires m ≡ true → Gets h w r
read_gets h w r m l v made there reads from so =
    let step = step_at h r made there in
    let source = sourced h w r m l v made there reads from in
    let less = source.earlier in
    let within = message_within h w source.mode l v made (omega (arith, less, there)) source.writes in
    let all = effect_acquires (done h r).event.label m l v (end_of (older h r) (done h r).event.from) (done h r).to (message_of (older h r) (done h r).event.from)
    (seen_by_joined (older h r) (joined_by (done h r).event.label)) (views_of (older h r) (done h r).event.thread) reads so in
    let cur : Le (message_of (older h r) (done h r).event.from) (done h r).views.cur =
    subst (λ (u : Views). Le (message_of (older h r) (done h r).event.from) u.cur) (sym step.views) all in
    record {
      earlier = less;
      there = there;
      grows = subst (λ (u : Seen). Le u (done h r).views.cur) source.message cur;
      reads = λ n k u e. (
          let same = one_touch (read_by (done h r).event.label) n m k l u v e reads in
          let ends = step.from_to ∙ source.end in
          subst (λ z. (done h w).message z ≤ (done h r).from_to) (sym same) (omega (arith, within, ends)));
      writes = λ n k u e. elim (write_or_update (done h r).event.label n k u e) [
        | inl none ↦ absurd cc
        | inr update ↦ (
            let same = one_touch (read_by (done h r).event.label) n m k l update.0 v (ap read_by update.1) reads in
            let low = (step.allowed.next n k update.0 u update.1).0 ∙ source.end in
            subst (λ z. (done h w).message z ≤ (done h r).low) (sym same) (omega (arith, within, low)))
      ];
    }

-- an atomic read gets its source's message for later
pub read_got : (h : List Done) (w r : ℕ) (m : Mode) (l v : ℤ) → Made h → r < length h → read_by (done h r).event.label ≡ Some (Touches m l v)
    → (done h r).event.from ≡ Some w → is_atomic m ≡ true → Le (done h w).message (done h r).views.acq
read_got h w r m l v made there reads from atomic =
    let step = step_at h r made there in
    let source = sourced h w r m l v made there reads from in
    let all = effect_gets (done h r).event.label m l v (end_of (older h r) (done h r).event.from) (done h r).to (message_of (older h r) (done h r).event.from)
    (seen_by_joined (older h r) (joined_by (done h r).event.label)) (views_of (older h r) (done h r).event.thread) reads atomic in
    subst (λ (x : Seen). Le x (done h r).views.acq) source.message
    (subst (λ (x : Views). Le (message_of (older h r) (done h r).event.from) x.acq) (sym step.views) all)

-- by a fence behind its read
fence_gets : (g : Graph) (h : List Done) → Made h → Shows g h → (w r b : ℕ) (m k : Mode) (l v : ℤ) → r < length h
    → read_by (done h r).event.label ≡ Some (Touches m l v) → (done h r).event.from ≡ Some w → is_atomic m ≡ true
    → (done h b).event.label ≡ label.Fence k → acquires k ≡ true → Po g r b → Gets h w b
fence_gets g h made s w r b m k l v there reads from atomic fences so po =
    let u = po_there g h s r b po in
    let here = step_at h b made u in
    let source = sourced h w r m l v made there reads from in
    let got = read_got h w r m l v made there reads from atomic in
    let takes = effect_fences (done h b).event.label k (end_of (older h b) (done h b).event.from) (done h b).to (message_of (older h b) (done h b).event.from)
    (seen_by_joined (older h b) (joined_by (done h b).event.label)) (views_of (older h b) (done h b).event.thread) fences so in
    let cur : Le (views_of (older h b) (done h b).event.thread).acq (done h b).views.cur =
    subst (λ (x : Views). Le (views_of (older h b) (done h b).event.thread).acq x.cur) (sym here.views) takes in
    let less = source.earlier in
    let onward = po.before in
    record {
      earlier = omega (arith, less, onward);
      there = u;
      grows = le_trans (done h w).message (done h r).views.acq (done h b).views.cur got
          (le_trans (done h r).views.acq (views_of (older h b) (done h b).event.thread).acq (done h b).views.cur (po_grows g h made s r b po).acq cur);
      reads = λ n j x e. (let none : read_by (done h b).event.label ≡ None = ap read_by fences in absurd cc);
      writes = λ n j x e. (let none : written_by (done h b).event.label ≡ None = ap written_by fences in absurd cc);
    }

gets : (g : Graph) (h : List Done) → Made h → Shows g h → (w r b : ℕ) → Rf g w r → AcquirePoint g r b → Gets h w b
gets g h made s w r b rf (at_read {m} {l} {v} reads so at) =
    let x = reads_done g h s r m l v reads in
    let y = is_done g h s r rf.reader rf.is in
    let from : (done h r).event.from ≡ Some w = ap (λ (z : Event). z.from) y.1 ∙ rf.source in
    subst (λ q. Gets h w q) (sym at) (read_gets h w r m l v made x.0 x.1 from so)
gets g h made s w r b rf (acquire_fence {m} {k} {l} {v} reads atomic fence so po) =
    let x = reads_done g h s r m l v reads in
    let y = is_done g h s r rf.reader rf.is in
    let from : (done h r).event.from ≡ Some w = ap (λ (z : Event). z.from) y.1 ∙ rf.source in
    fence_gets g h made s w r b m k l v x.0 x.1 from atomic (fences_done g h s b k fence).1 so po

sw_before : (g : Graph) (h : List Done) → Made h → Shows g h → (a b : ℕ) → Sw g a b → Before h a b
sw_before g h made s a b w =
    let first = released g h made s a w.write w.release in
    let along = sequence g h made s w.write w.source w.sequence in
    let last = gets g h made s w.source w.read b w.reads w.acquire in
    let passes = le_trans (done h a).views.cur (done h w.write).message (done h w.source).message first.1 along.1 in
    record {
      earlier = (let x = first.0 in let y = along.0 in let z = last.earlier in omega (arith, x, y, z));
      there = last.there;
      grows = le_trans (done h a).views.cur (done h w.source).message (done h b).views.cur passes last.grows;
      reads = λ m l v e. (let x = passes.at l in let y = last.reads m l v e in omega (arith, x, y));
      writes = λ m l v e. (let x = passes.at l in let y = last.writes m l v e in omega (arith, x, y));
    }

-- ---- all edges

pub sb_before : (g : Graph) (h : List Done) → Made h → Shows g h → (a b : ℕ) → SbEdge g a b → Before h a b
sb_before g h made s a b (by_order p) = po_before g h made s a b p
sb_before g h made s a b (by_fork f) = fork_before g h made s a b f
sb_before g h made s a b (by_join j) = join_before g h made s a b j

hb_edge_before : (g : Graph) (h : List Done) → Made h → Shows g h → (a b : ℕ) → HbEdge g a b → Before h a b
hb_edge_before g h made s a b (hb_by_sb e) = sb_before g h made s a b e
hb_edge_before g h made s a b (by_sw w) = sw_before g h made s a b w

-- what happens before an event was seen before it
pub hb_before : (g : Graph) (h : List Done) → Made h → Shows g h → (a b : ℕ) → Hb g a b → Before h a b
hb_before g h made s a b (one e) = hb_edge_before g h made s a b e
hb_before g h made s a b (more {b = c} e path) = before_trans h a c b (hb_edge_before g h made s a c e) (hb_before g h made s c b path)
