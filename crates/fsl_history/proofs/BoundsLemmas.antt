-- Views bound positions: each lies behind a chain of views that grow.
use Rattle.std.proofs.Common.{◌≡◌, ◌≤◌, ◌<◌, ℕ, ℤ, true, List, length, Option, Some, inl, inr, refl, ap, sym, subst, ◌∙◌, arith}
use Rattle.fsl_core.specs.declared.label.Label.{Label}
use Rattle.fsl_core.specs.declared.label.Label.TheVariants as label
use Rattle.fsl_core.specs.declared.mode.Mode.{Mode}
use Rattle.fsl_graph.specs.declared.event.Event.{Event}
use Rattle.fsl_graph.specs.declared.graph.Graph.{Graph}
use Rattle.fsl_graph.specs.Edges.{starts}
use Rattle.fsl_graph.specs.Events.{Touches, read_by, written_by, releases}
use Rattle.fsl_graph.specs.Execution.{Starts}
use Rattle.fsl_graph.specs.Positions.{Holder, Plain, Up, Down, Message, Position, Reaches, StandsFor, IsSent}
use Rattle.fsl_graph.specs.Positions.StandsFor.{by_event, by_fork}
use Rattle.fsl_history.specs.Bounds.{IsWithin, view_of, ViewsBoundPositions}
use Rattle.fsl_history.specs.History.{Done, done, older, views_of, seen_by_joined, end_of, message_of, replay}
use Rattle.fsl_history.proofs.ShownLemmas.{Shows, shows}
use Rattle.fsl_history.specs.Views.{Le, Views, joined_by, effect}
use Rattle.fsl_view.specs.Seen.{Seen}
use Rattle.fsl_history.proofs.ViewsLemmas.{le_refl, le_trans}
use Rattle.fsl_history.proofs.HistoryLemmas.{Made, made, step_at, reached, child_sees}
use Rattle.fsl_history.proofs.EdgesLemmas.{is_done, reads_done, fences_done, in_is_in, released, sequence, fence_apart, read_got, hb_before}
use Rattle.fsl_history.proofs.ConsistentLemmas.{reads_seen, writes_seen}

-- what an event has seen, and the view has too
within : (h : List Done) (e : ℕ) (v : Seen) → Made h → e < length h → Le (done h e).views.cur v → IsWithin h e v
within h e v made there le = record {
  reads = λ m l x reads. (let a = reads_seen h e m l x made there reads in let b = le.at l in omega (arith, a, b));
  writes = λ m l x writes. (let a = writes_seen h e m l x made there writes in let b = le.at l in omega (arith, a, b));
}

-- what reaches p has seen no more than p has, and is there
reaching : (g : Graph) (h : List Done) → Made h → Shows g h → (e p : ℕ) → p < length h → Reaches g e p → (e < length h) × Le (done h e).views.cur (done h p).views.cur
reaching g h made s e p there (inl same) =
    (omega (arith, same, there), subst (λ q. Le (done h e).views.cur (done h q).views.cur) same (le_refl (done h e).views.cur))
reaching g h made s e p there (inr hb) =
    let before = hb_before g h made s e p hb in
    let less = before.earlier in
    (omega (arith, less, there), before.grows)

standing : (g : Graph) (h : List Done) → Made h → Shows g h → (t p : ℕ) → StandsFor g t p → (p < length h) × Le (done h p).views.cur (views_of h t).cur
standing g h made s t p (by_event x is thread) =
    let at = is_done g h s p x is in
    let same : (done h p).event.thread ≡ t = ap (λ (y : Event). y.thread) at.1 ∙ thread in
    (at.0, subst (λ k. Le (done h p).views.cur (views_of h k).cur) same (reached h p made at.0).cur)
standing g h made s t p (by_fork f) =
    let at = is_done g h s p f.event f.is in
    let forks : (done h p).event.label ≡ label.Fork f.children = ap (λ (y : Event). y.label) at.1 ∙ f.forks in
    let so : starts (done h p).event.label t ≡ true = subst (λ (x : Label). starts x t ≡ true) (sym forks) (in_is_in t f.children f.child) in
    (at.0, child_sees h p t made at.0 so)

-- what is known by a message of w
sending : (g : Graph) (h : List Done) → Made h → Shows g h → (w e : ℕ) → IsSent g w e → (e < length h) × Le (done h e).views.cur (done h w).message
sending g h made s w e sent =
    let release = released g h made s sent.point sent.head sent.release in
    let along = sequence g h made s sent.head w sent.sequence in
    let first = reaching g h made s e sent.point release.2 sent.reaches in (
      first.0,
      le_trans (done h e).views.cur (done h sent.point).views.cur (done h w).message first.1
          (le_trans (done h sent.point).views.cur (done h sent.head).message (done h w).message release.1 along.1),
    )

bounded : (g : Graph) (h : List Done) → Made h → Shows g h → (past : List ℕ) (holder : Holder) (e : ℕ) → Position g past holder e → IsWithin h e (view_of h holder)
bounded g h made s past (Plain t) e seen =
    let last = standing g h made s t seen.last seen.stands in
    let first = reaching g h made s e seen.last last.0 seen.reaches in
    within h e (views_of h t).cur made first.0 (le_trans (done h e).views.cur (done h seen.last).views.cur (views_of h t).cur first.1 last.1)
bounded g h made s past (Up t) e fenced =
    let at = is_done g h s fenced.fence fenced.event fenced.is in
    let fence = fences_done g h s fenced.fence fenced.mode fenced.fences in
    let first = reaching g h made s e fenced.fence fence.0 fenced.reaches in
    let same : (done h fenced.fence).event.thread ≡ t = ap (λ (y : Event). y.thread) at.1 ∙ fenced.thread in
    let later : Le (done h fenced.fence).views.rel (views_of h t).rel =
    subst (λ k. Le (done h fenced.fence).views.rel (views_of h k).rel) same (reached h fenced.fence made at.0).rel in
    within h e (views_of h t).rel made first.0
    (le_trans (done h e).views.cur (done h fenced.fence).views.cur (views_of h t).rel first.1
    (le_trans (done h fenced.fence).views.cur (done h fenced.fence).views.rel (views_of h t).rel
    (fence_apart h fenced.fence fenced.mode made fence.0 fence.1 fenced.releases) later))
bounded g h made s past (Down t) e got =
    let read = reads_done g h s got.read got.mode got.loc got.value got.reads in
    let at = is_done g h s got.read got.reads.event got.reads.is in
    let same : (done h got.read).event.thread ≡ t = ap (λ (y : Event). y.thread) at.1 ∙ got.thread in
    let later : Le (done h got.read).views.acq (views_of h t).acq =
    subst (λ k. Le (done h got.read).views.acq (views_of h k).acq) same (reached h got.read made at.0).acq in
    let y = is_done g h s got.read got.from.reader got.from.is in
    let from : (done h got.read).event.from ≡ Some got.source = ap (λ (z : Event). z.from) y.1 ∙ got.from.source in
    let message = read_got h got.source got.read got.mode got.loc got.value made read.0 read.1 from got.atomic in
    let sent = sending g h made s got.source e got.sent in
    within h e (views_of h t).acq made sent.0
    (le_trans (done h e).views.cur (done h got.source).message (views_of h t).acq sent.1
    (le_trans (done h got.source).message (done h got.read).views.acq (views_of h t).acq message later))
bounded g h made s past (Message w part) e sent =
    let all = sending g h made s w e sent in
    within h e (done h w).message made all.0 all.1

pub views_bound_positions : ViewsBoundPositions
views_bound_positions g h lawful is past holder e at =
    let all = made h lawful in
    bounded g (replay h) all (shows g (replay h) all is) past holder e at
