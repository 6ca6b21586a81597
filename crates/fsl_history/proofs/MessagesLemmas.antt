-- The messages of a history: what their views have, and what reads get of them.
use Rattle.std.proofs.Common.{◌≡◌, ◌≤◌, ◌<◌, ◌==◌, ◌+◌, ◌⊎◌, ℕ, ℤ, Bool, true, false, cond, List, [], ◌∷◌, length, Option, Some, None, inl, inr, refl, ap, sym, subst, ◌∙◌, arith}
use Rattle.std.proofs.lemmas.Bool.{eqb-true, eqb-false}
use Rattle.fsl_core.specs.declared.label.Label.{Label}
use Rattle.fsl_core.specs.declared.label.Label.TheVariants as label
use Rattle.fsl_core.specs.declared.mode.Mode.{Mode}
use Rattle.fsl_graph.specs.Events.{Touch, Touches, read_by, written_by, is_atomic, releases}
use Rattle.fsl_history.specs.History.{Done, done, older, views_of, seen_by_joined, end_of, message_of}
use Rattle.fsl_history.specs.Lawful.{Allowed, WritesIn, IsSourceIn}
use Rattle.fsl_history.specs.Views.{Le, Views, joined_by, effect, sent, message_view}
use Rattle.fsl_view.specs.Seen.{Seen, unseen, joined}
use Rattle.fsl_history.proofs.ViewsLemmas.{le_refl, le_trans, le_left, le_right, le_same, IsSound, sent_releases, sent_atomic, message_at, effect_within}
use Rattle.fsl_history.proofs.HistoryLemmas.{IsStep, Made, step_at, step_sound, sound_now, sound_at, made_older, length_older, done_older}

-- ---- labels

-- a write reads nothing, or is a read-modify-write
pub write_or_update : (x : Label) (m : Mode) (l v : ℤ) → written_by x ≡ Some (Touches m l v)
    → (read_by x ≡ None) ⊎ ((old : ℤ) × (x ≡ label.Rmw m l old v))
write_or_update (label.Store n k u) m l v e = inl refl
write_or_update (label.Rmw n k u y) m l v e = inr (u, cc)
write_or_update (label.Alloc n k) m l v e = cc
write_or_update (label.Free k) m l v e = cc
write_or_update (label.Load n k u) m l v e = cc
write_or_update (label.Fence n) m l v e = cc
write_or_update (label.Fork ts) m l v e = cc
write_or_update (label.Join rs) m l v e = cc
write_or_update (label.Print u) m l v e = cc
write_or_update (label.End u) m l v e = cc

-- ---- sources

-- the source of a step is an earlier write, where it has one
pub source_of : (h : List Done) (d : Done) → IsStep h d → (w : ℕ) (m : Mode) (l v : ℤ) → read_by d.event.label ≡ Some (Touches m l v)
    → d.event.from ≡ Some w → WritesIn h w l v
source_of h d s w m l v e from = subst (λ (o : Option ℕ). IsSourceIn h l v o) from (s.allowed.reads m l v e)

-- what comes in with it: nothing, or what the write has left
pub end_some : (h : List Done) (o : Option ℕ) (w : ℕ) → o ≡ Some w → end_of h o ≡ (done h w).to
end_some h o w e = ap (end_of h) e

pub message_some : (h : List Done) (o : Option ℕ) (w : ℕ) → o ≡ Some w → message_of h o ≡ (done h w).message
message_some h o w e = ap (message_of h) e

-- ---- what a message has at its own location

source_within : (h : List Done) (l v : ℤ) (o : Option ℕ)
    → ((w : ℕ) (m : Mode) (x : ℤ) → w < length h → written_by (done h w).event.label ≡ Some (Touches m l x) → (done h w).message l ≤ (done h w).to)
    → IsSourceIn h l v o → message_of h o l ≤ end_of h o
source_within h l v None all is = omega arith
source_within h l v (Some w) all is = all w is.1.0 v is.0 is.1.1

got_within : (h : List Done) (d : Done) → IsStep h d → (m : Mode) (l v : ℤ) → written_by d.event.label ≡ Some (Touches m l v)
    → ((w : ℕ) (n : Mode) (x : ℤ) → w < length h → written_by (done h w).event.label ≡ Some (Touches n l x) → (done h w).message l ≤ (done h w).to)
    → (end_of h d.event.from ≤ d.to) × (message_of h d.event.from l ≤ d.to)
got_within h d s m l v writes all = elim (write_or_update d.event.label m l v writes) [
  | inl none ↦ (
      let from = s.allowed.no_source none in
      (subst (λ (o : Option ℕ). end_of h o ≤ d.to) (sym from) (omega arith), subst (λ (o : Option ℕ). message_of h o l ≤ d.to) (sym from) (omega arith)))
  | inr update ↦ (
      let next = s.allowed.next m l update.0 v update.1 in
      let low = next.0 in
      let to = next.1 in
      let reads : read_by d.event.label ≡ Some (Touches m l update.0) = ap read_by update.1 in
      let within = source_within h l update.0 d.event.from all (s.allowed.reads m l update.0 reads) in
      (omega (arith, low, to), omega (arith, low, to, within)))
]

step_within : (h : List Done) (d : Done) → Made h → IsStep h d → (m : Mode) (l v : ℤ) → written_by d.event.label ≡ Some (Touches m l v)
    → ((w : ℕ) (n : Mode) (x : ℤ) → w < length h → written_by (done h w).event.label ≡ Some (Touches n l x) → (done h w).message l ≤ (done h w).to)
    → d.message l ≤ d.to
step_within h d m s n l v writes all =
    let got = got_within h d s n l v writes all in
    let sound = sound_now h d.event.thread m in
    let above = s.allowed.writes n l v writes in
    let interval = s.allowed.interval n l v writes in
    let under : (views_of h d.event.thread).cur l ≤ d.to = omega (arith, above, interval) in
    let whole = effect_within d.event.label n l v (end_of h d.event.from) d.to (message_of h d.event.from) (seen_by_joined h (joined_by d.event.label)) (views_of h d.event.thread)
    writes under got.0 got.1 in
    let cur : d.views.cur l ≤ d.to = subst (λ (w : Views). w.cur l ≤ d.to) (sym s.views) whole in
    let view = message_at n l l v d.to (message_of h d.event.from) d.views (step_sound h d s sound) cur got.1 in
    subst (λ (w : Seen). w l ≤ d.to) (sym s.message)
    (subst (λ (o : Option Touch). message_view o (message_of h d.event.from) d.views l ≤ d.to) (sym writes) view)

pub message_within : (h : List Done) (w : ℕ) (m : Mode) (l v : ℤ) → Made h → w < length h → written_by (done h w).event.label ≡ Some (Touches m l v)
    → (done h w).message l ≤ (done h w).to
message_within [] w m l v made u e = absurd (omega (arith, u))
message_within (d ∷ h) w m l v made u e = by (w == length h) refl e (λ k n x under is. message_within h k n l x made.0 under is)
  where
    by : (b : Bool) → (w == length h) ≡ b → written_by (cond b d (done h w)).event.label ≡ Some (Touches m l v)
        → ((k : ℕ) (n : Mode) (x : ℤ) → k < length h → written_by (done h k).event.label ≡ Some (Touches n l x) → (done h k).message l ≤ (done h k).to)
        → (cond b d (done h w)).message l ≤ (cond b d (done h w)).to
    by true q writes rest = step_within h d made.0 made.1 m l v writes rest
    by false q writes rest = let apart = eqb-false w (length h) q in rest w m v (omega (arith, u, apart)) writes

-- ---- what a message sends on

-- a message of a read-modify-write has what its source's has
pub update_message : (h : List Done) (b u : ℕ) (m : Mode) (l old new : ℤ) → Made h → b < length h → (done h b).event.label ≡ label.Rmw m l old new
    → (done h b).event.from ≡ Some u → (u < b) × Le (done h u).message (done h b).message
update_message h b u m l old new made there update from =
    let s = step_at h b made there in
    let size = length_older h b there in
    let reads : read_by (done h b).event.label ≡ Some (Touches m l old) = ap read_by update in
    let writes : written_by (done h b).event.label ≡ Some (Touches m l new) = ap written_by update in
    let source = source_of (older h b) (done h b) s u m l old reads from in
    let under = source.0 in
    let less : u < b = omega (arith, size, under) in
    let got : message_of (older h b) (done h b).event.from ≡ (done h u).message =
    message_some (older h b) (done h b).event.from u from ∙ ap (λ (x : Done). x.message) (done_older h u b less there) in
    let view : (done h b).message ≡ joined (sent m (done h b).views) (done h u).message =
    s.message ∙ ap (λ (o : Option Touch). message_view o (message_of (older h b) (done h b).event.from) (done h b).views) writes
    ∙ ap (λ (v : Seen). joined (sent m (done h b).views) v) got in
    (less, subst (λ (v : Seen). Le (done h u).message v) (sym view) (le_right (sent m (done h b).views) (done h u).message))

-- a message has what its write sends
pub message_has : (h : List Done) (w : ℕ) (m : Mode) (l v : ℤ) → Made h → w < length h → written_by (done h w).event.label ≡ Some (Touches m l v)
    → Le (sent m (done h w).views) (done h w).message
message_has h w m l v made there writes =
    let s = step_at h w made there in
    let got = message_of (older h w) (done h w).event.from in
    let view : (done h w).message ≡ joined (sent m (done h w).views) got =
    s.message ∙ ap (λ (o : Option Touch). message_view o got (done h w).views) writes in
    subst (λ (u : Seen). Le (sent m (done h w).views) u) (sym view) (le_left (sent m (done h w).views) got)

-- what a write that releases has seen is in its message
pub releasing_message : (h : List Done) (w : ℕ) (m : Mode) (l v : ℤ) → Made h → w < length h → written_by (done h w).event.label ≡ Some (Touches m l v)
    → releases m ≡ true → Le (done h w).views.cur (done h w).message
releasing_message h w m l v made there writes so =
    subst (λ (u : Seen). Le u (done h w).message) (sent_releases m (done h w).views so) (message_has h w m l v made there writes)

-- and what the thread of an atomic write had set apart
pub atomic_message : (h : List Done) (w : ℕ) (m : Mode) (l v : ℤ) → Made h → w < length h → written_by (done h w).event.label ≡ Some (Touches m l v)
    → is_atomic m ≡ true → Le (done h w).views.rel (done h w).message
atomic_message h w m l v made there writes so =
    le_trans (done h w).views.rel (sent m (done h w).views) (done h w).message (sent_atomic m (done h w).views (sound_at h w made there) so)
    (message_has h w m l v made there writes)
