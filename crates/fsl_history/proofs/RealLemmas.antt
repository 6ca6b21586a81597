-- What is seen of a location is nothing, or goes up to a message that is there: the greater of two ends is one of
-- them.
use Rattle.std.proofs.Common.{◌≡◌, ◌≤◌, ◌<◌, ◌==◌, ◌⊎◌, ℕ, ℤ, Bool, true, false, cond, List, [], ◌∷◌, length, Option, Some, None, inl, inr, refl, ap, sym, subst, ◌∙◌, arith}
use Rattle.std.specs.Prelude.{max}
use Rattle.std.specs.Ordering.{int_eq}
use Rattle.std.proofs.lemmas.Bool.{cases_lt, eqb-true, eqb-false}
use Rattle.std.proofs.lemmas.Bool.Decides.{Decides-int_eq}
use Rattle.fsl_core.specs.declared.label.Ended.{Ended}
use Rattle.fsl_core.specs.declared.label.Label.{Label}
use Rattle.fsl_core.specs.declared.mode.Mode.{Mode}
use Rattle.fsl_core.specs.declared.mode.Mode.TheVariants as mode
use Rattle.fsl_graph.specs.Edges.{starts}
use Rattle.fsl_graph.specs.Events.{Touch, Touches, read_by, written_by, is_atomic, acquires, releases}
use Rattle.fsl_history.specs.History.{Done, done, views_of, seen_by, seen_by_joined, end_of, message_of, replay}
use Rattle.fsl_history.specs.Lawful.{WritesIn, IsSourceIn}
use Rattle.fsl_history.specs.Real.{IsEndAt, IsReal, AreReal, ViewsAreReal, MessagesAreReal}
use Rattle.fsl_history.specs.Views.{Views, no_views, started, when, either, fenced_by, joined_by, after_read, after_write, after_fence, after_join, effect, sent, message_view}
use Rattle.fsl_view.specs.Seen.{Seen, unseen, joined, only, raised}
use Rattle.fsl_history.proofs.HistoryLemmas.{IsStep, Made, made}
use Rattle.fsl_history.proofs.ShownLemmas.{done_more, done_last}

-- ---- views that are real

real_unseen : (h : List Done) → IsReal h unseen
real_unseen h = record { at = λ l. inl refl }

greater_end : (h : List Done) (l : ℤ) (m n : ℕ) → IsEndAt h l m → IsEndAt h l n → IsEndAt h l (max m n)
greater_end h l m n x y = elim (cases_lt m n) [
  | inl less ↦ (let is : n ≡ max m n = omega (arith, less) in subst (λ k. IsEndAt h l k) is y)
  | inr le ↦ (let is : m ≡ max m n = omega (arith, le) in subst (λ k. IsEndAt h l k) is x)
]

real_joined : (h : List Done) (v w : Seen) → IsReal h v → IsReal h w → IsReal h (joined v w)
real_joined h v w x y = record { at = λ l. greater_end h l (v l) (w l) (x.at l) (y.at l) }

real_only : (h : List Done) (k : ℤ) (t : ℕ) → IsEndAt h k t → IsReal h (only k t)
real_only h k t x = record { at = λ l. by l (int_eq k l) refl }
  where
    by : (l : ℤ) (b : Bool) → int_eq k l ≡ b → IsEndAt h l (cond b t 0)
    by l true e = subst (λ z. IsEndAt h z t) ((Decides-int_eq k l).0 e) x
    by l false e = inl refl

real_when : (h : List Done) (b : Bool) (v : Seen) → IsReal h v → IsReal h (when b v)
real_when h true v x = record { at = λ l. x.at l }
real_when h false v x = record { at = λ l. inl refl }

real_either : (h : List Done) (b : Bool) (v w : Seen) → IsReal h v → IsReal h w → IsReal h (either b v w)
real_either h true v w x y = record { at = λ l. x.at l }
real_either h false v w x y = record { at = λ l. y.at l }

-- ---- what an event makes of them

read_real : (h : List Done) (o : Option Touch) (t : ℕ) (v : Seen) (w : Views) → ((m : Mode) (l x : ℤ) → o ≡ Some (Touches m l x) → IsEndAt h l t)
    → IsReal h v → AreReal h w → AreReal h (after_read o t v w)
read_real h None t v w end got r = r
read_real h (Some (Touches m l x)) t v w end got r =
    let one = real_only h l t (end m l x refl) in
    record {
      cur = real_joined h (raised w.cur l t) (when (acquires m) v) (real_joined h w.cur (only l t) r.cur one) (real_when h (acquires m) v got);
      acq = real_joined h (raised w.acq l t) (when (is_atomic m) v) (real_joined h w.acq (only l t) r.acq one) (real_when h (is_atomic m) v got);
      rel = r.rel;
    }

write_real : (h : List Done) (o : Option Touch) (t : ℕ) (w : Views) → ((m : Mode) (l x : ℤ) → o ≡ Some (Touches m l x) → IsEndAt h l t)
    → AreReal h w → AreReal h (after_write o t w)
write_real h None t w end r = r
write_real h (Some (Touches m l x)) t w end r =
    let one = real_only h l t (end m l x refl) in
    record { cur = real_joined h w.cur (only l t) r.cur one; acq = real_joined h w.acq (only l t) r.acq one; rel = r.rel }

fence_real : (h : List Done) (o : Option Mode) (w : Views) → AreReal h w → AreReal h (after_fence o w)
fence_real h None w r = r
fence_real h (Some m) w r =
    let cur = real_either h (acquires m) w.acq w.cur r.acq r.cur in
    record { cur = cur; acq = r.acq; rel = real_either h (releases m) (either (acquires m) w.acq w.cur) w.rel cur r.rel }

join_real : (h : List Done) (o : Option (List Ended)) (v : Seen) (w : Views) → IsReal h v → AreReal h w → AreReal h (after_join o v w)
join_real h None v w x r = r
join_real h (Some rs) v w x r = record { cur = real_joined h w.cur v r.cur x; acq = real_joined h w.acq v r.acq x; rel = r.rel }

effect_real : (h : List Done) (x : Label) (from to : ℕ) (got ended : Seen) (w : Views)
    → ((m : Mode) (l v : ℤ) → read_by x ≡ Some (Touches m l v) → IsEndAt h l from)
    → ((m : Mode) (l v : ℤ) → written_by x ≡ Some (Touches m l v) → IsEndAt h l to)
    → IsReal h got → IsReal h ended → AreReal h w → AreReal h (effect x from to got ended w)
effect_real h x from to got ended w reads writes g e r =
    let joins = after_join (joined_by x) ended w in
    let fences = after_fence (fenced_by x) joins in
    write_real h (written_by x) to (after_read (read_by x) from got fences) writes
    (read_real h (read_by x) from got fences reads g (fence_real h (fenced_by x) joins (join_real h (joined_by x) ended w e r)))

sent_real : (h : List Done) (m : Mode) (w : Views) → AreReal h w → IsReal h (sent m w)
sent_real h mode.Na w r = real_unseen h
sent_real h mode.Rlx w r = r.rel
sent_real h mode.Acq w r = r.rel
sent_real h mode.Rel w r = r.cur
sent_real h mode.AcqRel w r = r.cur

message_real : (h : List Done) (o : Option Touch) (got : Seen) (w : Views) → IsReal h got → AreReal h w → IsReal h (message_view o got w)
message_real h None got w g r = real_unseen h
message_real h (Some (Touches m l x)) got w g r = real_joined h (sent m w) got (sent_real h m w r) g

-- ---- they stay so

writes_more : (d : Done) (h : List Done) (e : ℕ) (l v : ℤ) → WritesIn h e l v → WritesIn (d ∷ h) e l v
writes_more d h e l v w =
    let under = w.0 in
    (omega (arith, under), (w.1.0, ap (λ (x : Done). written_by x.event.label) (done_more d h e w.0) ∙ w.1.1))

writes_last : (d : Done) (h : List Done) (m : Mode) (l v : ℤ) → written_by d.event.label ≡ Some (Touches m l v) → WritesIn (d ∷ h) (length h) l v
writes_last d h m l v w = (omega arith, (m, ap (λ (x : Done). written_by x.event.label) (done_last d h) ∙ w))

end_more : (d : Done) (h : List Done) (l : ℤ) (n : ℕ) → IsEndAt h l n → IsEndAt (d ∷ h) l n
end_more d h l n (inl zero_) = inl zero_
end_more d h l n (inr x) = inr (x.0, x.1, writes_more d h x.0 l x.1 x.2, x.3 ∙ sym (ap (λ (y : Done). y.to) (done_more d h x.0 x.2.0)))

real_more : (d : Done) (h : List Done) (v : Seen) → IsReal h v → IsReal (d ∷ h) v
real_more d h v x = record { at = λ l. end_more d h l (v l) (x.at l) }

are_more : (d : Done) (h : List Done) (w : Views) → AreReal h w → AreReal (d ∷ h) w
are_more d h w r = record { cur = real_more d h w.cur r.cur; acq = real_more d h w.acq r.acq; rel = real_more d h w.rel r.rel }

-- ---- along a history

record IsAllReal (h : List Done) : Type 0 where
  threads : (t : ℕ) → AreReal h (views_of h t)
  messages : (e : ℕ) → e < length h → IsReal h (done h e).message

source_end : (h : List Done) (l v : ℤ) (o : Option ℕ) → IsSourceIn h l v o → IsEndAt h l (end_of h o)
source_end h l v None is = inl refl
source_end h l v (Some w) is = inr (w, v, is, refl)

source_real : (h : List Done) (l v : ℤ) (o : Option ℕ) → IsAllReal h → IsSourceIn h l v o → IsReal h (message_of h o)
source_real h l v None all is = real_unseen h
source_real h l v (Some w) all is = all.messages w is.0

got_real : (h : List Done) (d : Done) → IsStep h d → IsAllReal h → IsReal h (message_of h d.event.from)
got_real h d s all = by (read_by d.event.label) refl
  where
    by : (o : Option Touch) → read_by d.event.label ≡ o → IsReal h (message_of h d.event.from)
    by None none = subst (λ (o : Option ℕ). IsReal h (message_of h o)) (sym (s.allowed.no_source none)) (real_unseen h)
    by (Some (Touches m l v)) reads = source_real h l v d.event.from all (s.allowed.reads m l v reads)

seen_real : (h : List Done) (rs : List Ended) → IsAllReal h → IsReal h (seen_by h rs)
seen_real h [] all = real_unseen h
seen_real h (r ∷ rs) all = real_joined h (views_of h r.thread).cur (seen_by h rs) (all.threads r.thread).cur (seen_real h rs all)

joined_real : (h : List Done) (o : Option (List Ended)) → IsAllReal h → IsReal h (seen_by_joined h o)
joined_real h None all = real_unseen h
joined_real h (Some rs) all = seen_real h rs all

step_real : (h : List Done) (d : Done) → IsStep h d → IsAllReal h → AreReal (d ∷ h) d.views
step_real h d s all =
    subst (λ (w : Views). AreReal (d ∷ h) w) (sym s.views)
    (effect_real (d ∷ h) d.event.label (end_of h d.event.from) d.to (message_of h d.event.from) (seen_by_joined h (joined_by d.event.label)) (views_of h d.event.thread)
    (λ m l v reads. end_more d h l (end_of h d.event.from) (source_end h l v d.event.from (s.allowed.reads m l v reads)))
    (λ m l v writes. inr (length h, v, writes_last d h m l v writes, ap (λ (x : Done). x.to) (sym (done_last d h))))
    (real_more d h (message_of h d.event.from) (got_real h d s all))
    (real_more d h (seen_by_joined h (joined_by d.event.label)) (joined_real h (joined_by d.event.label) all))
    (are_more d h (views_of h d.event.thread) (all.threads d.event.thread)))

all_real_more : (d : Done) (h : List Done) → IsStep h d → IsAllReal h → IsAllReal (d ∷ h)
all_real_more d h s old = record { threads = λ t. thread t (d.event.thread == t) (starts d.event.label t); messages = λ e less. message e less (e == length h) refl }
  where
    now : AreReal (d ∷ h) d.views
    now = step_real h d s old

    thread : (t : ℕ) (b c : Bool) → AreReal (d ∷ h) (cond b d.views (cond c (started d.views.cur) (views_of h t)))
    thread t true c = now
    thread t false true = record { cur = now.cur; acq = now.cur; rel = real_unseen (d ∷ h) }
    thread t false false = are_more d h (views_of h t) (old.threads t)

    message : (e : ℕ) → e < length (d ∷ h) → (b : Bool) → (e == length h) ≡ b → IsReal (d ∷ h) (cond b d (done h e)).message
    message e less true q =
        subst (λ (v : Seen). IsReal (d ∷ h) v) (sym s.message)
        (message_real (d ∷ h) (written_by d.event.label) (message_of h d.event.from) d.views (real_more d h (message_of h d.event.from) (got_real h d s old)) now)
    message e less false q =
        let apart = eqb-false e (length h) q in
        real_more d h (done h e).message (old.messages e (omega (arith, less, apart)))

all_real : (h : List Done) → Made h → IsAllReal h
all_real [] m = record {
  threads = λ t. record { cur = real_unseen []; acq = real_unseen []; rel = real_unseen [] };
  messages = λ e less. absurd (omega (arith, less));
}
all_real (d ∷ h) m = all_real_more d h m.1 (all_real h m.0)

pub views_are_real : ViewsAreReal
views_are_real h lawful t = (all_real (replay h) (made h lawful)).threads t

pub messages_are_real : MessagesAreReal
messages_are_real h lawful e less = (all_real (replay h) (made h lawful)).messages e less
