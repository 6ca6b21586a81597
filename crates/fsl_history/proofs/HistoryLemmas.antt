-- The steps of a history: what threads have seen before and after each.
use Rattle.std.proofs.Common.{◌≡◌, ◌≤◌, ◌<◌, ◌==◌, ℕ, ℤ, Bool, true, false, cond, List, [], ◌∷◌, length, Option, Some, None, inl, inr, refl, ap, sym, subst, ◌∙◌, arith}
use Rattle.std.proofs.lemmas.Bool.{eqb-true, eqb-false, eq-eqb, ne_eqb}
use Rattle.fsl_core.specs.declared.mode.Mode.{Mode}
use Rattle.fsl_graph.specs.Edges.{starts}
use Rattle.fsl_graph.specs.Events.{Touches, read_by, written_by}
use Rattle.fsl_history.specs.declared.did.Did.{Did}
use Rattle.fsl_history.specs.History.{Done, done, older, views_of, seen_by_joined, end_of, message_of, complete, replay}
use Rattle.fsl_history.specs.Lawful.{Allowed, Lawful}
use Rattle.fsl_history.specs.Views.{Le, Views, started, joined_by, effect, message_view}
use Rattle.fsl_view.specs.Seen.{unseen}
use Rattle.fsl_history.proofs.ViewsLemmas.{le_refl, le_trans, IsSound, Grows, grows_refl, grows_trans, sound_started, effect_sound, effect_grows}

-- what one step adds
pub record IsStep (h : List Done) (d : Done) : Type 0 where
  pub allowed : Allowed h (record { event = d.event; low = d.low; to = d.to })
  pub from_to : d.from_to ≡ end_of h d.event.from
  pub views : d.views ≡ effect d.event.label (end_of h d.event.from) d.to (message_of h d.event.from) (seen_by_joined h (joined_by d.event.label)) (views_of h d.event.thread)
  pub message : d.message ≡ message_view (written_by d.event.label) (message_of h d.event.from) d.views

abbrev pub Made : List Done → Type 0
Made [] = Unit {0}
Made (d ∷ h) = Made h × IsStep h d

pub made : (h : List Did) → Lawful h → Made (replay h)
made [] l = tt
made (d ∷ h) l = (made h l.0, record { allowed = l.1; from_to = refl; views = refl; message = refl })

-- ---- by numbers

pub step_at : (h : List Done) (e : ℕ) → Made h → e < length h → IsStep (older h e) (done h e)
step_at [] e m u = absurd (omega (arith, u))
step_at (d ∷ h) e m u = by (e == length h) refl (λ under. step_at h e m.0 under)
  where
    by : (b : Bool) → (e == length h) ≡ b → (e < length h → IsStep (older h e) (done h e)) → IsStep (cond b h (older h e)) (cond b d (done h e))
    by true q rest = m.1
    by false q rest = let apart = eqb-false e (length h) q in rest (omega (arith, u, apart))

pub made_older : (h : List Done) (e : ℕ) → Made h → Made (older h e)
made_older [] e m = tt
made_older (d ∷ h) e m = by (e == length h) (made_older h e m.0)
  where
    by : (b : Bool) → Made (older h e) → Made (cond b h (older h e))
    by true rest = m.0
    by false rest = rest

pub length_older : (h : List Done) (e : ℕ) → e < length h → length (older h e) ≡ e
length_older [] e u = absurd (omega (arith, u))
length_older (d ∷ h) e u = by (e == length h) refl (λ under. length_older h e under)
  where
    by : (b : Bool) → (e == length h) ≡ b → (e < length h → length (older h e) ≡ e) → length (cond b h (older h e)) ≡ e
    by true q rest = sym (eqb-true e (length h) q)
    by false q rest = let apart = eqb-false e (length h) q in rest (omega (arith, u, apart))

pub done_older : (h : List Done) (a b : ℕ) → a < b → b < length h → done (older h b) a ≡ done h a
done_older [] a b l u = absurd (omega (arith, u))
done_older (d ∷ h) a b l u =
    let ne : (a == length h) ≡ false = ne_eqb a (length h) (λ e. omega (arith, e, l, u)) in
    rw ne (by (b == length h) refl (λ under. done_older h a b l under))
  where
    by : (t : Bool) → (b == length h) ≡ t → (b < length h → done (older h b) a ≡ done h a) → done (cond t h (older h b)) a ≡ done h a
    by true q rest = refl
    by false q rest = let apart = eqb-false b (length h) q in rest (omega (arith, u, apart))

-- ---- what threads have seen

pub step_sound : (h : List Done) (d : Done) → IsStep h d → IsSound (views_of h d.event.thread) → IsSound d.views
step_sound h d s w =
    subst (λ (v : Views). IsSound v) (sym s.views)
    (effect_sound d.event.label (end_of h d.event.from) d.to (message_of h d.event.from) (seen_by_joined h (joined_by d.event.label)) (views_of h d.event.thread) w)

pub step_grows : (h : List Done) (d : Done) → IsStep h d → IsSound (views_of h d.event.thread) → Grows (views_of h d.event.thread) d.views
step_grows h d s w =
    subst (λ (v : Views). Grows (views_of h d.event.thread) v) (sym s.views)
    (effect_grows d.event.label (end_of h d.event.from) d.to (message_of h d.event.from) (seen_by_joined h (joined_by d.event.label)) (views_of h d.event.thread) w)

pub sound_now : (h : List Done) (t : ℕ) → Made h → IsSound (views_of h t)
sound_now [] t m = record { rel = le_refl unseen; cur = le_refl unseen }
sound_now (d ∷ h) t m = by (d.event.thread == t) (starts d.event.label t) (λ k. sound_now h k m.0)
  where
    by : (b c : Bool) → ((k : ℕ) → IsSound (views_of h k)) → IsSound (cond b d.views (cond c (started d.views.cur) (views_of h t)))
    by true c rest = step_sound h d m.1 (rest d.event.thread)
    by false true rest = sound_started d.views.cur
    by false false rest = rest t

pub sound_at : (h : List Done) (e : ℕ) → Made h → e < length h → IsSound (done h e).views
sound_at h e m u = step_sound (older h e) (done h e) (step_at h e m u) (sound_now (older h e) (done h e).event.thread (made_older h e m))

-- the views after a step are its thread's
pub views_last : (h : List Done) (d : Done) → views_of (d ∷ h) d.event.thread ≡ d.views
views_last h d = let same : (d.event.thread == d.event.thread) ≡ true = eq-eqb d.event.thread d.event.thread refl in rw same refl

-- a thread has seen now what it had seen after each of its events
pub reached : (h : List Done) (e : ℕ) → Made h → e < length h → Grows (done h e).views (views_of h (done h e).event.thread)
reached [] e m u = absurd (omega (arith, u))
reached (d ∷ h) e m u = by (e == length h) refl (λ under. reached h e m.0 under)
  where
    later : (x : Done) → Grows x.views (views_of h x.event.thread) → (starts d.event.label x.event.thread ≡ true → ⊥)
        → Grows x.views (views_of (d ∷ h) x.event.thread)
    later x g never = split (d.event.thread == x.event.thread) (starts d.event.label x.event.thread) refl refl
      where
        split : (b c : Bool) → (d.event.thread == x.event.thread) ≡ b → starts d.event.label x.event.thread ≡ c
            → Grows x.views (cond b d.views (cond c (started d.views.cur) (views_of h x.event.thread)))
        split true c p q =
            let same : d.event.thread ≡ x.event.thread = eqb-true d.event.thread x.event.thread p in
            grows_trans x.views (views_of h x.event.thread) d.views g
            (subst (λ t. Grows (views_of h t) d.views) same (step_grows h d m.1 (sound_now h d.event.thread m.0)))
        split false true p q = absurd (never q)
        split false false p q = g

    by : (b : Bool) → (e == length h) ≡ b → (e < length h → Grows (done h e).views (views_of h (done h e).event.thread))
        → Grows (cond b d (done h e)).views (views_of (d ∷ h) (cond b d (done h e)).event.thread)
    by true q rest = subst (λ (v : Views). Grows d.views v) (sym (views_last h d)) (grows_refl d.views)
    by false q rest =
        let apart = eqb-false e (length h) q in
        let under : e < length h = omega (arith, u, apart) in
        later (done h e) (rest under) (λ s. m.1.allowed.fresh (done h e).event.thread e s under refl)

-- and one that was started what the one that started it had
pub child_sees : (h : List Done) (a t : ℕ) → Made h → a < length h → starts (done h a).event.label t ≡ true → Le (done h a).views.cur (views_of h t).cur
child_sees [] a t m u s = absurd (omega (arith, u))
child_sees (d ∷ h) a t m u s = by (a == length h) refl s (λ under r. child_sees h a t m.0 under r)
  where
    later : (x : Done) → Le x.views.cur (views_of h t).cur → (starts d.event.label t ≡ true → ⊥) → Le x.views.cur (views_of (d ∷ h) t).cur
    later x g never = split (d.event.thread == t) (starts d.event.label t) refl refl
      where
        split : (b c : Bool) → (d.event.thread == t) ≡ b → starts d.event.label t ≡ c
            → Le x.views.cur (cond b d.views (cond c (started d.views.cur) (views_of h t))).cur
        split true c p q =
            let same : d.event.thread ≡ t = eqb-true d.event.thread t p in
            le_trans x.views.cur (views_of h t).cur d.views.cur g
            (subst (λ k. Grows (views_of h k) d.views) same (step_grows h d m.1 (sound_now h d.event.thread m.0))).cur
        split false true p q = absurd (never q)
        split false false p q = g

    first : (c : Bool) → c ≡ true → Le d.views.cur (cond (d.event.thread == t) d.views (cond c (started d.views.cur) (views_of h t))).cur
    first false q = cc
    first true q = either_way (d.event.thread == t)
      where
        either_way : (b : Bool) → Le d.views.cur (cond b d.views (started d.views.cur)).cur
        either_way true = le_refl d.views.cur
        either_way false = le_refl d.views.cur

    by : (b : Bool) → (a == length h) ≡ b → starts (cond b d (done h a)).event.label t ≡ true
        → (a < length h → starts (done h a).event.label t ≡ true → Le (done h a).views.cur (views_of h t).cur)
        → Le (cond b d (done h a)).views.cur (views_of (d ∷ h) t).cur
    by true q r rest = first (starts d.event.label t) r
    by false q r rest =
        let apart = eqb-false a (length h) q in
        let under : a < length h = omega (arith, u, apart) in
        later (done h a) (rest under r) (λ k. m.1.allowed.once t a k under r)

-- ---- what one event has seen before another

pub record Before (h : List Done) (a b : ℕ) : Type 0 where
  pub earlier : a < b
  pub there : b < length h
  pub grows : Le (done h a).views.cur (done h b).views.cur
  pub reads : (m : Mode) (l v : ℤ) → read_by (done h b).event.label ≡ Some (Touches m l v) → (done h a).views.cur l ≤ (done h b).from_to
  pub writes : (m : Mode) (l v : ℤ) → written_by (done h b).event.label ≡ Some (Touches m l v) → (done h a).views.cur l ≤ (done h b).low

pub before_trans : (h : List Done) (a b c : ℕ) → Before h a b → Before h b c → Before h a c
before_trans h a b c x y = record {
  earlier = (let p = x.earlier in let q = y.earlier in omega (arith, p, q));
  there = y.there;
  grows = le_trans (done h a).views.cur (done h b).views.cur (done h c).views.cur x.grows y.grows;
  reads = λ m l v e. (let p = x.grows.at l in let q = y.reads m l v e in omega (arith, p, q));
  writes = λ m l v e. (let p = x.grows.at l in let q = y.writes m l v e in omega (arith, p, q));
}

-- what the thread of b has seen when it makes b
pub known : (h : List Done) (a b : ℕ) → Made h → a < b → b < length h
    → Le (done h a).views.cur (views_of (older h b) (done h b).event.thread).cur → Before h a b
known h a b m less u le =
    let s = step_at h b m u in
    let sound = sound_now (older h b) (done h b).event.thread (made_older h b m) in
    record {
      earlier = less;
      there = u;
      grows = le_trans (done h a).views.cur (views_of (older h b) (done h b).event.thread).cur (done h b).views.cur le (step_grows (older h b) (done h b) s sound).cur;
      reads = λ k l v e. (let p = le.at l in let q = s.allowed.above k l v e in let r = s.from_to in omega (arith, p, q, r));
      writes = λ k l v e. (let p = le.at l in let q = s.allowed.writes k l v e in omega (arith, p, q));
    }

-- what was reached before event b, by the whole history's numbers
pub reached_before : (h : List Done) (a b : ℕ) → Made h → a < b → b < length h
    → Grows (done h a).views (views_of (older h b) (done h a).event.thread)
reached_before h a b m less u =
    let size = length_older h b u in
    subst (λ (x : Done). Grows x.views (views_of (older h b) x.event.thread)) (done_older h a b less u)
    (reached (older h b) a (made_older h b m) (omega (arith, size, less)))
