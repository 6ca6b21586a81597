-- The moves so far, with one more.
use Rattle.std.proofs.Common.{◌≡◌, ◌+◌, ◌++◌, ℕ, zero, suc, Bool, true, false, cond, ◌==◌, List, [], ◌∷◌, length, slice_get, Option, Some, None, refl, ap, sym, subst, ◌∙◌, arith}
use Rattle.fsl_core.specs.declared.label.Label.{Label}
use Rattle.fsl_core.specs.declared.label.Label.TheVariants as label
use Rattle.fsl_core.specs.declared.mode.AllocKind.TheVariants as kind
use Rattle.fsl_core.specs.declared.mode.Mode.TheVariants as mode
use Rattle.fsl_core.specs.declared.need.Need.{Need}
use Rattle.fsl_core.specs.declared.need.Need.TheVariants as need
use Rattle.fsl_core.specs.declared.need.Reply.{Reply}
use Rattle.fsl_core.specs.declared.need.Reply.TheVariants as reply
use Rattle.fsl_core.specs.declared.need.Started.{Started}
use Rattle.fsl_core.specs.Programs.{Program}
use Rattle.fsl_core.specs.Moves.{Config, Moved, need_of, moved, showing}
use Rattle.fsl_graph.specs.declared.event.Event.{Event}
use Rattle.fsl_graph.specs.declared.graph.Graph.{Graph}
use Rattle.fsl_graph.specs.declared.graph.Thread.{Thread}
use Rattle.fsl_graph.specs.Events.{Is}
use Rattle.fsl_graph.specs.Execution.{Runs, stands, silent, shows, Answers, AreStarted, IsStarted, reply_of, numbered_of, events_of, first_of}
use Rattle.fsl_graph.specs.Lone.{is_plain}
use Rattle.fsl_moves.specs.Label.{label_of}
use Rattle.fsl_machine.specs.Turn.{is_plain_need}
use Rattle.fsl_machine.specs.States.{grown, lone_graph}
use Rattle.fsl_machine.specs.History.{Trace, answer_of, recorded, event_of, IsNext}
use Rattle.fsl_machine.proofs.Snoc.{get_more, get_last}

-- ---- what a label shows

pub record IsShown (t : Trace) (n : Need) (x : Label) : Type 0 where
  pub plain : is_plain x ≡ true
  pub next : IsNext t x
  pub reply : reply_of x ≡ answer_of t n

shown_as : (t : Trace) (n : Need) (x y : Label) → Some y ≡ Some x → IsShown t n y → IsShown t n x
shown_as t n x y e h = let same : y ≡ x = cc in subst (λ (z : Label). IsShown t n z) same h

pub is_shown : (t : Trace) (n : Need) (x : Label) → is_plain_need n ≡ true → label_of n (answer_of t n) ≡ Some x → IsShown t n x
is_shown t need.Local x h e = cc
is_shown t (need.Load mode.Na l) x h e = shown_as t _ x _ e (record { plain = refl; next = refl; reply = refl })
is_shown t (need.Store mode.Na l v) x h e = shown_as t _ x _ e (record { plain = refl; next = tt; reply = refl })
is_shown t (need.Alloc kind.Na) x h e = shown_as t _ x _ e (record { plain = refl; next = refl; reply = refl })
is_shown t (need.Print v) x h e = shown_as t _ x _ e (record { plain = refl; next = tt; reply = refl })
is_shown t (need.End v) x h e = shown_as t _ x _ e (record { plain = refl; next = tt; reply = refl })
is_shown t _ x h e = cc

-- a move without a label is local
is_local : (t : Trace) (n : Need) → is_plain_need n ≡ true → label_of n (answer_of t n) ≡ None → (n ≡ need.Local) × (answer_of t n ≡ reply.Nothing)
is_local t need.Local h e = (refl, refl)
is_local t (need.Load mode.Na l) h e = cc
is_local t (need.Store mode.Na l v) h e = cc
is_local t (need.Alloc kind.Na) h e = cc
is_local t (need.Print v) h e = cc
is_local t (need.End v) h e = cc
is_local t _ h e = cc

answers_none : (g : Graph) (n : Need) (x : Label) → is_plain_need n ≡ true → Answers g n x
answers_none g need.Local x h = tt
answers_none g (need.Load mode.Na l) x h = tt
answers_none g (need.Store mode.Na l v) x h = tt
answers_none g (need.Alloc kind.Na) x h = tt
answers_none g (need.Print v) x h = tt
answers_none g (need.End v) x h = tt
answers_none g _ x h = cc

-- ---- runs in a graph with more events

started_more : (m k : ℕ) (t u : Trace) (first : ℕ) (call : Started) → IsStarted (lone_graph m t) first call → IsStarted (lone_graph k u) first call
started_more m k t u zero call h = (
  record { proc = 0; args = []; moves = k },
  refl,
  (let same : record { proc = 0; args = []; moves = m } ≡ h.0 = let e = h.1 in cc in ap (λ (x : Thread). x.proc) same ∙ h.2),
  (let same : record { proc = 0; args = []; moves = m } ≡ h.0 = let e = h.1 in cc in ap (λ (x : Thread). x.args) same ∙ h.3),
)
started_more m k t u (suc first) call h = let e = h.1 in cc

all_started_more : (m k : ℕ) (t u : Trace) (first : ℕ) (calls : List Started) → AreStarted (lone_graph m t) first calls → AreStarted (lone_graph k u) first calls
all_started_more m k t u first [] h = tt
all_started_more m k t u first (call ∷ calls) h = (started_more m k t u first call h.0, all_started_more m k t u (suc first) calls h.1)

answers_more : (m k : ℕ) (t u : Trace) (n : Need) (x : Label) → Answers (lone_graph m t) n x → Answers (lone_graph k u) n x
answers_more m k t u (need.Fork calls) (label.Fork children) h = all_started_more m k t u (first_of children) calls h
answers_more m k t u (need.Fork calls) _ h = tt
answers_more m k t u (need.Join children) (label.Join results) h = h
answers_more m k t u (need.Join children) _ h = tt
answers_more m k t u _ x h = tt

runs_more : {p : Program} (m k : ℕ) (t u : Trace)
    → ((e : ℕ) (x : Event) → slice_get t.events e ≡ Some x → slice_get u.events e ≡ Some x)
    → {c d : Config} {n : ℕ} {es : List ℕ} → Runs p (lone_graph m t) c n es d → Runs p (lone_graph k u) c n es d
runs_more m k t u more stands = stands
runs_more m k t u more (silent local rest) = silent local (runs_more m k t u more rest)
runs_more m k t u more (shows x is makes starts rest) =
    shows x (more _ x is) makes (answers_more m k t u _ x.label starts) (runs_more m k t u more rest)

-- ---- runs with one more move

then_silent : {p : Program} {g : Graph} {c d : Config} {n : ℕ} {es : List ℕ} → Runs p g c n es d → need_of p d ≡ need.Local
    → Runs p g c (suc n) es (moved p d reply.Nothing).config
then_silent stands h = silent h stands
then_silent (silent local rest) h = silent local (then_silent rest h)
then_silent (shows x is makes starts rest) h = shows x is makes starts (then_silent rest h)

then_shows : {p : Program} {g : Graph} {c d : Config} {n : ℕ} {es : List ℕ} (next : Config) (e : ℕ) (x : Event) → Runs p g c n es d → Is g e x
    → moved p d (reply_of x.label) ≡ showing x.label next → Answers g (need_of p d) x.label → Runs p g c (suc n) (es ++ e ∷ []) next
then_shows next e x stands is makes starts = shows x is makes starts stands
then_shows next e x (silent local rest) is makes starts = silent local (then_shows next e x rest is makes starts)
then_shows next e x (shows y was made started rest) is makes starts = shows y was made started (then_shows next e x rest is makes starts)

-- ---- the numbers of the events

numbered_more : (n : ℕ) (xs : List Event) (y : Event) → y.thread ≡ 0 → numbered_of 0 n (xs ++ y ∷ []) ≡ numbered_of 0 n xs ++ (n + length xs) ∷ []
numbered_more n [] y h =
    let tested : (y.thread == 0) ≡ true = rw h refl in
    let place : n ≡ n + 0 = omega arith in
    rw tested (ap (λ k. k ∷ []) place)
numbered_more n (x ∷ xs) y h =
    let place : suc n + length xs ≡ n + length (x ∷ xs) = omega arith in
    let rest = numbered_more (suc n) xs y h in
    let there : numbered_of 0 (suc n) (xs ++ y ∷ []) ≡ numbered_of 0 (suc n) xs ++ (n + length (x ∷ xs)) ∷ [] =
    rest ∙ ap (λ k. numbered_of 0 (suc n) xs ++ k ∷ []) place in
    split (x.thread == 0) there where
      split : (b : Bool) → numbered_of 0 (suc n) (xs ++ y ∷ []) ≡ numbered_of 0 (suc n) xs ++ (n + length (x ∷ xs)) ∷ []
          → cond b (n ∷ numbered_of 0 (suc n) (xs ++ y ∷ [])) (numbered_of 0 (suc n) (xs ++ y ∷ []))
          ≡ cond b (n ∷ numbered_of 0 (suc n) xs) (numbered_of 0 (suc n) xs) ++ (n + length (x ∷ xs)) ∷ []
      split true e = ap (λ (ks : List ℕ). n ∷ ks) e
      split false e = e

events_more : (m k : ℕ) (t : Trace) (x : Label) → events_of (lone_graph k (recorded x t)) 0 ≡ events_of (lone_graph m t) 0 ++ length t.events ∷ []
events_more m k t x =
    let place : 0 + length t.events ≡ length t.events = omega arith in
    numbered_more 0 t.events (event_of t x) refl ∙ ap (λ e. numbered_of 0 0 t.events ++ e ∷ []) place

-- ---- the whole

next_is : (m : ℕ) → suc m ≡ m + 1
next_is m = omega arith

abbrev showing_of : Config → Option Label → Moved
showing_of c l = record { config = c; label = l }

-- the moves so far and one more, with the label that it shows
pub one_move : (p : Program) (c d e : Config) (m : ℕ) (t : Trace) (n : Need) (label : Option Label)
    → Runs p (lone_graph m t) c m (events_of (lone_graph m t) 0) d → n ≡ need_of p d → is_plain_need n ≡ true
    → label ≡ label_of n (answer_of t n) → (moved p d (answer_of t n)).label ≡ label → (moved p d (answer_of t n)).config ≡ e
    → Runs p (lone_graph (m + 1) (grown label t)) c (m + 1) (events_of (lone_graph (m + 1) (grown label t)) 0) e
one_move p c d e m t n None runs need_is plain label_is made config_is =
    let local = is_local t n plain (sym label_is) in
    let step : need_of p d ≡ need.Local = sym need_is ∙ local.0 in
    let grew = runs_more m (m + 1) t t (λ k x h. h) runs in
    let last : (moved p d reply.Nothing).config ≡ e = ap (λ (r : Reply). (moved p d r).config) (sym local.1) ∙ config_is in
    subst (λ (q : Config). Runs p (lone_graph (m + 1) t) c (m + 1) (events_of (lone_graph (m + 1) t) 0) q) last
    (subst (λ k. Runs p (lone_graph (m + 1) t) c k (events_of (lone_graph m t) 0) (moved p d reply.Nothing).config) (next_is m) (then_silent grew step))
one_move p c d e m t n (Some x) runs need_is plain label_is made config_is =
    let shown = is_shown t n x plain (sym label_is) in
    let u = recorded x t in
    let makes : moved p d (reply_of x) ≡ showing x e =
    ap (moved p d) shown.reply ∙ ap (λ (q : Config). showing_of q (moved p d (answer_of t n)).label) config_is ∙ ap (showing_of e) made in
    let grew = runs_more m (m + 1) t u (λ k y h. get_more t.events (event_of t x ∷ []) k y h) runs in
    let starts : Answers (lone_graph (m + 1) u) (need_of p d) x = subst (λ (q : Need). Answers (lone_graph (m + 1) u) q x) need_is (answers_none (lone_graph (m + 1) u) n x plain) in
    subst (λ (es : List ℕ). Runs p (lone_graph (m + 1) u) c (m + 1) es e) (sym (events_more m (m + 1) t x))
    (subst (λ k. Runs p (lone_graph (m + 1) u) c k (events_of (lone_graph m t) 0 ++ length t.events ∷ []) e) (next_is m)
    (then_shows e (length t.events) (event_of t x) grew (get_last t.events (event_of t x)) makes starts))
