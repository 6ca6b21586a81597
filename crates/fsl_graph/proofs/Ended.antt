-- The last event of a thread that has returned is its End.
use Rattle.std.proofs.Common.{◌≡◌, ℕ, ◌⊎◌, inl, inr, List, [], Some, None, slice_get, ℤ, subst, sym, refl, ap, ◌∙◌, arith}
use Rattle.std.proofs.lemmas.Option.{slice_get_cases}
use Rattle.fsl_core.specs.declared.label.Label.{Label}
use Rattle.fsl_core.specs.declared.label.Label.TheVariants as label
use Rattle.fsl_core.specs.declared.need.Need.TheVariants as need
use Rattle.fsl_core.specs.declared.need.Reply.{Reply}
use Rattle.fsl_core.specs.declared.need.Reply.TheVariants as reply
use Rattle.fsl_core.specs.Programs.{Program}
use Rattle.fsl_core.specs.Moves.{Config, running, joining, returned, halted, failed, Moved, Move, showing, moved, need_of, start_of, entered}
use Rattle.fsl_graph.specs.declared.event.Event.{Event}
use Rattle.fsl_graph.specs.declared.graph.Graph.{Graph}
use Rattle.fsl_graph.specs.Events.{Is}
use Rattle.fsl_graph.specs.Execution.{Runs, events_of, reply_of}
use Rattle.fsl_graph.specs.Execution.Runs.{stands, silent, shows}
use Rattle.fsl_graph.specs.Ends.{IsEndOf, JoinedEnded}
use Rattle.fsl_graph.proofs.Numbered.{EndsIn, ends_in, of_thread, thread_of_number, greatest}
use Rattle.fsl_graph.proofs.Returning.{Stays, move_kind, running_stays, joining_stays, halted_stays, failed_stays, start_stays}

-- event d is an End with v
pub record IsEnd (g : Graph) (d : ℕ) (v : ℤ) : Type 0 where
  pub event : Event
  pub is : Is g d event
  pub ends : event.label ≡ label.End v

has_returned : (c : Config) → Stays c ⊎ ((v : ℤ) × (c ≡ returned v))
has_returned (running f fs) = inl (running_stays f fs)
has_returned (joining a n f fs) = inl (joining_stays a n f fs)
has_returned (returned v) = inr (v, refl)
has_returned halted = inl halted_stays
has_returned failed = inl failed_stays

-- a thread that has returned shows no more events
pub returned_rests : (p : Program) (g : Graph) (c last : Config) (n : ℕ) (es : List ℕ) (v : ℤ) → c ≡ returned v → Runs p g c n es last → (es ≡ []) × (last ≡ returned v)
returned_rests p g c last n es v e stands = (refl, e)
returned_rests p g c last n es v e (silent local r) = absurd (let k : need.Returned v ≡ need.Local = subst (λ (d : Config). need_of p d ≡ need.Local) e local in cc)
returned_rests p g c last n es v e (shows {next = next} x i m s r) = absurd (
    let k = subst (λ (d : Config). moved p d (reply_of x.label) ≡ showing x.label next) e m in
    let l : None ≡ Some x.label = ap (λ (y : Moved). y.label) k in
    cc)

-- a local move doesn't return
silent_stays : (p : Program) (c : Config) → Stays c → need_of p c ≡ need.Local → Stays (moved p c reply.Nothing).config
silent_stays p c s l = elim (move_kind p c s) [
  | inl n ↦ n reply.Nothing
  | inr k ↦ absurd (let e : need.End k.0 ≡ need.Local = sym (ap (λ (m : Move). m.need) k.1) ∙ l in cc)
]

-- a move that returns shows an End
shows_end : (p : Program) (c : Config) (r : Reply) (l : Label) (v : ℤ) → Stays c → moved p c r ≡ showing l (returned v) → l ≡ label.End v
shows_end p c r l v s m = elim (move_kind p c s) [
  | inl n ↦ absurd (n r v (ap (λ (y : Moved). y.config) m))
  | inr k ↦
      let e : showing (label.End k.0) (returned k.0) ≡ showing l (returned v) = sym (ap (λ (y : Move). y.answered r) k.1) ∙ m in
      let f : Some (label.End k.0) ≡ Some l = ap (λ (y : Moved). y.label) e in
      let h : returned k.0 ≡ returned v = ap (λ (y : Moved). y.config) e in
      let w : k.0 ≡ v = cc in
      cc
]

pub run_ends : (p : Program) (g : Graph) (c last : Config) (n : ℕ) (es : List ℕ) (v : ℤ) → Stays c → Runs p g c n es last → last ≡ returned v → (d : ℕ) × EndsIn d es × IsEnd g d v
run_ends p g c last n es v s stands e = absurd (s v e)
run_ends p g c last n es v s (silent l r) e = run_ends p g _ last _ es v (silent_stays p c s l) r e
run_ends p g c last n es v s (shows {next = next} {n = k} {e = d} {es = rest} x i m st r) e = elim (has_returned next) [
  | inl t ↦ let h = run_ends p g next last k rest v t r e in (h.0, inr h.1, h.2)
  | inr t ↦
      let h = returned_rests p g next last k rest t.0 t.1 r in
      let w : returned t.0 ≡ returned v = sym h.1 ∙ e in
      let q : t.0 ≡ v = cc in
      let at = subst (λ (z : Config). moved p c (reply_of x.label) ≡ showing x.label z) t.1 m in
      (d, inl (refl, h.0), record { event = x; is = i; ends = subst (λ (z : ℤ). x.label ≡ label.End z) q (shows_end p c (reply_of x.label) x.label t.0 s at) })
]

end_of : (g : Graph) (t d : ℕ) (v : ℤ) → EndsIn d (events_of g t) → IsEnd g d v → IsEndOf g t d v
end_of g t d v h e =
    let o = thread_of_number t 0 g.events d (ends_in d (events_of g t) h) in
    let m : d ≡ o.index = let k = o.number in omega arith in
    let p = subst (λ (i : ℕ). slice_get g.events i ≡ Some o.event) (sym m) o.is in
    let q = e.is in
    let same : o.event ≡ e.event = cc in
    record {
      event = e.event;
      is = e.is;
      thread = subst (λ (y : Event). y.thread ≡ t) same o.thread;
      ends = e.ends;
      last = λ b y i s. greatest t 0 g.events d b h (of_thread t 0 b b g.events y i s (omega arith));
    }

pub joined_ended : JoinedEnded
joined_ended p g last x e t v a =
    let j = x.joined e t v a in
    elim (slice_get_cases g.threads t).1 [
      | inl h ↦
          let r = run_ends p g (start_of p h.0.proc h.0.args) (last t) h.0.moves (events_of g t) v (start_stays (entered (slice_get p.procs h.0.proc) h.0.args None))
          (x.moves t h.0 h.2) j.1 in
          (r.0, end_of g t r.0 v r.1 r.2)
      | inr h ↦ absurd (let l = h.0 in let k = j.0 in omega arith)
    ]
