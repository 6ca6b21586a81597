-- The moves of a thread that show the same events lead to one configuration.
use Rattle.std.proofs.Common.{arith, ◌≡◌, ℕ, inl, inr, List, Some, None, slice_get, subst, sym, refl, ap, ◌∙◌}
use Rattle.std.proofs.lemmas.Option.{slice_get_cases}
use Rattle.fsl_core.specs.declared.need.Need.TheVariants as need
use Rattle.fsl_core.specs.declared.need.Reply.TheVariants as reply
use Rattle.fsl_core.specs.Programs.{Program}
use Rattle.fsl_core.specs.Moves.{Config, Moved, showing, moved, need_of}
use Rattle.fsl_graph.specs.declared.event.Event.{Event}
use Rattle.fsl_graph.specs.declared.graph.Graph.{Graph}
use Rattle.fsl_graph.specs.Events.{Is}
use Rattle.fsl_graph.specs.Execution.{Runs, reply_of}
use Rattle.fsl_graph.specs.Execution.Runs.{stands, silent, shows}
use Rattle.fsl_run.specs.Laws.{StandsInOneWay}
use Rattle.fsl_run.proofs.Quiet.{is_quiet}

-- a local move shows no event
not_both : (p : Program) (c d : Config) (x : Event) (next : Config) → d ≡ c → need_of p c ≡ need.Local
    → moved p d (reply_of x.label) ≡ showing x.label next → ⊥
not_both p c d x next same local shown =
    let quiet : (moved p c (reply_of x.label)).label ≡ None = is_quiet p c local (reply_of x.label) in
    let there : (moved p d (reply_of x.label)).label ≡ None = subst (λ (k : Config). (moved p k (reply_of x.label)).label ≡ None) (sym same) quiet in
    let some : (moved p d (reply_of x.label)).label ≡ Some x.label = ap (λ (y : Moved). y.label) shown in
    absurd (cc)

-- the event of a number is one
one_event : (g : Graph) (e f : ℕ) (x y : Event) → Is g e x → Is g f y → f ≡ e → y ≡ x
one_event g e f x y is other same =
    let at : slice_get g.events e ≡ Some y = subst (λ k. slice_get g.events k ≡ Some y) same other in cc

pub one_way : (p : Program) (g : Graph) (c a : Config) (n : ℕ) (es : List ℕ) → Runs p g c n es a
    → (d b : Config) (m : ℕ) (fs : List ℕ) → Runs p g d m fs b → d ≡ c → m ≡ n → fs ≡ es → a ≡ b
one_way p g c a n es stands d b m fs stands same count shown = sym same
one_way p g c a n es stands d b m fs (silent l r) same count shown = absurd (omega (arith, count))
one_way p g c a n es stands d b m fs (shows x i k s r) same count shown = absurd (omega (arith, count))
one_way p g c a n es (silent l r) d b m fs stands same count shown = absurd (omega (arith, count))
one_way p g c a n es (silent {n = n-1} {es = es-1} l r) d b m fs (silent {n = m-1} {es = fs-1} l-2 r-2) same count shown =
    one_way p g _ a n-1 es-1 r _ b m-1 fs-1 r-2 (ap (λ k. (moved p k reply.Nothing).config) same) (omega (arith, count)) shown
one_way p g c a n es (silent l r) d b m fs (shows {next = next} x i k s r-2) same count shown = absurd (not_both p c d x next same l k)
one_way p g c a n es (shows x i k s r) d b m fs stands same count shown = absurd (omega (arith, count))
one_way p g c a n es (shows {next = next} x i k s r) d b m fs (silent l r-2) same count shown = absurd (not_both p d c x next (sym same) l k)
one_way p g c a n es (shows {next = next-1} {n = n-1} {e = e-1} {es = es-1} x i k s r) d b m fs (shows {next = next-2} {n = m-1} {e = e-2} {es = fs-1} y j l s-2 r-2) same count shown =
    let head : e-2 ≡ e-1 = cc in
    let tail : fs-1 ≡ es-1 = cc in
    let event : y ≡ x = one_event g e-1 e-2 x y i j head in
    let both : showing y.label next-2 ≡ showing x.label next-1 = sym l ∙ ap (λ h. moved p h (reply_of y.label)) same ∙ ap (λ (z : Event). moved p c (reply_of z.label)) event ∙ k in
    one_way p g next-1 a n-1 es-1 r next-2 b m-1 fs-1 r-2 (ap (λ (z : Moved). z.config) both) (omega (arith, count)) tail

pub stands_in_one_way : StandsInOneWay
stands_in_one_way p g a b is other t within = elim (slice_get_cases g.threads t).1 [
  | inl found ↦ one_way p g _ (a t) _ _ (is.moves t found.0 found.2) _ (b t) _ _ (other.moves t found.0 found.2) refl refl refl
  | inr past ↦ absurd (omega (arith, past.0, within))
]
