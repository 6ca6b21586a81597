-- What one worker keeps from turn to turn.
use Rattle.std.proofs.Common.{◌≡◌, ◌≢◌, ◌⊎◌, ℕ, ◌+◌, ◌<◌, ◌≤◌, min, true, List, [], ◌∷◌, length, slice_get, Option, Some, None, refl, sym, ap, subst, ◌∙◌, ⊎_elim, inl, inr, arith}
use mathlib.Core.Logic.{dite}
use native.Mathlib.Decide.{ℕ_discrete}
use Rattle.fsl_core.specs.declared.verdict.Outcome.{Outcome}
use Rattle.fsl_core.specs.declared.verdict.Outcome.TheVariants.{Derived, Fails}
use Rattle.fsl_claim.specs.declared.view.View.{View}
use Rattle.fsl_claim.specs.Views.{times, least_of}
use Rattle.fsl_claim.specs.Steps.{unused, drew, looked, told, ended_once_more}
use Rattle.fsl_claim.proofs.Sums.{one_at, one_at_same, one_at_other}
use Rattle.fsl_check.specs.declared.failure.Failure.{Failure}
use Rattle.fsl_check.specs.Failures.{derives, is_some_derived, Finds}
use Rattle.fsl_check.specs.Workers.{noted, failure_after, Covers}

pub record Working (outcomes : List Outcome) (turn : ℕ) (v : View) (failure : Option Failure) : Type 0 where
  pub open_still : v.ended ≡ 0
  pub turns : turn ≤ length v.drawn
  pub few : length v.drawn ≤ length outcomes
  pub low : v.seen ≤ least_of (length outcomes) v.reported
  pub covers : Covers outcomes v
  pub finds : Finds outcomes (least_of (length outcomes) v.reported) failure

pub begins : (outcomes : List Outcome) (units workers : ℕ) (v : View) (failure : Option Failure) → v ≡ unused units workers 1 → length outcomes ≡ units → failure ≡ None → Working outcomes 0 v failure
begins outcomes units workers v failure is size none_ = subst (λ (w : View). Working outcomes 0 w failure) (sym is) record {
  open_still = refl;
  turns = omega arith;
  few = omega arith;
  low = omega (arith, size);
  covers = λ unit h. absurd (omega (arith, h));
  finds = subst (Finds outcomes (length outcomes)) (sym none_) refl;
}

-- what is known of the other units stays, where more is reported and less was seen
covers_more : (outcomes : List Outcome) (v w : View) (u : ℕ) → w.drawn ≡ u ∷ v.drawn → w.seen ≤ v.seen → ((x : ℕ) → times x v.reported ≤ times x w.reported)
    → (derives outcomes u ≡ true) ⊎ (0 < times u w.reported) ⊎ (w.seen < u) → Covers outcomes v → Covers outcomes w
covers_more outcomes v w u drawn falls more here old x h = dite (ℕ_discrete x u)
    (λ same. subst (λ (y : ℕ). (derives outcomes y ≡ true) ⊎ (0 < times y w.reported) ⊎ (w.seen < y)) (sym same) here)
    (λ apart. let miss = one_at_other x u apart in let count : times x w.drawn ≡ one_at x u + times x v.drawn = ap (times x) drawn in
    ⊎_elim (λ derived. inl derived) (λ rest. inr (⊎_elim (λ reported. let m = more x in inl (omega (arith, reported, m))) (λ above. inr (omega (arith, above, falls))) rest)) (old x (omega (arith, h, count, miss))))

pub skips : (outcomes : List Outcome) (turn u least : ℕ) (v d e : View) (failure : Option Failure) → Working outcomes turn v failure → d ≡ drew v u → length d.drawn ≤ length outcomes → e ≡ looked d least → least ≤ d.seen → least < u
    → Working outcomes (turn + 1) e failure
skips outcomes turn u least v d e failure now drawn few looks falls above =
    let is : e ≡ looked (drew v u) least = looks ∙ ap (λ (x : View). looked x least) drawn in
    let seen : d.seen ≡ v.seen = ap (λ (x : View). x.seen) drawn in
    let many : length d.drawn ≡ length v.drawn + 1 = ap (λ (x : View). length x.drawn) drawn ∙ omega arith in
    let open_still = now.open_still in let turns = now.turns in let low = now.low in
    subst (λ (x : View). Working outcomes (turn + 1) x failure) (sym is) record {
      open_still = open_still;
      turns = omega (arith, turns);
      few = omega (arith, few, many);
      low = omega (arith, low, falls, seen);
      covers = covers_more outcomes v (looked (drew v u) least) u refl (omega (arith, falls, seen)) (λ x. omega arith) (inr (inr above)) now.covers;
      finds = now.finds;
    }

module _ (outcomes : List Outcome) (turn u least : ℕ) (v : View) (failure : Option Failure) (now : Working outcomes turn v failure) (few : length v.drawn + 1 ≤ length outcomes) (falls : least ≤ v.seen) (within : u ≤ least) (below : u < length outcomes) where
  noted_so : (o : Outcome) → slice_get outcomes u ≡ Some o → Working outcomes (turn + 1) (noted (looked (drew v u) least) u o) (failure_after failure u o)
  noted_so (Derived paths) there = let open_still = now.open_still in let turns = now.turns in let low = now.low in record {
    open_still = open_still;
    turns = omega (arith, turns);
    few = omega (arith, few);
    low = omega (arith, low, falls);
    covers = covers_more outcomes v (looked (drew v u) least) u refl falls (λ x. omega arith) (inl (ap is_some_derived there)) now.covers;
    finds = now.finds;
  }
  noted_so (Fails proc span kind) there = let open_still = now.open_still in let turns = now.turns in let low = now.low in let mine = one_at_same u in record {
    open_still = open_still;
    turns = omega (arith, turns);
    few = omega (arith, few);
    low = omega (arith, low, falls);
    covers = covers_more outcomes v (told (looked (drew v u) least) u) u refl (omega (arith, falls)) (λ x. omega arith) (inr (inl (omega (arith, mine)))) now.covers;
    finds = (omega (arith, low, falls, within), below, there);
  }

pub judges : (outcomes : List Outcome) (turn u least : ℕ) (v d e w : View) (failure after : Option Failure) (o : Outcome) → Working outcomes turn v failure → d ≡ drew v u → length d.drawn ≤ length outcomes → e ≡ looked d least → least ≤ d.seen → u ≤ least
    → u < length outcomes → slice_get outcomes u ≡ Some o → w ≡ noted e u o → after ≡ failure_after failure u o → Working outcomes (turn + 1) w after
judges outcomes turn u least v d e w failure after o now drawn few looks falls within below there notes keeps =
    let is : e ≡ looked (drew v u) least = looks ∙ ap (λ (x : View). looked x least) drawn in
    let seen : d.seen ≡ v.seen = ap (λ (x : View). x.seen) drawn in
    let many : length d.drawn ≡ length v.drawn + 1 = ap (λ (x : View). length x.drawn) drawn ∙ omega arith in
    let all : Working outcomes (turn + 1) (noted (looked (drew v u) least) u o) (failure_after failure u o) = noted_so outcomes turn u least v failure now (omega (arith, few, many)) (omega (arith, falls, seen)) within below o there in
    let one : Working outcomes (turn + 1) w (failure_after failure u o) = subst (λ (x : View). Working outcomes (turn + 1) x (failure_after failure u o)) (sym (notes ∙ ap (λ (x : View). noted x u o) is)) all in
    subst (Working outcomes (turn + 1) w) (sym keeps) one
