-- The verdict, once every worker found no unit left.
use Rattle.std.proofs.Common.{◌≡◌, ◌⊎◌, ℕ, zero, suc, ◌+◌, ◌<◌, ◌≤◌, min, true, false, nat_lt, List, [], ◌∷◌, length, map, slice_get, All, Option, Some, None, refl, sym, ap, subst, ◌∙◌, ⊎_elim, inl, inr, arith}
use mathlib.Core.Logic.{dite}
use mathlib.Core.Option.{some, some-injective, some-ne-none}
use lib.ListN.{get_elem?}
use native.Mathlib.Decide.{dec_lt}
use Rattle.std.proofs.lemmas.List.Elements.{All-head, All-tail}
use Rattle.fsl_base.specs.declared.span.Span.{Span}
use Rattle.fsl_core.specs.declared.verdict.Kind.{Kind}
use Rattle.fsl_core.specs.declared.verdict.Outcome.{Outcome}
use Rattle.fsl_core.specs.declared.verdict.Outcome.TheVariants.{Derived, Fails}
use Rattle.fsl_core.specs.declared.verdict.Verdict.TheVariants.{Accepted, Failed}
use Rattle.fsl_core.specs.Verdicts.{verdict_from}
use Rattle.fsl_claim.specs.declared.claims.Claims.{Claims}
use Rattle.fsl_claim.specs.declared.claims.Pass.{Pass}
use Rattle.fsl_claim.specs.declared.view.View.{View}
use Rattle.fsl_claim.specs.Claims.{view}
use Rattle.fsl_claim.specs.Views.{total, times, times_drawn, least_of, least_reported, least_seen, count_drawn, count_ended, Drawn}
use Rattle.fsl_claim.proofs.Sums.{At, lowest_here, lowest_most, one_at, one_below, below_where}
use Rattle.fsl_check.specs.declared.failure.Failure.{Failure}
use Rattle.fsl_check.specs.Failures.{derives, is_derived, is_some_derived, Finds}
use Rattle.fsl_check.specs.Workers.{Covers, HasEnded}

-- ---- lists of outcomes

pub first_failure : (n unit : ℕ) (outcomes : List Outcome) (proc : ℕ) (span : Span) (kind : Kind) → slice_get outcomes unit ≡ Some (Fails proc span kind) → ((k : ℕ) → k < unit → derives outcomes k ≡ true)
    → verdict_from n outcomes ≡ Failed proc span kind
first_failure n unit [] proc span kind there below = absurd (grind (arith, there))
first_failure n zero (Derived paths ∷ rest) proc span kind there below = absurd (grind (arith, there))
first_failure n zero (Fails p s k ∷ rest) proc span kind there below = cc (there)
first_failure n (suc unit) (Derived paths ∷ rest) proc span kind there below = first_failure (n + 1) unit rest proc span kind there (λ k h. below (suc k) (omega (arith, h)))
first_failure n (suc unit) (Fails p s k ∷ rest) proc span kind there below = let e : false ≡ true = below 0 (omega arith) in absurd (cc (e))

pub all_derived : (n : ℕ) (outcomes : List Outcome) → ((k : ℕ) → k < length outcomes → derives outcomes k ≡ true) → verdict_from n outcomes ≡ Accepted (n + length outcomes)
all_derived n [] each = ap Accepted (omega arith)
all_derived n (Derived paths ∷ rest) each = all_derived (n + 1) rest (λ k h. each (suc k) (omega (arith, h))) ∙ ap Accepted (omega arith)
all_derived n (Fails p s k ∷ rest) each = let e : false ≡ true = each 0 (omega arith) in absurd (cc (e))

-- ---- lists of views

-- a view that adds to a sum which isn't 0
holder : (f : View → ℕ) (vs : List View) → 0 < total f vs → (i : ℕ) × (v : View) × At vs i v × (0 < f v)
holder f [] h = absurd (omega (arith, h))
holder f (x ∷ xs) h = dite (dec_lt 0 (f x)) (λ here. (0, x, refl, here)) (λ none_. let deeper = holder f xs (omega (arith, h, none_)) in (suc deeper.0, deeper.1, deeper.2, deeper.3))

here_where : (x y : ℕ) → 0 < one_at x y → x ≡ y
here_where x y h = grind (arith, h)

below_one : (k c : ℕ) → k < c → one_below k c ≡ 1
below_one k c h = grind (arith, h)

least_of_here : (most x : ℕ) (xs : List ℕ) → 0 < times x xs → least_of most xs ≤ x
least_of_here most x [] h = absurd (omega (arith, h))
least_of_here most x (y ∷ ys) h = dite (dec_lt 0 (times x ys)) (λ there. let deeper = least_of_here most x ys there in omega (arith, deeper))
    (λ none_. let same = here_where x y (omega (arith, h, none_)) in omega (arith, same))

at_view : (P : View → Type 0) (passes : List Pass) → All (λ p. P (view p)) passes → (i : ℕ) (v : View) → At (map view passes) i v → P v
at_view P [] all i v at = absurd (some-ne-none v (sym at))
at_view P (p ∷ ps) all zero v at = subst P (some-injective (view p) v at) (All-head (λ q. P (view q)) p ps all)
at_view P (p ∷ ps) all (suc i) v at = at_view P ps (All-tail (λ q. P (view q)) p ps all) i v at

ends_somewhere : (passes : List Pass) → All (λ p. (view p).ended ≡ 1) passes → 0 < length passes → 0 < count_ended (map view passes)
ends_somewhere [] all some_pass = absurd (omega (arith, some_pass))
ends_somewhere (p ∷ ps) all some_pass = let one = All-head (λ (q : Pass). (view q).ended ≡ 1) p ps all in omega (arith, one)

module _ (claims : Claims) (outcomes : List Outcome) (passes : List Pass) (each : All (HasEnded claims outcomes) passes) (some_pass : 0 < length passes)
    (seen : least_reported (length outcomes) (map view passes) ≤ least_seen (length outcomes) (map view passes)) (drawn : Drawn (length outcomes) (map view passes)) where
  abbrev views : List View
  views = map view passes

  abbrev units : ℕ
  units = length outcomes

  covered : (i : ℕ) (v : View) → At views i v → Covers outcomes v
  covered = at_view (Covers outcomes) passes (λ k d h. (each k d h).covers)

  some_ended : 0 < count_ended views
  some_ended = ends_somewhere passes (λ k d h. (each k d h).ended) some_pass

  pub below_least : (k : ℕ) → k < least_reported units views → derives outcomes k ≡ true
  below_least k h =
      let most = lowest_most (λ v. least_of units v.reported) units views in
      let full = drawn.full some_ended in
      let once = drawn.once k in
      let mine : one_below k (count_drawn views) ≡ 1 = below_one k (count_drawn views) (omega (arith, h, most, full)) in
      let held = holder (λ v. times k v.drawn) views (omega (arith, once, mine)) in
      let i : ℕ = held.0 in let v : View = held.1 in let at : At views i v = held.2 in
      let here = lowest_here (λ (u : View). least_of units u.reported) units views i v at in
      let low = lowest_here (λ (u : View). u.seen) units views i v at in
      ⊎_elim (λ derived. derived)
      (λ rest. ⊎_elim (λ reported. let l = least_of_here units k v.reported reported in absurd (omega (arith, l, here, h))) (λ above. absurd (omega (arith, above, low, seen, h))) rest)
      (covered i v at k held.3)

  pub accepts : least_reported units views ≡ units → verdict_from 0 outcomes ≡ Accepted units
  accepts none_ = all_derived 0 outcomes (λ k h. below_least k (omega (arith, h, none_))) ∙ ap Accepted (omega arith)

  pub fails : (failure : Failure) → Finds outcomes (least_reported units views) (Some failure) → verdict_from 0 outcomes ≡ Failed failure.proc failure.span failure.kind
  fails failure finds = let is = finds.0 in first_failure 0 failure.unit outcomes failure.proc failure.span failure.kind finds.2 (λ k h. below_least k (omega (arith, h, is)))

-- ---- as `gather` says it, of the number of units that it was given

module _ (claims : Claims) (outcomes : List Outcome) (passes : List Pass) (each : All (HasEnded claims outcomes) passes) (some_pass : 0 < length passes) (most : ℕ) (size : most ≡ length outcomes)
    (seen : least_reported most (map view passes) ≤ least_seen most (map view passes)) (drawn : Drawn most (map view passes)) where
  seen_there : least_reported (length outcomes) (map view passes) ≤ least_seen (length outcomes) (map view passes)
  seen_there = subst (λ (n : ℕ). least_reported n (map view passes) ≤ least_seen n (map view passes)) size seen

  drawn_there : Drawn (length outcomes) (map view passes)
  drawn_there = subst (λ (n : ℕ). Drawn n (map view passes)) size drawn

  pub accepted : least_reported most (map view passes) ≡ most → Accepted most ≡ verdict_from 0 outcomes
  accepted none_ = ap Accepted size ∙ sym (accepts claims outcomes passes each some_pass seen_there drawn_there (subst (λ (n : ℕ). least_reported n (map view passes) ≡ n) size none_))

  pub failed : (failure : Failure) (kept : Option Failure) → kept ≡ Some failure → Finds outcomes (least_reported (length outcomes) (map view passes)) kept → Failed failure.proc failure.span failure.kind ≡ verdict_from 0 outcomes
  failed failure kept is finds = sym (fails claims outcomes passes each some_pass seen_there drawn_there failure (subst (Finds outcomes (least_reported (length outcomes) (map view passes))) is finds))

  -- a least unit below the number of units was kept
  pub not_lost : (kept : Option Failure) (least : ℕ) → least < most → least ≡ least_reported most (map view passes) → kept ≡ None → Finds outcomes (least_reported (length outcomes) (map view passes)) kept → ⊥
  not_lost kept least below is none_ finds = let lost : least_reported (length outcomes) (map view passes) ≡ length outcomes = subst (Finds outcomes (least_reported (length outcomes) (map view passes))) none_ finds in
      let there : least ≡ least_reported (length outcomes) (map view passes) = subst (λ (n : ℕ). least ≡ least_reported n (map view passes)) size is in absurd (omega (arith, below, size, lost, there))
