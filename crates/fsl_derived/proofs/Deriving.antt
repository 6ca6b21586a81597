-- Verdicts: where a program is accepted, the paths of every procedure are derived.
use Rattle.std.proofs.Common.{◌≡◌, ℕ, zero, suc, ◌+◌, nat_lt, Bool, true, false, List, [], ◌∷◌, Some, None, slice_get, if◌then◌else◌, refl, subst}
use Rattle.fsl_core.specs.declared.declaration.Proc.{Proc}
use Rattle.fsl_core.specs.declared.verdict.Kind.TheVariants.{Paths}
use Rattle.fsl_core.specs.declared.verdict.Outcome.{Outcome}
use Rattle.fsl_core.specs.declared.verdict.Outcome.TheVariants.{Derived, Fails}
use Rattle.fsl_core.specs.declared.verdict.Verdict.TheVariants.{Accepted, Failed}
use Rattle.fsl_core.specs.Verdicts.{End, derived, failed, outcome_from, verdict_from}
use Rattle.fsl_core.specs.logic.Verdicts.{outcomes}
use Rattle.fsl_asserted.proofs.Asking.{some_is}
use Rattle.fsl_walk.specs.Stances.{AllDerived}

abbrev counted : Bool → Outcome → Outcome → Outcome
counted b o f = if b then o else f

one_more : (b : Bool) (o f : Outcome) (paths : ℕ) → (f ≡ Derived paths → ⊥) → counted b o f ≡ Derived paths → o ≡ Derived paths
one_more true o f paths n e = e
one_more false o f paths n e = absurd (n e)

outcome_derived : (number n paths : ℕ) (es : List End) → outcome_from number n es ≡ Derived paths → AllDerived es
outcome_derived number n paths [] e = tt
outcome_derived number n paths (derived at ∷ es) e =
    outcome_derived number (n + 1) paths es (one_more (nat_lt n 65536) (outcome_from number (n + 1) es) (Fails number at Paths) paths (λ f. absurd (cc)) e)
outcome_derived number n paths (failed at kind ∷ es) e = absurd (let f : Fails number at kind ≡ Derived paths = e in cc)

record Rests (number n k : ℕ) (es : List End) (os : List Outcome) : Type 0 where
  all : AllDerived es
  rest : verdict_from (n + 1) os ≡ Accepted k

first_derived : (number n k : ℕ) (es : List End) (os : List Outcome) (o : Outcome) → outcome_from number 0 es ≡ o → verdict_from n (o ∷ os) ≡ Accepted k → Rests number n k es os
first_derived number n k es os (Derived paths) is e = record { all = outcome_derived number 0 paths es is; rest = e }
first_derived number n k es os (Fails proc at kind) is e = absurd (let f : Failed proc at kind ≡ Accepted k = e in cc)

pub accepted_derived : (ends : Proc → List End) (number n k : ℕ) (qs : List Proc) → verdict_from n (outcomes ends number qs) ≡ Accepted k
    → (i : ℕ) (q : Proc) → slice_get qs i ≡ Some q → AllDerived (ends q)
accepted_derived ends number n k [] e i q is = absurd (let f : None ≡ Some q = is in cc)
accepted_derived ends number n k (x ∷ qs) e zero q is =
    subst (λ (z : Proc). AllDerived (ends z)) (some_is is) (first_derived number n k (ends x) (outcomes ends (number + 1) qs) (outcome_from number 0 (ends x)) refl e).all
accepted_derived ends number n k (x ∷ qs) e (suc i) q is =
    accepted_derived ends (number + 1) (n + 1) k qs (first_derived number n k (ends x) (outcomes ends (number + 1) qs) (outcome_from number 0 (ends x)) refl e).rest i q is
