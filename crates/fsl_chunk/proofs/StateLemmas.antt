-- What assuming a fact comes to, by whether there is room for it.
use Rattle.std.proofs.Common.{◌≡◌, Bool, true, false, [], ◌∷◌, sym, ap}
use Rattle.std.specs.Prelude.{if◌then◌else◌}
use Rattle.std.proofs.lemmas.Bool.{and_from, and_left, and_right}
use Rattle.fsl_core.specs.declared.verdict.Kind.TheVariants.{Term}
use Rattle.fsl_core.specs.logic.States.{State, Branches, goes, fails}
use Rattle.fsl_core.specs.logic.Deciding.{term_in, has_room, assume}
use Rattle.fsl_lin.specs.Combination.{is_narrow}
use Rattle.fsl_lin.specs.Facts.{absurd_facts, facts_fit}
use Rattle.fsl_lin.specs.declared.fact.Fact.{Fact}

-- the branch with a fact, if its facts aren't absurd
abbrev pub with_fact : Fact → State → Branches (Unit {0})
with_fact fact s = if absurd_facts (fact ∷ s.facts) then [] else goes tt (record s { facts = fact ∷ s.facts }) ∷ []

by_room : (room : Bool) (fact : Fact) (s : State) → has_room fact s.facts ≡ room
    → assume fact s ≡ (if room then with_fact fact s else fails Term ∷ [])
by_room room fact s h = ap (λ b. if b then with_fact fact s else fails Term ∷ []) h

pub assumed : (fact : Fact) (s : State) → is_narrow (term_in fact) ≡ true → facts_fit (fact ∷ s.facts) ≡ true → with_fact fact s ≡ assume fact s
assumed fact s h k = sym (by_room true fact s (and_from _ _ h k))

pub unfit : (fact : Fact) (s : State) → facts_fit (fact ∷ s.facts) ≡ false → fails Term ∷ [] ≡ assume fact s
unfit fact s h = sym (by_room false fact s (and_right _ _ h))

pub too_wide : (fact : Fact) (s : State) → is_narrow (term_in fact) ≡ false → fails Term ∷ [] ≡ assume fact s
too_wide fact s h = sym (by_room false fact s (and_left _ _ h))
