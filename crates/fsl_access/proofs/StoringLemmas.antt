-- Atomic stores, by parts of the rule.
use Rattle.std.proofs.Common.{◌≡◌, [], ◌∷◌, Some, None, ◌∙◌}
use Rattle.fsl_core.specs.declared.mode.Mode.{Mode}
use Rattle.fsl_core.specs.declared.verdict.Kind.TheVariants as kind
use Rattle.fsl_core.specs.logic.States.{State, fails, Action, ◌>>=◌}
use Rattle.fsl_core.specs.logic.Terms.{Expression, term}
use Rattle.fsl_core.specs.logic.Chunks.{Leave, first, find_or, rel_at}
use Rattle.fsl_core.specs.logic.Locations.{Setting}
use Rattle.fsl_core.specs.logic.Accesses.{giving, store_atomic}
use Rattle.fsl_lin.specs.Combination.{Combination}
use Rattle.fsl_asrt.proofs.Laws.{from_here, got, lacked}
use Rattle.fsl_access.proofs.LocationLemmas.{found_some, found_none}
use Rattle.fsl_access.specs.Location.{what_is}
use Rattle.fsl_access.specs.Storing.{written_under}

abbrev store_from : Setting → Mode → Combination → Combination → Action
store_from p m a v = find_or kind.Rel (rel_at a) >>= (λ f. written_under p (giving m) a v f.is)

store_at : (p : Setting) (m : Mode) (at e : Expression) (s : State) (a v : Combination) → at.term s.facts s.env ≡ Some a → e.term s.facts s.env ≡ Some v
    → store_atomic p m at e s ≡ store_from p m a v s
store_at p m at e s a v h k =
    from_here (λ env. term at env >>= (λ x. term e env >>= store_from p m x)) s
    ∙ got kind.Term (at.term s.facts s.env) a s (λ x. term e s.env >>= store_from p m x) h
    ∙ got kind.Term (e.term s.facts s.env) v s (store_from p m a) k

pub store_wide : (p : Setting) (m : Mode) (at e : Expression) (s : State) → at.term s.facts s.env ≡ None → store_atomic p m at e s ≡ fails kind.Term ∷ []
store_wide p m at e s h =
    from_here (λ env. term at env >>= (λ x. term e env >>= store_from p m x)) s
    ∙ lacked kind.Term (at.term s.facts s.env) s (λ x. term e s.env >>= store_from p m x) h

pub value_wide : (p : Setting) (m : Mode) (at e : Expression) (s : State) (a : Combination) → at.term s.facts s.env ≡ Some a
    → e.term s.facts s.env ≡ None → store_atomic p m at e s ≡ fails kind.Term ∷ []
value_wide p m at e s a h k =
    from_here (λ env. term at env >>= (λ x. term e env >>= store_from p m x)) s
    ∙ got kind.Term (at.term s.facts s.env) a s (λ x. term e s.env >>= store_from p m x) h
    ∙ lacked kind.Term (e.term s.facts s.env) s (store_from p m a) k

pub store_found : (p : Setting) (m : Mode) (at e : Expression) (s : State) (a v : Combination) (l : Leave)
    → at.term s.facts s.env ≡ Some a → e.term s.facts s.env ≡ Some v → Some l ≡ what_is (first (rel_at a s.facts) s.chunks)
    → store_atomic p m at e s ≡ written_under p (giving m) a v l s
store_found p m at e s a v l h k is =
    store_at p m at e s a v h k ∙ found_some kind.Rel (rel_at a) s (written_under p (giving m) a v) l is

pub store_none : (p : Setting) (m : Mode) (at e : Expression) (s : State) (a v : Combination)
    → at.term s.facts s.env ≡ Some a → e.term s.facts s.env ≡ Some v → None ≡ what_is (first (rel_at a s.facts) s.chunks)
    → store_atomic p m at e s ≡ fails kind.Rel ∷ []
store_none p m at e s a v h k is =
    store_at p m at e s a v h k ∙ found_none kind.Rel (rel_at a) s (written_under p (giving m) a v) is
