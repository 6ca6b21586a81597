-- Rules of simple statements that read a term or a condition first.
use Rattle.std.proofs.Common.{◌≡◌, ℕ, [], ◌∷◌, append-nil, Some, None}
use Rattle.fsl_core.specs.logic.States.{State, fails, set, done}
use Rattle.fsl_lin.specs.Combination.{Combination}
use Rattle.fsl_core.specs.declared.verdict.Kind.TheVariants as kind
use Rattle.fsl_core.specs.logic.Deciding.{Condition, demand_cond}
use Rattle.fsl_core.specs.logic.Paths.{assert, set_to, print}
use Rattle.fsl_core.specs.logic.Terms.{Expression}
use Rattle.fsl_asrt.proofs.Laws.{with_term, without_term}

pub asserted : (cond : Condition) (s : State) → assert cond s ≡ demand_cond kind.Assert cond s.env s
asserted cond s = append-nil (demand_cond kind.Assert cond s.env s)

pub set_some : (slot : ℕ) (e : Expression) (s : State) (t : Combination) → e.term s.facts s.env ≡ Some t → set_to slot e s ≡ set slot t s
set_some slot e s t h = with_term e (set slot) s t h

pub set_none : (slot : ℕ) (e : Expression) (s : State) → e.term s.facts s.env ≡ None → set_to slot e s ≡ fails kind.Term ∷ []
set_none slot e s h = without_term e (set slot) s h

pub print_some : (e : Expression) (s : State) (t : Combination) → e.term s.facts s.env ≡ Some t → print e s ≡ done s
print_some e s t h = with_term e (λ _. done) s t h

pub print_none : (e : Expression) (s : State) → e.term s.facts s.env ≡ None → print e s ≡ fails kind.Term ∷ []
print_none e s h = without_term e (λ _. done) s h
