-- Conditions, rounds of a loop and the variables that it renews, by parts of the rules.
use Rattle.std.proofs.Common.{arith, ◌≡◌, ◌<◌, ℕ, zero, suc, ◌+◌, ◌-◌, ◌==◌, Bool, true, false, List, [], ◌∷◌, sym, ap, ◌∙◌, append-nil, add-one, add-suc, add-zero}
use Rattle.std.specs.List.{list_any}
use Rattle.fsl_core.specs.declared.verdict.Kind.{Kind}
use Rattle.fsl_core.specs.logic.States.{State, goes, fails, Action, followed, new_symbol, set}
use Rattle.fsl_core.specs.logic.Slots.{renew, renew_one}
use Rattle.fsl_lin.specs.Combination.{Combination}
use Rattle.fsl_core.specs.declared.mode.Rung.TheVariants.{Plain}
use Rattle.fsl_core.specs.logic.Deciding.{Condition, decided, assume_cond}
use Rattle.fsl_core.specs.logic.Assertions.{Assertion}
use Rattle.fsl_core.specs.logic.Paths.{round}
use Rattle.fsl_flow.specs.Looping.{decided_here, produced, body_round}
use Rattle.fsl_asrt.proofs.Laws.{then_fails, then_goes, then_infeasible}

pub decided_so : (cond : Condition) (s : State) → decided_here cond s ≡ decided cond s.env s
decided_so cond s = append-nil (decided cond s.env s)

pub produced_so : (inv : Assertion) (answer : Bool) (cond : Condition) (s : State)
    → produced inv answer cond s ≡ followed (inv.produce Plain s.env s) (λ _. assume_cond answer cond s.env)
produced_so inv answer cond s = append-nil (followed (inv.produce Plain s.env s) (λ _. assume_cond answer cond s.env))

pub round_goes : (answer : Bool) (cond : Condition) (inv : Assertion) (declared : ℕ) (slots : List ℕ) (s t : State)
    → goes tt t ∷ [] ≡ renew declared slots s → round answer cond inv declared slots s ≡ produced inv answer cond t
round_goes answer cond inv declared slots s t h = then_goes (renew declared slots s) tt t (λ _. produced inv answer cond) h

pub round_infeasible : (answer : Bool) (cond : Condition) (inv : Assertion) (declared : ℕ) (slots : List ℕ) (s : State)
    → [] ≡ renew declared slots s → round answer cond inv declared slots s ≡ []
round_infeasible answer cond inv declared slots s h = then_infeasible (renew declared slots s) (λ _. produced inv answer cond) h

pub round_fails : (answer : Bool) (cond : Condition) (inv : Assertion) (declared : ℕ) (slots : List ℕ) (s : State) (k : Kind)
    → fails k ∷ [] ≡ renew declared slots s → round answer cond inv declared slots s ≡ fails k ∷ []
round_fails answer cond inv declared slots s k h = then_fails (renew declared slots s) (λ _. produced inv answer cond) k h

pub body_so : (cond : Condition) (inv : Assertion) (declared : ℕ) (slots : List ℕ) (s : State)
    → body_round cond inv declared slots s ≡ round true cond inv declared slots (record s { chunks = [] })
body_so cond inv declared slots s = append-nil (round true cond inv declared slots (record s { chunks = [] }))

abbrev next : List ℕ → ℕ → Action
next slots n = renew_one (list_any (λ slot. slot == n) slots) n

renew_more : (n : ℕ) (slots : List ℕ) (s t : State) → goes tt t ∷ [] ≡ renew n slots s → renew (n + 1) slots s ≡ next slots n t
renew_more n slots s t h = rw add-one (then_goes (renew n slots s) tt t (λ x. next slots n) h)

pub renew_skips : (n : ℕ) (slots : List ℕ) (s t : State) → list_any (λ slot. slot == n) slots ≡ false → goes tt t ∷ [] ≡ renew n slots s
    → goes tt t ∷ [] ≡ renew (n + 1) slots s
renew_skips n slots s t out h = sym (renew_more n slots s t h ∙ ap (λ (b : Bool). renew_one b n t) out)

renewed : (n : ℕ) (slots : List ℕ) (s t : State) → list_any (λ slot. slot == n) slots ≡ true → goes tt t ∷ [] ≡ renew n slots s
    → renew (n + 1) slots s ≡ followed (new_symbol t) (set n)
renewed n slots s t is h = renew_more n slots s t h ∙ ap (λ (b : Bool). renew_one b n t) is

pub renew_goes : (n : ℕ) (slots : List ℕ) (s t u v : State) (d : Combination) → list_any (λ slot. slot == n) slots ≡ true
    → goes tt t ∷ [] ≡ renew n slots s → goes d u ∷ [] ≡ new_symbol t → set n d u ≡ goes tt v ∷ [] → goes tt v ∷ [] ≡ renew (n + 1) slots s
renew_goes n slots s t u v d is h k e = sym (renewed n slots s t is h ∙ then_goes (new_symbol t) d u (set n) k ∙ e)

renew_stay : (j n : ℕ) (slots : List ℕ) (s : State) (kind : Kind) → fails kind ∷ [] ≡ renew n slots s → fails kind ∷ [] ≡ renew (n + j) slots s
renew_stay zero n slots s kind h = rw add-zero h
renew_stay (suc j) n slots s kind h =
    rw add-suc (sym (then_fails (renew (n + j) slots s) (λ x. next slots (n + j)) kind (renew_stay j n slots s kind h)))

pub renew_fails : (n m : ℕ) (slots : List ℕ) (s t : State) (kind : Kind) → n < m → list_any (λ slot. slot == n) slots ≡ true
    → goes tt t ∷ [] ≡ renew n slots s → fails kind ∷ [] ≡ new_symbol t → fails kind ∷ [] ≡ renew m slots s
renew_fails n m slots s t kind below is h k =
    let e : m ≡ n + 1 + (m - (n + 1)) = omega arith in
    rw e (renew_stay (m - (n + 1)) (n + 1) slots s kind (sym (renewed n slots s t is h ∙ then_fails (new_symbol t) (set n) kind k)))
