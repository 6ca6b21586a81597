-- Where a procedure starts and ends, by parts of the rules.
use Rattle.std.proofs.Common.{arith, ◌≡◌, ◌<◌, ℕ, zero, suc, ◌+◌, ◌-◌, [], ◌∷◌, ◌++◌, sym, ◌∙◌, append-nil, add-one, add-suc, add-zero, Some, None}
use Rattle.fsl_core.specs.declared.verdict.Kind.{Kind}
use Rattle.fsl_core.specs.logic.States.{Env, State, goes, fails, followed, ◌>>=◌, give, new_symbol, done, change}
use Rattle.fsl_core.specs.logic.Calls.{new_symbols, enter, finish}
use Rattle.fsl_lin.specs.Combination.{Combination}
use Rattle.fsl_core.specs.declared.mode.Rung.TheVariants.{Plain}
use Rattle.fsl_core.specs.declared.verdict.Kind.TheVariants as kind
use Rattle.fsl_core.specs.declared.verdict.Mood.TheVariants as mood
use Rattle.fsl_core.specs.logic.Assertions.{Assertion}
use Rattle.fsl_core.specs.logic.Locations.{Contract, padded}
use Rattle.fsl_core.specs.logic.Paths.{give_inv, return}
use Rattle.fsl_core.specs.logic.Terms.{Expression}
use Rattle.fsl_asrt.proofs.Laws.{then_fails, then_goes, with_term, without_term}

pub symbols_goes : (n : ℕ) (s t u : State) (ts : Env) (d : Combination) → goes ts t ∷ [] ≡ new_symbols n s → goes d u ∷ [] ≡ new_symbol t
    → goes (ts ++ d ∷ []) u ∷ [] ≡ new_symbols (n + 1) s
symbols_goes n s t u ts d h k =
    rw add-one (sym (then_goes (new_symbols n s) ts t (λ xs. new_symbol >>= (λ x. give (xs ++ x ∷ []))) h
    ∙ then_goes (new_symbol t) d u (λ x. give (ts ++ x ∷ [])) k))

symbols_stop : (n : ℕ) (s t : State) (ts : Env) (kind : Kind) → goes ts t ∷ [] ≡ new_symbols n s → fails kind ∷ [] ≡ new_symbol t
    → fails kind ∷ [] ≡ new_symbols (suc n) s
symbols_stop n s t ts kind h k =
    sym (then_goes (new_symbols n s) ts t (λ xs. new_symbol >>= (λ x. give (xs ++ x ∷ []))) h
    ∙ then_fails (new_symbol t) (λ x. give (ts ++ x ∷ [])) kind k)

symbols_stay : (j n : ℕ) (s : State) (kind : Kind) → fails kind ∷ [] ≡ new_symbols n s → fails kind ∷ [] ≡ new_symbols (n + j) s
symbols_stay zero n s kind h = rw add-zero h
symbols_stay (suc j) n s kind h =
    rw add-suc (sym (then_fails (new_symbols (n + j) s) (λ xs. new_symbol >>= (λ x. give (xs ++ x ∷ []))) kind (symbols_stay j n s kind h)))

pub symbols_fails : (n m : ℕ) (s t : State) (ts : Env) (kind : Kind) → n < m → goes ts t ∷ [] ≡ new_symbols n s → fails kind ∷ [] ≡ new_symbol t
    → fails kind ∷ [] ≡ new_symbols m s
symbols_fails n m s t ts kind below h k =
    let e : m ≡ suc n + (m - suc n) = omega arith in
    rw e (symbols_stay (m - suc n) (suc n) s kind (symbols_stop n s t ts kind h k))

pub entered : (c : Contract) (s t : State) (ts : Env) → goes ts t ∷ [] ≡ new_symbols c.params s
    → enter c s ≡ followed (c.pre.produce Plain (padded c.slots ts) t) (λ e. change (λ u. record u { env = e }))
entered c s t ts h =
    then_goes (new_symbols c.params s) ts t (λ xs. c.pre.produce Plain (padded c.slots xs) >>= (λ e. change (λ u. record u { env = e }))) h

pub not_entered : (c : Contract) (s : State) (k : Kind) → fails k ∷ [] ≡ new_symbols c.params s → enter c s ≡ fails k ∷ []
not_entered c s k h =
    then_fails (new_symbols c.params s) (λ xs. c.pre.produce Plain (padded c.slots xs) >>= (λ e. change (λ u. record u { env = e }))) k h

pub finished : (post : Assertion) (t : Combination) (s : State)
    → finish post t s ≡ followed (post.consume mood.Post Plain (s.env ++ t ∷ []) s) (λ _. done)
finished post t s = append-nil (followed (post.consume mood.Post Plain (s.env ++ t ∷ []) s) (λ _. done))

pub returned : (post : Assertion) (e : Expression) (s : State) (t : Combination) → e.term s.facts s.env ≡ Some t → return post e s ≡ finish post t s
returned post e s t h = with_term e (finish post) s t h

pub not_returned : (post : Assertion) (e : Expression) (s : State) → e.term s.facts s.env ≡ None → return post e s ≡ fails kind.Term ∷ []
not_returned post e s h = without_term e (finish post) s h

pub inv_given : (inv : Assertion) (s : State) → give_inv inv s ≡ followed (inv.consume mood.Loop Plain s.env s) (λ _. done)
inv_given inv s = append-nil (followed (inv.consume mood.Loop Plain s.env s) (λ _. done))
