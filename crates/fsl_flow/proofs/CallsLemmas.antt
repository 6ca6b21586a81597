-- Rules of calls, by their parts.
use Rattle.std.proofs.Common.{◌≡◌, ℕ, true, false, List, [], ◌∷◌, ◌++◌, slice_get, Option, Some, None, sym, ap, ◌∙◌, append_assoc, append-nil}
use Rattle.std.specs.Option.{option_map}
use Rattle.std.proofs.lemmas.Option.{slice_get-map}
use Rattle.fsl_core.specs.declared.declaration.Proc.{Proc}
use Rattle.fsl_core.specs.declared.verdict.Kind.{Kind}
use Rattle.fsl_core.specs.Programs.{Program}
use Rattle.fsl_core.specs.logic.States.{Env, State, goes, fails, Branches, followed, ◌>>=◌, give, done, new_symbol}
use Rattle.fsl_core.specs.logic.Terms.{Expression, terms}
use Rattle.fsl_core.specs.logic.Assertions.{asrt_of}
use Rattle.fsl_core.specs.logic.Locations.{Setting, setting_of, Contract, contract_of}
use Rattle.fsl_core.specs.logic.Calls.{gain_post, set_result, call_proc, call}
use Rattle.fsl_lin.specs.Combination.{Combination}
use Rattle.fsl_asrt.proofs.Laws.{followed_twice, followed_equal, followed_give, from_here, then_goes, then_fails}
use Rattle.fsl_flow.specs.Calls.{gained, behind_pre}

-- ---- the procedure that is called: its contract

pub contract_at : (p : Program) (n : ℕ) (o : Option Proc) → o ≡ slice_get p.procs n
    → slice_get (setting_of asrt_of p).procs n ≡ option_map (contract_of asrt_of) o
contract_at p n o h = slice_get-map (contract_of asrt_of) p.procs n ∙ ap (option_map (contract_of asrt_of)) (sym h)

-- ---- lists that grow at the end, where the rules begin at the front

-- what is given behind others, one more at the front or one more before it
pub given_behind : {X : Type 0} (bs : Branches (List X)) (out : List X) (x : X)
    → followed (followed bs (λ xs. give (x ∷ xs))) (λ xs. give (out ++ xs)) ≡ followed bs (λ xs. give ((out ++ x ∷ []) ++ xs))
given_behind {X = X} bs out x =
    followed_twice bs (λ xs. give (x ∷ xs)) (λ xs. give (out ++ xs))
    ∙ followed_equal bs (λ xs. give (x ∷ xs) >>= (λ ys. give (out ++ ys))) (λ xs. give ((out ++ x ∷ []) ++ xs))
    (λ xs t. ap (λ (ys : List X). goes ys t ∷ []) (sym (append_assoc out (x ∷ []) xs)))

-- ---- a call

call_by : (p : Setting) (slot : Option ℕ) (n : ℕ) (es : List Expression) (s : State) (ts : Env) (o : Option Contract)
    → goes ts s ∷ [] ≡ terms es s.env s → slice_get p.procs n ≡ o → call p slot n es s ≡ call_proc slot o ts s
call_by p slot n es s ts o h k =
    from_here (λ env. terms es env >>= (λ args. call_proc slot (slice_get p.procs n) args)) s
    ∙ then_goes (terms es s.env s) ts s (λ args. call_proc slot (slice_get p.procs n) args) h
    ∙ ap (λ (x : Option Contract). call_proc slot x ts s) k

pub called : (p : Program) (slot : Option ℕ) (n : ℕ) (es : List Expression) (s : State) (ts : Env) (q : Proc) → goes ts s ∷ [] ≡ terms es s.env s
    → Some q ≡ slice_get p.procs n → call (setting_of asrt_of p) slot n es s ≡ call_proc slot (Some (contract_of asrt_of q)) ts s
called p slot n es s ts q h k = call_by (setting_of asrt_of p) slot n es s ts (Some (contract_of asrt_of q)) h (contract_at p n (Some q) k)

pub called_none : (p : Program) (slot : Option ℕ) (n : ℕ) (es : List Expression) (s : State) (ts : Env) → goes ts s ∷ [] ≡ terms es s.env s
    → None ≡ slice_get p.procs n → call (setting_of asrt_of p) slot n es s ≡ goes tt s ∷ []
called_none p slot n es s ts h k = call_by (setting_of asrt_of p) slot n es s ts None h (contract_at p n None k)

pub not_called : (p : Setting) (slot : Option ℕ) (n : ℕ) (es : List Expression) (s : State) (k : Kind) → fails k ∷ [] ≡ terms es s.env s
    → call p slot n es s ≡ fails k ∷ []
not_called p slot n es s k h =
    from_here (λ env. terms es env >>= (λ args. call_proc slot (slice_get p.procs n) args)) s
    ∙ then_fails (terms es s.env s) (λ args. call_proc slot (slice_get p.procs n) args) k h

-- ---- the result

pub unnamed : (slot : Option ℕ) (q : Contract) (e : Env) (s : State) → behind_pre slot false q e s ≡ gained slot q e None s
unnamed slot q e s = append-nil (gained slot q e None s)

pub named : (slot : Option ℕ) (q : Contract) (e : Env) (s u : State) (t : Combination) → goes t u ∷ [] ≡ new_symbol s
    → behind_pre slot true q e s ≡ gained slot q e (Some t) u
named slot q e s u t h =
    ap (λ (bs : Branches (Option Combination)). followed bs (gained slot q e)) (then_goes (new_symbol s) t u (λ x. give (Some x)) h)
    ∙ append-nil (gained slot q e (Some t) u)

pub not_named : (slot : Option ℕ) (q : Contract) (e : Env) (s : State) (k : Kind) → fails k ∷ [] ≡ new_symbol s
    → behind_pre slot true q e s ≡ fails k ∷ []
not_named slot q e s k h =
    ap (λ (bs : Branches (Option Combination)). followed bs (gained slot q e)) (then_fails (new_symbol s) (λ x. give (Some x)) k h)

pub followed_done : (bs : Branches (Unit {0})) → followed bs (λ _. done) ≡ bs
followed_done bs = followed_give bs

-- without a variable, or without a result, nothing is set
pub nothing_set : (slot : Option ℕ) (t : Option Combination) (bs : Branches (Unit {0})) → slot ≡ None → bs ≡ followed bs (λ _. set_result slot t)
nothing_set slot t bs h = sym (ap (λ (o : Option ℕ). followed bs (λ _. set_result o t)) h ∙ followed_done bs)

unset : (slot : Option ℕ) (bs : Branches (Unit {0})) → followed bs (λ _. set_result slot None) ≡ bs
unset None bs = followed_done bs
unset (Some slot) bs = followed_done bs

pub nothing_gained : (slot : Option ℕ) (q : Contract) (e : Env) (t : Option Combination) (s : State) → t ≡ None
    → gain_post q e None s ≡ gained slot q e t s
nothing_gained slot q e t s h = sym (ap (λ (o : Option Combination). gained slot q e o s) h ∙ unset slot (gain_post q e None s))
