-- Terms that are read in order: a list of them grows at its end, where the rule begins at the front.
use Rattle.std.proofs.Common.{◌≡◌, ◌≤◌, ◌<◌, ℕ, ◌+◌, List, [], ◌∷◌, ◌++◌, length, get_or, drop, map, Some, None, sym, ap, ◌∙◌, append_assoc, append-nil}
use Rattle.std.proofs.Math.ListN.{drop_of_length-le}
use Rattle.fsl_asrt.proofs.Laws.{followed_twice, followed_equal, followed_give, got, lacked, then_goes, then_fails}
use Rattle.fsl_asrt.proofs.WalkLemmas.{next_item}
use Rattle.fsl_core.specs.declared.expr.Expr.{Expr}
use Rattle.fsl_core.specs.declared.verdict.Kind.TheVariants as kind
use Rattle.fsl_core.specs.logic.States.{Env, State, goes, fails, Branches, followed, ◌>>=◌, give}
use Rattle.fsl_core.specs.logic.Terms.{Expression, expr_of, terms}
use Rattle.fsl_core.specs.logic.Chunks.{leave}
use Rattle.fsl_core.specs.logic.Producing.{Instance, leave_terms}
use Rattle.fsl_lin.specs.Combination.{Combination}

-- ---- terms of several expressions

-- what is given behind others, one more at the front or one more before it
given_behind : {X : Type 0} (bs : Branches (List X)) (out : List X) (x : X)
    → followed (followed bs (λ xs. give (x ∷ xs))) (λ xs. give (out ++ xs)) ≡ followed bs (λ xs. give ((out ++ x ∷ []) ++ xs))
given_behind {X = X} bs out x =
    followed_twice bs (λ xs. give (x ∷ xs)) (λ xs. give (out ++ xs))
    ∙ followed_equal bs (λ xs. give (x ∷ xs) >>= (λ ys. give (out ++ ys))) (λ xs. give ((out ++ x ∷ []) ++ xs))
    (λ xs t. ap (λ (ys : List X). goes ys t ∷ []) (sym (append_assoc out (x ∷ []) xs)))

one_term : (e : Expression) (es : List Expression) (env : Env) (s : State) (out : Env) (t : Combination) → e.term s.facts env ≡ Some t
    → followed (terms (e ∷ es) env s) (λ ts. give (out ++ ts)) ≡ followed (terms es env s) (λ ts. give ((out ++ t ∷ []) ++ ts))
one_term e es env s out t h =
    ap (λ (bs : Branches Env). followed bs (λ ts. give (out ++ ts)))
    (got kind.Term (e.term s.facts env) t s (λ u. terms es env >>= (λ ts. give (u ∷ ts))) h)
    ∙ given_behind (terms es env s) out t

pub terms_first : (es : List Expression) (env : Env) (s : State) (out : Env) → out ≡ []
    → followed (terms es env s) (λ ts. give (out ++ ts)) ≡ terms es env s
terms_first es env s out h = ap (λ (o : Env). followed (terms es env s) (λ ts. give (o ++ ts))) h ∙ followed_give (terms es env s)

pub terms_more : (i : ℕ) (es : List Expr) (e : Expr) (env : Env) (s : State) (out more : Env) (t : Combination) (whole : Branches Env)
    → i < length es → e ≡ get_or es i e → (expr_of e).term s.facts env ≡ Some t → more ≡ out ++ t ∷ []
    → followed (terms (map expr_of (drop i es)) env s) (λ ts. give (out ++ ts)) ≡ whole
    → followed (terms (map expr_of (drop (i + 1) es)) env s) (λ ts. give (more ++ ts)) ≡ whole
terms_more i es e env s out more t whole below is h grown so =
    ap (λ (o : Env). followed (terms (map expr_of (drop (i + 1) es)) env s) (λ ts. give (o ++ ts))) grown
    ∙ sym (one_term (expr_of e) (map expr_of (drop (i + 1) es)) env s out t h)
    ∙ ap (λ (xs : List Expr). followed (terms (map expr_of xs) env s) (λ ts. give (out ++ ts))) (sym (next_item es i e below is)) ∙ so

pub terms_wide : (i : ℕ) (es : List Expr) (e : Expr) (env : Env) (s : State) (out : Env) (whole : Branches Env)
    → i < length es → e ≡ get_or es i e → (expr_of e).term s.facts env ≡ None
    → followed (terms (map expr_of (drop i es)) env s) (λ ts. give (out ++ ts)) ≡ whole → fails kind.Term ∷ [] ≡ whole
terms_wide i es e env s out whole below is h so =
    let rest : List Expression = map expr_of (drop (i + 1) es) in
    sym (ap (λ (bs : Branches Env). followed bs (λ ts. give (out ++ ts)))
    (lacked kind.Term ((expr_of e).term s.facts env) s (λ u. terms rest env >>= (λ ts. give (u ∷ ts))) h))
    ∙ ap (λ (xs : List Expr). followed (terms (map expr_of xs) env s) (λ ts. give (out ++ ts))) (sym (next_item es i e below is)) ∙ so

pub terms_done : (i : ℕ) (es : List Expr) (env : Env) (s : State) (out : Env) (whole : Branches Env) → length es ≤ i
    → followed (terms (map expr_of (drop i es)) env s) (λ ts. give (out ++ ts)) ≡ whole → goes out s ∷ [] ≡ whole
terms_done i es env s out whole past so =
    ap (λ (ts : Env). goes ts s ∷ []) (sym (append-nil out))
    ∙ ap (λ (xs : List Expr). followed (terms (map expr_of xs) env s) (λ ts. give (out ++ ts))) (sym (drop_of_length-le es past)) ∙ so

-- ---- a location with its invariant

pub no_address : (at : Expression) (inst : Instance) (env : Env) (s : State) → at.term s.facts env ≡ None
    → fails kind.Term ∷ [] ≡ leave_terms at inst env s
no_address at inst env s h = sym (lacked kind.Term (at.term s.facts env) s (λ a. terms inst.args env >>= (λ args. give (leave a inst.inv args))) h)

pub no_arguments : (at : Expression) (inst : Instance) (env : Env) (s : State) (a : Combination) → at.term s.facts env ≡ Some a
    → fails kind.Term ∷ [] ≡ terms inst.args env s → fails kind.Term ∷ [] ≡ leave_terms at inst env s
no_arguments at inst env s a h k =
    sym (got kind.Term (at.term s.facts env) a s (λ a. terms inst.args env >>= (λ args. give (leave a inst.inv args))) h
    ∙ then_fails (terms inst.args env s) (λ args. give (leave a inst.inv args)) kind.Term k)

pub leave_read : (at : Expression) (inst : Instance) (env : Env) (s : State) (a : Combination) (args : List Combination) → at.term s.facts env ≡ Some a
    → goes args s ∷ [] ≡ terms inst.args env s → goes (leave a inst.inv args) s ∷ [] ≡ leave_terms at inst env s
leave_read at inst env s a args h k =
    sym (got kind.Term (at.term s.facts env) a s (λ a. terms inst.args env >>= (λ args. give (leave a inst.inv args))) h
    ∙ then_goes (terms inst.args env s) args s (λ args. give (leave a inst.inv args)) k)
