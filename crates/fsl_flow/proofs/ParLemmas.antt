-- Rules of threads that run side by side, one call after the other.
use Rattle.std.proofs.Common.{◌≡◌, ◌≤◌, ◌<◌, ℕ, ◌+◌, List, [], ◌∷◌, ◌++◌, length, get_or, drop, map, slice_get, Option, Some, None, sym, ap, ◌∙◌, append_assoc, append-nil}
use Rattle.std.proofs.Math.ListN.{drop_of_length-le}
use Rattle.fsl_core.specs.declared.act.Called.{Called}
use Rattle.fsl_core.specs.declared.declaration.Proc.{Proc}
use Rattle.fsl_core.specs.declared.mode.Rung.TheVariants.{Plain}
use Rattle.fsl_core.specs.declared.verdict.Kind.{Kind}
use Rattle.fsl_core.specs.declared.verdict.Mood.TheVariants as mood
use Rattle.fsl_core.specs.Programs.{Program}
use Rattle.fsl_core.specs.logic.States.{Env, State, goes, fails, Branches, Rule, followed, ◌>>=◌, give, new_symbol}
use Rattle.fsl_core.specs.logic.Terms.{expr_of, terms}
use Rattle.fsl_core.specs.logic.Assertions.{asrt_of}
use Rattle.fsl_core.specs.logic.Locations.{Setting, setting_of, Contract, contract_of, padded}
use Rattle.fsl_core.specs.logic.Calls.{gain_post, Running, running, CallTo, call_of, with_args, start_each, join_each, par}
use Rattle.fsl_asrt.proofs.Laws.{followed_twice, followed_equal, followed_give, from_here, then_goes, then_fails}
use Rattle.fsl_asrt.proofs.WalkLemmas.{next_item}
use Rattle.fsl_flow.specs.declared.running.Running as code
use Rattle.fsl_flow.specs.Calls.{started_with, start_one, join_one, running_of}
use Rattle.fsl_flow.proofs.CallsLemmas.{contract_at, given_behind, followed_done}

-- ---- the procedures with their arguments

pub found : (p : Program) (n : ℕ) (q : Proc) (args env : Env) → Some q ≡ slice_get p.procs n → env ≡ padded q.slots args
    → running (slice_get (setting_of asrt_of p).procs n) args [] ≡ record { proc = contract_of asrt_of q; env = env } ∷ []
found p n q args env h e =
    ap (λ (o : Option Contract). running o args []) (contract_at p n (Some q) h)
    ∙ ap (λ (v : Env). record { proc = contract_of asrt_of q; env = v } ∷ []) (sym e)

pub not_found : (p : Program) (n : ℕ) (args : Env) → None ≡ slice_get p.procs n → running (slice_get (setting_of asrt_of p).procs n) args [] ≡ []
not_found p n args h = ap (λ (o : Option Contract). running o args []) (contract_at p n None h)

run_behind : (o : Option Contract) (ts : Env) (out rest : List Running) → out ++ running o ts rest ≡ (out ++ running o ts []) ++ rest
run_behind None ts out rest = ap (λ (xs : List Running). xs ++ rest) (sym (append-nil out))
run_behind (Some q) ts out rest = sym (append_assoc out (record { proc = q; env = padded q.slots ts } ∷ []) rest)

one_call : (p : Setting) (c : CallTo) (cs : List CallTo) (env : Env) (s : State) (out more : List Running) (ts : Env) → goes ts s ∷ [] ≡ terms c.args env s
    → more ≡ out ++ running (slice_get p.procs c.proc) ts []
    → followed (with_args p (c ∷ cs) env s) (λ xs. give (out ++ xs)) ≡ followed (with_args p cs env s) (λ xs. give (more ++ xs))
one_call p c cs env s out more ts h e =
    let o : Option Contract = slice_get p.procs c.proc in
    let first : List Running → Rule (List Running) = λ rest. give (running o ts rest) in
    ap (λ (bs : Branches (List Running)). followed bs (λ xs. give (out ++ xs)))
    (then_goes (terms c.args env s) ts s (λ args. with_args p cs env >>= (λ rest. give (running o args rest))) h)
    ∙ followed_twice (with_args p cs env s) first (λ xs. give (out ++ xs))
    ∙ followed_equal (with_args p cs env s) (λ rest. first rest >>= (λ xs. give (out ++ xs))) (λ xs. give (more ++ xs))
    (λ rest t. ap (λ (xs : List Running). goes xs t ∷ []) (run_behind o ts out rest ∙ ap (λ (xs : List Running). xs ++ rest) (sym e)))

no_call : (p : Setting) (c : CallTo) (cs : List CallTo) (env : Env) (s : State) (out : List Running) (k : Kind) → fails k ∷ [] ≡ terms c.args env s
    → followed (with_args p (c ∷ cs) env s) (λ xs. give (out ++ xs)) ≡ fails k ∷ []
no_call p c cs env s out k h =
    ap (λ (bs : Branches (List Running)). followed bs (λ xs. give (out ++ xs)))
    (then_fails (terms c.args env s) (λ args. with_args p cs env >>= (λ rest. give (running (slice_get p.procs c.proc) args rest))) k h)

pub calls_first : (p : Setting) (cs : List CallTo) (env : Env) (s : State) (out : List Running) → out ≡ []
    → followed (with_args p cs env s) (λ xs. give (out ++ xs)) ≡ with_args p cs env s
calls_first p cs env s out h = ap (λ (o : List Running). followed (with_args p cs env s) (λ xs. give (o ++ xs))) h ∙ followed_give (with_args p cs env s)

pub calls_more : (p : Setting) (i : ℕ) (calls : List Called) (c : Called) (env : Env) (s : State) (out more : List Running) (ts : Env)
    (whole : Branches (List Running)) → i < length calls → c ≡ get_or calls i c → goes ts s ∷ [] ≡ terms (map expr_of c.args) env s
    → more ≡ out ++ running (slice_get p.procs c.proc) ts []
    → followed (with_args p (map (call_of expr_of) (drop i calls)) env s) (λ xs. give (out ++ xs)) ≡ whole
    → followed (with_args p (map (call_of expr_of) (drop (i + 1) calls)) env s) (λ xs. give (more ++ xs)) ≡ whole
calls_more p i calls c env s out more ts whole below is h e so =
    sym (one_call p (call_of expr_of c) (map (call_of expr_of) (drop (i + 1) calls)) env s out more ts h e)
    ∙ ap (λ (cs : List Called). followed (with_args p (map (call_of expr_of) cs) env s) (λ xs. give (out ++ xs))) (sym (next_item calls i c below is)) ∙ so

pub calls_wide : (p : Setting) (i : ℕ) (calls : List Called) (c : Called) (env : Env) (s : State) (out : List Running) (k : Kind)
    (whole : Branches (List Running)) → i < length calls → c ≡ get_or calls i c → fails k ∷ [] ≡ terms (map expr_of c.args) env s
    → followed (with_args p (map (call_of expr_of) (drop i calls)) env s) (λ xs. give (out ++ xs)) ≡ whole → fails k ∷ [] ≡ whole
calls_wide p i calls c env s out k whole below is h so =
    sym (no_call p (call_of expr_of c) (map (call_of expr_of) (drop (i + 1) calls)) env s out k h)
    ∙ ap (λ (cs : List Called). followed (with_args p (map (call_of expr_of) cs) env s) (λ xs. give (out ++ xs))) (sym (next_item calls i c below is)) ∙ so

pub calls_done : (p : Setting) (i : ℕ) (calls : List Called) (env : Env) (s : State) (out : List Running) (whole : Branches (List Running))
    → length calls ≤ i → followed (with_args p (map (call_of expr_of) (drop i calls)) env s) (λ xs. give (out ++ xs)) ≡ whole → goes out s ∷ [] ≡ whole
calls_done p i calls env s out whole past so =
    ap (λ (xs : List Running). goes xs s ∷ []) (sym (append-nil out))
    ∙ ap (λ (cs : List Called). followed (with_args p (map (call_of expr_of) cs) env s) (λ xs. give (out ++ xs))) (sym (drop_of_length-le calls past)) ∙ so

-- ---- every `requires`, one after the other

-- the others, behind those that are started
abbrev pub start_behind : List Running → List Running → Rule (List Running)
start_behind xs before = start_each xs >>= (λ rest. give (before ++ rest))

one_started : (x : Running) (xs before : List Running) (s : State) → (start_one x before >>= start_behind xs) s ≡ start_behind (x ∷ xs) before s
one_started x xs before s =
    let given : Branches Env = x.proc.pre.consume mood.Pre Plain x.env s in
    let own : Env → Running = λ e. record { proc = x.proc; env = e } in
    let front : Env → Rule (List Running) = λ e. start_each xs >>= (λ rest. give (own e ∷ rest)) in
    followed_twice given (started_with x before) (start_behind xs)
    ∙ followed_equal given (λ e. started_with x before e >>= start_behind xs) (λ e. front e >>= (λ rest. give (before ++ rest)))
    (λ e t. append-nil (start_behind xs (before ++ own e ∷ []) t) ∙ sym (given_behind (start_each xs t) before (own e)))
    ∙ sym (followed_twice given front (λ rest. give (before ++ rest)))

starts_on : (x : Running) (xs : List Running) (bs cs : Branches (List Running)) → cs ≡ followed bs (start_one x)
    → followed cs (start_behind xs) ≡ followed bs (start_behind (x ∷ xs))
starts_on x xs bs cs h =
    ap (λ (ds : Branches (List Running)). followed ds (start_behind xs)) h
    ∙ followed_twice bs (start_one x) (start_behind xs)
    ∙ followed_equal bs (λ before. start_one x before >>= start_behind xs) (start_behind (x ∷ xs)) (λ before t. one_started x xs before t)

pub starts_first : (xs : List Running) (s : State) (bs : Branches (List Running)) → bs ≡ goes [] s ∷ [] → followed bs (start_behind xs) ≡ start_each xs s
starts_first xs s bs h =
    ap (λ (ds : Branches (List Running)). followed ds (start_behind xs)) h
    ∙ append-nil (start_behind xs [] s) ∙ followed_give (start_each xs s)

pub starts_more : (i : ℕ) (xs : List code.Running) (x : code.Running) (bs cs whole : Branches (List Running)) → i < length xs → x ≡ get_or xs i x
    → cs ≡ followed bs (start_one (running_of x)) → followed bs (start_behind (map running_of (drop i xs))) ≡ whole
    → followed cs (start_behind (map running_of (drop (i + 1) xs))) ≡ whole
starts_more i xs x bs cs whole below is h so =
    starts_on (running_of x) (map running_of (drop (i + 1) xs)) bs cs h
    ∙ ap (λ (ys : List code.Running). followed bs (start_behind (map running_of ys))) (sym (next_item xs i x below is)) ∙ so

none_behind : (bs : Branches (List Running)) → followed bs (start_behind []) ≡ bs
none_behind bs =
    followed_equal bs (start_behind []) give (λ before t. ap (λ (xs : List Running). goes xs t ∷ []) (append-nil before)) ∙ followed_give bs

pub starts_done : (i : ℕ) (xs : List code.Running) (bs whole : Branches (List Running)) → length xs ≤ i
    → followed bs (start_behind (map running_of (drop i xs))) ≡ whole → bs ≡ whole
starts_done i xs bs whole past so =
    sym (none_behind bs) ∙ ap (λ (ys : List code.Running). followed bs (start_behind (map running_of ys))) (sym (drop_of_length-le xs past)) ∙ so

-- ---- every `ensures`, one after the other

joins_on : (x : Running) (xs : List Running) (bs cs : Branches (Unit {0})) → cs ≡ followed bs (λ _. join_one x)
    → followed cs (λ _. join_each xs) ≡ followed bs (λ _. join_each (x ∷ xs))
joins_on x xs bs cs h =
    ap (λ (ds : Branches (Unit {0})). followed ds (λ _. join_each xs)) h
    ∙ followed_twice bs (λ _. join_one x) (λ _. join_each xs)
    ∙ followed_equal bs (λ _. join_one x >>= (λ _. join_each xs)) (λ _. join_each (x ∷ xs))
    (λ u t. followed_twice (new_symbol t) (λ r. gain_post x.proc x.env (Some r)) (λ _. join_each xs))

pub joins_first : (xs : List Running) (s : State) (bs : Branches (Unit {0})) → bs ≡ goes tt s ∷ [] → followed bs (λ _. join_each xs) ≡ join_each xs s
joins_first xs s bs h = ap (λ (ds : Branches (Unit {0})). followed ds (λ _. join_each xs)) h ∙ append-nil (join_each xs s)

pub joins_more : (i : ℕ) (xs : List code.Running) (x : code.Running) (bs cs whole : Branches (Unit {0})) → i < length xs → x ≡ get_or xs i x
    → cs ≡ followed bs (λ _. join_one (running_of x)) → followed bs (λ _. join_each (map running_of (drop i xs))) ≡ whole
    → followed cs (λ _. join_each (map running_of (drop (i + 1) xs))) ≡ whole
joins_more i xs x bs cs whole below is h so =
    joins_on (running_of x) (map running_of (drop (i + 1) xs)) bs cs h
    ∙ ap (λ (ys : List code.Running). followed bs (λ _. join_each (map running_of ys))) (sym (next_item xs i x below is)) ∙ so

pub joins_done : (i : ℕ) (xs : List code.Running) (bs whole : Branches (Unit {0})) → length xs ≤ i
    → followed bs (λ _. join_each (map running_of (drop i xs))) ≡ whole → bs ≡ whole
joins_done i xs bs whole past so =
    sym (followed_done bs) ∙ ap (λ (ys : List code.Running). followed bs (λ _. join_each (map running_of ys))) (sym (drop_of_length-le xs past)) ∙ so

-- ---- all of it

pub par_read : (p : Setting) (cs : List CallTo) (s : State) (xs : List Running) → goes xs s ∷ [] ≡ with_args p cs s.env s
    → par p cs s ≡ followed (start_each xs s) join_each
par_read p cs s xs h =
    from_here (λ env. with_args p cs env >>= (λ ys. start_each ys >>= join_each)) s
    ∙ then_goes (with_args p cs s.env s) xs s (λ ys. start_each ys >>= join_each) h

pub par_wide : (p : Setting) (cs : List CallTo) (s : State) (k : Kind) → fails k ∷ [] ≡ with_args p cs s.env s → par p cs s ≡ fails k ∷ []
par_wide p cs s k h =
    from_here (λ env. with_args p cs env >>= (λ ys. start_each ys >>= join_each)) s
    ∙ then_fails (with_args p cs s.env s) (λ ys. start_each ys >>= join_each) k h
