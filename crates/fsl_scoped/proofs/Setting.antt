-- What statements set, and what is local behind them.
use Rattle.std.proofs.Common.{◌≡◌, ◌<◌, ◌+◌, ◌++◌, ◌&&◌, not, max, ℕ, zero, suc, Bool, true, List, [], ◌∷◌, map, Option, Some, None, get_or, slice_set, ap, ◌∙◌, sym, subst, refl, arith}
use Rattle.std.proofs.lemmas.Bool.{and_parts}
use Rattle.std.specs.List.{list_all}
use Rattle.fsl_base.specs.declared.span.Span.{Span}
use Rattle.fsl_core.specs.declared.act.Act.{Act}
use Rattle.fsl_core.specs.declared.act.Act.TheOpen.{Act-F}
use Rattle.fsl_core.specs.declared.act.Act.TheFolds.{ind-Act, map-Act, fold-Act, fold-roll-Act, fold_out-Act, fold_out-Stmt}
use Rattle.fsl_core.specs.declared.act.Act.TheViews.{out-Act, roll-Act}
use Rattle.fsl_core.specs.declared.act.Stmt.{Stmt}
use Rattle.fsl_core.specs.declared.declaration.Proc.{Proc}
use Rattle.fsl_core.specs.declared.scope.Scope.{Scope}
use Rattle.fsl_core.specs.declared.scope.Sight.{Sight}
use Rattle.fsl_core.specs.declared.scope.Sight.TheVariants as sight
use Rattle.fsl_scoped.specs.Own.{are_settable, BlocksSetTheirOwn, AreDeclared, LocalsAreDeclared}
use Rattle.fsl_core.specs.Scopes.{is_free, is_settable, sight_at, with_sight, in_loop, tests, Scoped, still, all_fit, sets, declares_bank, asrt_scoped, act_scoped, stmt_scoped}
use Rattle.fsl_core.specs.Scopes as scopes
use Rattle.fsl_core.specs.logic.Paths as paths
use Rattle.fsl_core.specs.logic.Paths.{Meaning, Reading, stmt_of, all_sets}
use Rattle.fsl_core.specs.logic.Slots.{past}
use Rattle.fsl_core.proofs.Sights.{stmt_is}

-- ---- one variable set

-- what may be set once another may be set was so before
settable_before : (xs : List Sight) (i k : ℕ) (s d : Sight) → is_settable (get_or xs i d) ≡ true
    → is_settable (get_or (slice_set xs i s) k d) ≡ true → is_settable (get_or xs k d) ≡ true
settable_before [] i k s d h later = later
settable_before (x ∷ xs) zero zero s d h later = h
settable_before (x ∷ xs) zero (suc k) s d h later = later
settable_before (x ∷ xs) (suc i) zero s d h later = later
settable_before (x ∷ xs) (suc i) (suc k) s d h later = settable_before xs i k s d h later

free_is_settable : (s : Sight) → is_free s ≡ true → is_settable s ≡ true
free_is_settable sight.Free h = refl
free_is_settable sight.Kept h = cc
free_is_settable sight.Given h = cc
free_is_settable sight.Bound h = cc
free_is_settable sight.Local h = cc
free_is_settable sight.Bank h = cc
free_is_settable sight.Either h = cc

-- what is local once a variable was set is that one, or was so before
local_before : (xs : List Sight) (i k : ℕ) (s d : Sight) (P : Type 0) → get_or (slice_set xs i s) k d ≡ sight.Local
    → (i ≡ k → P) → (get_or xs k d ≡ sight.Local → P) → P
local_before [] i k s d P h same before = before h
local_before (x ∷ xs) zero zero s d P h same before = same refl
local_before (x ∷ xs) zero (suc k) s d P h same before = before h
local_before (x ∷ xs) (suc i) zero s d P h same before = before h
local_before (x ∷ xs) (suc i) (suc k) s d P h same before = local_before xs i k s d P h (λ e. same (ap suc e)) before

-- ---- statements set what they may

all_append : {X : Type 0} (f : X → Bool) (xs ys : List X) → list_all f xs ≡ true → list_all f ys ≡ true → list_all f (xs ++ ys) ≡ true
all_append f [] ys h k = k
all_append f (x ∷ xs) ys h k =
    let both = and_parts (f x) (list_all f xs) h in rw (both.0) (all_append f xs ys both.1 k)

all_more : {X : Type 0} (f g : X → Bool) → ((x : X) → f x ≡ true → g x ≡ true) → (xs : List X) → list_all f xs ≡ true → list_all g xs ≡ true
all_more f g more [] h = refl
all_more f g more (x ∷ xs) h =
    let both = and_parts (f x) (list_all f xs) h in rw (more x both.0) (all_more f g more xs both.1)

-- it sets what it may, and makes nothing else so
record Keeps (slots : List ℕ) (x : Scoped) : Type 0 where
  own : (scope : Scope) → x.fits scope ≡ true → are_settable scope slots ≡ true
  less : (scope : Scope) → x.fits scope ≡ true → (slot : ℕ) → is_settable (sight_at (x.behind scope) slot) ≡ true
      → is_settable (sight_at scope slot) ≡ true

still_keeps : (fits : Scope → Bool) → Keeps [] (still fits)
still_keeps fits = record { own = λ scope h. refl; less = λ scope h slot later. later }

sets_keeps : (slot : ℕ) (fits : Scope → Bool) → Keeps (slot ∷ []) (sets slot fits)
sets_keeps slot fits = record {
  own = λ scope h. let both = and_parts (is_settable (sight_at scope slot)) (fits scope) h in rw (both.0) refl;
  less = λ scope h k later.
      let both = and_parts (is_settable (sight_at scope slot)) (fits scope) h in
      settable_before scope.sights slot k sight.Local sight.Kept both.0 later;
}

bank_keeps : (slot : ℕ) → Keeps (slot ∷ []) (declares_bank slot)
bank_keeps slot = record {
  own = λ scope h. let free = free_is_settable (sight_at scope slot) h in rw (free) refl;
  less = λ scope h k later. settable_before scope.sights slot k sight.Bank sight.Kept (free_is_settable (sight_at scope slot) h) later;
}

result_keeps : (slot : Option ℕ) (fits : Scope → Bool) → Keeps (paths.set_by_call slot) (scopes.sets_result slot fits)
result_keeps None fits = still_keeps fits
result_keeps (Some slot) fits = sets_keeps slot fits

block_own : {Y : Type 0} (b : Y → Stmt) (m : Stmt → Meaning) (k : Stmt → Scoped) → ((y : Y) → Keeps (m (b y)).sets (k (b y)))
    → (ys : List Y) (scope : Scope) → all_fit (map k (map b ys)) scope ≡ true → are_settable scope (all_sets (map m (map b ys))) ≡ true
block_own b m k each [] scope h = refl
block_own b m k each (y ∷ ys) scope h =
    let both = and_parts ((k (b y)).fits scope) (all_fit (map k (map b ys)) ((k (b y)).behind scope)) h in
    let rest = all_sets (map m (map b ys)) in
    all_append (λ slot. is_settable (sight_at scope slot)) (m (b y)).sets rest ((each y).own scope both.0)
    (all_more (λ slot. is_settable (sight_at ((k (b y)).behind scope) slot)) (λ slot. is_settable (sight_at scope slot))
    (λ slot later. (each y).less scope both.0 slot later) rest (block_own b m k each ys ((k (b y)).behind scope) both.1))

-- one layer, whose children a and b map to acts and statements
layer : {X Y : Type 0} (a : X → Act) (b : Y → Stmt) (procs : List Proc) (r : Reading) (at : Span)
    (f : Act → Span → Meaning) (m : Stmt → Meaning) (g : Act → Scoped) (k : Stmt → Scoped) → ((y : Y) → Keeps (m (b y)).sets (k (b y)))
    → (l : Act-F X Y) → Keeps (paths.act_step r (map-Act Act Stmt (Span → Meaning) Meaning f m (map-Act X Y Act Stmt a b l)) at).sets
    (scopes.act_step procs (map-Act Act Stmt Scoped Scoped g k (map-Act X Y Act Stmt a b l)))
layer a b procs r at f m g k each (Act-F.Set slot e) = sets_keeps slot (λ scope. scopes.reads scope e)
layer a b procs r at f m g k each (Act-F.AllocNa slot) = sets_keeps slot (λ scope. true)
layer a b procs r at f m g k each (Act-F.AllocAt slot rmw inst) = sets_keeps slot (λ scope. scopes.inst_reads scope inst)
layer a b procs r at f m g k each (Act-F.Free e) = still_keeps (λ scope. scopes.reads scope e)
layer a b procs r at f m g k each (Act-F.Load slot mode e) = sets_keeps slot (λ scope. scopes.reads scope e)
layer a b procs r at f m g k each (Act-F.Store mode e v) = still_keeps (λ scope. scopes.reads scope e && scopes.reads scope v)
layer a b procs r at f m g k each (Act-F.Cas slot mode miss e old new steps) =
    sets_keeps slot (λ scope. scopes.reads scope e && (scopes.reads scope old && (scopes.reads scope new && scopes.steps_read scope steps)))
layer a b procs r at f m g k each (Act-F.Add slot mode e v steps) = sets_keeps slot (λ scope. scopes.update_reads scope e v steps)
layer a b procs r at f m g k each (Act-F.Swap slot mode e v steps) = sets_keeps slot (λ scope. scopes.update_reads scope e v steps)
layer a b procs r at f m g k each (Act-F.Call slot proc args) = result_keeps slot (λ scope. scopes.passes procs scope proc args)
layer a b procs r at f m g k each (Act-F.Par calls) = still_keeps (λ scope. list_all (λ call. scopes.passes procs scope call.proc call.args) calls)
layer a b procs r at f m g k each (Act-F.Fence mode asrt) = still_keeps (asrt_scoped asrt).fits
layer a b procs r at f m g k each (Act-F.If cond xs ys) = record {
  own = λ scope h.
      let tested = and_parts (tests scope cond) (all_fit (map k (map b xs)) scope && all_fit (map k (map b ys)) scope) h in
      let both = and_parts (all_fit (map k (map b xs)) scope) (all_fit (map k (map b ys)) scope) tested.1 in
      all_append (λ slot. is_settable (sight_at scope slot)) (all_sets (map m (map b xs))) (all_sets (map m (map b ys)))
      (block_own b m k each xs scope both.0) (block_own b m k each ys scope both.1);
  less = λ scope h slot later. later;
}
layer a b procs r at f m g k each (Act-F.While cond inv body) = record {
  own = λ scope h.
      let tested = and_parts (tests scope cond) ((asrt_scoped inv).fits scope && all_fit (map k (map b body)) (in_loop scope)) h in
      let both = and_parts ((asrt_scoped inv).fits scope) (all_fit (map k (map b body)) (in_loop scope)) tested.1 in
      block_own b m k each body (in_loop scope) both.1;
  less = λ scope h slot later. later;
}
layer a b procs r at f m g k each (Act-F.Assert cond) = still_keeps (λ scope. tests scope cond)
layer a b procs r at f m g k each (Act-F.Print e) = still_keeps (λ scope. scopes.reads scope e)
layer a b procs r at f m g k each (Act-F.Return e) = still_keeps (λ scope. not scope.in_loop && scopes.reads scope e)
layer a b procs r at f m g k each (Act-F.Bank slot) = bank_keeps slot
layer a b procs r at f m g k each (Act-F.Step step) = still_keeps (λ scope. scopes.step_reads scope step)

abbrev act_meaning : Reading → Act → Span → Meaning
act_meaning r = fold-Act (Span → Meaning) Meaning (paths.act_step r) paths.stmt_step

meaning_is : (r : Reading) (stmt : Stmt) → stmt_of r stmt ≡ act_meaning r stmt.act stmt.span
meaning_is r stmt = fold_out-Stmt (Span → Meaning) Meaning (paths.act_step r) paths.stmt_step stmt

abbrev ActKeeps : List Proc → Act → Type 0
ActKeeps procs act = (r : Reading) (at : Span) → Keeps (act_meaning r act at).sets (act_scoped procs act)

stmt_keeps : (procs : List Proc) (stmt : Stmt) → ActKeeps procs stmt.act → (r : Reading) → Keeps (stmt_of r stmt).sets (stmt_scoped procs stmt)
stmt_keeps procs stmt keeps r =
    subst (λ (x : Scoped). Keeps (stmt_of r stmt).sets x) (sym (stmt_is procs stmt))
    (subst (λ (m : Meaning). Keeps m.sets (act_scoped procs stmt.act)) (sym (meaning_is r stmt)) (keeps r stmt.span))

act_keeps : (procs : List Proc) (act : Act) → ActKeeps procs act
act_keeps procs = ind-Act (ActKeeps procs) (λ stmt. ActKeeps procs stmt.act)
    (λ x y is r at.
    let one = subst (λ l. Keeps (paths.act_step r (map-Act Act Stmt (Span → Meaning) Meaning (act_meaning r) (stmt_of r) l) at).sets
    (scopes.act_step procs (map-Act Act Stmt Scoped Scoped (act_scoped procs) (stmt_scoped procs) l))) is
    (layer (λ e. e.0) (λ e. e.0) procs r at (act_meaning r) (stmt_of r) (act_scoped procs) (stmt_scoped procs) (λ e. stmt_keeps procs e.0 e.1 r) y) in
    subst (λ (s : Scoped). Keeps (act_meaning r (roll-Act x) at).sets s) (sym (fold-roll-Act Scoped Scoped (scopes.act_step procs) scopes.stmt_step x))
    (subst (λ (m : Span → Meaning). Keeps (m at).sets (scopes.act_step procs (map-Act Act Stmt Scoped Scoped (act_scoped procs) (stmt_scoped procs) x)))
    (sym (fold-roll-Act (Span → Meaning) Meaning (paths.act_step r) paths.stmt_step x)) one))
    (λ x y is. subst (λ l. ActKeeps procs l.act) is y.act.1)

pub blocks_set_their_own : BlocksSetTheirOwn
blocks_set_their_own procs r stmts scope h = all_of stmts scope h
  where
    all_of : (ys : List Stmt) (at : Scope) → all_fit (map (stmt_scoped procs) ys) at ≡ true → are_settable at (all_sets (map (stmt_of r) ys)) ≡ true
    all_of [] at k = refl
    all_of (y ∷ ys) at k =
        let both = and_parts ((stmt_scoped procs y).fits at) (all_fit (map (stmt_scoped procs) ys) ((stmt_scoped procs y).behind at)) k in
        let keeps = stmt_keeps procs y (act_keeps procs y.act) r in
        let rest = all_sets (map (stmt_of r) ys) in
        all_append (λ slot. is_settable (sight_at at slot)) (stmt_of r y).sets rest (keeps.own at both.0)
        (all_more (λ slot. is_settable (sight_at ((stmt_scoped procs y).behind at) slot)) (λ slot. is_settable (sight_at at slot))
        (λ slot later. keeps.less at both.0 slot later) rest (all_of ys ((stmt_scoped procs y).behind at) both.1))

-- ---- what is local was set in front

past_more : (ns : List ℕ) (n k : ℕ) → k < n → k < past n ns
past_more [] n k h = h
past_more (m ∷ ms) n k h = past_more ms (max n (m + 1)) k (omega (arith, h))

set_declared : (scope : Scope) (n slot : ℕ) (s : Sight) → AreDeclared scope n → AreDeclared (with_sight slot s scope) (max n (slot + 1))
set_declared scope n slot s declared k h =
    local_before scope.sights slot k s sight.Kept (k < max n (slot + 1)) h (λ same. omega (arith, same))
    (λ before. let below = declared k before in omega (arith, below))

result_declared : (slot : Option ℕ) (fits : Scope → Bool) (scope : Scope) (n : ℕ) → AreDeclared scope n
    → AreDeclared ((scopes.sets_result slot fits).behind scope) (past n (paths.set_by_call slot))
result_declared None fits scope n declared = declared
result_declared (Some slot) fits scope n declared = set_declared scope n slot sight.Local declared

level : (procs : List Proc) (r : Reading) (at : Span) (f : Act → Span → Meaning) (m : Stmt → Meaning) (g : Act → Scoped) (k : Stmt → Scoped)
    (scope : Scope) (n : ℕ) → AreDeclared scope n → (l : Act-F Act Stmt)
    → AreDeclared ((scopes.act_step procs (map-Act Act Stmt Scoped Scoped g k l)).behind scope)
    (past n (paths.act_step r (map-Act Act Stmt (Span → Meaning) Meaning f m l) at).sets)
level procs r at f m g k scope n declared (Act-F.Set slot e) = set_declared scope n slot sight.Local declared
level procs r at f m g k scope n declared (Act-F.AllocNa slot) = set_declared scope n slot sight.Local declared
level procs r at f m g k scope n declared (Act-F.AllocAt slot rmw inst) = set_declared scope n slot sight.Local declared
level procs r at f m g k scope n declared (Act-F.Free e) = declared
level procs r at f m g k scope n declared (Act-F.Load slot mode e) = set_declared scope n slot sight.Local declared
level procs r at f m g k scope n declared (Act-F.Store mode e v) = declared
level procs r at f m g k scope n declared (Act-F.Cas slot mode miss e old new steps) = set_declared scope n slot sight.Local declared
level procs r at f m g k scope n declared (Act-F.Add slot mode e v steps) = set_declared scope n slot sight.Local declared
level procs r at f m g k scope n declared (Act-F.Swap slot mode e v steps) = set_declared scope n slot sight.Local declared
level procs r at f m g k scope n declared (Act-F.Call slot proc args) = result_declared slot (λ scope. scopes.passes procs scope proc args) scope n declared
level procs r at f m g k scope n declared (Act-F.Par calls) = declared
level procs r at f m g k scope n declared (Act-F.Fence mode asrt) = declared
level procs r at f m g k scope n declared (Act-F.If cond xs ys) = λ slot h. past_more (all_sets (map m xs) ++ all_sets (map m ys)) n slot (declared slot h)
level procs r at f m g k scope n declared (Act-F.While cond inv body) = λ slot h. past_more (all_sets (map m body)) n slot (declared slot h)
level procs r at f m g k scope n declared (Act-F.Assert cond) = declared
level procs r at f m g k scope n declared (Act-F.Print e) = declared
level procs r at f m g k scope n declared (Act-F.Return e) = declared
level procs r at f m g k scope n declared (Act-F.Bank slot) = set_declared scope n slot sight.Bank declared
level procs r at f m g k scope n declared (Act-F.Step step) = declared

pub locals_are_declared : LocalsAreDeclared
locals_are_declared procs r stmt scope n declared =
    let scoped = stmt_is procs stmt ∙ fold_out-Act Scoped Scoped (scopes.act_step procs) scopes.stmt_step stmt.act in
    let means = meaning_is r stmt ∙ ap (λ (m : Span → Meaning). m stmt.span) (fold_out-Act (Span → Meaning) Meaning (paths.act_step r) paths.stmt_step stmt.act) in
    subst (λ (x : Scoped). AreDeclared (x.behind scope) (past n (stmt_of r stmt).sets)) (sym scoped)
    (subst (λ (m : Meaning). AreDeclared ((scopes.act_step procs (map-Act Act Stmt Scoped Scoped (act_scoped procs) (stmt_scoped procs) (out-Act stmt.act))).behind scope) (past n m.sets)) (sym means)
    (level procs r stmt.span (act_meaning r) (stmt_of r) (act_scoped procs) (stmt_scoped procs) scope n declared (out-Act stmt.act)))
