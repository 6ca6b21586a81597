-- What is seen behind statements, and where blocks inside of a statement stand.
use Rattle.std.proofs.Common.{◌≡◌, ℕ, Bool, true, false, ◌&&◌, not, List, [], ◌∷◌, Option, Some, None, ap, ◌∙◌, sym, subst, refl}
use Rattle.std.proofs.lemmas.Bool.{and_parts}
use Rattle.std.specs.List.{list_all}
use Rattle.fsl_core.specs.declared.act.Act.{Act}
use Rattle.fsl_core.specs.declared.act.Act.TheOpen.{Act-F}
use Rattle.fsl_core.specs.declared.act.Act.TheFolds.{map-Act, fold_out-Act}
use Rattle.fsl_core.specs.declared.act.Act.TheViews.{out-Act}
use Rattle.fsl_core.specs.declared.act.Stmt.{Stmt}
use Rattle.fsl_core.specs.declared.declaration.Proc.{Proc}
use Rattle.fsl_core.specs.declared.scope.Scope.{Scope}
use Rattle.fsl_core.specs.declared.scope.Sight.{Sight}
use Rattle.fsl_core.specs.declared.scope.Sight.TheVariants as sight
use Rattle.fsl_core.specs.Scopes.{is_free, is_settable, sight_at, in_loop, reads, inst_reads, tests, passes, steps_read, step_reads, update_reads, Scoped, still, sets, sets_result, declares_bank, asrt_scoped, act_step, stmt_step, act_scoped, stmt_scoped, block_scoped, scope_after}
use Rattle.fsl_core.proofs.Sights.{stmt_is}
use Rattle.fsl_scoped.specs.Assertions.{is_shared}
use Rattle.fsl_scoped.specs.Statements.{StatementsAreScoped, BranchesFit, LoopsFit, SightsStay, FlagsStay}
use Rattle.fsl_scoped.proofs.Binding.{shared_not_free}
use Rattle.fsl_scoped.proofs.Lists.{set_cases}

pub statements_scoped : StatementsAreScoped
statements_scoped procs stmt = stmt_is procs stmt ∙ fold_out-Act Scoped Scoped (act_step procs) stmt_step stmt.act

abbrev level_of : List Proc → Act-F Act Stmt → Scoped
level_of procs l = act_step procs (map-Act Act Stmt Scoped Scoped (act_scoped procs) (stmt_scoped procs) l)

stmt_as : (procs : List Proc) (stmt : Stmt) (l : Act-F Act Stmt) → out-Act stmt.act ≡ l → stmt_scoped procs stmt ≡ level_of procs l
stmt_as procs stmt l e = statements_scoped procs stmt ∙ ap (level_of procs) e

pub branches_fit : BranchesFit
branches_fit procs stmt cond a b scope e fit =
    let d = stmt_as procs stmt (Act-F.If cond a b) e in
    let one : (tests scope cond && ((block_scoped procs a).fits scope && (block_scoped procs b).fits scope)) ≡ true =
    sym (ap (λ (s : Scoped). s.fits scope) d) ∙ fit in
    let tested = and_parts (tests scope cond) ((block_scoped procs a).fits scope && (block_scoped procs b).fits scope) one in
    let both = and_parts ((block_scoped procs a).fits scope) ((block_scoped procs b).fits scope) tested.1 in
    (tested.0, both.0, both.1, ap (λ (s : Scoped). s.behind scope) d)

pub loops_fit : LoopsFit
loops_fit procs stmt cond inv body scope e fit =
    let d = stmt_as procs stmt (Act-F.While cond inv body) e in
    let one : (tests scope cond && ((asrt_scoped inv).fits scope && (block_scoped procs body).fits (in_loop scope))) ≡ true =
    sym (ap (λ (s : Scoped). s.fits scope) d) ∙ fit in
    let tested = and_parts (tests scope cond) ((asrt_scoped inv).fits scope && (block_scoped procs body).fits (in_loop scope)) one in
    let both = and_parts ((asrt_scoped inv).fits scope) ((block_scoped procs body).fits (in_loop scope)) tested.1 in
    (tested.0, both.0, both.1, ap (λ (s : Scoped). s.behind scope) d)

-- ---- what is seen behind

record Stays (s : Scoped) : Type 0 where
  seen : (scope : Scope) (slot : ℕ) → s.fits scope ≡ true → is_shared (sight_at scope slot) ≡ true → sight_at (s.behind scope) slot ≡ sight_at scope slot
  ensures_ : (scope : Scope) → (s.behind scope).in_ensures ≡ scope.in_ensures
  loop : (scope : Scope) → (s.behind scope).in_loop ≡ scope.in_loop

still_stays : (fits : Scope → Bool) → Stays (still fits)
still_stays fits = record { seen = λ scope slot h s. refl; ensures_ = λ scope. refl; loop = λ scope. refl }

-- what may be set and is seen is a variable of the body
settable_seen : (s : Sight) → is_settable s ≡ true → is_shared s ≡ true → sight.Local ≡ s
settable_seen sight.Local h k = refl
settable_seen sight.Free h k = absurd (let d : false ≡ true = k in cc)
settable_seen sight.Kept h k = absurd (let d : false ≡ true = h in cc)
settable_seen sight.Given h k = absurd (let d : false ≡ true = h in cc)
settable_seen sight.Bound h k = absurd (let d : false ≡ true = h in cc)
settable_seen sight.Bank h k = absurd (let d : false ≡ true = h in cc)
settable_seen sight.Either h k = absurd (let d : false ≡ true = h in cc)

sets_stays : (slot : ℕ) (fits : Scope → Bool) → Stays (sets slot fits)
sets_stays slot fits = record {
  seen = λ scope k h s. set_cases scope.sights slot k sight.Local sight.Kept (λ (z : Sight). z ≡ sight_at scope k)
      (λ e. settable_seen (sight_at scope k)
      (subst (λ (j : ℕ). is_settable (sight_at scope j) ≡ true) e (and_parts (is_settable (sight_at scope slot)) (fits scope) h).0) s)
      (λ w. refl);
  ensures_ = λ scope. refl;
  loop = λ scope. refl;
}

bank_stays : (slot : ℕ) → Stays (declares_bank slot)
bank_stays slot = record {
  seen = λ scope k h s. set_cases scope.sights slot k sight.Bank sight.Kept (λ (z : Sight). z ≡ sight_at scope k)
      (λ e. absurd (let d : is_free (sight_at scope k) ≡ true = subst (λ (j : ℕ). is_free (sight_at scope j) ≡ true) e h in
      let f : true ≡ false = sym d ∙ shared_not_free (sight_at scope k) s in cc))
      (λ w. refl);
  ensures_ = λ scope. refl;
  loop = λ scope. refl;
}

result_stays : (slot : Option ℕ) (fits : Scope → Bool) → Stays (sets_result slot fits)
result_stays None fits = still_stays fits
result_stays (Some slot) fits = sets_stays slot fits

level : (procs : List Proc) (l : Act-F Act Stmt) → Stays (level_of procs l)
level procs (Act-F.Set slot e) = sets_stays slot (λ scope. reads scope e)
level procs (Act-F.AllocNa slot) = sets_stays slot (λ scope. true)
level procs (Act-F.AllocAt slot rmw inst) = sets_stays slot (λ scope. inst_reads scope inst)
level procs (Act-F.Free e) = still_stays (λ scope. reads scope e)
level procs (Act-F.Load slot mode e) = sets_stays slot (λ scope. reads scope e)
level procs (Act-F.Store mode e v) = still_stays (λ scope. reads scope e && reads scope v)
level procs (Act-F.Cas slot mode miss e old new steps) =
    sets_stays slot (λ scope. reads scope e && (reads scope old && (reads scope new && steps_read scope steps)))
level procs (Act-F.Add slot mode e v steps) = sets_stays slot (λ scope. update_reads scope e v steps)
level procs (Act-F.Swap slot mode e v steps) = sets_stays slot (λ scope. update_reads scope e v steps)
level procs (Act-F.Call slot proc args) = result_stays slot (λ scope. passes procs scope proc args)
level procs (Act-F.Par calls) = still_stays (λ scope. list_all (λ call. passes procs scope call.proc call.args) calls)
level procs (Act-F.Fence mode asrt) = still_stays (asrt_scoped asrt).fits
level procs (Act-F.If cond a b) = still_stays (λ scope. tests scope cond && ((block_scoped procs a).fits scope && (block_scoped procs b).fits scope))
level procs (Act-F.While cond inv body) = still_stays (λ scope. tests scope cond && ((asrt_scoped inv).fits scope && (block_scoped procs body).fits (in_loop scope)))
level procs (Act-F.Assert cond) = still_stays (λ scope. tests scope cond)
level procs (Act-F.Print e) = still_stays (λ scope. reads scope e)
level procs (Act-F.Return e) = still_stays (λ scope. not scope.in_loop && reads scope e)
level procs (Act-F.Bank slot) = bank_stays slot
level procs (Act-F.Step step) = still_stays (λ scope. step_reads scope step)

stmt_stays : (procs : List Proc) (stmt : Stmt) → Stays (stmt_scoped procs stmt)
stmt_stays procs stmt = subst (λ (s : Scoped). Stays s) (sym (statements_scoped procs stmt)) (level procs (out-Act stmt.act))

pub sights_stay : SightsStay
sights_stay procs [] scope slot fit s = refl
sights_stay procs (stmt ∷ stmts) scope slot fit s =
    let next = scope_after procs stmt scope in
    let both = and_parts ((stmt_scoped procs stmt).fits scope) ((block_scoped procs stmts).fits next) fit in
    let here = (stmt_stays procs stmt).seen scope slot both.0 s in
    sights_stay procs stmts next slot both.1 (ap is_shared here ∙ s) ∙ here

pub flags_stay : FlagsStay
flags_stay procs [] scope = (refl, refl)
flags_stay procs (stmt ∷ stmts) scope =
    let rest = flags_stay procs stmts (scope_after procs stmt scope) in
    let here = stmt_stays procs stmt in
    (rest.0 ∙ here.ensures_ scope, rest.1 ∙ here.loop scope)
