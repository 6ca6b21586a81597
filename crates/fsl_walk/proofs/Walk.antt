-- The walk: statements whose paths are derived run well, whatever comes after them, by the number of moves that are left.
use Rattle.std.proofs.Common.{◌≡◌, ℕ, zero, suc, ◌<◌, ◌≤◌, Bool, true, false, ◌&&◌, if◌then◌else◌, List, [], ◌∷◌, ◌++◌, map, Some, None, ℤ, refl, sym, ap, subst, ◌∙◌, arith}
use Rattle.std.specs.List.{list_all}
use Rattle.std.proofs.lemmas.Bool.{and_parts, and_from}
use Rattle.fsl_base.specs.declared.span.Span.{Span}
use Rattle.fsl_core.specs.declared.act.Act.{Act}
use Rattle.fsl_core.specs.declared.act.Act.TheOpen.{Act-F}
use Rattle.fsl_core.specs.declared.act.Act.TheFolds.{map-Act, fold_out-Stmt}
use Rattle.fsl_core.specs.declared.act.Act.TheViews.{out-Act}
use Rattle.fsl_core.specs.declared.act.Stmt.{Stmt}
use Rattle.fsl_core.specs.declared.assertion.Asrt.{Asrt}
use Rattle.fsl_core.specs.declared.expr.Cond.{Cond}
use Rattle.fsl_core.specs.declared.scope.Scope.{Scope}
use Rattle.fsl_core.specs.Programs.{Program}
use Rattle.fsl_core.specs.Moves.{running, with_stmts, act_move}
use Rattle.fsl_core.specs.Scopes.{Scoped, reads, steps_read, update_reads, tests, is_settable, sight_at, is_number, passes, asrt_scoped, act_scoped, stmt_scoped, block_scoped, scope_after, in_loop, all_fit}
use Rattle.fsl_core.specs.Scopes as scopes
use Rattle.fsl_core.specs.Values.{holds_of}
use Rattle.fsl_core.specs.WellFormed.{act_fits, stmt_fits, asrt_fits, is_par_size, is_fence_mode, is_update_mode, is_failure_mode, child_fits, inv_is_well}
use Rattle.fsl_core.specs.WellFormed as fitting
use Rattle.fsl_core.specs.logic.States.{State}
use Rattle.fsl_core.specs.logic.Terms.{expr_of}
use Rattle.fsl_core.specs.logic.Deciding.{cond_of, decided}
use Rattle.fsl_core.specs.logic.Producing.{chosen}
use Rattle.fsl_core.specs.logic.Assertions.{asrt_of}
use Rattle.fsl_core.specs.logic.Slots.{past}
use Rattle.fsl_core.specs.logic.Paths.{Ends, Meaning, block, all_sets, act_step, stmt_of, body_ends, behind_ends, while_meaning, if_meaning}
use Rattle.fsl_lin.specs.Numbers.{Numbers}
use Rattle.fsl_meaning.specs.Heaps.{Heap}
use Rattle.fsl_kept.proofs.Calls.{branch_fits, give_inv_fits}
use Rattle.fsl_good.specs.Pieces.{Piece}
use Rattle.fsl_held.specs.Heaps.{heap_of}
use Rattle.fsl_scoped.proofs.Exactly.{tests_exact}
use Rattle.fsl_scoped.proofs.Setting.{locals_are_declared}
use Rattle.fsl_scoped.proofs.Statements.{statements_scoped, sights_stay, flags_stay}
use Rattle.fsl_walk.specs.Stances.{AllDerived, Activation, reading, config_of, IsGood, IsGoodMove, Runs, Returns}
use Rattle.fsl_walk.specs.Walks.{IsDerived, AreDeclared, SeesMore, IsClosed, Walks, ParMoves}
use Rattle.fsl_walk.proofs.Slots.{sees_more, closed_left, closed_right}
use Rattle.fsl_walk.proofs.Rounds.{give_parts}
use Rattle.fsl_walk.proofs.Steps.{each_lands, each_here, derived_left, derived_right, act_of, meaning_of, stmt_folded, fit_of, good_running}
use Rattle.fsl_walk.proofs.Showing.{At, frame_of, line_self}
use Rattle.fsl_walk.proofs.Locals.{set_moves, assert_moves, print_moves}
use Rattle.fsl_walk.proofs.Cells.{alloc_moves, free_moves}
use Rattle.fsl_walk.proofs.Fencing.{fence_moves}
use Rattle.fsl_walk.proofs.Tokens.{bank_moves, step_moves}
use Rattle.fsl_walk.proofs.Allocating.{atomic_alloc_moves}
use Rattle.fsl_walk.proofs.Parting.{AreInvsWell}
use Rattle.fsl_walk.proofs.Accesses.{loads_move, stores_move}
use Rattle.fsl_walk.proofs.Updating.{exchange_moves, add_moves, cas_moves}
use Rattle.fsl_walk.proofs.Loops.{Loop, good_branching, runs_less, returns_less, loop_moves, number_shared}
use Rattle.fsl_walk.proofs.Calling.{return_moves, call_moves}

-- ---- one level of an act

abbrev scoped_as : Activation → Act-F Act Stmt → Scoped
scoped_as u l = scopes.act_step u.program.procs (map-Act Act Stmt Scoped Scoped (act_scoped u.program.procs) (stmt_scoped u.program.procs) l)

abbrev fits_as : Activation → Act-F Act Stmt → Bool
fits_as u l = fitting.act_step u.program (map-Act Act Stmt Bool Bool (act_fits u.program) (stmt_folded u.program) l)

abbrev meant_as : Activation → Act-F Act Stmt → Span → Meaning
meant_as u l at = act_step (reading u) (map-Act Act Stmt (Span → Meaning) Meaning (act_of (reading u)) (stmt_of (reading u)) l) at

-- what is so of each statement of a block is so of the block
all_mapped : (f g : Stmt → Bool) → ((stmt : Stmt) → f stmt ≡ g stmt) → (stmts : List Stmt) → list_all (λ b. b) (map f stmts) ≡ true → list_all g stmts ≡ true
all_mapped f g same [] h = refl
all_mapped f g same (stmt ∷ stmts) h =
    let both = and_parts (f stmt) (list_all (λ b. b) (map f stmts)) h in
    and_from (g stmt) (list_all g stmts) (sym (same stmt) ∙ both.0) (all_mapped f g same stmts both.1)

block_fits : (p : Program) (stmts : List Stmt) → list_all (λ b. b) (map (stmt_folded p) stmts) ≡ true → list_all (stmt_fits p) stmts ≡ true
block_fits p stmts h = all_mapped (stmt_folded p) (stmt_fits p) (fold_out-Stmt Bool Bool (fitting.act_step p) (λ stmt. stmt.act)) stmts h

-- ---- blocks

abbrev Below : ℕ → Type 1
Below m = (k : ℕ) → k ≤ m → (w : Activation) → IsDerived w.program → Walks w k

-- a block may stand in a scope, and Q holds on where it sets variables
record Stands (u : Activation) (scope : Scope) (Q : List ℤ → Type 0) (stmts : List Stmt) : Type 0 where
  fits : (block_scoped u.program.procs stmts).fits scope ≡ true
  well : list_all (stmt_fits u.program) stmts ≡ true
  closed : IsClosed Q (all_sets (map (stmt_of (reading u)) stmts))

-- what a branch leads to
abbrev Branched : Activation → ℕ → Ends → List Stmt → List Stmt → Bool → Ends
Branched u declared after a b holds = λ t. block (chosen (map (stmt_of (reading u)) a) (map (stmt_of (reading u)) b) holds) declared t after

-- the branch that the run takes is the one that the path has
branch_runs : {Q : List ℤ → Type 0} {base : List Piece} {under : Heap} {xs : List Piece} {slots env : List ℤ} {w : Numbers} {t : State}
    (u : Activation) (m declared : ℕ) (scope : Scope) (after : Ends) (rest a b : List Stmt) (h : Bool) → Walks u m → scope.in_ensures ≡ false → AreDeclared scope declared
    → Stands u scope Q a → Stands u scope Q b → Runs u m after rest scope Q base under → Returns u m Q base under → At scope Q base under xs slots env w t
    → AllDerived (Branched u declared after a b h t) → IsGood u m (config_of u ((if h then a else b) ++ rest) env) xs
branch_runs {Q = Q} {base = base} {under = under} {xs = xs} {slots = slots} {env = env} {w = w} {t = t} u m declared scope after rest a b true walks out are on off runs returns at d =
    walks a scope scope declared rest after Q base under on.fits out on.well are (λ k number. number) on.closed runs returns
    xs slots env w t at.kept at.stance at.matches at.holds d
branch_runs {Q = Q} {base = base} {under = under} {xs = xs} {slots = slots} {env = env} {w = w} {t = t} u m declared scope after rest a b false walks out are on off runs returns at d =
    walks b scope scope declared rest after Q base under off.fits out off.well are (λ k number. number) off.closed runs returns
    xs slots env w t at.kept at.stance at.matches at.holds d

if_moves : {Q : List ℤ → Type 0} {base : List Piece} {under : Heap} {xs : List Piece} {slots env : List ℤ} {v : Numbers} {s : State}
    (u : Activation) (m declared : ℕ) (scope : Scope) (after : Ends) (stmt : Stmt) (rest : List Stmt) (c : Cond) (a b : List Stmt) (at : Span) → Walks u m
    → tests scope c ≡ true → scope.in_ensures ≡ false → AreDeclared scope declared → Stands u scope Q a → Stands u scope Q b
    → Runs u m after rest scope Q base under → Returns u m Q base under → At scope Q base under xs slots env v s
    → AllDerived ((if_meaning (cond_of expr_of c) (map (stmt_of (reading u)) a) (map (stmt_of (reading u)) b) at).ends declared s after)
    → IsGoodMove u m (act_move u.program (Act-F.If c a b) stmt (frame_of u rest env) u.below) xs
if_moves {xs = xs} {slots = slots} {env = env} {s = s} u m declared scope after stmt rest c a b at walks test out are on off runs returns there d =
    let leads = Branched u declared after a b in
    let landed = each_lands at leads (branch_fits c there.stance.fits) (each_here at (decided (cond_of expr_of c)) leads s d) in
    let next : At scope _ _ _ xs slots env landed.numbers landed.state = record {
      possible = there.possible;
      kept = there.kept;
      matches = there.matches;
      holds = there.holds;
      stance = record { mine = there.stance.mine; fits = landed.is.1; parts = there.stance.parts };
    } in
    good_branching u m (holds_of c env) (λ h. running (with_stmts ((if h then a else b) ++ rest) (frame_of u rest env)) u.below) xs (λ h is.
    branch_runs u m declared scope after rest a b h walks out are on off runs returns next
    (subst (λ (k : Bool). AllDerived (leads k landed.state)) (landed.is.0 ∙ tests_exact scope env slots there.matches.sees c h test is) landed.derived))

while_moves : {Q : List ℤ → Type 0} {base : List Piece} {under : Heap} {xs : List Piece} {slots env : List ℤ} {v : Numbers} {s : State}
    (u : Activation) (m declared : ℕ) (scope : Scope) (after : Ends) (stmt : Stmt) (rest : List Stmt) (c : Cond) (inv : Asrt) (body : List Stmt)
    → ((k : ℕ) → k ≤ m → Walks u k) → out-Act stmt.act ≡ Act-F.While c inv body → tests scope c ≡ true → (asrt_scoped inv).fits scope ≡ true
    → scope.in_ensures ≡ false → AreDeclared scope declared → Stands u (in_loop scope) Q body
    → Runs u m after rest scope Q base under → Returns u m Q base under → At scope Q base under xs slots env v s
    → AllDerived ((while_meaning (cond_of expr_of c) (asrt_of inv) (map (stmt_of (reading u)) body) stmt.span).ends declared s after)
    → IsGoodMove u m (act_move u.program (Act-F.While c inv body) stmt (frame_of u rest env) u.below) xs
while_moves {Q = Q} {base = base} {under = under} {xs = xs} {slots = slots} {env = env} u m declared scope after stmt rest c inv body walks is test speaks out are stands runs returns there d =
    let ms = map (stmt_of (reading u)) body in
    let turns = λ (t : State). body_ends (cond_of expr_of c) (asrt_of inv) ms stmt.span declared t in
    let ends = λ (t : State). behind_ends (cond_of expr_of c) (asrt_of inv) ms stmt.span declared after t in
    let landed = each_lands stmt.span (λ x t. turns t ++ ends t) (give_inv_fits inv there.stance.fits) d in
    let gives = landed.is.gives in
    let p : Loop u Q = record {
      stmt = stmt;
      cond = c;
      inv = inv;
      body = body;
      rest = rest;
      after = after;
      declared = declared;
      scope = scope;
      base = base;
      under = under;
      is = is;
      tests = test;
      speaks = speaks;
      scoped = stands.fits;
      outside = out;
      well = stands.well;
      are_declared = are;
      closed = stands.closed;
      start = xs;
      slots = slots;
      numbers = landed.numbers;
      state = landed.state;
      left = gives.left;
      frame = gives.fits;
      kept = there.kept;
      holds = there.holds;
      turns = derived_left (turns landed.state) (ends landed.state) landed.derived;
      ends = derived_right (turns landed.state) (ends landed.state) landed.derived;
    } in
    loop_moves u m p walks runs returns env gives.need there.possible there.matches gives.is gives.known
    (give_parts there.stance.mine gives.left gives.need.heap under (heap_of xs) gives.parts there.stance.parts)

-- ---- every act

invs_well : (u : Activation) → IsDerived u.program → AreInvsWell u.program
invs_well u ok = (and_parts (list_all (inv_is_well u.program.invs) u.program.invs) _ ok.well).0

walk_act : {Q : List ℤ → Type 0} {base : List Piece} {under : Heap} {xs : List Piece} {slots env : List ℤ} {v : Numbers} {s : State}
    (u : Activation) (m declared : ℕ) (scope : Scope) (after : Ends) (stmt : Stmt) (rest : List Stmt) (l : Act-F Act Stmt) → IsDerived u.program → Below m → ParMoves u m
    → out-Act stmt.act ≡ l → (scoped_as u l).fits scope ≡ true → scope.in_ensures ≡ false → fits_as u l ≡ true → AreDeclared scope declared
    → IsClosed Q (meant_as u l stmt.span).sets → Runs u m after rest ((scoped_as u l).behind scope) Q base under → Returns u m Q base under → At scope Q base under xs slots env v s
    → AllDerived ((meant_as u l stmt.span).ends declared s after) → IsGoodMove u m (act_move u.program l stmt (frame_of u rest env) u.below) xs
walk_act u m declared scope after stmt rest (Act-F.Set slot e) ok below par is fits out well are closed runs returns there d =
    set_moves u m after stmt rest slot e stmt.span (and_parts (is_settable (sight_at scope slot)) (reads scope e) fits).1 closed runs there d
walk_act u m declared scope after stmt rest (Act-F.AllocNa slot) ok below par is fits out well are closed runs returns there d =
    alloc_moves u m after stmt rest slot stmt.span closed runs there d
walk_act u m declared scope after stmt rest (Act-F.Free e) ok below par is fits out well are closed runs returns there d =
    free_moves u m after stmt rest e stmt.span fits runs there d
walk_act u m declared scope after stmt rest (Act-F.AllocAt slot rmw inst) ok below par is fits out well are closed runs returns there d =
    atomic_alloc_moves u m after stmt rest slot rmw inst stmt.span closed runs there d
walk_act u m declared scope after stmt rest (Act-F.Load slot mode e) ok below par is fits out well are closed runs returns there d =
    loads_move u m after stmt rest slot mode e stmt.span (invs_well u ok) (and_parts (is_settable (sight_at scope slot)) (reads scope e) fits).1 closed runs there d
walk_act u m declared scope after stmt rest (Act-F.Store mode e f) ok below par is fits out well are closed runs returns there d =
    let both = and_parts (reads scope e) (reads scope f) fits in
    stores_move u m after stmt rest mode e f stmt.span (invs_well u ok) both.0 both.1 runs there d
walk_act u m declared scope after stmt rest (Act-F.Cas slot mode miss e old new steps) ok below par is fits out well are closed runs returns there d =
    let scoped = and_parts (is_settable (sight_at scope slot)) _ fits in
    let first = and_parts (reads scope e) (reads scope old && (reads scope new && steps_read scope steps)) scoped.1 in
    let second = and_parts (reads scope old) (reads scope new && steps_read scope steps) first.1 in
    let modes = and_parts (is_update_mode mode) (is_failure_mode miss) well in
    cas_moves u m after stmt rest slot mode miss e old new steps stmt.span modes.0 modes.1 (invs_well u ok)
    first.0 second.0 (and_parts (reads scope new) (steps_read scope steps) second.1).0 closed runs there d
walk_act u m declared scope after stmt rest (Act-F.Add slot mode e f steps) ok below par is fits out well are closed runs returns there d =
    let scoped = and_parts (is_settable (sight_at scope slot)) (update_reads scope e f steps) fits in
    let first = and_parts (reads scope e) (reads scope f && steps_read scope steps) scoped.1 in
    add_moves u m after stmt rest slot mode e f steps stmt.span well (invs_well u ok) first.0 (and_parts (reads scope f) (steps_read scope steps) first.1).0 closed runs there d
walk_act u m declared scope after stmt rest (Act-F.Swap slot mode e f steps) ok below par is fits out well are closed runs returns there d =
    let scoped = and_parts (is_settable (sight_at scope slot)) (update_reads scope e f steps) fits in
    let first = and_parts (reads scope e) (reads scope f && steps_read scope steps) scoped.1 in
    exchange_moves u m after stmt rest slot mode e f steps stmt.span well (invs_well u ok) first.0 (and_parts (reads scope f) (steps_read scope steps) first.1).0 closed runs there d
walk_act u m declared scope after stmt rest (Act-F.Fence mode a) ok below par is fits out well are closed runs returns there d =
    fence_moves u m after stmt rest mode a stmt.span (and_parts (is_fence_mode mode) (asrt_fits u.program.invs a false) well).1 runs there d
walk_act u m declared scope after stmt rest (Act-F.Bank slot) ok below par is fits out well are closed runs returns there d =
    bank_moves u m after stmt rest slot stmt.span closed runs there d
walk_act u m declared scope after stmt rest (Act-F.Step step) ok below par is fits out well are closed runs returns there d =
    step_moves u m after stmt rest step stmt.span runs there d
walk_act u m declared scope after stmt rest (Act-F.Call None proc args) ok below par is fits out well are closed runs returns there d =
    call_moves u m after stmt rest None proc args stmt.span (below m (line_self m)) ok fits out well closed runs there d
walk_act u m declared scope after stmt rest (Act-F.Call (Some slot) proc args) ok below par is fits out well are closed runs returns there d =
    call_moves u m after stmt rest (Some slot) proc args stmt.span (below m (line_self m)) ok
    (and_parts (is_settable (sight_at scope slot)) (passes u.program.procs scope proc args) fits).1 out well closed runs there d
walk_act {Q = Q} {base = base} {under = under} {xs = xs} {slots = slots} {env = env} {v = v} {s = s} u m declared scope after stmt rest
    (Act-F.Par calls) ok below par is fits out well are closed runs returns there d =
    par calls stmt scope rest after Q base under stmt.span fits out
    (and_parts _ (list_all (child_fits u.program) calls) well).1 runs xs slots env v s there.possible there.kept there.stance there.matches there.holds d
walk_act {Q = Q} u m declared scope after stmt rest (Act-F.If c a b) ok below par is fits out well are closed runs returns there d =
    let procs = u.program.procs in
    let scoped = and_parts (tests scope c) ((block_scoped procs a).fits scope && (block_scoped procs b).fits scope) fits in
    let blocks = and_parts ((block_scoped procs a).fits scope) ((block_scoped procs b).fits scope) scoped.1 in
    let wells = and_parts (list_all (λ x. x) (map (stmt_folded u.program) a)) (list_all (λ x. x) (map (stmt_folded u.program) b)) well in
    let sets_a = all_sets (map (stmt_of (reading u)) a) in
    let sets_b = all_sets (map (stmt_of (reading u)) b) in
    if_moves u m declared scope after stmt rest c a b stmt.span (below m (line_self m) u ok) scoped.0 out are
    (record { fits = blocks.0; well = block_fits u.program a wells.0; closed = closed_left Q sets_a sets_b closed })
    (record { fits = blocks.1; well = block_fits u.program b wells.1; closed = closed_right Q sets_a sets_b closed }) runs returns there d
walk_act u m declared scope after stmt rest (Act-F.While c inv body) ok below par is fits out well are closed runs returns there d =
    let procs = u.program.procs in
    let scoped = and_parts (tests scope c) ((asrt_scoped inv).fits scope && (block_scoped procs body).fits (in_loop scope)) fits in
    let both = and_parts ((asrt_scoped inv).fits scope) ((block_scoped procs body).fits (in_loop scope)) scoped.1 in
    let wells = and_parts (asrt_fits u.program.invs inv true) (list_all (λ x. x) (map (stmt_folded u.program) body)) well in
    while_moves u m declared scope after stmt rest c inv body (λ k le. below k le u ok) is scoped.0 both.0 out are
    (record { fits = both.1; well = block_fits u.program body wells.1; closed = closed }) runs returns there d
walk_act u m declared scope after stmt rest (Act-F.Assert c) ok below par is fits out well are closed runs returns there d =
    assert_moves u m after stmt rest c stmt.span fits runs there d
walk_act u m declared scope after stmt rest (Act-F.Print e) ok below par is fits out well are closed runs returns there d =
    print_moves u m after stmt rest e stmt.span runs there d
walk_act u m declared scope after stmt rest (Act-F.Return e) ok below par is fits out well are closed runs returns there d =
    return_moves u m stmt rest e stmt.span (and_parts _ (reads scope e) fits).1 returns there d

-- ---- statements one after the other

-- what comes after a statement of a block: the others, and what comes after the block
rest_runs : {Q : List ℤ → Type 0} {base : List Piece} {under : Heap}
    (u : Activation) (m k declared : ℕ) (scope behind : Scope) (stmt : Stmt) (stmts rest : List Stmt) (after : Ends) → ((j : ℕ) → j ≤ k → Walks u j) → k ≤ m
    → (stmt_scoped u.program.procs stmt).fits scope ≡ true → scope.in_ensures ≡ false → Stands u (scope_after u.program.procs stmt scope) Q stmts
    → AreDeclared scope declared → SeesMore behind scope → Runs u m after rest behind Q base under → Returns u m Q base under
    → Runs u k (λ t. block (map (stmt_of (reading u)) stmts) (past declared (stmt_of (reading u) stmt).sets) t after) (stmts ++ rest)
    (scope_after u.program.procs stmt scope) Q base under
rest_runs {Q = Q} {base = base} {under = under} u m k declared scope behind stmt stmts rest after walks less fits out stands are sees runs returns j le xs slots env v s kept stance matches holds d =
    let procs = u.program.procs in
    let alone = and_from ((stmt_scoped procs stmt).fits scope) true fits refl in
    let stays = λ (slot : ℕ) (number : is_number (sight_at scope slot) ≡ true).
    sights_stay procs (stmt ∷ []) scope slot alone (number_shared (sight_at scope slot) number) in
    walks j le stmts (scope_after procs stmt scope) behind (past declared (stmt_of (reading u) stmt).sets) rest after Q base under
    stands.fits ((flags_stay procs (stmt ∷ []) scope).0 ∙ out) stands.well (locals_are_declared procs (reading u) stmt scope declared are)
    (λ slot number. ap is_number (stays slot (sees slot number)) ∙ sees slot number) stands.closed
    (runs_less after u m j (omega (arith, less, le)) runs) (returns_less u m j (omega (arith, less, le)) returns) xs slots env v s kept stance matches holds d

walk : (m : ℕ) → ((k : ℕ) → k < m → (w : Activation) → IsDerived w.program → Walks w k) → ((w : Activation) (k : ℕ) → IsDerived w.program → ParMoves w k)
    → (u : Activation) → IsDerived u.program → Walks u m
walk m below par u ok [] scope behind declared rest after Q base under fits out well are sees closed runs returns xs slots env v s kept stance matches holds d =
    runs m (line_self m) xs slots env v s kept stance (sees_more behind scope env slots sees matches) holds d
walk m below par u ok (stmt ∷ stmts) scope behind declared rest after Q base under fits out well are sees closed runs returns xs slots env v s kept stance matches holds d =
    let procs = u.program.procs in
    let r = reading u in
    let wells = and_parts (stmt_fits u.program stmt) (list_all (stmt_fits u.program) stmts) well in
    let sets = (stmt_of r stmt).sets in
    let more = all_sets (map (stmt_of r) stmts) in
    let next = λ (t : State). block (map (stmt_of r) stmts) (past declared sets) t after in
    let scoped = and_parts ((stmt_scoped procs stmt).fits scope) (all_fit (map (stmt_scoped procs) stmts) (scope_after procs stmt scope)) fits in
    let others : Stands u (scope_after procs stmt scope) Q stmts = record { fits = scoped.1; well = wells.1; closed = closed_right Q sets more closed } in
    good_running u m (stmt ∷ (stmts ++ rest)) env xs (λ k e possible.
    let less = λ (j : ℕ) (le : j ≤ k) (w : Activation) (derived : IsDerived w.program). below j (omega (arith, le, e)) w derived in
    let goes = rest_runs u m k declared scope behind stmt stmts rest after (λ j le. less j le u ok) (omega (arith, e)) scoped.0 out others are sees runs returns in
    walk_act u k declared scope next stmt (stmts ++ rest) (out-Act stmt.act) ok less (par u k ok) refl
    (subst (λ (c : Scoped). c.fits scope ≡ true) (statements_scoped procs stmt) scoped.0) out
    (sym (fit_of u.program stmt) ∙ wells.0) are
    (subst (λ (n : Meaning). IsClosed Q n.sets) (meaning_of r stmt) (closed_left Q sets more closed))
    (subst (λ (c : Scoped). Runs u k next (stmts ++ rest) (c.behind scope) Q base under) (statements_scoped procs stmt) goes)
    (returns_less u m k (omega (arith, e)) returns) (record { possible = possible; kept = kept; stance = stance; matches = matches; holds = holds })
    (subst (λ (n : Meaning). AllDerived (n.ends declared s next)) (meaning_of r stmt) d))

walks_below : (bound m : ℕ) → m < bound → ((w : Activation) (k : ℕ) → IsDerived w.program → ParMoves w k) → (u : Activation) → IsDerived u.program → Walks u m
walks_below zero m less par u ok = absurd (omega arith)
walks_below (suc bound) m less par u ok = walk m (λ k smaller w derived. walks_below bound k (omega (arith, smaller, less)) par w derived) par u ok

line_below : (m : ℕ) → m < suc m
line_below m = omega arith

-- in a program whose procedures are derived, statements whose paths are derived run well
pub walks : ((w : Activation) (k : ℕ) → IsDerived w.program → ParMoves w k) → (u : Activation) (m : ℕ) → IsDerived u.program → Walks u m
walks par u m ok = walks_below (suc m) m (line_below m) par u ok
