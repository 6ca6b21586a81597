-- The start of a thread: it has what its contract requires, and runs the body of its procedure.
use Rattle.std.proofs.Common.{◌≡◌, ℕ, ◌+◌, ◌-◌, ◌≤◌, true, ◌&&◌, List, [], length, map, replicate, Option, None, ℤ, pos, refl, sym, ap, ◌∙◌, subst, arith}
use Rattle.std.specs.List.{list_all}
use Rattle.std.proofs.lemmas.Bool.{and_parts}
use Rattle.std.proofs.lemmas.List.{append-nil, length-append, length-replicate}
use Rattle.fsl_core.specs.declared.declaration.Proc.{Proc}
use Rattle.fsl_core.specs.declared.need.Started.{Started as Start}
use Rattle.fsl_core.specs.declared.mode.Rung.TheVariants.{Plain}
use Rattle.fsl_core.specs.Programs.{Program}
use Rattle.fsl_core.specs.Moves.{Config, started_at, entered, start_of}
use Rattle.fsl_core.specs.Scopes.{parameters_of, behind_requires, in_body}
use Rattle.fsl_core.specs.WellFormed.{asrt_fits, stmt_fits, proc_fits}
use Rattle.fsl_core.specs.logic.Assertions.{asrt_of}
use Rattle.fsl_core.specs.logic.Paths.{block, stmt_of, nowhere, closing, start}
use Rattle.fsl_core.specs.declared.act.Stmt.{Stmt}
use Rattle.fsl_meaning.specs.Means.{padded_numbers}
use Rattle.fsl_meaning.specs.Heaps.{nothing}
use Rattle.fsl_meaning.specs.States.{All, Fits}
use Rattle.fsl_meaning.proofs.Terms.{all_none}
use Rattle.fsl_kept.proofs.Calls.{enter_fits}
use Rattle.fsl_own.specs.Atoms.{Atom}
use Rattle.fsl_good.specs.Pieces.{AtPlain, Piece, all_placed, IsPossible}
use Rattle.fsl_good.specs.Good.{Good}
use Rattle.fsl_held.specs.Heaps.{heap_of, truth_of, ground_of}
use Rattle.fsl_held.specs.Asked.{Debt, StartsWith, logic_of}
use Rattle.fsl_walk.specs.Stances.{Activation, config_of, reading, IsGood}
use Rattle.fsl_walk.specs.Walks.{IsDerived, Walks}
use Rattle.fsl_held.proofs.Bounded.{heap_is_bounded}
use Rattle.fsl_scoped.proofs.Assertions.{binders_free}
use Rattle.fsl_scoped.proofs.Bodies.{bodies_are_declared, contracts_outside}
use Rattle.fsl_scoped.proofs.Parameters.{proc_fits as parts_of}
use Rattle.fsl_walk.proofs.Rounds.{kept_self}
use Rattle.fsl_walk.proofs.Steps.{each_lands, good_possible}
use Rattle.fsl_walk.proofs.Walk.{walks}
use Rattle.fsl_derived.proofs.Passing.{well_proc}
use Rattle.fsl_derived.proofs.Par.{par_moves}
use Rattle.fsl_derived.proofs.Ending.{AtStart, body_closed, outermost, end_returns, closing_runs}

-- ---- numbers that are padded

line_padded : (k l r n : ℕ) → n ≡ l + r → r ≡ k - l → l ≤ k → n ≡ k
line_padded k l r n e f i = omega arith

padded_long : (k : ℕ) (xs : List ℤ) → length xs ≤ k → length (padded_numbers k xs) ≡ k
padded_long k xs room =
    let zeros = replicate (k - length xs) (pos 0) in
    line_padded k (length xs) (length zeros) (length (padded_numbers k xs)) (length-append xs zeros) (length-replicate (k - length xs) (pos 0)) room

body_fits : (p : Program) (q : Proc) → proc_fits p q ≡ true → list_all (stmt_fits p) q.body ≡ true
body_fits p q h =
    let one = and_parts (asrt_fits p.invs q.pre true) (asrt_fits p.invs q.post true && list_all (stmt_fits p) q.body) h in
    (and_parts (asrt_fits p.invs q.post true) (list_all (stmt_fits p) q.body) one.1).1

-- ---- the start

-- nothing is there yet
start_fits : (xs : List Piece) → Fits [] (All (ground_of xs) nothing) (λ i. pos 1) start
start_fits xs = record { one = refl; facts = record { all = λ w e. tt }; env = all_none; owns = record { each = tt } }

line_none : (a : ℕ) → a + 0 ≤ a
line_none a = omega arith

-- what is derived is walked through
all_walk : (u : Activation) (m : ℕ) → IsDerived u.program → Walks u m
all_walk = walks (λ w k derived. par_moves w derived.well k)

body_good : (p : Program) → IsDerived p → (o : Debt) (call : Start) (ys : List Atom) (s : StartsWith p o call ys) (n : ℕ) → IsPossible (all_placed AtPlain ys)
    → IsGood (outermost p o s.proc) n (config_of (outermost p o s.proc) s.proc.body (padded_numbers s.proc.slots call.args)) (all_placed AtPlain ys)
body_good p derived o call ys s n possible =
    let q = s.proc in
    let u = outermost p o q in
    let xs = all_placed AtPlain ys in
    let env = padded_numbers q.slots call.args in
    let well = well_proc p call.proc q derived.well s.is in
    let scoped = parts_of p.procs q well.1 in
    let long : length s.need.env ≡ q.slots =
    (binders_free (parameters_of q) q.pre (truth_of xs) Plain (padded_numbers q.slots s.numbers) s.need scoped.pre s.satisfies.asked.is).0
    ∙ padded_long q.slots s.numbers (subst (λ (k : ℕ). k ≤ q.slots) (sym s.long) scoped.room) in
    let land = each_lands nowhere (λ x t. block (map (stmt_of (reading u)) q.body) 0 t (closing (asrt_of q.post) q.last))
    (enter_fits q s.numbers s.need (heap_of xs) s.long (start_fits xs) s.satisfies.asked.is s.satisfies.asked.known
    (λ k. subst (λ (m : ℕ). m ≤ heap_of xs k) (line_same (s.need.heap k)) (s.satisfies.enough k)) (heap_is_bounded xs possible))
    (derived.each call.proc q s.is) in
    let returns = end_returns p o q s.need.env n xs nothing well.1 long s.owed in
    subst (λ (stmts : List Stmt). IsGood u n (config_of u stmts env) xs) (append-nil q.body)
    (all_walk u n derived q.body (in_body (behind_requires q)) (in_body (behind_requires q)) 0 [] (closing (asrt_of q.post) q.last) (AtStart q s.need.env) xs nothing
    scoped.body (contracts_outside q) (body_fits p q well.0)
    (bodies_are_declared p.procs q) (λ slot seen. seen) (body_closed p.procs q (reading u) s.need.env well.1)
    (closing_runs u n q.last (in_body (behind_requires q)) (AtStart q s.need.env) xs nothing returns) returns
    xs s.need.env env land.numbers land.state (kept_self xs nothing)
    (record { mine = heap_of xs; fits = land.is; parts = λ k. line_none (heap_of xs k) })
    (record { long = padded_long q.slots call.args (subst (λ (k : ℕ). k ≤ q.slots) (sym s.given) scoped.room) ∙ sym long; sees = s.sees })
    (record { long = refl; alike = λ slot shared. refl })
    land.derived)
  where
    line_same : (a : ℕ) → a ≡ a + 0
    line_same a = omega arith

-- a thread that starts with what its contract requires is good, for any number of moves
pub thread_good : (p : Program) → IsDerived p → (o : Debt) (call : Start) (ys : List Atom) → StartsWith p o call ys → (n : ℕ)
    → Good (logic_of p) p o n (start_of p call.proc call.args) [] (all_placed AtPlain ys)
thread_good p derived o call ys s n =
    subst (λ (c : Config). Good (logic_of p) p o n c [] (all_placed AtPlain ys)) (sym (ap (λ (q : Option Proc). started_at (entered q call.args None)) s.is))
    (good_possible (outermost p o s.proc) n (config_of (outermost p o s.proc) s.proc.body (padded_numbers s.proc.slots call.args)) (all_placed AtPlain ys) (λ e. absurd (cc))
    (body_good p derived o call ys s n))
