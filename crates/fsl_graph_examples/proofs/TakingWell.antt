-- The program of the box is well formed.
use Rattle.std.proofs.Common.{◌≡◌, Bool, true, false, ◌&&◌, ◌^◌, List, [], ◌∷◌, map, refl, sym, subst, ◌∙◌}
use Rattle.std.specs.List.{list_all}
use Rattle.std.proofs.lemmas.Bool.{and_from}
use Rattle.fsl_core.specs.declared.act.Act.TheOpen.{Act-F}
use Rattle.fsl_core.specs.declared.assertion.Asrt.TheOpen.{Asrt-F}
use Rattle.fsl_core.specs.declared.assertion.Pat.TheVariants as pat
use Rattle.fsl_core.specs.declared.declaration.Inv.{Inv}
use Rattle.fsl_core.specs.declared.declaration.Proc.{Proc}
use Rattle.fsl_core.specs.declared.mode.Mode.TheVariants as mode
use Rattle.fsl_core.specs.declared.scope.Scope.{Scope}
use Rattle.fsl_core.specs.declared.scope.Sight.TheVariants as sight
use Rattle.fsl_core.specs.Scopes.{Scoped, in_turn, all_fit, reads, tests, inst_reads, inst_argument_fits, passes, with_sight, in_body, nothing_declared, parameters_of, given_to, inv_is_scoped, block_scoped, proc_is_scoped, asrt_scoped, stmt_scoped}
use Rattle.fsl_core.specs.Scopes as scopes
use Rattle.fsl_core.specs.WellFormed.{asrt_fits, stmt_fits, child_fits, inv_fits, proc_fits, inv_is_well, proc_is_well, is_startable, main_among, is_well_formed}
use Rattle.fsl_judged.specs.Words.{num, var, all_shares, equal, unequal, inst, nothing, points, init, rel, rmw_acq, at, thread as calls}
use Rattle.fsl_graph_examples.specs.Taking.{cell_if_full, box, giving, looking, emptying, both_called, starting, give_needs, take_needs, give, take, main, taking}
use Rattle.fsl_graph_examples.proofs.Formed.{asrt_level_at, fits_at, folded_at, asrt_scoped_level, scoped_at, reads_var, reads_num, nothing_is, proc_scoped, argument_reads, all_one, all_two, all_three, all_four}

abbrev boxes : List Inv
boxes = box ∷ []

abbrev procs : List Proc
procs = give ∷ take ∷ main ∷ []

-- ---- uses fit declarations

nothing_fits : (modal : Bool) → asrt_fits boxes nothing modal ≡ true
nothing_fits modal = asrt_level_at boxes modal Asrt-F.Emp

rel_fits : (modal : Bool) → asrt_fits boxes (rel (var 0) (inst 0 (var 1 ∷ []))) modal ≡ true
rel_fits modal = asrt_level_at boxes modal (Asrt-F.Rel (var 0) (inst 0 (var 1 ∷ [])))

cell_fits : asrt_fits boxes cell_if_full false ≡ true
cell_fits =
    let full = points (var 0) all_shares (pat.Is (num 7)) in
    asrt_level_at boxes false (Asrt-F.Choice (equal (var 1) (num 0)) nothing full)
    ∙ and_from (asrt_fits boxes nothing false) (asrt_fits boxes full false) (nothing_fits false)
    (asrt_level_at boxes false (Asrt-F.Points (var 0) all_shares (pat.Is (num 7))))

give_needs_fit : (modal : Bool) → asrt_fits boxes give_needs modal ≡ true
give_needs_fit modal =
    asrt_level_at boxes modal (Asrt-F.Both (rel (var 0) (inst 0 (var 1 ∷ [])) ∷ points (var 1) all_shares pat.Any ∷ []))
    ∙ all_two (λ a. asrt_fits boxes a modal) (rel (var 0) (inst 0 (var 1 ∷ []))) (points (var 1) all_shares pat.Any)
    (rel_fits modal) (asrt_level_at boxes modal (Asrt-F.Points (var 1) all_shares pat.Any))

take_needs_fit : (modal : Bool) → asrt_fits boxes take_needs modal ≡ true
take_needs_fit modal =
    asrt_level_at boxes modal (Asrt-F.Both (init (var 0) ∷ rel (var 0) (inst 0 (var 1 ∷ [])) ∷ rmw_acq (var 0) (inst 0 (var 1 ∷ [])) ∷ []))
    ∙ all_three (λ a. asrt_fits boxes a modal) (init (var 0)) (rel (var 0) (inst 0 (var 1 ∷ []))) (rmw_acq (var 0) (inst 0 (var 1 ∷ [])))
    (asrt_level_at boxes modal (Asrt-F.Init (var 0))) (rel_fits modal) (asrt_level_at boxes modal (Asrt-F.RmwAcq (var 0) (inst 0 (var 1 ∷ []))))

giving_fits : list_all (stmt_fits taking) giving ≡ true
giving_fits =
    all_two (stmt_fits taking) (at 115 130 (Act-F.Store mode.Na (var 1) (num 7))) (at 133 149 (Act-F.Store mode.Rel (var 0) (num 1)))
    (fits_at taking 115 130 (Act-F.Store mode.Na (var 1) (num 7))) (fits_at taking 133 149 (Act-F.Store mode.Rel (var 0) (num 1)))

emptying_fits : list_all (stmt_fits taking) emptying ≡ true
emptying_fits =
    all_two (stmt_fits taking) (at 232 259 (Act-F.Swap 2 mode.Acq (var 0) (num 0) [])) (at 262 306 (Act-F.If (unequal (var 2) (num 0)) looking []))
    (fits_at taking 232 259 (Act-F.Swap 2 mode.Acq (var 0) (num 0) []))
    (fits_at taking 262 306 (Act-F.If (unequal (var 2) (num 0)) looking [])
    ∙ and_from _ true (and_from _ _ (folded_at taking 276 295 (Act-F.Load 3 mode.Na (var 1)))
    (and_from _ true (folded_at taking 296 304 (Act-F.Free (var 1))) refl)) refl)

starting_fits : list_all (stmt_fits taking) starting ≡ true
starting_fits =
    all_four (stmt_fits taking) (at 325 342 (Act-F.AllocNa 0)) (at 345 370 (Act-F.AllocAt 1 true (inst 0 (var 0 ∷ []))))
    (at 373 389 (Act-F.Store mode.Rel (var 1) (num 0))) (at 392 423 (Act-F.Par both_called))
    (fits_at taking 325 342 (Act-F.AllocNa 0)) (fits_at taking 345 370 (Act-F.AllocAt 1 true (inst 0 (var 0 ∷ []))))
    (fits_at taking 373 389 (Act-F.Store mode.Rel (var 1) (num 0)))
    (fits_at taking 392 423 (Act-F.Par both_called)
    ∙ all_two (child_fits taking) (calls 0 (var 1 ∷ var 0 ∷ [])) (calls 1 (var 1 ∷ var 0 ∷ []))
    (and_from (asrt_fits boxes give_needs false) (asrt_fits boxes nothing false) (give_needs_fit false) (nothing_fits false))
    (and_from (asrt_fits boxes take_needs false) (asrt_fits boxes nothing false) (take_needs_fit false) (nothing_fits false)))

-- ---- variables are scoped

nothing_is_scoped : asrt_scoped nothing ≡ scopes.asrt_step Asrt-F.Emp
nothing_is_scoped = asrt_scoped_level Asrt-F.Emp

-- a location and its invariant, where both variables are read
leave_reads : (s : Scope) → reads s (var 0) ≡ true → reads s (var 1) ≡ true → (reads s (var 0) && inst_reads s (inst 0 (var 1 ∷ []))) ≡ true
leave_reads s h k = and_from (reads s (var 0)) (inst_reads s (inst 0 (var 1 ∷ []))) h (all_one (inst_argument_fits s) (var 1) (argument_reads s (var 1) k))

cell_is : asrt_scoped cell_if_full
    ≡ scopes.asrt_step (Asrt-F.Choice (equal (var 1) (num 0)) (scopes.asrt_step Asrt-F.Emp) (scopes.asrt_step (Asrt-F.Points (var 0) all_shares (pat.Is (num 7)))))
cell_is = asrt_scoped_level (Asrt-F.Choice (equal (var 1) (num 0)) nothing (points (var 0) all_shares (pat.Is (num 7))))
    ∙ (λ j. scopes.asrt_step (Asrt-F.Choice (equal (var 1) (num 0)) (asrt_scoped_level Asrt-F.Emp j) (asrt_scoped_level (Asrt-F.Points (var 0) all_shares (pat.Is (num 7))) j)))

box_is_scoped : inv_is_scoped box ≡ true
box_is_scoped =
    let s = given_to box in
    all_one (λ part. (asrt_scoped part).fits s) cell_if_full
    (subst (λ (x : Scoped). x.fits s ≡ true) (sym cell_is)
    (and_from (tests s (equal (var 1) (num 0))) _ (and_from (reads s (var 1)) (reads s (num 0)) (reads_var s 1) (reads_num s 0))
    (and_from (reads s (var 0)) _ (reads_var s 0) (and_from (reads s all_shares) (reads s (num 7)) (reads_num s (2 ^ 63)) (reads_num s 7)))))

give_pre : asrt_scoped give_needs
    ≡ in_turn (scopes.asrt_step (Asrt-F.Rel (var 0) (inst 0 (var 1 ∷ []))) ∷ scopes.asrt_step (Asrt-F.Points (var 1) all_shares pat.Any) ∷ [])
give_pre = asrt_scoped_level (Asrt-F.Both (rel (var 0) (inst 0 (var 1 ∷ [])) ∷ points (var 1) all_shares pat.Any ∷ []))
    ∙ (λ j. in_turn (asrt_scoped_level (Asrt-F.Rel (var 0) (inst 0 (var 1 ∷ []))) j ∷ asrt_scoped_level (Asrt-F.Points (var 1) all_shares pat.Any) j ∷ []))

take_pre : asrt_scoped take_needs
    ≡ in_turn (scopes.asrt_step (Asrt-F.Init (var 0)) ∷ scopes.asrt_step (Asrt-F.Rel (var 0) (inst 0 (var 1 ∷ []))) ∷ scopes.asrt_step (Asrt-F.RmwAcq (var 0) (inst 0 (var 1 ∷ []))) ∷ [])
take_pre = asrt_scoped_level (Asrt-F.Both (init (var 0) ∷ rel (var 0) (inst 0 (var 1 ∷ [])) ∷ rmw_acq (var 0) (inst 0 (var 1 ∷ [])) ∷ []))
    ∙ (λ j. in_turn (asrt_scoped_level (Asrt-F.Init (var 0)) j ∷ asrt_scoped_level (Asrt-F.Rel (var 0) (inst 0 (var 1 ∷ []))) j ∷ asrt_scoped_level (Asrt-F.RmwAcq (var 0) (inst 0 (var 1 ∷ []))) j ∷ []))

giving_scoped : (block_scoped procs giving).fits (in_body (parameters_of give)) ≡ true
giving_scoped =
    let s = in_body (parameters_of give) in
    subst (λ (xs : List Scoped). all_fit xs s ≡ true) (sym levels)
    (and_from (reads s (var 1) && reads s (num 7)) _ (and_from (reads s (var 1)) (reads s (num 7)) (reads_var s 1) (reads_num s 7))
    (and_from (reads s (var 0) && reads s (num 1)) true (and_from (reads s (var 0)) (reads s (num 1)) (reads_var s 0) (reads_num s 1)) refl))
  where
    levels : map (stmt_scoped procs) giving
        ≡ scopes.act_step procs (Act-F.Store mode.Na (var 1) (num 7)) ∷ scopes.act_step procs (Act-F.Store mode.Rel (var 0) (num 1)) ∷ []
    levels = λ j. scoped_at procs 115 130 (Act-F.Store mode.Na (var 1) (num 7)) j ∷ scoped_at procs 133 149 (Act-F.Store mode.Rel (var 0) (num 1)) j ∷ []

-- behind the exchange
abbrev emptied : Scope
emptied = with_sight 2 sight.Local (in_body (parameters_of take))

-- behind the load
abbrev looked : Scope
looked = with_sight 3 sight.Local emptied

if_is : stmt_scoped procs (at 262 306 (Act-F.If (unequal (var 2) (num 0)) looking []))
    ≡ scopes.act_step procs (Act-F.If (unequal (var 2) (num 0)) (scopes.act_step procs (Act-F.Load 3 mode.Na (var 1)) ∷ scopes.act_step procs (Act-F.Free (var 1)) ∷ []) [])
if_is = scoped_at procs 262 306 (Act-F.If (unequal (var 2) (num 0)) looking [])
    ∙ (λ j. scopes.act_step procs (Act-F.If (unequal (var 2) (num 0)) (scoped_at procs 276 295 (Act-F.Load 3 mode.Na (var 1)) j ∷ scoped_at procs 296 304 (Act-F.Free (var 1)) j ∷ []) []))

emptying_scoped : (block_scoped procs emptying).fits (in_body (parameters_of take)) ≡ true
emptying_scoped =
    let s = in_body (parameters_of take) in
    subst (λ (xs : List Scoped). all_fit xs s ≡ true) (sym levels)
    (and_from (reads s (var 0) && (reads s (num 0) && true)) _
    (and_from (reads s (var 0)) _ (reads_var s 0) (and_from (reads s (num 0)) true (reads_num s 0) refl))
    (and_from _ true
    (and_from (tests emptied (unequal (var 2) (num 0))) _
    (and_from (reads emptied (var 2)) (reads emptied (num 0)) (reads_var emptied 2) (reads_num emptied 0))
    (and_from _ true (and_from (reads emptied (var 1)) _ (reads_var emptied 1) (and_from (reads looked (var 1)) true (reads_var looked 1) refl)) refl))
    refl))
  where
    levels : map (stmt_scoped procs) emptying
        ≡ scopes.act_step procs (Act-F.Swap 2 mode.Acq (var 0) (num 0) []) ∷ scopes.act_step procs (Act-F.If (unequal (var 2) (num 0)) (scopes.act_step procs (Act-F.Load 3 mode.Na (var 1)) ∷ scopes.act_step procs (Act-F.Free (var 1)) ∷ []) []) ∷ []
    levels = λ j. scoped_at procs 232 259 (Act-F.Swap 2 mode.Acq (var 0) (num 0) []) j ∷ if_is j ∷ []

-- behind the first allocation, and behind both
abbrev first_made : Scope
first_made = with_sight 0 sight.Local (in_body (nothing_declared 2))

abbrev both_made : Scope
both_made = with_sight 1 sight.Local first_made

passed : (reads both_made (var 1) && (reads both_made (var 0) && true)) ≡ true
passed = and_from (reads both_made (var 1)) _ (reads_var both_made 1) (and_from (reads both_made (var 0)) true (reads_var both_made 0) refl)

starting_scoped : (block_scoped procs starting).fits (in_body (nothing_declared 2)) ≡ true
starting_scoped =
    subst (λ (xs : List Scoped). all_fit xs (in_body (nothing_declared 2)) ≡ true) (sym levels)
    (and_from (inst_reads first_made (inst 0 (var 0 ∷ []))) _ (all_one (inst_argument_fits first_made) (var 0) (argument_reads first_made (var 0) (reads_var first_made 0)))
    (and_from (reads both_made (var 1) && reads both_made (num 0)) _ (and_from (reads both_made (var 1)) (reads both_made (num 0)) (reads_var both_made 1) (reads_num both_made 0))
    (and_from _ true (all_two (λ call. passes procs both_made call.proc call.args) (calls 0 (var 1 ∷ var 0 ∷ [])) (calls 1 (var 1 ∷ var 0 ∷ [])) passed passed) refl)))
  where
    levels : map (stmt_scoped procs) starting
        ≡ scopes.act_step procs (Act-F.AllocNa 0) ∷ scopes.act_step procs (Act-F.AllocAt 1 true (inst 0 (var 0 ∷ [])))
        ∷ scopes.act_step procs (Act-F.Store mode.Rel (var 1) (num 0)) ∷ scopes.act_step procs (Act-F.Par both_called) ∷ []
    levels = λ j. scoped_at procs 325 342 (Act-F.AllocNa 0) j ∷ scoped_at procs 345 370 (Act-F.AllocAt 1 true (inst 0 (var 0 ∷ []))) j
        ∷ scoped_at procs 373 389 (Act-F.Store mode.Rel (var 1) (num 0)) j ∷ scoped_at procs 392 423 (Act-F.Par both_called) j ∷ []

-- ---- the whole

give_scoped : proc_is_scoped procs give ≡ true
give_scoped =
    let s = parameters_of give in
    proc_scoped procs give _ _ give_pre nothing_is_scoped refl
    (and_from (reads s (var 0) && inst_reads s (inst 0 (var 1 ∷ []))) _ (leave_reads s (reads_var s 0) (reads_var s 1))
    (and_from _ true (and_from (reads s (var 1)) _ (reads_var s 1) (and_from (reads s all_shares) true (reads_num s (2 ^ 63)) refl)) refl))
    refl giving_scoped

take_scoped : proc_is_scoped procs take ≡ true
take_scoped =
    let s = parameters_of take in
    let leave = leave_reads s (reads_var s 0) (reads_var s 1) in
    proc_scoped procs take _ _ take_pre nothing_is_scoped refl
    (and_from (reads s (var 0)) _ (reads_var s 0)
    (and_from (reads s (var 0) && inst_reads s (inst 0 (var 1 ∷ []))) _ leave (and_from (reads s (var 0) && inst_reads s (inst 0 (var 1 ∷ []))) true leave refl)))
    refl emptying_scoped

main_scoped : proc_is_scoped procs main ≡ true
main_scoped = proc_scoped procs main _ _ nothing_is_scoped nothing_is_scoped refl refl refl starting_scoped

give_fits : proc_fits taking give ≡ true
give_fits = and_from (asrt_fits boxes give_needs true) _ (give_needs_fit true) (and_from (asrt_fits boxes nothing true) (list_all (stmt_fits taking) giving) (nothing_fits true) giving_fits)

take_fits : proc_fits taking take ≡ true
take_fits = and_from (asrt_fits boxes take_needs true) _ (take_needs_fit true) (and_from (asrt_fits boxes nothing true) (list_all (stmt_fits taking) emptying) (nothing_fits true) emptying_fits)

main_fits : proc_fits taking main ≡ true
main_fits = and_from (asrt_fits boxes nothing true) _ (nothing_fits true) (and_from (asrt_fits boxes nothing true) (list_all (stmt_fits taking) starting) (nothing_fits true) starting_fits)

pub taking_well : is_well_formed taking ≡ true
taking_well =
    and_from (list_all (inv_is_well boxes) boxes) _
    (all_one (inv_is_well boxes) box (and_from (inv_fits boxes box) (inv_is_scoped box) (all_one (λ part. asrt_fits boxes part false) cell_if_full cell_fits) box_is_scoped))
    (and_from (list_all (proc_is_well taking) procs) (is_startable (main_among procs))
    (all_three (proc_is_well taking) give take main
    (and_from (proc_fits taking give) (proc_is_scoped procs give) give_fits give_scoped)
    (and_from (proc_fits taking take) (proc_is_scoped procs take) take_fits take_scoped)
    (and_from (proc_fits taking main) (proc_is_scoped procs main) main_fits main_scoped))
    nothing_is)
