-- Well-formed programs: the rules of names and types, as far as they can be said of numbers. Every use has as many
-- arguments as there are parameters, and names a part that there is; accesses and fences have modes that are theirs;
-- modalities stand neither in invariants nor in fences nor in each other, nor in a contract that is used by `par`, which
-- has 2 to 8 calls; variables are scoped and of a sort; `main` is there, with neither parameters nor `requires`.
use Rattle.std.specs.Prelude.{ℕ, Bool, true, false, ◌&&◌, List, Option, Some, None, length, slice_get, nat_le, nat_lt, ◌==◌}
use Rattle.std.specs.List.{list_all}
use Rattle.fsl_core.specs.declared.act.Act.{Act}
use Rattle.fsl_core.specs.declared.act.Act.TheOpen.{Act-F}
use Rattle.fsl_core.specs.declared.act.Act.TheFolds.{fold-Act}
use Rattle.fsl_core.specs.declared.act.Called.{Called}
use Rattle.fsl_core.specs.declared.act.Stmt.{Stmt}
use Rattle.fsl_core.specs.declared.assertion.Asrt.{Asrt}
use Rattle.fsl_core.specs.declared.assertion.Asrt.TheOpen.{Asrt-F}
use Rattle.fsl_core.specs.declared.assertion.Asrt.TheFolds.{fold-Asrt}
use Rattle.fsl_core.specs.declared.assertion.Inst.{Inst}
use Rattle.fsl_core.specs.declared.expr.Expr.{Expr}
use Rattle.fsl_core.specs.declared.mode.Mode.{Mode}
use Rattle.fsl_core.specs.declared.mode.Mode.TheVariants.{Na, Rlx, Acq, Rel, AcqRel}
use Rattle.fsl_core.specs.declared.declaration.Inv.{Inv}
use Rattle.fsl_core.specs.declared.declaration.Proc.{Proc}
use Rattle.fsl_core.specs.Programs.{Program, named_from}
use Rattle.fsl_core.specs.Scopes.{inv_is_scoped, proc_is_scoped}
use Rattle.fsl_core.specs.Straight.{is_emp}

-- ---- uses of invariants and procedures

abbrev pub inv_takes : List Expr → Option Inv → Bool
inv_takes args None = false
inv_takes args (Some inv) = inv.params == length args

abbrev pub inst_fits : List Inv → Inst → Bool
inst_fits invs inst = inv_takes inst.args (slice_get invs inst.inv)

abbrev pub inv_has_part : ℕ → Option Inv → Bool
inv_has_part part None = false
inv_has_part part (Some inv) = nat_lt part (length inv.parts)

abbrev pub proc_takes : List Expr → Option Proc → Bool
proc_takes args None = false
proc_takes args (Some proc) = proc.params == length args

abbrev pub call_fits : Program → ℕ → List Expr → Bool
call_fits p proc args = proc_takes args (slice_get p.procs proc)

-- ---- assertions, in which modalities may stand or not

abbrev pub Test : Type 0
Test = Bool → Bool

abbrev pub asrt_step : List Inv → Asrt-F Test → Test
asrt_step invs (Asrt-F.Rel at inst) modal = inst_fits invs inst
asrt_step invs (Asrt-F.Acq at inst part out) modal = inst_fits invs inst && inv_has_part part (slice_get invs inst.inv)
asrt_step invs (Asrt-F.RmwAcq at inst) modal = inst_fits invs inst
asrt_step invs (Asrt-F.Choice cond a b) modal = a modal && b modal
asrt_step invs (Asrt-F.Up a) modal = modal && a false
asrt_step invs (Asrt-F.Down a) modal = modal && a false
asrt_step invs (Asrt-F.Both parts) modal = list_all (λ part. part modal) parts
asrt_step invs _ modal = true

abbrev pub asrt_fits : List Inv → Asrt → Test
asrt_fits invs = fold-Asrt Test (asrt_step invs)

-- ---- statements

abbrev pub is_load_mode : Mode → Bool
is_load_mode Na = true
is_load_mode Rlx = true
is_load_mode Acq = true
is_load_mode _ = false

abbrev pub is_store_mode : Mode → Bool
is_store_mode Na = true
is_store_mode Rlx = true
is_store_mode Rel = true
is_store_mode _ = false

abbrev pub is_update_mode : Mode → Bool
is_update_mode Na = false
is_update_mode _ = true

abbrev pub is_failure_mode : Mode → Bool
is_failure_mode Rlx = true
is_failure_mode Acq = true
is_failure_mode _ = false

abbrev pub is_fence_mode : Mode → Bool
is_fence_mode Acq = true
is_fence_mode Rel = true
is_fence_mode AcqRel = true
is_fence_mode _ = false

abbrev pub proc_is_plain : List Inv → Option Proc → Bool
proc_is_plain invs None = false
proc_is_plain invs (Some proc) = asrt_fits invs proc.pre false && asrt_fits invs proc.post false

-- a call of a `par`, whose contract has no modality
abbrev pub child_fits : Program → Called → Bool
child_fits p call = call_fits p call.proc call.args && proc_is_plain p.invs (slice_get p.procs call.proc)

abbrev pub is_par_size : ℕ → Bool
is_par_size n = nat_le 2 n && nat_le n 8

abbrev pub act_step : Program → Act-F Bool Bool → Bool
act_step p (Act-F.AllocAt slot rmw inst) = inst_fits p.invs inst
act_step p (Act-F.Load slot mode at) = is_load_mode mode
act_step p (Act-F.Store mode at e) = is_store_mode mode
act_step p (Act-F.Cas slot mode fail at old new steps) = is_update_mode mode && is_failure_mode fail
act_step p (Act-F.Add slot mode at e steps) = is_update_mode mode
act_step p (Act-F.Swap slot mode at e steps) = is_update_mode mode
act_step p (Act-F.Call slot proc args) = call_fits p proc args
act_step p (Act-F.Par calls) = is_par_size (length calls) && list_all (child_fits p) calls
act_step p (Act-F.Fence mode asrt) = is_fence_mode mode && asrt_fits p.invs asrt false
act_step p (Act-F.If cond a b) = list_all (λ stmt. stmt) a && list_all (λ stmt. stmt) b
act_step p (Act-F.While cond inv body) = asrt_fits p.invs inv true && list_all (λ stmt. stmt) body
act_step p _ = true

abbrev pub act_fits : Program → Act → Bool
act_fits p = fold-Act Bool Bool (act_step p) (λ stmt. stmt.act)

abbrev pub stmt_fits : Program → Stmt → Bool
stmt_fits p stmt = act_fits p stmt.act

-- ---- programs

abbrev pub inv_fits : List Inv → Inv → Bool
inv_fits invs inv = list_all (λ part. asrt_fits invs part false) inv.parts

abbrev pub proc_fits : Program → Proc → Bool
proc_fits p proc = asrt_fits p.invs proc.pre true && (asrt_fits p.invs proc.post true && list_all (stmt_fits p) proc.body)

-- a run may start this procedure
abbrev pub is_startable : Option Proc → Bool
is_startable None = false
is_startable (Some proc) = proc.params == 0 && is_emp proc.pre

abbrev pub nth_of : List Proc → Option ℕ → Option Proc
nth_of procs None = None
nth_of procs (Some number) = slice_get procs number

-- the procedure that a run starts
abbrev pub main_among : List Proc → Option Proc
main_among procs = nth_of procs (named_from 0 procs)

-- uses fit declarations, and variables are scoped
abbrev pub inv_is_well : List Inv → Inv → Bool
inv_is_well invs inv = inv_fits invs inv && inv_is_scoped inv

abbrev pub proc_is_well : Program → Proc → Bool
proc_is_well p proc = proc_fits p proc && proc_is_scoped p.procs proc

abbrev pub is_well_formed : Program → Bool
is_well_formed p = list_all (inv_is_well p.invs) p.invs && (list_all (proc_is_well p) p.procs && is_startable (main_among p.procs))
