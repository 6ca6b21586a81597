-- Straight programs: one procedure `main` without parameters and contract, whose statements set, load, store,
-- allocate, assert and print, one after the other, over sums and non-atomic cells.
use Rattle.std.specs.Prelude.{ℕ, Bool, true, false, ◌&&◌, not, List, [], ◌∷◌, Option, Some, None, nat_lt, nat_le, ◌==◌, codes}
use Rattle.std.specs.List.{list_all, list_any, filter_map}
use Rattle.std.specs.Str.{bytes_eq}
use Rattle.fsl_core.specs.declared.expr.Expr.{Expr}
use Rattle.fsl_core.specs.declared.expr.Expr.TheOpen.{Expr-F}
use Rattle.fsl_core.specs.declared.expr.Expr.TheFolds.{fold-Expr}
use Rattle.fsl_core.specs.declared.expr.Cond.{Cond}
use Rattle.fsl_core.specs.declared.expr.Cond.TheVariants.{Cmp}
use Rattle.fsl_core.specs.declared.expr.CmpOp.TheVariants.{Eq}
use Rattle.fsl_core.specs.declared.act.Act.{Act}
use Rattle.fsl_core.specs.declared.act.Act.TheOpen.{Act-F}
use Rattle.fsl_core.specs.declared.act.Act.TheFolds.{fold-Act}
use Rattle.fsl_core.specs.declared.act.Stmt.{Stmt}
use Rattle.fsl_core.specs.declared.assertion.Asrt.{Asrt}
use Rattle.fsl_core.specs.declared.assertion.Asrt.TheOpen.{Asrt-F}
use Rattle.fsl_core.specs.declared.assertion.Asrt.TheFolds.{fold-Asrt}
use Rattle.fsl_core.specs.declared.mode.Mode.TheVariants.{Na}
use Rattle.fsl_core.specs.declared.declaration.Proc.{Proc}
use Rattle.fsl_core.specs.Programs.{Program}

-- a test on a number of slots
abbrev pub Test : Type 0
Test = ℕ → Bool

-- an expression of constants, sums and the variables of the first n slots
abbrev pub sum_step : Expr-F Test Test → Test
sum_step (Expr-F.Const c) n = true
sum_step (Expr-F.Var slot) n = nat_lt slot n
sum_step (Expr-F.Sum parts) n = list_all (λ part. part n) parts
sum_step _ n = false

abbrev pub is_sum : Expr → Test
is_sum = fold-Expr Test Test sum_step (λ part. part.e)

abbrev pub is_equation : Cond → Test
is_equation (Cmp Eq l r) n = is_sum l n && is_sum r n
is_equation _ n = false

-- an act of a straight program with n slots
abbrev pub straight_step : Act-F Test Test → Test
straight_step (Act-F.Set slot e) n = nat_lt slot n && is_sum e n
straight_step (Act-F.AllocNa slot) n = nat_lt slot n
straight_step (Act-F.Load slot Na at) n = nat_lt slot n && is_sum at n
straight_step (Act-F.Store Na at e) n = is_sum at n && is_sum e n
straight_step (Act-F.Assert cond) n = is_equation cond n
straight_step (Act-F.Print e) n = is_sum e n
straight_step _ n = false

abbrev pub is_straight_act : Act → Test
is_straight_act = fold-Act Test Test straight_step (λ stmt. stmt.act)

-- the slot that an act sets
abbrev pub set_step : Act-F (Option ℕ) (Option ℕ) → Option ℕ
set_step (Act-F.Set slot e) = Some slot
set_step (Act-F.AllocNa slot) = Some slot
set_step (Act-F.Load slot mode at) = Some slot
set_step _ = None

abbrev pub slot_set : Stmt → Option ℕ
slot_set stmt = fold-Act (Option ℕ) (Option ℕ) set_step (λ s. s.act) stmt.act

-- no number stands twice
abbrev pub are_distinct : List ℕ → Bool
are_distinct [] = true
are_distinct (n ∷ ns) = not (list_any (λ m. n == m) ns) && are_distinct ns

abbrev pub emp_step : Asrt-F Bool → Bool
emp_step Asrt-F.Emp = true
emp_step _ = false

abbrev pub is_emp : Asrt → Bool
is_emp = fold-Asrt Bool emp_step

abbrev pub is_straight_proc : Proc → Bool
is_straight_proc proc =
    bytes_eq proc.name (codes "main") && proc.params == 0 && is_emp proc.pre && is_emp proc.post && nat_le proc.slots 256
    && list_all (λ stmt. is_straight_act stmt.act proc.slots) proc.body && are_distinct (filter_map slot_set proc.body)

abbrev pub is_one_straight : List Proc → Bool
is_one_straight (proc ∷ []) = is_straight_proc proc
is_one_straight _ = false

abbrev pub is_empty : {X : Type 0} → List X → Bool
is_empty [] = true
is_empty (x ∷ xs) = false

abbrev pub is_straight : Program → Bool
is_straight p = is_empty p.invs && is_one_straight p.procs
