-- Folds over trees, level by level: what they come to on a tree that is written out.
use Rattle.std.proofs.Common.{arith, ◌≡◌, ℕ, zero, suc, ◌+◌, Bool, true, false, List, [], ◌∷◌, map, length, get_or, refl, sym, ap, ◌∙◌}
use Rattle.fsl_base.specs.declared.span.Span.{Span}
use Rattle.fsl_core.specs.declared.act.Act.{Act}
use Rattle.fsl_core.specs.declared.act.Act.TheFolds.{fold-Act, fold_out-Act, fold_out-Stmt, map-Act, map-Stmt}
use Rattle.fsl_core.specs.declared.act.Act.TheViews.{out-Act, out-Stmt}
use Rattle.fsl_core.specs.declared.act.Stmt.{Stmt}
use Rattle.fsl_core.specs.declared.assertion.Asrt.{Asrt}
use Rattle.fsl_core.specs.declared.assertion.Asrt.TheFolds.{fold_out-Asrt, map-Asrt}
use Rattle.fsl_core.specs.declared.assertion.Asrt.TheViews.{out-Asrt}
use Rattle.fsl_core.specs.declared.expr.Expr.{Expr}
use Rattle.fsl_core.specs.declared.expr.Expr.TheFolds.{fold-Part, fold_out-Expr, fold_out-Part, map-Expr, map-Part}
use Rattle.fsl_core.specs.declared.expr.Expr.TheViews.{out-Expr, out-Part}
use Rattle.fsl_core.specs.declared.expr.Part.{Part}
use Rattle.fsl_core.specs.declared.declaration.Proc.{Proc}
use Rattle.fsl_core.specs.Programs.{Program}
use Rattle.fsl_core.specs.declared.verdict.Outcome.{Outcome}
use Rattle.fsl_core.specs.declared.verdict.Outcome.TheVariants.{Derived, Fails}
use Rattle.fsl_core.specs.declared.verdict.Verdict.{Verdict}
use Rattle.fsl_core.specs.declared.verdict.Verdict.TheVariants.{Accepted}
use Rattle.fsl_core.specs.Verdicts.{End, outcome_from, verdict_from}
use Rattle.fsl_core.specs.logic.Terms.{Expression, expr_step, part_step, expr_of}
use Rattle.fsl_core.specs.logic.Assertions.{Assertion, asrt_step, asrt_of}
use Rattle.fsl_core.specs.logic.Locations.{contract_of}
use Rattle.fsl_core.specs.logic.Paths.{Meaning, Reading, act_step, stmt_step, stmt_of, reading_by, ends_by, ends_of}
use Rattle.fsl_core.specs.logic.Verdicts.{outcomes, verdict_by, verdict_of}
use Rattle.fsl_judged.specs.Words.{nothing, span, proc}

-- ---- expressions

-- n levels are read one by one
abbrev pub expr_by : ℕ → (Expr → Expression) × (Part → Bool × Expression)
expr_by zero = (expr_of, fold-Part Expression (Bool × Expression) expr_step part_step)
expr_by (suc n) = (
  λ e. expr_step (map-Expr Expr Part Expression (Bool × Expression) (expr_by n).0 (expr_by n).1 (out-Expr e)),
  λ p. part_step (map-Part Expr Part Expression (Bool × Expression) (expr_by n).0 (expr_by n).1 (out-Part p)),
)

exprs_same : (n : ℕ) → expr_by n ≡ expr_by 0
exprs_same zero = refl
exprs_same (suc n) = ap (λ (r : (Expr → Expression) × (Part → Bool × Expression)). (
  (λ e. expr_step (map-Expr Expr Part Expression (Bool × Expression) r.0 r.1 (out-Expr e))),
  (λ p. part_step (map-Part Expr Part Expression (Bool × Expression) r.0 r.1 (out-Part p))),
)) (exprs_same n)
    ∙ (λ j. ((λ e. sym (fold_out-Expr Expression (Bool × Expression) expr_step part_step e) j), (λ p. sym (fold_out-Part Expression (Bool × Expression) expr_step part_step p) j)))

-- ---- assertions

abbrev pub asrt_by : (Expr → Expression) → ℕ → Asrt → Assertion
asrt_by read zero a = asrt_of a
asrt_by read (suc n) a = asrt_step read (map-Asrt Asrt Assertion (asrt_by read n) (out-Asrt a))

asrts_same : (n : ℕ) → asrt_by expr_of n ≡ asrt_of
asrts_same zero = refl
asrts_same (suc n) = ap {B = Asrt → Assertion} (λ (f : Asrt → Assertion) a. asrt_step expr_of (map-Asrt Asrt Assertion f (out-Asrt a))) (asrts_same n)
    ∙ (λ j a. sym (fold_out-Asrt Assertion (asrt_step expr_of) a) j)

-- ---- statements

abbrev pub stmt_by : Reading → ℕ → (Act → Span → Meaning) × (Stmt → Meaning)
stmt_by r zero = (fold-Act (Span → Meaning) Meaning (act_step r) stmt_step, stmt_of r)
stmt_by r (suc n) = (
  λ a. act_step r (map-Act Act Stmt (Span → Meaning) Meaning (stmt_by r n).0 (stmt_by r n).1 (out-Act a)),
  λ s. stmt_step (map-Stmt Act Stmt (Span → Meaning) Meaning (stmt_by r n).0 (stmt_by r n).1 (out-Stmt s)),
)

stmts_same : (r : Reading) (n : ℕ) → stmt_by r n ≡ stmt_by r 0
stmts_same r zero = refl
stmts_same r (suc n) = ap (λ (m : (Act → Span → Meaning) × (Stmt → Meaning)). (
  (λ a. act_step r (map-Act Act Stmt (Span → Meaning) Meaning m.0 m.1 (out-Act a))),
  (λ s. stmt_step (map-Stmt Act Stmt (Span → Meaning) Meaning m.0 m.1 (out-Stmt s))),
)) (stmts_same r n)
    ∙ (λ j. ((λ a. sym (fold_out-Act (Span → Meaning) Meaning (act_step r) stmt_step a) j), (λ s. sym (fold_out-Stmt (Span → Meaning) Meaning (act_step r) stmt_step s) j)))

-- ---- programs

-- the ends of a procedure's paths, where expressions, assertions and statements are read so
abbrev pub ends_with : (Expr → Expression) → (Asrt → Assertion) → (Reading → Stmt → Meaning) → Program → Proc → List End
ends_with expr asrt stmt p q = ends_by (contract_of asrt q) (map (stmt (reading_by expr asrt p q)) q.body) q.last

-- at most 8 levels of each are read one by one
abbrev pub quick_ends : Program → Proc → List End
quick_ends p q = ends_with (expr_by 8).0 (asrt_by (expr_by 8).0 8) (λ r. (stmt_by r 8).1) p q

ends_same : (p : Program) → quick_ends p ≡ ends_of p
ends_same p =
    ap {B = Proc → List End} (λ (e : Expr → Expression) q. ends_with e (asrt_by e 8) (λ r. (stmt_by r 8).1) p q) (ap (λ (r : (Expr → Expression) × (Part → Bool × Expression)). r.0) (exprs_same 8))
    ∙ ap {B = Proc → List End} (λ (a : Asrt → Assertion) q. ends_with expr_of a (λ r. (stmt_by r 8).1) p q) (asrts_same 8)
    ∙ ap {B = Proc → List End} (λ (m : Reading → Stmt → Meaning) q. ends_with expr_of asrt_of m p q) (λ j r. (stmts_same r 8 j).1)

pub verdict_quick : (p : Program) (v : Verdict) → verdict_by (quick_ends p) p.procs ≡ v → verdict_of p ≡ v
verdict_quick p v h = sym (ap (λ (ends : Proc → List End). verdict_by ends p.procs) (ends_same p)) ∙ h

-- ---- verdicts, procedure by procedure

-- a procedure by its number; behind the last one stands one without statements
abbrev pub proc_at : ℕ → List Proc → Proc
proc_at n qs = get_or qs n (proc [] 0 0 [] nothing nothing [] (span 0 0))

abbrev pub is_derived : Outcome → Bool
is_derived (Derived paths) = true
is_derived (Fails proc at kind) = false

-- each procedure is derived; the first one has this number
abbrev pub AllDerived : (Proc → List End) → ℕ → List Proc → Type 0
AllDerived ends number [] = Unit {0}
AllDerived ends number (q ∷ qs) = (is_derived (outcome_from number 0 (ends q)) ≡ true) × AllDerived ends (number + 1) qs

derived_next : (o : Outcome) (n : ℕ) (os : List Outcome) → is_derived o ≡ true → verdict_from n (o ∷ os) ≡ verdict_from (n + 1) os
derived_next (Derived paths) n os h = refl
derived_next (Fails proc at kind) n os h = cc

accepted_from : (ends : Proc → List End) (number n : ℕ) (qs : List Proc) → AllDerived ends number qs
    → verdict_from n (outcomes ends number qs) ≡ Accepted (n + length qs)
accepted_from ends number n [] all = ap Accepted (omega arith)
accepted_from ends number n (q ∷ qs) all =
    derived_next (outcome_from number 0 (ends q)) n (outcomes ends (number + 1) qs) all.0
    ∙ accepted_from ends (number + 1) (n + 1) qs all.1
    ∙ ap Accepted (omega arith)

pub accepted_quick : (p : Program) → AllDerived (quick_ends p) 0 p.procs → verdict_of p ≡ Accepted (length p.procs)
accepted_quick p all = verdict_quick p (Accepted (length p.procs)) (accepted_from (quick_ends p) 0 0 p.procs all ∙ ap Accepted (omega arith))
