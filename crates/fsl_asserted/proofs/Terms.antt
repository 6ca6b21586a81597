-- The terms that an assertion's rules begin with: locations with their invariants, patterns, banks.
use Rattle.std.proofs.Common.{◌≡◌, ℕ, List, map, ℤ, refl}
use Rattle.fsl_core.specs.declared.assertion.Inst.{Inst}
use Rattle.fsl_core.specs.declared.assertion.Pat.{Pat}
use Rattle.fsl_core.specs.declared.assertion.Pat.TheVariants as pat
use Rattle.fsl_core.specs.declared.expr.Expr.{Expr}
use Rattle.fsl_core.specs.logic.States.{Env, State}
use Rattle.fsl_core.specs.logic.Terms.{expr_of, term, terms}
use Rattle.fsl_core.specs.logic.Chunks.{Leave, leave}
use Rattle.fsl_core.specs.logic.Producing.{Wanted, any, bind, equals, pat_of, wanted, inst_of, leave_terms}
use Rattle.fsl_lin.specs.Combination.{Combination}
use Rattle.fsl_lin.specs.Numbers.{Numbers}
use Rattle.fsl_meaning.specs.Means.{Means, AllMean}
use Rattle.fsl_meaning.specs.States.{Owning, Fits}
use Rattle.fsl_meaning.specs.Branches.{Tells}
use Rattle.fsl_meaning.proofs.Terms.{means_more}
use Rattle.fsl_meaning.proofs.Calculus.{tells_on, tells_give}
use Rattle.fsl_meaning.proofs.Deciding.{tells_term, tells_terms}
use Rattle.fsl_meaning.specs.Means.{Grows}
use Rattle.fsl_asserted.specs.Exact.{exact, exact_all}
use Rattle.fsl_asserted.proofs.Exprs.{reads_expr}

pub reads_term : {slots : List ℤ} {own : Owning} {v : Numbers} {s : State} {env : Env} {xs : List ℤ} (e : Expr) → Fits slots own v s → AllMean s.next v env xs
    → Tells s (λ t. Means s.next v t (exact e xs)) (term (expr_of e) env s)
reads_term e fit all = tells_term (reads_expr e) fit all

pub reads_terms : {slots : List ℤ} {own : Owning} {v : Numbers} {s : State} {env : Env} {xs : List ℤ} (es : List Expr) → Fits slots own v s → AllMean s.next v env xs
    → Tells s (λ ts. AllMean s.next v ts (exact_all es xs)) (terms (map expr_of es) env s)
reads_terms es fit all = tells_terms expr_of exact reads_expr es fit all

-- a location with its invariant and arguments
pub record LeaveMeans (n : ℕ) (v : Numbers) (l : Leave) (loc : ℤ) (inv : ℕ) (args : List ℤ) : Type 0 where
  pub at_is : Means n v l.at loc
  pub inv_is : l.inv ≡ inv
  pub args_are : AllMean n v l.args args

pub reads_leave : {slots : List ℤ} {own : Owning} {v : Numbers} {s : State} {env : Env} {xs : List ℤ} (at : Expr) (inst : Inst) → Fits slots own v s → AllMean s.next v env xs
    → Tells s (λ l. LeaveMeans s.next v l (exact at xs) inst.inv (exact_all inst.args xs)) (leave_terms (expr_of at) (inst_of expr_of inst) env s)
reads_leave {s = s} at inst fit all =
    tells_on _ (reads_term at fit all) (λ a h. tells_on _ (reads_terms inst.args fit all) (λ ts k. tells_give (leave a inst.inv ts) s (record { at_is = h; inv_is = refl; args_are = k })))

-- a pattern with the number that it is held against
pub record IsEquals (n : ℕ) (v : Numbers) (x : ℤ) (w : Wanted Combination) : Type 0 where
  pub term : Combination
  pub is : w ≡ equals term
  pub means : Means n v term x

abbrev pub WantedMeans : ℕ → Numbers → List ℤ → Pat → Wanted Combination → Type 0
WantedMeans n v xs pat.Any w = w ≡ any
WantedMeans n v xs (pat.Bind slot) w = w ≡ bind slot
WantedMeans n v xs (pat.Is e) w = IsEquals n v (exact e xs) w

pub reads_wanted : {slots : List ℤ} {own : Owning} {v : Numbers} {s : State} {env : Env} {xs : List ℤ} (p : Pat) → Fits slots own v s → AllMean s.next v env xs
    → Tells s (λ w. WantedMeans s.next v xs p w) (wanted (pat_of expr_of p) env s)
reads_wanted {s = s} pat.Any fit all = tells_give any s refl
reads_wanted {s = s} (pat.Bind slot) fit all = tells_give (bind slot) s refl
reads_wanted {s = s} (pat.Is e) fit all = tells_on _ (reads_term e fit all) (λ t h. tells_give (equals t) s (record { term = t; is = refl; means = h }))

pub wanted_more : {n m : ℕ} {v w : Numbers} (xs : List ℤ) (p : Pat) (x : Wanted Combination) → Grows n v m w → WantedMeans n v xs p x → WantedMeans m w xs p x
wanted_more xs pat.Any x g h = h
wanted_more xs (pat.Bind slot) x g h = h
wanted_more xs (pat.Is e) x g h = record { term = h.term; is = h.is; means = means_more g h.means }
