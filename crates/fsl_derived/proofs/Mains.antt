-- `main` starts with nothing.
use Rattle.std.proofs.Common.{◌≡◌, ℕ, ◌≤◌, ◌==◌, Bool, true, false, ◌&&◌, List, [], length, Option, Some, None, ℤ, slice_get, refl, sym, ap, ◌∙◌, subst, arith}
use Rattle.std.specs.List.{list_all}
use Rattle.std.proofs.lemmas.Bool.{and_parts, eqb-true}
use Rattle.fsl_core.specs.declared.assertion.Asrt.{Asrt}
use Rattle.fsl_core.specs.declared.assertion.Asrt.TheOpen.{Asrt-F}
use Rattle.fsl_core.specs.declared.assertion.Asrt.TheFolds.{fold_out-Asrt, map-Asrt}
use Rattle.fsl_core.specs.declared.assertion.Asrt.TheViews.{out-Asrt}
use Rattle.fsl_core.specs.declared.declaration.Proc.{Proc}
use Rattle.fsl_core.specs.declared.mode.Rung.{Rung}
use Rattle.fsl_core.specs.declared.mode.Rung.TheVariants.{Plain}
use Rattle.fsl_core.specs.declared.need.Started.{Started as Start}
use Rattle.fsl_core.specs.Programs.{Program}
use Rattle.fsl_core.specs.Straight.{emp_step, is_emp}
use Rattle.fsl_core.specs.WellFormed.{nth_of, is_startable, main_among, inv_is_well, proc_is_well, is_well_formed}
use Rattle.fsl_meaning.specs.Heaps.{Truth, nothing}
use Rattle.fsl_meaning.specs.Means.{padded_numbers}
use Rattle.fsl_asserted.specs.Needs.{Asks, need, asks_step, asks}
use Rattle.fsl_good.specs.Pieces.{AtPlain, all_placed}
use Rattle.fsl_safe.specs.Threads.{IsMain}
use Rattle.fsl_held.specs.Heaps.{truth_of}
use Rattle.fsl_held.specs.Asked.{owes_nothing, StartsWith, logic_of}

false_is : {X : Type 0} → false ≡ true → X
false_is e = absurd (cc)

layer_empty : (t : Truth) (rung : Rung) (xs : List ℤ) (l : Asrt-F Asrt) → emp_step (map-Asrt Asrt Bool is_emp l) ≡ true
    → asks_step t (map-Asrt Asrt Asks (asks t) l) rung xs ≡ Some (need nothing [] xs)
layer_empty t rung xs Asrt-F.Emp h = refl
layer_empty t rung xs l h = false_is h

-- `emp` asks for nothing
pub asks_empty : (t : Truth) (a : Asrt) (rung : Rung) (xs : List ℤ) → is_emp a ≡ true → asks t a rung xs ≡ Some (need nothing [] xs)
asks_empty t a rung xs h =
    ap (λ (f : Asks). f rung xs) (fold_out-Asrt Asks (asks_step t) a) ∙ layer_empty t rung xs (out-Asrt a) (sym (fold_out-Asrt Bool emp_step a) ∙ h)

line_none : (n : ℕ) → 0 ≤ n
line_none n = omega arith

start_main : (p : Program) (call : Start) (o : Option Proc) → slice_get p.procs call.proc ≡ o → is_startable o ≡ true → call.args ≡ [] → StartsWith p owes_nothing call []
start_main p call None is h none = false_is h
start_main p call (Some q) is h none =
    let both = and_parts (q.params == 0) (is_emp q.pre) h in
    let params : q.params ≡ 0 = eqb-true q.params 0 both.0 in
    record {
      proc = q;
      is = is;
      numbers = [];
      long = sym params;
      given = ap length none ∙ sym params;
      need = need nothing [] (padded_numbers q.slots []);
      satisfies = record {
        asked = record { is = asks_empty (truth_of (all_placed AtPlain [])) q.pre Plain (padded_numbers q.slots []) both.1; known = tt };
        enough = λ k. line_none _;
      };
      sees = λ slot seen. ap (λ (xs : List ℤ). slice_get (padded_numbers q.slots xs) slot) none;
      owed = tt;
    }

pub main_starts : (p : Program) → is_well_formed p ≡ true → IsMain (logic_of p) p
main_starts p well = record {
  owed = owes_nothing;
  starts = λ call main none. start_main p call (slice_get p.procs call.proc) refl (subst (λ (o : Option ℕ). is_startable (nth_of p.procs o) ≡ true) main startable) none;
}
  where
    startable : is_startable (main_among p.procs) ≡ true
    startable =
        let all = and_parts (list_all (inv_is_well p.invs) p.invs) (list_all (proc_is_well p) p.procs && is_startable (main_among p.procs)) well in
        (and_parts (list_all (proc_is_well p) p.procs) (is_startable (main_among p.procs)) all.1).1
