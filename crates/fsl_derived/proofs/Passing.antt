-- What calls that run side by side start: the run's procedures and arguments are the path's, and each then starts with
-- what it requires.
use Rattle.std.proofs.Common.{◌≡◌, ℕ, zero, suc, Bool, true, false, ◌&&◌, List, [], ◌∷◌, length, map, Option, Some, None, ℤ, slice_get, refl, sym, ap, ◌∙◌, subst}
use Rattle.std.specs.List.{list_all}
use Rattle.std.proofs.lemmas.Bool.{and_parts, eqb-true}
use Rattle.fsl_core.specs.declared.act.Called.{Called}
use Rattle.fsl_core.specs.declared.declaration.Proc.{Proc}
use Rattle.fsl_core.specs.declared.mode.Rung.TheVariants.{Plain}
use Rattle.fsl_core.specs.declared.need.Started.{Started as Start}
use Rattle.fsl_core.specs.declared.scope.Scope.{Scope}
use Rattle.fsl_core.specs.Programs.{Program}
use Rattle.fsl_core.specs.Moves.{arguments_of, started_of}
use Rattle.fsl_core.specs.Scopes.{Sees, passes, passes_to, behind_requires, in_body, proc_is_scoped}
use Rattle.fsl_core.specs.Values.{with_value}
use Rattle.fsl_core.specs.WellFormed.{asrt_fits, proc_takes, proc_is_plain, child_fits, proc_fits, proc_is_well, is_well_formed, inv_is_well, is_startable, main_among}
use Rattle.fsl_meaning.specs.Means.{padded_numbers}
use Rattle.fsl_meaning.specs.Heaps.{Truth}
use Rattle.fsl_asserted.specs.Exact.{exact, exact_all}
use Rattle.fsl_asserted.specs.Needs.{Need, asks}
use Rattle.fsl_asserted.specs.Carried.{IsPlain}
use Rattle.fsl_asserted.proofs.Asking.{some_is, value_asked}
use Rattle.fsl_kept.specs.Threads.{Started, started_by, started}
use Rattle.fsl_own.specs.Atoms.{Atom}
use Rattle.fsl_good.specs.Pieces.{AtPlain, all_placed}
use Rattle.fsl_good.specs.Good.{EachStarts}
use Rattle.fsl_held.specs.Heaps.{truth_of}
use Rattle.fsl_held.specs.Asked.{Satisfies, Debt, owes, StartsWith, logic_of}
use Rattle.fsl_scoped.proofs.Arguments.{arguments_exact, starts_seen}

-- ---- procedures of a well-formed program

one_of : (test : Proc → Bool) (procs : List Proc) (number : ℕ) (q : Proc) → list_all test procs ≡ true → slice_get procs number ≡ Some q → test q ≡ true
one_of test [] number q h e = absurd (let f : None ≡ Some q = e in cc)
one_of test (x ∷ xs) zero q h e = subst (λ (z : Proc). test z ≡ true) (some_is e) (and_parts (test x) (list_all test xs) h).0
one_of test (x ∷ xs) (suc n) q h e = one_of test xs n q (and_parts (test x) (list_all test xs) h).1 e

pub well_proc : (p : Program) (number : ℕ) (q : Proc) → is_well_formed p ≡ true → slice_get p.procs number ≡ Some q → (proc_fits p q ≡ true) × (proc_is_scoped p.procs q ≡ true)
well_proc p number q h e =
    let all = and_parts (list_all (inv_is_well p.invs) p.invs) (list_all (proc_is_well p) p.procs && is_startable (main_among p.procs)) h in
    let procs = and_parts (list_all (proc_is_well p) p.procs) (is_startable (main_among p.procs)) all.1 in
    and_parts (proc_fits p q) (proc_is_scoped p.procs q) (one_of (proc_is_well p) p.procs number q procs.0 e)

-- ---- what is started

-- the run starts what the path starts
pub record IsStarted (p : Program) (d : Start) (k : Started) : Type 0 where
  pub is : slice_get p.procs d.proc ≡ Some k.proc
  pub numbers : List ℤ
  pub are : k.numbers ≡ padded_numbers k.proc.slots numbers
  pub long : length numbers ≡ k.proc.params
  pub given : length d.args ≡ k.proc.params
  pub sees : (t : Truth) (n : Need) → asks t k.proc.pre Plain k.numbers ≡ Some n → Sees (in_body (behind_requires k.proc)) (padded_numbers k.proc.slots d.args) n.env
  pub pre_is_plain : IsPlain p.invs k.proc.pre
  pub post_is_plain : IsPlain p.invs k.proc.post

abbrev pub EachStarted : Program → List Start → List Started → Type 0
EachStarted p [] [] = Unit {0}
EachStarted p (d ∷ ds) (k ∷ ks) = IsStarted p d k × EachStarted p ds ks
EachStarted p _ _ = ⊥

mapped_length : {X Y : Type 0} (f : X → Y) (xs : List X) → length (map f xs) ≡ length xs
mapped_length f [] = refl
mapped_length f (x ∷ xs) = ap suc (mapped_length f xs)

one_started : (p : Program) (scope : Scope) (env slots : List ℤ) (c : Called) (args : List ℤ) (rest : List Start) (others : List Started) → is_well_formed p ≡ true
    → scope.in_ensures ≡ false → Sees scope env slots
    → (o : Option Proc) → slice_get p.procs c.proc ≡ o → passes_to scope c.args o ≡ true → (proc_takes c.args o && proc_is_plain p.invs o) ≡ true
    → arguments_of o c.args env ≡ Some args → EachStarted p rest others
    → EachStarted p (record { proc = c.proc; args = args } ∷ rest) (started_by o (exact_all c.args slots) others)
one_started p scope env slots c args rest others well outside sees None is passed fits given each = absurd (let f : false ≡ true = passed in cc)
one_started p scope env slots c args rest others well outside sees (Some q) is passed fits given each =
    let takes = and_parts (proc_takes c.args (Some q)) (proc_is_plain p.invs (Some q)) fits in
    let plain = and_parts (asrt_fits p.invs q.pre false) (asrt_fits p.invs q.post false) takes.1 in
    let count : q.params ≡ length c.args = eqb-true q.params (length c.args) takes.0 in
    let scoped = (well_proc p c.proc q well is).1 in
    let told = arguments_exact p.procs q scope c.args env slots args scoped outside (sym count) passed sees given in (
      record {
        is = is;
        numbers = exact_all c.args slots;
        are = refl;
        long = mapped_length (λ e. exact e slots) c.args ∙ sym count;
        given = told.0;
        sees = λ t n asked. (starts_seen p.procs q scope c.args env slots args t Plain n scoped outside (sym count) passed sees given asked).1;
        pre_is_plain = plain.0;
        post_is_plain = plain.1;
      },
      each,
    )

pub all_started : (p : Program) (scope : Scope) (env slots : List ℤ) (calls : List Called) (ds : List Start) → is_well_formed p ≡ true → scope.in_ensures ≡ false → Sees scope env slots
    → list_all (λ call. passes p.procs scope call.proc call.args) calls ≡ true → list_all (child_fits p) calls ≡ true → started_of p calls env ≡ Some ds → EachStarted p ds (started p slots calls)
all_started p scope env slots [] ds well outside sees passed fits is = subst (λ (zs : List Start). EachStarted p zs []) (some_is is) tt
all_started p scope env slots (c ∷ cs) ds well outside sees passed fits is =
    let here = and_parts (passes p.procs scope c.proc c.args) (list_all (λ call. passes p.procs scope call.proc call.args) cs) passed in
    let fit = and_parts (child_fits p c) (list_all (child_fits p) cs) fits in
    let own = value_asked (arguments_of (slice_get p.procs c.proc) c.args env) (λ args. with_value (started_of p cs env) (λ rest. Some (record { proc = c.proc; args = args } ∷ rest))) ds is in
    let more = value_asked (started_of p cs env) (λ rest. Some (record { proc = c.proc; args = own.value } ∷ rest)) ds own.then_is in
    subst (λ (zs : List Start). EachStarted p zs (started p slots (c ∷ cs))) (some_is more.then_is)
    (one_started p scope env slots c own.value more.value (started p slots cs) well outside sees (slice_get p.procs c.proc) refl here.0 fit.0 own.is
    (all_started p scope env slots cs more.value well outside sees here.1 fit.1 more.is))

-- ---- each starts with what it requires

abbrev pub EachSatisfied : List Started → List Need → List (List Atom) → Type 0
EachSatisfied [] [] [] = Unit {0}
EachSatisfied (k ∷ ks) (n ∷ ns) (ys ∷ yss) = Satisfies k.proc.pre k.numbers n ys × EachSatisfied ks ns yss
EachSatisfied _ _ _ = ⊥

abbrev pub all_owed : List Started → List Need → List Debt
all_owed (k ∷ ks) (n ∷ ns) = owes k.proc.post n.env ∷ all_owed ks ns
all_owed _ _ = []

start_with : (p : Program) (d : Start) (k : Started) (n : Need) (ys : List Atom) → IsStarted p d k → Satisfies k.proc.pre k.numbers n ys → StartsWith p (owes k.proc.post n.env) d ys
start_with p d k n ys s given = record {
  proc = k.proc;
  is = s.is;
  numbers = s.numbers;
  long = s.long;
  given = s.given;
  need = n;
  satisfies = subst (λ (xs : List ℤ). Satisfies k.proc.pre xs n ys) s.are given;
  sees = s.sees (truth_of (all_placed AtPlain ys)) n given.asked.is;
  owed = (refl, refl, s.post_is_plain);
}

pub each_starts : (p : Program) (ds : List Start) (ks : List Started) (ns : List Need) (yss : List (List Atom)) → EachStarted p ds ks → EachSatisfied ks ns yss
    → EachStarts (logic_of p) (all_owed ks ns) ds yss
each_starts p [] [] [] [] s a = tt
each_starts p (d ∷ ds) (k ∷ ks) (n ∷ ns) (ys ∷ yss) s a = (start_with p d k n ys s.0 a.0, each_starts p ds ks ns yss s.1 a.1)
each_starts p [] (k ∷ ks) ns yss s a = absurd s
each_starts p (d ∷ ds) [] ns yss s a = absurd s
each_starts p [] [] (n ∷ ns) yss s a = absurd a
each_starts p [] [] [] (ys ∷ yss) s a = absurd a
each_starts p (d ∷ ds) (k ∷ ks) [] yss s a = absurd a
each_starts p (d ∷ ds) (k ∷ ks) (n ∷ ns) [] s a = absurd a
