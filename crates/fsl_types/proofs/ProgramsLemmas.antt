-- The program of a tree without faults is well formed: its invariants and procedures fit, their variables are scoped,
-- and the first procedure `main` has neither parameters nor `requires`.
use Rattle.std.proofs.Common.{◌≡◌, ℕ, zero, suc, ◌+◌, if◌then◌else◌, Bool, true, false, true≢false, IsTrue, List, [], ◌∷◌, ◌++◌, codes, slice_get, nat_lt, Option, Some, None, refl, ap, sym, ◌∙◌, arith}
use Rattle.std.proofs.lemmas.Bool.{and_from, and_parts, ltb-true, not-false}
use Rattle.std.proofs.lemmas.List.Folds.{list_all-append}
use Rattle.std.proofs.lemmas.Slice.Eq.{bytes_eq-Decides}
use Rattle.std.proofs.lemmas.Str.{IsUtf8-from_ascii, is_utf8-from_IsUtf8}
use Rattle.std.specs.List.{list_all}
use Rattle.std.specs.Str.{IsAscii, bytes_eq, is_utf8}
use Rattle.fsl_core.specs.declared.assertion.Asrt.{Asrt}
use Rattle.fsl_core.specs.declared.declaration.Proc.{Proc}
use Rattle.fsl_core.specs.Programs.{Program, named_from}
use Rattle.fsl_core.specs.WellFormed.{asrt_fits, inv_is_well, is_startable, is_well_formed, main_among, nth_of, proc_fits, proc_is_well}
use Rattle.fsl_tree.specs.declared.declaration.Declaration.{Declaration}
use Rattle.fsl_tree.specs.declared.declaration.Declaration.TheVariants as declarations
use Rattle.fsl_tree.specs.declared.declaration.Part.{Part}
use Rattle.fsl_tree.specs.declared.declaration.Procedure.{Procedure}
use Rattle.fsl_tree.specs.declared.file.File.{File}
use Rattle.fsl_types.specs.declared.fault.Fault.{Fault}
use Rattle.fsl_types.specs.declared.occurrence.Occurrence.TheVariants as occurrence
use Rattle.fsl_types.specs.declared.resolved.Resolved.{Resolved}
use Rattle.fsl_types.specs.declared.variable.Signature.{Signature}
use Rattle.fsl_types.specs.declared.resolver.Resolver.{Resolver}
use Rattle.fsl_types.specs.Given.{Given}
use Rattle.fsl_types.specs.Names.{found}
use Rattle.fsl_types.specs.Programs.{all_listed, declaration, declare_each, end_of, faults_of, given_by, has_main, in_ensures, in_invariant, in_requires, invariant, invariants_of, is_bare, listed_procedure, nothing_listed, nothing_resolved, parts, procedure, program_of, resolved}
use Rattle.fsl_types.specs.Resolvers.{one_more}
use Rattle.fsl_types.proofs.AssertionsLemmas.{HasInvariants, assertion_fits, clause_fits}
use Rattle.fsl_types.proofs.StatementsLemmas.{HasProcedures, IsProcedure, block_fits}
use Rattle.fsl_types.proofs.ExpressionsLemmas.{noted_grows, noted_keeps}
use Rattle.fsl_types.proofs.DeclarationsLemmas.{contract_known, declare_each_grows, list_each_grows, listed_procedure_grows, parts_grow, pre_known}
use Rattle.fsl_types.proofs.ListingLemmas.{ProceduresStand, invariants_stand, procedures_stand}
use Rattle.fsl_types.proofs.ScopedDeclarations.{invariant_scoped, procedure_scoped}
use Rattle.fsl_types.proofs.ScopedActs.{HasBanks}

-- ---- invariants and procedures

parts_fit : (p : Program) (given : Given) → HasInvariants p.invs given → (before : ℕ) (ps : List Part) (resolver : Resolver) → (parts given before ps resolver).resolver.faults ≡ []
    → list_all (λ (a : Asrt). asrt_fits p.invs a false) (parts given before ps resolver).made ≡ true
parts_fit p given invs before [] resolver none = refl
parts_fit p given invs before (q ∷ qs) resolver none =
    and_from _ _
    ((assertion_fits p.invs given q.assertion).fits invs in_invariant _ false (λ is. refl) (parts_grow p given (one_more 8 before) qs _ none))
    (parts_fit p given invs (one_more 8 before) qs _ none)

procedure_fits : (p : Program) (given : Given) → HasInvariants p.invs given → HasProcedures p given → (q : Procedure) (faults : List Fault)
    → (procedure given q faults).resolver.faults ≡ [] → proc_fits p (procedure given q faults).made ≡ true
procedure_fits p given invs procs q faults none =
    and_from _ _ ((clause_fits p.invs given q.requires_clause).fits invs in_requires _ true (λ is. refl) (pre_known p given q faults none))
    (and_from _ _ ((clause_fits p.invs given q.ensures_clause).fits invs in_ensures _ true (λ is. refl) (contract_known p given q faults none))
    ((block_fits p given q.body).fits invs procs false _ none))

one_more_fits : {X : Type 0} (test : X → Bool) (xs : List X) (x : X) → list_all test xs ≡ true → test x ≡ true → list_all test (xs ++ x ∷ []) ≡ true
one_more_fits test xs x all one = list_all-append test xs (x ∷ []) ∙ and_from _ _ all (and_from _ _ one refl)

-- ---- declarations

banks_known : (p : Program) (given : Given) → HasProcedures p given → HasBanks p.procs given
banks_known p given procs name s is = let it = procs name s is in record { proc = it.proc; at = it.at; agree = it.agree }

record Fits (p : Program) (so_far : Resolved) : Type 0 where
  pub invs : list_all (inv_is_well p.invs) so_far.invs ≡ true
  pub procs : list_all (proc_is_well p) so_far.procs ≡ true

declaration_fits : (p : Program) (given : Given) → HasInvariants p.invs given → HasProcedures p given → (d : Declaration) (so_far : Resolved)
    → (declaration given d so_far).faults ≡ [] → Fits p so_far → Fits p (declaration given d so_far)
declaration_fits p given invs procs (declarations.Invariant i) so_far none fit = record {
  invs = one_more_fits (inv_is_well p.invs) so_far.invs (invariant given i so_far.faults).made fit.invs
      (and_from _ _ (parts_fit p given invs 0 (i.first ∷ i.more) _ none) (invariant_scoped given i so_far.faults none));
  procs = fit.procs;
}
declaration_fits p given invs procs (declarations.Predicate pred) so_far none fit = fit
declaration_fits p given invs procs (declarations.Procedure q) so_far none fit = record {
  invs = fit.invs;
  procs = one_more_fits (proc_is_well p) so_far.procs (procedure given q so_far.faults).made fit.procs
      (and_from _ _ (procedure_fits p given invs procs q so_far.faults none) (procedure_scoped p.procs given (banks_known p given procs) q so_far.faults none));
}

declarations_fit : (p : Program) (given : Given) → HasInvariants p.invs given → HasProcedures p given → (ds : List Declaration) (so_far : Resolved)
    → (declare_each given ds so_far).faults ≡ [] → Fits p so_far → Fits p (declare_each given ds so_far)
declarations_fit p given invs procs [] so_far none fit = fit
declarations_fit p given invs procs (d ∷ ds) so_far none fit =
    declarations_fit p given invs procs ds (declaration given d so_far) none
    (declaration_fits p given invs procs d so_far (declare_each_grows p given ds (declaration given d so_far) none) fit)

-- ---- main

ascii : (text : List ℕ) → list_all (λ b. nat_lt b 128) text ≡ true → IsAscii text
ascii [] all i = omega arith
ascii (b ∷ bs) all zero = ltb-true b 128 (and_parts _ _ all).0
ascii (b ∷ bs) all (suc i) = ascii bs (and_parts _ _ all).1 i

main_is_text : is_utf8 (codes "main") ≡ true
main_is_text = is_utf8-from_IsUtf8 (codes "main") (IsUtf8-from_ascii (codes "main") (ascii (codes "main") refl))

starts : List ℕ → Bool
starts [] = false
starts (x ∷ xs) = true

main_not_empty : codes "main" ≡ [] → ⊥
unfolding starts
main_not_empty is = true≢false (ap starts is)

abbrev is_named : Proc → Bool
is_named proc = bytes_eq proc.name (codes "main")

-- the first procedure that is named `main`
record FirstMain (procs : List Proc) (n : ℕ) : Type 0 where
  pub place : ℕ
  pub proc : Proc
  pub number : named_from n procs ≡ Some (n + place)
  pub there : slice_get procs place ≡ Some proc
  pub named : is_named proc ≡ true

first_if : (b : Bool) (q : Proc) (procs : List Proc) (n : ℕ) → is_named q ≡ b → (b ≡ false → FirstMain procs (suc n)) → FirstMain (q ∷ procs) n
first_if true q procs n is behind = record {
  place = 0;
  proc = q;
  number = ap (λ (b : Bool). if b then Some n else named_from (suc n) procs) is ∙ ap Some (omega arith);
  there = refl;
  named = is;
}
first_if false q procs n is behind =
    let rest = behind refl in
    record {
      place = suc rest.place;
      proc = rest.proc;
      number = ap (λ (b : Bool). if b then Some n else named_from (suc n) procs) is ∙ rest.number ∙ ap Some (omega arith);
      there = rest.there;
      named = rest.named;
    }

first_named : (procs : List Proc) (n k : ℕ) (q : Proc) → slice_get procs k ≡ Some q → is_named q ≡ true → FirstMain procs n
first_named [] n k q at is = absurd cc
first_named (r ∷ procs) n zero q at is =
    let same : q ≡ r = cc in first_if (is_named r) r procs n refl (λ no. absurd (true≢false (sym is ∙ ap is_named same ∙ no)))
first_named (r ∷ procs) n (suc k) q at is = first_if (is_named r) r procs n refl (λ no. first_named procs (suc n) k q at is)

bare_main : (p : Program) (o : Option Signature) → ((s : Signature) → o ≡ Some s → IsProcedure p p.procs (codes "main") s)
    → ((n : ℕ) (proc : Proc) → slice_get p.procs n ≡ Some proc → is_named proc ≡ true → (s : Signature) × (o ≡ Some s) × (s.number ≡ n)) → is_bare o ≡ true
    → is_startable (main_among p.procs) ≡ true
bare_main p None knows all bare = absurd (true≢false (sym bare))
bare_main p (Some s) knows all bare =
    let is = knows s refl in
    let named : is_named is.proc ≡ true = (bytes_eq-Decides is.proc.name (codes "main")).1 (is.named main_is_text) in
    let first = first_named p.procs 0 s.number is.proc is.at named in
    let only = all first.place first.proc first.there first.named in
    let found_is : Some s ≡ Some only.0 = only.1 in
    let same : s ≡ only.0 = cc in
    let number : s.number ≡ first.place = ap (λ (t : Signature). t.number) same ∙ only.2 in
    ap is_startable (ap (nth_of p.procs) first.number ∙ ap (slice_get p.procs) (omega (arith, number)) ∙ is.at) ∙ is.bare bare

-- ---- files

has_invariants : (bytes : List ℕ) (file : File) → (all_listed bytes file.declarations).faults ≡ [] → (resolved bytes file).faults ≡ []
    → HasInvariants (program_of bytes file).invs (given_by bytes file.declarations)
has_invariants bytes file listed none =
    let given = given_by bytes file.declarations in
    let before : (invariants_of bytes file.declarations).faults ≡ [] =
    list_each_grows (listed_procedure bytes) (listed_procedure_grows bytes) file.declarations (nothing_listed (invariants_of bytes file.declarations).faults) listed in
    (invariants_stand (program_of bytes file) given file.declarations (nothing_listed []) (nothing_resolved (all_listed bytes file.declarations).faults)
    (record { many = refl; each = λ name s is. absurd cc }) before none).each

all_stand : (bytes : List ℕ) (file : File) → (all_listed bytes file.declarations).faults ≡ [] → (resolved bytes file).faults ≡ []
    → ProceduresStand (program_of bytes file) (all_listed bytes file.declarations) (resolved bytes file)
all_stand bytes file listed none =
    procedures_stand (program_of bytes file) (given_by bytes file.declarations) (has_invariants bytes file listed none) file.declarations
    (nothing_listed (invariants_of bytes file.declarations).faults) (nothing_resolved (all_listed bytes file.declarations).faults)
    (record { many = refl; all = λ name some n proc at is. absurd cc; each = λ name s is. absurd cc }) listed none

pub resolved_fits : (bytes : List ℕ) (file : File) → faults_of bytes file ≡ [] → IsTrue (is_well_formed (program_of bytes file))
resolved_fits bytes file sound =
    let p = program_of bytes file in
    let given = given_by bytes file.declarations in
    let none : (resolved bytes file).faults ≡ [] = noted_grows (resolved bytes file).faults _ sound in
    let listed : (all_listed bytes file.declarations).faults ≡ [] =
    declare_each_grows p given file.declarations (nothing_resolved (all_listed bytes file.declarations).faults) none in
    let invs = has_invariants bytes file listed none in
    let stand = all_stand bytes file listed none in
    let procs : HasProcedures p given = stand.each in
    let fit = declarations_fit p given invs procs file.declarations (nothing_resolved (all_listed bytes file.declarations).faults) none
    (record { invs = refl; procs = refl }) in
    let keeps = noted_keeps (occurrence.End (end_of bytes) (has_main bytes file)) (resolved bytes file).faults sound in
    let main : has_main bytes file ≡ true = not-false (has_main bytes file) keeps.main in
    and_from _ _ fit.invs (and_from _ _ fit.procs (bare_main p (found (codes "main") given.procedures) (λ s is. procs (codes "main") s is) (stand.all (codes "main") main_not_empty) main))

-- the same of what was made with all faults
pub never_refused : (bytes : List ℕ) (file : File) (made : Resolved) → made ≡ record (resolved bytes file) { faults = faults_of bytes file } → made.faults ≡ []
    → is_well_formed (record { invs = made.invs; procs = made.procs }) ≡ false → ⊥
never_refused bytes file made is none refused =
    let sound : faults_of bytes file ≡ [] = sym (ap (λ (r : Resolved). r.faults) is) ∙ none in
    let same : is_well_formed (record { invs = made.invs; procs = made.procs }) ≡ is_well_formed (program_of bytes file) =
    ap (λ (r : Resolved). is_well_formed (record { invs = r.invs; procs = r.procs })) is in
    true≢false (sym (same ∙ resolved_fits bytes file sound) ∙ refused)
