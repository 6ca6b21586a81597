-- Without faults, the invariant or the procedure of a name stands where its number says, and is as its signature says.
use Rattle.std.proofs.Common.{◌≡◌, ℕ, zero, suc, ◌+◌, Bool, true, false, true≢false, ◌&&◌, ◌||◌, ◌==◌, ◌⊎◌, inl, inr, ⊎_elim, List, [], ◌∷◌, ◌++◌, length, length-append, slice_get, Option, Some, None, is_some, is_none, if◌then◌else◌, refl, ap, sym, ◌∙◌, subst, arith, eq-eqb}
use Rattle.std.proofs.lemmas.Bool.{and_from, and_parts, or_parts}
use Rattle.std.proofs.lemmas.Slice.Eq.{bytes_eq-Decides}
use Rattle.std.specs.Str.{bytes_eq, is_utf8}
use Rattle.fsl_core.specs.declared.assertion.Asrt.TheFolds.{fold-roll-Asrt}
use Rattle.fsl_core.specs.declared.assertion.Asrt.TheOpen.{Asrt-F}
use Rattle.fsl_core.specs.declared.assertion.Asrt.TheVariants.{rolls-Emp}
use Rattle.fsl_core.specs.declared.declaration.Inv.{Inv}
use Rattle.fsl_core.specs.declared.declaration.Proc.{Proc}
use Rattle.fsl_core.specs.Programs.{Program}
use Rattle.fsl_core.specs.Straight.{emp_step, is_emp}
use Rattle.fsl_core.specs.WellFormed.{asrt_fits}
use Rattle.fsl_tree.specs.declared.declaration.Clause.{Clause}
use Rattle.fsl_tree.specs.declared.declaration.Declaration.{Declaration}
use Rattle.fsl_tree.specs.declared.declaration.Declaration.TheVariants as declarations
use Rattle.fsl_tree.specs.declared.declaration.Invariant.{Invariant}
use Rattle.fsl_tree.specs.declared.declaration.Procedure.{Procedure}
use Rattle.fsl_types.specs.declared.fault.Fault.{Fault}
use Rattle.fsl_types.specs.declared.listing.Listing.{Listing}
use Rattle.fsl_types.specs.declared.occurrence.Occurrence.TheVariants as occurrence
use Rattle.fsl_types.specs.declared.resolved.Resolved.{Resolved}
use Rattle.fsl_types.specs.declared.variable.Signature.{Signature}
use Rattle.fsl_types.specs.declared.variable.Sort.TheVariants as sorts
use Rattle.fsl_types.specs.declared.resolver.Resolver.{Resolver}
use Rattle.fsl_types.specs.Assertions.{clause, has_modality}
use Rattle.fsl_types.specs.Given.{Given}
use Rattle.fsl_types.specs.Names.{Signatures, found, text_at, with_name}
use Rattle.fsl_types.specs.Programs.{banks_among, declaration, declare_each, in_ensures, in_requires, invariant, invariant_signature, list_each, listed_invariant, listed_procedure, procedure, procedure_signature}
use Rattle.fsl_types.specs.Resolvers.{declared}
use Rattle.fsl_types.proofs.AssertionsLemmas.{HasInvariants, IsInvariant, clause_fits}
use Rattle.fsl_types.proofs.StatementsLemmas.{IsProcedure}
use Rattle.fsl_types.proofs.ExpressionsLemmas.{noted_keeps}
use Rattle.fsl_types.proofs.ResolverLemmas.{next_number}
use Rattle.fsl_types.proofs.ScopedDeclarations.{procedure_agrees}
use Rattle.fsl_types.proofs.TableLemmas.{found_either, found_kept, found_new}
use Rattle.fsl_types.proofs.DeclarationsLemmas.{contract_known, declare_each_grows, invariant_known, known, known_slots, list_each_grows, listed_invariant_grows, listed_procedure_grows, parts_long, pre_known, procedure_known}

-- ---- places

stands_before : {X : Type 0} (xs ys : List X) (n : ℕ) (x : X) → slice_get xs n ≡ Some x → slice_get (xs ++ ys) n ≡ Some x
stands_before [] ys n x is = absurd cc
stands_before (y ∷ xs) ys zero x is = is
stands_before (y ∷ xs) ys (suc n) x is = stands_before xs ys n x is

stands_last : {X : Type 0} (xs : List X) (x : X) → slice_get (xs ++ x ∷ []) (length xs) ≡ Some x
stands_last [] x = refl
stands_last (y ∷ xs) x = stands_last xs x

one_longer : {X : Type 0} (xs : List X) (x : X) (count next : ℕ) → count ≡ length xs → next ≡ count + 1 → next ≡ length (xs ++ x ∷ [])
one_longer xs x count next many more = let long = length-append xs (x ∷ []) in omega (arith, many, more, long)

named_text : (name text : List ℕ) → name ≡ text → is_utf8 name ≡ true → (if is_utf8 text then text else []) ≡ name
named_text name text same utf8 = ap (λ (b : Bool). if b then text else []) (ap is_utf8 (sym same) ∙ utf8) ∙ sym same

-- what stands in a list with one more stood there before, or is the last
stands_either : {X : Type 0} (xs : List X) (x : X) (n : ℕ) (y : X) → slice_get (xs ++ x ∷ []) n ≡ Some y → (slice_get xs n ≡ Some y) ⊎ ((n ≡ length xs) × (x ≡ y))
stands_either [] x zero y is = inr (refl, cc)
stands_either [] x (suc n) y is = absurd cc
stands_either (z ∷ xs) x zero y is = inl is
stands_either (z ∷ xs) x (suc n) y is = ⊎_elim (λ before. inl before) (λ last. inr (ap suc last.0, last.1)) (stands_either xs x n y is)

named_if : (b : Bool) (name text : List ℕ) → (name ≡ [] → ⊥) → bytes_eq (if b then text else []) name ≡ true → bytes_eq name text ≡ true
named_if true name text some is = (bytes_eq-Decides name text).1 (sym ((bytes_eq-Decides text name).0 is))
named_if false name text some is = absurd (some (sym ((bytes_eq-Decides [] name).0 is)))

-- ---- invariants

pub record InvariantsStand (listing : Listing) (so_far : Resolved) : Type 0 where
  pub many : listing.count ≡ length so_far.invs
  pub each : (name : List ℕ) (s : Signature) → found name listing.names ≡ Some s → IsInvariant so_far.invs s

invariant_before : (invs : List Inv) (inv : Inv) (s : Signature) → IsInvariant invs s → IsInvariant (invs ++ inv ∷ []) s
invariant_before invs inv s is = record { inv = is.inv; at = stands_before invs (inv ∷ []) s.number is.inv is.at; params = is.params; parts = is.parts }

invariant_made : (p : Program) (given : Given) (i : Invariant) (faults : List Fault) (invs : List Inv) (count : ℕ) → count ≡ length invs
    → (invariant given i faults).resolver.faults ≡ [] → IsInvariant (invs ++ (invariant given i faults).made ∷ []) (invariant_signature count i)
invariant_made p given i faults invs count many none = record {
  inv = (invariant given i faults).made;
  at = ap (slice_get (invs ++ (invariant given i faults).made ∷ [])) many ∙ stands_last invs (invariant given i faults).made;
  params = known_slots given i.parameters faults (invariant_known p given i faults none);
  parts =
      let long = parts_long given 0 (i.first ∷ i.more) (declared 256 given.bytes i.value sorts.Local (known given i.parameters faults)) in omega (arith, long);
}

invariant_listed : (p : Program) (given : Given) (d : Declaration) (listing : Listing) (so_far : Resolved) → InvariantsStand listing so_far
    → (listed_invariant given.bytes d listing).faults ≡ [] → (declaration given d so_far).faults ≡ []
    → InvariantsStand (listed_invariant given.bytes d listing) (declaration given d so_far)
invariant_listed p given (declarations.Invariant i) listing so_far stand listed none =
    let made = (invariant given i so_far.faults).made in
    let keeps = noted_keeps (occurrence.Declared i.name (is_some (found (text_at given.bytes i.name) listing.names)) listing.count 4096) listing.faults listed in
    record {
      many = one_longer so_far.invs made listing.count _ stand.many (next_number 4096 4096 listing.count keeps.counted (omega arith));
      each = λ name s is. ⊎_elim (λ before. invariant_before so_far.invs made s (stand.each name s before))
          (λ new. subst (IsInvariant (so_far.invs ++ made ∷ [])) new.1 (invariant_made p given i so_far.faults so_far.invs listing.count stand.many none))
          (found_either name (text_at given.bytes i.name) (invariant_signature listing.count i) s listing.names is);
    }
invariant_listed p given (declarations.Predicate pred) listing so_far stand listed none = stand
invariant_listed p given (declarations.Procedure q) listing so_far stand listed none = record { many = stand.many; each = stand.each }

pub invariants_stand : (p : Program) (given : Given) (ds : List Declaration) (listing : Listing) (so_far : Resolved) → InvariantsStand listing so_far
    → (list_each (listed_invariant given.bytes) ds listing).faults ≡ [] → (declare_each given ds so_far).faults ≡ []
    → InvariantsStand (list_each (listed_invariant given.bytes) ds listing) (declare_each given ds so_far)
invariants_stand p given [] listing so_far stand listed none = stand
invariants_stand p given (d ∷ ds) listing so_far stand listed none =
    invariants_stand p given ds (listed_invariant given.bytes d listing) (declaration given d so_far)
    (invariant_listed p given d listing so_far stand
    (list_each_grows (listed_invariant given.bytes) (listed_invariant_grows given.bytes) ds (listed_invariant given.bytes d listing) listed)
    (declare_each_grows p given ds (declaration given d so_far) none)) listed none

-- ---- procedures

-- what has this name is found by it
abbrev pub IsListed : Signatures → List Proc → List ℕ → Type 0
IsListed names procs name = (n : ℕ) (proc : Proc) → slice_get procs n ≡ Some proc → bytes_eq proc.name name ≡ true → (s : Signature) × (found name names ≡ Some s) × (s.number ≡ n)

pub record ProceduresStand (p : Program) (listing : Listing) (so_far : Resolved) : Type 0 where
  pub many : listing.count ≡ length so_far.procs
  pub all : (name : List ℕ) → (name ≡ [] → ⊥) → IsListed listing.names so_far.procs name
  pub each : (name : List ℕ) (s : Signature) → found name listing.names ≡ Some s → IsProcedure p so_far.procs name s

procedure_before : (p : Program) (procs : List Proc) (proc : Proc) (name : List ℕ) (s : Signature) → IsProcedure p procs name s → IsProcedure p (procs ++ proc ∷ []) name s
procedure_before p procs proc name s is = record {
  proc = is.proc;
  at = stands_before procs (proc ∷ []) s.number is.proc is.at;
  named = is.named;
  params = is.params;
  plain = is.plain;
  bare = is.bare;
  agree = is.agree;
}

absent : {X : Type 0} (o : Option X) → is_none o ≡ true → o ≡ None
absent None is = refl
absent (Some x) is = absurd (true≢false (sym is))

no_clause : (given : Given) (c : Option Clause) (resolver : Resolver) → is_none c ≡ true → is_emp (clause given c in_requires resolver).made ≡ true
no_clause given None resolver is = ap is_emp (sym rolls-Emp) ∙ fold-roll-Asrt Bool emp_step Asrt-F.Emp
no_clause given (Some c) resolver is = absurd (true≢false (sym is))

no_modality : (modal may flag : Bool) → modal ≡ false → modal ≡ true → may ≡ flag
no_modality modal may flag none is = absurd (true≢false (sym is ∙ none))

contract_plain : (p : Program) (given : Given) (q : Procedure) (faults : List Fault) → HasInvariants p.invs given → (procedure given q faults).resolver.faults ≡ []
    → (has_modality q.requires_clause || has_modality q.ensures_clause) ≡ false
    → (asrt_fits p.invs (procedure given q faults).made.pre false && asrt_fits p.invs (procedure given q faults).made.post false) ≡ true
contract_plain p given q faults invs none plain =
    let neither = or_parts (has_modality q.requires_clause) (has_modality q.ensures_clause) plain in
    and_from _ _
    ((clause_fits p.invs given q.requires_clause).fits invs in_requires _ false (no_modality _ _ _ neither.0) (pre_known p given q faults none))
    ((clause_fits p.invs given q.ensures_clause).fits invs in_ensures _ false (no_modality _ _ _ neither.1) (contract_known p given q faults none))

procedure_bare : (p : Program) (given : Given) (q : Procedure) (faults : List Fault) → (procedure given q faults).resolver.faults ≡ []
    → (is_none q.parameters && is_none q.requires_clause) ≡ true
    → ((procedure given q faults).made.params == 0 && is_emp (procedure given q faults).made.pre) ≡ true
procedure_bare p given q faults none bare =
    let both = and_parts (is_none q.parameters) (is_none q.requires_clause) bare in
    let few : length (banks_among q.parameters) ≡ 0 = ap (λ ps. length (banks_among ps)) (absent q.parameters both.0) in
    and_from _ _ (eq-eqb _ 0 (known_slots given q.parameters faults (procedure_known p given q faults none) ∙ few)) (no_clause given q.requires_clause _ both.1)

procedure_made : (p : Program) (given : Given) (q : Procedure) (faults : List Fault) (procs : List Proc) (count : ℕ) (name : List ℕ) → HasInvariants p.invs given
    → count ≡ length procs → (procedure given q faults).resolver.faults ≡ [] → bytes_eq name (text_at given.bytes q.name) ≡ true
    → IsProcedure p (procs ++ (procedure given q faults).made ∷ []) name (procedure_signature count q)
procedure_made p given q faults procs count name invs many none same = record {
  proc = (procedure given q faults).made;
  at = ap (slice_get (procs ++ (procedure given q faults).made ∷ [])) many ∙ stands_last procs (procedure given q faults).made;
  named = named_text name (text_at given.bytes q.name) ((bytes_eq-Decides name (text_at given.bytes q.name)).0 same);
  params = known_slots given q.parameters faults (procedure_known p given q faults none);
  plain = contract_plain p given q faults invs none;
  bare = procedure_bare p given q faults none;
  agree = procedure_agrees given q faults none;
}

-- a procedure's name is the text that it is declared by, if it isn't empty
named_so : (name text : List ℕ) → (name ≡ [] → ⊥) → bytes_eq (if is_utf8 text then text else []) name ≡ true → bytes_eq name text ≡ true
named_so name text some is = named_if (is_utf8 text) name text some is

one_more_listed : (name key : List ℕ) (v : Signature) (names : Signatures) (procs : List Proc) (made : Proc) → v.number ≡ length procs → is_some (found key names) ≡ false
    → (bytes_eq made.name name ≡ true → bytes_eq name key ≡ true) → IsListed names procs name → IsListed (with_name key v names) (procs ++ made ∷ []) name
one_more_listed name key v names procs made many new named all n proc at is =
    ⊎_elim
    (λ before. let old = all n proc before is in (old.0, found_kept name key v old.0 names old.1, old.2))
    (λ last. (v, found_new name key v names new (named (ap (λ (q : Proc). bytes_eq q.name name) last.1 ∙ is)), many ∙ sym last.0))
    (stands_either procs made n proc at)

procedure_listed : (p : Program) (given : Given) → HasInvariants p.invs given → (d : Declaration) (listing : Listing) (so_far : Resolved)
    → ProceduresStand p listing so_far → (listed_procedure given.bytes d listing).faults ≡ [] → (declaration given d so_far).faults ≡ []
    → ProceduresStand p (listed_procedure given.bytes d listing) (declaration given d so_far)
procedure_listed p given invs (declarations.Invariant i) listing so_far stand listed none = record { many = stand.many; all = stand.all; each = stand.each }
procedure_listed p given invs (declarations.Predicate pred) listing so_far stand listed none = stand
procedure_listed p given invs (declarations.Procedure q) listing so_far stand listed none =
    let made = (procedure given q so_far.faults).made in
    let keeps = noted_keeps (occurrence.Declared q.name (is_some (found (text_at given.bytes q.name) listing.names)) listing.count 4096) listing.faults listed in
    record {
      many = one_longer so_far.procs made listing.count _ stand.many (next_number 4096 4096 listing.count keeps.counted (omega arith));
      all = λ name some.
          one_more_listed name (text_at given.bytes q.name) (procedure_signature listing.count q) listing.names so_far.procs made stand.many keeps.once
          (named_so name (text_at given.bytes q.name) some) (stand.all name some);
      each = λ name s is. ⊎_elim (λ before. procedure_before p so_far.procs made name s (stand.each name s before))
          (λ new. subst (IsProcedure p (so_far.procs ++ made ∷ []) name) new.1
          (procedure_made p given q so_far.faults so_far.procs listing.count name invs stand.many none new.0))
          (found_either name (text_at given.bytes q.name) (procedure_signature listing.count q) s listing.names is);
    }

pub procedures_stand : (p : Program) (given : Given) → HasInvariants p.invs given → (ds : List Declaration) (listing : Listing) (so_far : Resolved)
    → ProceduresStand p listing so_far → (list_each (listed_procedure given.bytes) ds listing).faults ≡ [] → (declare_each given ds so_far).faults ≡ []
    → ProceduresStand p (list_each (listed_procedure given.bytes) ds listing) (declare_each given ds so_far)
procedures_stand p given invs [] listing so_far stand listed none = stand
procedures_stand p given invs (d ∷ ds) listing so_far stand listed none =
    procedures_stand p given invs ds (listed_procedure given.bytes d listing) (declaration given d so_far)
    (procedure_listed p given invs d listing so_far stand
    (list_each_grows (listed_procedure given.bytes) (listed_procedure_grows given.bytes) ds (listed_procedure given.bytes d listing) listed)
    (declare_each_grows p given ds (declaration given d so_far) none)) listed none
