-- The faults of declarations and of lists of names only grow, and without faults there are as many slots and parts as
-- were written.
use Rattle.std.proofs.Common.{◌≡◌, ℕ, suc, ◌+◌, false, List, [], ◌∷◌, length, is_some, Option, refl, ap, arith}
use Rattle.std.proofs.lemmas.List.{length-map}
use Rattle.fsl_core.specs.Programs.{Program}
use Rattle.fsl_tree.specs.declared.declaration.Declaration.{Declaration}
use Rattle.fsl_tree.specs.declared.declaration.Declaration.TheVariants as declarations
use Rattle.fsl_tree.specs.declared.declaration.Invariant.{Invariant}
use Rattle.fsl_tree.specs.declared.declaration.Parameter.{Parameter}
use Rattle.fsl_tree.specs.declared.declaration.Parameters.{Parameters}
use Rattle.fsl_tree.specs.declared.declaration.Part.{Part}
use Rattle.fsl_tree.specs.declared.declaration.Procedure.{Procedure}
use Rattle.fsl_types.specs.declared.fault.Fault.{Fault}
use Rattle.fsl_types.specs.declared.listing.Listing.{Listing}
use Rattle.fsl_types.specs.declared.occurrence.Occurrence.TheVariants as occurrence
use Rattle.fsl_types.specs.declared.resolved.Resolved.{Resolved}
use Rattle.fsl_types.specs.declared.variable.Sort.TheVariants as sorts
use Rattle.fsl_types.specs.declared.resolver.Resolver.{Resolver}
use Rattle.fsl_types.specs.Assertions.{clause}
use Rattle.fsl_types.specs.Given.{Given}
use Rattle.fsl_types.specs.Names.{found, text_at}
use Rattle.fsl_types.specs.Programs.{banks_among, contract, declaration, declare_each, in_ensures, in_invariant, in_requires, invariant, is_bank, list_each, listed_invariant, listed_procedure, parameters_of, parts, procedure, with_parameter, with_parameters}
use Rattle.fsl_types.specs.Resolvers.{declared, fresh, one_more}
use Rattle.fsl_types.proofs.AssertionsLemmas.{assertion_fits, clause_fits}
use Rattle.fsl_types.proofs.StatementsLemmas.{block_fits}
use Rattle.fsl_types.proofs.ExpressionsLemmas.{noted_grows, noted_keeps}
use Rattle.fsl_types.proofs.ResolverLemmas.{next_number}

-- ---- parameters

pub parameters_grow : (bytes : List ℕ) (ps : List Parameter) (resolver : Resolver) → (with_parameters bytes ps resolver).faults ≡ [] → resolver.faults ≡ []
parameters_grow bytes [] resolver none = none
parameters_grow bytes (p ∷ ps) resolver none = noted_grows resolver.faults _ (parameters_grow bytes ps (with_parameter bytes p resolver) none)

counted_next : (before one many n : ℕ) → many ≡ one + n → one ≡ before + 1 → many ≡ before + suc n
counted_next before one many n all first = omega (arith, all, first)

counted : (bytes : List ℕ) (ps : List Parameter) (resolver : Resolver) → (with_parameters bytes ps resolver).faults ≡ [] → (with_parameters bytes ps resolver).slots ≡ resolver.slots + length ps
counted bytes [] resolver none = omega arith
counted bytes (p ∷ ps) resolver none =
    let keeps = noted_keeps (occurrence.Declared p.name (is_some (found (text_at bytes p.name) resolver.names)) resolver.slots 16) resolver.faults (parameters_grow bytes ps (with_parameter bytes p resolver) none) in
    counted_next resolver.slots (with_parameter bytes p resolver).slots _ (length ps) (counted bytes ps (with_parameter bytes p resolver) none)
    (next_number 16 256 resolver.slots keeps.counted (omega arith))

-- what is known behind parameters
abbrev pub known : Given → Option Parameters → List Fault → Resolver
known given ps faults = with_parameters given.bytes (parameters_of ps) (fresh faults)

pub known_slots : (given : Given) (ps : Option Parameters) (faults : List Fault) → (known given ps faults).faults ≡ [] → (known given ps faults).slots ≡ length (banks_among ps)
known_slots given ps faults none =
    let long : length (banks_among ps) ≡ length (parameters_of ps) = length-map (parameters_of ps) is_bank in
    let slots : (known given ps faults).slots ≡ 0 + length (parameters_of ps) = counted given.bytes (parameters_of ps) (fresh faults) none in
    omega (arith, long, slots)

-- ---- parts and contracts

pub parts_grow : (p : Program) (given : Given) (before : ℕ) (ps : List Part) (resolver : Resolver) → (parts given before ps resolver).resolver.faults ≡ [] → resolver.faults ≡ []
parts_grow p given before [] resolver none = none
parts_grow p given before (q ∷ qs) resolver none =
    noted_grows resolver.faults _ ((assertion_fits p.invs given q.assertion).grows in_invariant _ (parts_grow p given (one_more 8 before) qs _ none))

pub parts_long : (given : Given) (before : ℕ) (ps : List Part) (resolver : Resolver) → length (parts given before ps resolver).made ≡ length ps
parts_long given before [] resolver = refl
parts_long given before (q ∷ qs) resolver = ap suc (parts_long given (one_more 8 before) qs _)

pub value_known : (p : Program) (given : Given) (i : Invariant) (faults : List Fault) → (invariant given i faults).resolver.faults ≡ []
    → (declared 256 given.bytes i.value sorts.Local (known given i.parameters faults)).faults ≡ []
value_known p given i faults none = parts_grow p given 0 (i.first ∷ i.more) _ none

pub invariant_known : (p : Program) (given : Given) (i : Invariant) (faults : List Fault) → (invariant given i faults).resolver.faults ≡ []
    → (known given i.parameters faults).faults ≡ []
invariant_known p given i faults none = noted_grows _ _ (value_known p given i faults none)

pub contract_known : (p : Program) (given : Given) (q : Procedure) (faults : List Fault) → (procedure given q faults).resolver.faults ≡ []
    → (contract given q (known given q.parameters faults)).resolver.faults ≡ []
contract_known p given q faults none = (block_fits p given q.body).grows false _ none

pub pre_known : (p : Program) (given : Given) (q : Procedure) (faults : List Fault) → (procedure given q faults).resolver.faults ≡ []
    → (clause given q.requires_clause in_requires (known given q.parameters faults)).resolver.faults ≡ []
pre_known p given q faults none = (clause_fits p.invs given q.ensures_clause).grows in_ensures _ (contract_known p given q faults none)

pub procedure_known : (p : Program) (given : Given) (q : Procedure) (faults : List Fault) → (procedure given q faults).resolver.faults ≡ []
    → (known given q.parameters faults).faults ≡ []
procedure_known p given q faults none = (clause_fits p.invs given q.requires_clause).grows in_requires _ (pre_known p given q faults none)

-- ---- files

declaration_grows : (p : Program) (given : Given) (d : Declaration) (so_far : Resolved) → (declaration given d so_far).faults ≡ [] → so_far.faults ≡ []
declaration_grows p given (declarations.Invariant i) so_far none = parameters_grow given.bytes (parameters_of i.parameters) _ (invariant_known p given i so_far.faults none)
declaration_grows p given (declarations.Predicate pred) so_far none = none
declaration_grows p given (declarations.Procedure q) so_far none = parameters_grow given.bytes (parameters_of q.parameters) _ (procedure_known p given q so_far.faults none)

pub declare_each_grows : (p : Program) (given : Given) (ds : List Declaration) (so_far : Resolved) → (declare_each given ds so_far).faults ≡ [] → so_far.faults ≡ []
declare_each_grows p given [] so_far none = none
declare_each_grows p given (d ∷ ds) so_far none = declaration_grows p given d so_far (declare_each_grows p given ds (declaration given d so_far) none)

pub listed_invariant_grows : (bytes : List ℕ) (d : Declaration) (listing : Listing) → (listed_invariant bytes d listing).faults ≡ [] → listing.faults ≡ []
listed_invariant_grows bytes (declarations.Invariant i) listing none = noted_grows listing.faults _ none
listed_invariant_grows bytes (declarations.Predicate pred) listing none = none
listed_invariant_grows bytes (declarations.Procedure q) listing none = none

pub listed_procedure_grows : (bytes : List ℕ) (d : Declaration) (listing : Listing) → (listed_procedure bytes d listing).faults ≡ [] → listing.faults ≡ []
listed_procedure_grows bytes (declarations.Invariant i) listing none = none
listed_procedure_grows bytes (declarations.Predicate pred) listing none = none
listed_procedure_grows bytes (declarations.Procedure q) listing none = noted_grows listing.faults _ none

pub list_each_grows : (lists : Declaration → Listing → Listing) → ((d : Declaration) (listing : Listing) → (lists d listing).faults ≡ [] → listing.faults ≡ [])
    → (ds : List Declaration) (listing : Listing) → (list_each lists ds listing).faults ≡ [] → listing.faults ≡ []
list_each_grows lists grow [] listing none = none
list_each_grows lists grow (d ∷ ds) listing none = grow d listing (list_each_grows lists grow ds (lists d listing) none)
