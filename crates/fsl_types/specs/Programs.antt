-- The program of a file's tree, and the faults of the tree. Slots are numbered in the order of the declarations: in a
-- procedure the parameters, the binders of its contract and then its body, in an invariant the parameters, the value
-- and the binders. Where there are faults, what is made of the tree has no meaning.
use Rattle.std.specs.Prelude.{◌≡◌, ℕ, Bool, true, false, ◌&&◌, ◌||◌, List, [], ◌∷◌, ◌++◌, Option, Some, None, codes, length, map, if◌then◌else◌}
use Rattle.std.specs.Option.{is_some, is_none}
use Rattle.std.specs.Str.{is_utf8}
use Rattle.fsl_base.specs.declared.span.Span.{Span}
use Rattle.fsl_core.specs.declared.assertion.Asrt.{Asrt}
use Rattle.fsl_core.specs.declared.declaration.Inv.{Inv}
use Rattle.fsl_core.specs.declared.declaration.Proc.{Proc}
use Rattle.fsl_core.specs.Programs.{Program}
use Rattle.fsl_tree.specs.declared.declaration.Declaration.{Declaration}
use Rattle.fsl_tree.specs.declared.declaration.Declaration.TheVariants as declarations
use Rattle.fsl_tree.specs.declared.declaration.Invariant.{Invariant}
use Rattle.fsl_tree.specs.declared.declaration.NextParameter.{NextParameter}
use Rattle.fsl_tree.specs.declared.declaration.Parameter.{Parameter}
use Rattle.fsl_tree.specs.declared.declaration.Parameters.{Parameters}
use Rattle.fsl_tree.specs.declared.declaration.Part.{Part}
use Rattle.fsl_tree.specs.declared.declaration.Procedure.{Procedure}
use Rattle.fsl_tree.specs.declared.file.File.{File}
use Rattle.fsl_types.specs.declared.declarations.Contract.{Contract}
use Rattle.fsl_types.specs.declared.fault.Fault.{Fault}
use Rattle.fsl_types.specs.declared.fault.TypeFault.{TypeFault}
use Rattle.fsl_types.specs.declared.fault.TypeFault.TheVariants as type_fault
use Rattle.fsl_types.specs.declared.given.Setting.{Setting}
use Rattle.fsl_types.specs.declared.listing.Listing.{Listing}
use Rattle.fsl_types.specs.declared.occurrence.Occurrence.TheVariants as occurrence
use Rattle.fsl_types.specs.declared.resolved.Resolved.{Resolved}
use Rattle.fsl_types.specs.declared.variable.Signature.{Signature}
use Rattle.fsl_types.specs.declared.variable.Sort.{Sort}
use Rattle.fsl_types.specs.declared.variable.Sort.TheVariants as sorts
use Rattle.fsl_types.specs.declared.resolver.Resolver.{Resolver}
use Rattle.fsl_types.specs.Assertions.{apart, assertion, clause, has_modality}
use Rattle.fsl_types.specs.Faults.{fault_at, least_fault}
use Rattle.fsl_types.specs.Given.{Given}
use Rattle.fsl_types.specs.Names.{found, text_at, with_name}
use Rattle.fsl_types.specs.Statements.{block}
use Rattle.fsl_types.specs.Resolvers.{Made, declared, fresh, judging, leaving, noted, one_more}

-- ---- invariants and procedures by name

abbrev pub next_parameter : NextParameter → Parameter
next_parameter next = next.parameter

abbrev pub parameters_of : Option Parameters → List Parameter
parameters_of None = []
parameters_of (Some ps) = ps.first ∷ map next_parameter ps.more

abbrev pub is_bank : Parameter → Bool
is_bank p = is_some p.bank

abbrev pub banks_among : Option Parameters → List Bool
banks_among ps = map is_bank (parameters_of ps)

abbrev pub invariant_signature : ℕ → Invariant → Signature
invariant_signature number i =
    record { number = number; banks = banks_among i.parameters; last_part = length i.more; modal = false; bare = false }

abbrev pub procedure_signature : ℕ → Procedure → Signature
procedure_signature number p = record {
  number = number;
  banks = banks_among p.parameters;
  last_part = 0;
  modal = has_modality p.requires_clause || has_modality p.ensures_clause;
  bare = is_none p.parameters && is_none p.requires_clause;
}

-- of several of one name a use means the first
abbrev pub with_signature : List ℕ → Span → Signature → Listing → Listing
with_signature bytes name signature listing = record {
  names = with_name (text_at bytes name) signature listing.names;
  count = one_more 4096 listing.count;
  faults = noted (occurrence.Declared name (is_some (found (text_at bytes name) listing.names)) listing.count 4096) listing.faults;
}

abbrev pub listed_invariant : List ℕ → Declaration → Listing → Listing
listed_invariant bytes (declarations.Invariant i) listing = with_signature bytes i.name (invariant_signature listing.count i) listing
listed_invariant bytes _ listing = listing

abbrev pub listed_procedure : List ℕ → Declaration → Listing → Listing
listed_procedure bytes (declarations.Procedure p) listing = with_signature bytes p.name (procedure_signature listing.count p) listing
listed_procedure bytes _ listing = listing

abbrev pub list_each : (Declaration → Listing → Listing) → List Declaration → Listing → Listing
list_each lists [] listing = listing
list_each lists (d ∷ ds) listing = list_each lists ds (lists d listing)

abbrev pub nothing_listed : List Fault → Listing
nothing_listed faults = record { names = []; count = 0; faults = faults }

abbrev pub invariants_of : List ℕ → List Declaration → Listing
invariants_of bytes ds = list_each (listed_invariant bytes) ds (nothing_listed [])

abbrev pub procedures_of : List ℕ → List Declaration → List Fault → Listing
procedures_of bytes ds faults = list_each (listed_procedure bytes) ds (nothing_listed faults)

-- the procedures, and the faults of all names
abbrev pub all_listed : List ℕ → List Declaration → Listing
all_listed bytes ds = procedures_of bytes ds (invariants_of bytes ds).faults

abbrev pub given_by : List ℕ → List Declaration → Given
given_by bytes ds = record { bytes = bytes; invariants = (invariants_of bytes ds).names; procedures = (all_listed bytes ds).names }

-- ---- parameters and parts

abbrev pub parameter_sort : Option Span → Sort
parameter_sort None = sorts.Parameter
parameter_sort (Some word) = sorts.Bank

abbrev pub with_parameter : List ℕ → Parameter → Resolver → Resolver
with_parameter bytes p resolver = declared 16 bytes p.name (parameter_sort p.bank) resolver

abbrev pub with_parameters : List ℕ → List Parameter → Resolver → Resolver
with_parameters bytes [] resolver = resolver
with_parameters bytes (p ∷ ps) resolver = with_parameters bytes ps (with_parameter bytes p resolver)

abbrev pub in_invariant : Setting
in_invariant = record { in_ensures = false; modal = false }

abbrev pub in_requires : Setting
in_requires = record { in_ensures = false; modal = true }

abbrev pub in_ensures : Setting
in_ensures = record { in_ensures = true; modal = true }

abbrev pub part : Given → ℕ → Part → Resolver → Made Asrt
part given before p resolver = apart (assertion given p.assertion) in_invariant (judging (noted (occurrence.Part p.open before)) resolver)

abbrev pub parts : Given → ℕ → List Part → Resolver → Made (List Asrt)
parts given before [] resolver = record { made = []; resolver = resolver }
parts given before (p ∷ ps) resolver =
    let first = part given before p resolver in
    let others = parts given (one_more 8 before) ps first.resolver in
    record { made = first.made ∷ others.made; resolver = others.resolver }

-- ---- invariants and procedures

-- a name, which is text
abbrev pub name_at : List ℕ → Span → List ℕ
name_at bytes name = if is_utf8 (text_at bytes name) then text_at bytes name else []

abbrev pub invariant : Given → Invariant → List Fault → Made Inv
invariant given i faults =
    let known = with_parameters given.bytes (parameters_of i.parameters) (fresh faults) in
    let read = parts given 0 (i.first ∷ i.more) (declared 256 given.bytes i.value sorts.Local known) in
    record { made = record { name = name_at given.bytes i.name; params = known.slots; slots = read.resolver.slots; parts = read.made }; resolver = read.resolver }

-- the contract of a procedure, whose binders end with it
abbrev pub contract : Given → Procedure → Resolver → Made Contract
contract given p resolver =
    let pre = clause given p.requires_clause in_requires resolver in
    let post = clause given p.ensures_clause in_ensures pre.resolver in
    record { made = record { pre = pre.made; post = post.made }; resolver = leaving (length resolver.names) post.resolver }

abbrev pub procedure : Given → Procedure → List Fault → Made Proc
procedure given p faults =
    let known = with_parameters given.bytes (parameters_of p.parameters) (fresh faults) in
    let agreed = contract given p known in
    let body = (block given p.body).runs false agreed.resolver in
    record {
      made = record {
        name = name_at given.bytes p.name;
        params = known.slots;
        slots = body.resolver.slots;
        banks = body.resolver.banks;
        pre = agreed.made.pre;
        post = agreed.made.post;
        body = body.made;
        last = p.body.close;
      };
      resolver = body.resolver;
    }

-- ---- files

abbrev pub declaration : Given → Declaration → Resolved → Resolved
declaration given (declarations.Invariant i) so_far =
    let read = invariant given i so_far.faults in record so_far { invs = so_far.invs ++ read.made ∷ []; faults = read.resolver.faults }
declaration given (declarations.Predicate p) so_far = so_far
declaration given (declarations.Procedure p) so_far =
    let read = procedure given p so_far.faults in record so_far { procs = so_far.procs ++ read.made ∷ []; faults = read.resolver.faults }

abbrev pub declare_each : Given → List Declaration → Resolved → Resolved
declare_each given [] so_far = so_far
declare_each given (d ∷ ds) so_far = declare_each given ds (declaration given d so_far)

abbrev pub nothing_resolved : List Fault → Resolved
nothing_resolved faults = record { invs = []; procs = []; faults = faults }

abbrev pub is_bare : Option Signature → Bool
is_bare None = false
is_bare (Some signature) = signature.bare

abbrev pub end_of : List ℕ → Span
end_of bytes = record { from = length bytes; to = length bytes }

abbrev pub resolved : List ℕ → File → Resolved
resolved bytes file =
    declare_each (given_by bytes file.declarations) file.declarations (nothing_resolved (all_listed bytes file.declarations).faults)

-- whether there is a `main` without parameters and `requires`
abbrev pub has_main : List ℕ → File → Bool
has_main bytes file = is_bare (found (codes "main") (all_listed bytes file.declarations).names)

-- all faults of a tree
abbrev pub faults_of : List ℕ → File → List Fault
faults_of bytes file = noted (occurrence.End (end_of bytes) (has_main bytes file)) (resolved bytes file).faults

-- the program of a tree without faults
abbrev pub program_of : List ℕ → File → Program
program_of bytes file = record { invs = (resolved bytes file).invs; procs = (resolved bytes file).procs }

-- the first fault of a tree by place and kind; want of memory says nothing
abbrev pub IsFirstFault : List ℕ → File → TypeFault → Type 0
IsFirstFault bytes file (type_fault.Fault what place) = least_fault (faults_of bytes file) ≡ Some (fault_at place what)
IsFirstFault bytes file type_fault.NoMemory = Unit {0}
