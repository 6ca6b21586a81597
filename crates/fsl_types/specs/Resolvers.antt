-- What is known while a tree is read: the names that are visible, the slots that are taken, the banks among them, and
-- the faults so far.
use Rattle.std.specs.Prelude.{ℕ, ◌+◌, List, [], ◌∷◌, ◌++◌, nat_lt, take, if◌then◌else◌}
use Rattle.std.specs.Option.{is_some}
use Rattle.fsl_base.specs.declared.span.Span.{Span}
use Rattle.fsl_types.specs.declared.fault.Fault.{Fault}
use Rattle.fsl_types.specs.declared.occurrence.Occurrence.{Occurrence}
use Rattle.fsl_types.specs.declared.occurrence.Occurrence.TheVariants as occurrence
use Rattle.fsl_types.specs.declared.variable.Sort.{Sort}
use Rattle.fsl_types.specs.declared.variable.Sort.TheVariants as sorts
use Rattle.fsl_types.specs.declared.resolver.Resolver.{Resolver}
use Rattle.fsl_types.specs.Faults.{faults_at}
use Rattle.fsl_types.specs.Names.{found, text_at, with_name}

-- one more, up to a limit: where it is reached, what comes behind it is at fault
abbrev pub one_more : ℕ → ℕ → ℕ
one_more limit n = if nat_lt n limit then n + 1 else limit

-- the faults so far, and those of something
abbrev pub noted : Occurrence → List Fault → List Fault
noted o faults = faults ++ faults_at o

-- where nothing is declared
abbrev pub fresh : List Fault → Resolver
fresh faults = record { names = []; slots = 0; banks = []; faults = faults }

abbrev pub with_bank : Sort → ℕ → List ℕ → List ℕ
with_bank sorts.Bank slot banks = banks ++ slot ∷ []
with_bank _ slot banks = banks

-- a variable takes the next slot; a name that is visible already keeps its meaning
abbrev pub declared : ℕ → List ℕ → Span → Sort → Resolver → Resolver
declared limit bytes name sort resolver = record {
  names = with_name (text_at bytes name) (record { slot = resolver.slots; sort = sort }) resolver.names;
  slots = one_more 256 resolver.slots;
  banks = with_bank sort resolver.slots resolver.banks;
  faults = noted (occurrence.Declared name (is_some (found (text_at bytes name) resolver.names)) resolver.slots limit) resolver.faults;
}

-- at the end of a block the names that were declared in it go
abbrev pub leaving : ℕ → Resolver → Resolver
leaving outside resolver = record resolver { names = take outside resolver.names }

-- the faults of a part that declares nothing
abbrev pub judging : (List Fault → List Fault) → Resolver → Resolver
judging judged resolver = record resolver { faults = judged resolver.faults }

-- something that is made of a part of the tree, and what is known behind that part
pub record Made (A : Type 0) : Type 0 where
  pub made : A
  pub resolver : Resolver
