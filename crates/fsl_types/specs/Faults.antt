-- The rules of names and types: which kinds of faults something in a tree has, and which fault of a tree is named.
use Rattle.std.specs.Prelude.{ℕ, Bool, true, false, ◌&&◌, ◌||◌, not, List, [], ◌∷◌, Option, Some, None, nat_lt, nat_le, map, filter, ◌==◌, if◌then◌else◌}
use Rattle.fsl_base.specs.declared.span.Span.{Span}
use Rattle.fsl_tree.specs.declared.right_side.Mode.{Mode}
use Rattle.fsl_tree.specs.declared.right_side.Mode.TheVariants as modes
use Rattle.fsl_types.specs.declared.fault.Fault.{Fault}
use Rattle.fsl_types.specs.declared.fault.TypeKind.{TypeKind}
use Rattle.fsl_types.specs.declared.fault.TypeKind.TheVariants as kind
use Rattle.fsl_types.specs.declared.occurrence.Access.{Access}
use Rattle.fsl_types.specs.declared.occurrence.Access.TheVariants as accesses
use Rattle.fsl_types.specs.declared.occurrence.Due.{Due}
use Rattle.fsl_types.specs.declared.occurrence.Due.TheVariants as due
use Rattle.fsl_types.specs.declared.occurrence.Occurrence.{Occurrence}
use Rattle.fsl_types.specs.declared.occurrence.Occurrence.TheVariants as occurrence
use Rattle.fsl_types.specs.declared.variable.Sort.{Sort}
use Rattle.fsl_types.specs.declared.variable.Sort.TheVariants as sorts

-- ---- the rules, one kind of fault each

-- a name that is no visible variable, no procedure or no invariant
abbrev pub is_unknown : Occurrence → Bool
is_unknown (occurrence.Variable place wanted None) = true
is_unknown (occurrence.Used place None) = true
is_unknown _ = false

-- a name that stands for something already
abbrev pub is_twice : Occurrence → Bool
is_twice (occurrence.Declared place stands before limit) = stands
is_twice _ = false

-- whether a variable is what is due
abbrev pub is_due : Due → Sort → Bool
is_due due.Number sorts.Bank = false
is_due due.Number _ = true
is_due due.Bank sorts.Bank = true
is_due due.Bank _ = false
is_due due.Target sorts.Local = true
is_due due.Target _ = false
is_due due.Any _ = true

-- the modes of an access
abbrev pub has_mode : Access → Mode → Bool
has_mode accesses.Load (modes.NonAtomic place) = true
has_mode accesses.Load (modes.Relaxed place) = true
has_mode accesses.Load (modes.Acquire place) = true
has_mode accesses.Store (modes.NonAtomic place) = true
has_mode accesses.Store (modes.Relaxed place) = true
has_mode accesses.Store (modes.Release place) = true
has_mode accesses.Update (modes.Relaxed place) = true
has_mode accesses.Update (modes.Acquire place) = true
has_mode accesses.Update (modes.Release place) = true
has_mode accesses.Update (modes.AcquireRelease place) = true
has_mode accesses.Failure (modes.Relaxed place) = true
has_mode accesses.Failure (modes.Acquire place) = true
has_mode _ _ = false

-- a mode that the access doesn't have; a parameter or a bank that is assigned; a bank for a number or a number for a
-- bank; `result` outside `ensures`; `return` inside a loop
abbrev pub is_ill_typed : Occurrence → Bool
is_ill_typed (occurrence.Variable place wanted (Some sort)) = not (is_due wanted sort)
is_ill_typed (occurrence.Compound place) = true
is_ill_typed (occurrence.Outcome place in_ensures) = not in_ensures
is_ill_typed (occurrence.Moded access mode) = not (has_mode access mode)
is_ill_typed (occurrence.Return place in_loop) = in_loop
is_ill_typed _ = false

-- another number of arguments than of parameters
abbrev pub is_misfit : Occurrence → Bool
is_misfit (occurrence.Used place (Some fits)) = not fits
is_misfit _ = false

-- a modality inside an invariant, a fence or another modality, or in the contract of a procedure of a `par`
abbrev pub is_modal : Occurrence → Bool
is_modal (occurrence.Modality place allowed) = not allowed
is_modal (occurrence.Child place modal) = modal
is_modal _ = false

-- a ninth part, or the number of a part that the invariant doesn't have
abbrev pub is_no_part : Occurrence → Bool
is_no_part (occurrence.Part place before) = nat_le 8 before
is_no_part (occurrence.PartNumber place number (Some last)) = nat_lt last number
is_no_part _ = false

-- a name past its limit; a seventeenth excluded value; a `par` of fewer than two or more than eight calls
abbrev pub is_miscounted : Occurrence → Bool
is_miscounted (occurrence.Declared place stands before limit) = nat_le limit before
is_miscounted (occurrence.Excluded place before) = nat_le 16 before
is_miscounted (occurrence.Parallel place calls) = nat_lt calls 2 || nat_lt 8 calls
is_miscounted _ = false

-- no procedure `main` without parameters and `requires`
abbrev pub lacks_main : Occurrence → Bool
lacks_main (occurrence.End place has_main) = not has_main
lacks_main _ = false

-- ---- the faults of one occurrence

abbrev pub breaks : TypeKind → Occurrence → Bool
breaks kind.Unknown = is_unknown
breaks kind.Twice = is_twice
breaks kind.Type_ = is_ill_typed
breaks kind.Arity = is_misfit
breaks kind.Modal = is_modal
breaks kind.Parts = is_no_part
breaks kind.Count = is_miscounted
breaks kind.NoMain = lacks_main

abbrev pub place_of_mode : Mode → Span
place_of_mode (modes.NonAtomic place) = place
place_of_mode (modes.Relaxed place) = place
place_of_mode (modes.Acquire place) = place
place_of_mode (modes.Release place) = place
place_of_mode (modes.AcquireRelease place) = place

abbrev pub place_of : Occurrence → Span
place_of (occurrence.Variable place wanted sort) = place
place_of (occurrence.Compound place) = place
place_of (occurrence.Outcome place in_ensures) = place
place_of (occurrence.Declared place stands before limit) = place
place_of (occurrence.Moded access mode) = place_of_mode mode
place_of (occurrence.Return place in_loop) = place
place_of (occurrence.Used place fits) = place
place_of (occurrence.Modality place allowed) = place
place_of (occurrence.Child place modal) = place
place_of (occurrence.Part place before) = place
place_of (occurrence.PartNumber place number last) = place
place_of (occurrence.Excluded place before) = place
place_of (occurrence.Parallel place calls) = place
place_of (occurrence.End place has_main) = place

-- the kinds, in the order in which faults at one place are named
abbrev pub kinds : List TypeKind
kinds = kind.Unknown ∷ kind.Twice ∷ kind.Type_ ∷ kind.Arity ∷ kind.Modal ∷ kind.Parts ∷ kind.Count ∷ kind.NoMain ∷ []

abbrev pub fault_at : Span → TypeKind → Fault
fault_at place what = record { kind = what; span = place }

abbrev pub faults_at : Occurrence → List Fault
faults_at o = map (fault_at (place_of o)) (filter (λ what. breaks what o) kinds)

-- ---- the fault that is named: that with the least place, at one place the first kind

abbrev pub rank : TypeKind → ℕ
rank kind.Unknown = 0
rank kind.Twice = 1
rank kind.Type_ = 2
rank kind.Arity = 3
rank kind.Modal = 4
rank kind.Parts = 5
rank kind.Count = 6
rank kind.NoMain = 7

abbrev pub goes_before : Fault → Fault → Bool
goes_before a b = nat_lt a.span.from b.span.from || (a.span.from == b.span.from && nat_lt (rank a.kind) (rank b.kind))

abbrev pub least_from : Fault → List Fault → Fault
least_from best [] = best
least_from best (f ∷ fs) = least_from (if goes_before f best then f else best) fs

abbrev pub least_fault : List Fault → Option Fault
least_fault [] = None
least_fault (f ∷ fs) = Some (least_from f fs)
