-- What scopes promise of a procedure: its body sets nothing of its contract, and starts with no variable of its own;
-- and its `ensures` sees its contract's variables and the result alone.
use Rattle.std.specs.Prelude.{◌≡◌, ℕ, ◌==◌, true, false, List, [], ◌∷◌, ◌++◌, map, length, Some, ℤ}
use Rattle.std.specs.List.{list_any}
use Rattle.fsl_core.specs.declared.declaration.Proc.{Proc}
use Rattle.fsl_core.specs.declared.mode.Rung.TheVariants.{Plain}
use Rattle.fsl_core.specs.Scopes.{sight_at, behind_requires, in_body, proc_is_scoped}
use Rattle.fsl_core.specs.logic.Assertions.{asrt_of}
use Rattle.fsl_core.specs.logic.Paths.{Reading, stmt_of, all_sets}
use Rattle.fsl_meaning.specs.Heaps.{Truth}
use Rattle.fsl_asserted.specs.Needs.{Need, asks}
use Rattle.fsl_scoped.specs.Assertions.{is_shared, Shares, SameNeed}
use Rattle.fsl_scoped.specs.Own.{AreDeclared}

abbrev pub BodiesKeepContracts : Type 0
BodiesKeepContracts =
    (procs : List Proc) (q : Proc) (r : Reading) (slot : ℕ) → proc_is_scoped procs q ≡ true
    → list_any (λ s. s == slot) (all_sets (map (stmt_of r) q.body)) ≡ true → is_shared (sight_at (behind_requires q) slot) ≡ false

abbrev pub BodiesAreDeclared : Type 0
BodiesAreDeclared = (procs : List Proc) (q : Proc) → AreDeclared (in_body (behind_requires q)) 0

-- neither `requires` nor the body speaks of a result
abbrev pub ContractsAreOutside : Type 0
ContractsAreOutside = (q : Proc) → (behind_requires q).in_ensures ≡ false

-- the result stands behind the variables
abbrev pub EnsuresAreSeen : Type 0
EnsuresAreSeen =
    (procs : List Proc) (q : Proc) (t : Truth) (xs ys : List ℤ) (r : ℤ) (n : Need) → proc_is_scoped procs q ≡ true
    → length xs ≡ q.slots → Shares (behind_requires q) xs ys → asks t q.post Plain (xs ++ r ∷ []) ≡ Some n
    → (m : Need) × (asks t q.post Plain (ys ++ r ∷ []) ≡ Some m) × SameNeed n m

-- an `ensures` that doesn't speak of the result needs none
abbrev pub EnsuresNeedNoResult : Type 0
EnsuresNeedNoResult =
    (procs : List Proc) (q : Proc) (t : Truth) (xs : List ℤ) (r : ℤ) (n : Need) → proc_is_scoped procs q ≡ true
    → length xs ≡ q.slots → (asrt_of q.post).says ≡ false → asks t q.post Plain (xs ++ r ∷ []) ≡ Some n
    → (m : Need) × (asks t q.post Plain xs ≡ Some m) × SameNeed n m

-- nor does it mind one
abbrev pub EnsuresMindNoResult : Type 0
EnsuresMindNoResult =
    (procs : List Proc) (q : Proc) (t : Truth) (xs : List ℤ) (r : ℤ) (n : Need) → proc_is_scoped procs q ≡ true
    → length xs ≡ q.slots → (asrt_of q.post).says ≡ false → asks t q.post Plain xs ≡ Some n
    → (m : Need) × (asks t q.post Plain (xs ++ r ∷ []) ≡ Some m) × SameNeed n m
