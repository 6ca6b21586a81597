-- An assertion sees numbers and banks: it asks for the same under two lists of numbers that agree on these. It sets
-- nothing but its binders, which weren't visible before it.
use Rattle.std.specs.Prelude.{◌≡◌, ℕ, Bool, true, false, ◌||◌, List, length, Some, ℤ, slice_get}
use Rattle.fsl_core.specs.declared.assertion.Asrt.{Asrt}
use Rattle.fsl_core.specs.declared.mode.Rung.{Rung}
use Rattle.fsl_core.specs.declared.scope.Scope.{Scope}
use Rattle.fsl_core.specs.declared.scope.Sight.{Sight}
use Rattle.fsl_core.specs.Scopes.{is_number, is_bank, is_free, sight_at, asrt_scoped}
use Rattle.fsl_meaning.specs.Heaps.{Truth}
use Rattle.fsl_asserted.specs.Needs.{Need, asks}

abbrev pub is_shared : Sight → Bool
is_shared s = is_number s || is_bank s

-- two lists of numbers agree on what assertions see
pub record Shares (scope : Scope) (xs ys : List ℤ) : Type 0 where
  pub long : length xs ≡ length ys
  pub alike : (slot : ℕ) → is_shared (sight_at scope slot) ≡ true → slice_get xs slot ≡ slice_get ys slot

-- the same is asked for, under whatever numbers
pub record SameNeed (n m : Need) : Type 0 where
  pub heap : m.heap ≡ n.heap
  pub claims : m.claims ≡ n.claims

-- outside of `ensures`, where there is no result to speak of
abbrev pub AssertionsAreSeen : Type 0
AssertionsAreSeen =
    (scope : Scope) (a : Asrt) (t : Truth) (rung : Rung) (xs ys : List ℤ) (n : Need) → scope.in_ensures ≡ false
    → (asrt_scoped a).fits scope ≡ true → Shares scope xs ys → asks t a rung xs ≡ Some n
    → (m : Need) × (asks t a rung ys ≡ Some m) × SameNeed n m × Shares ((asrt_scoped a).behind scope) n.env m.env

abbrev pub BindersAreFree : Type 0
BindersAreFree =
    (scope : Scope) (a : Asrt) (t : Truth) (rung : Rung) (xs : List ℤ) (n : Need) → (asrt_scoped a).fits scope ≡ true
    → asks t a rung xs ≡ Some n
    → (length n.env ≡ length xs) × ((slot : ℕ) → is_free (sight_at scope slot) ≡ false → slice_get n.env slot ≡ slice_get xs slot)
