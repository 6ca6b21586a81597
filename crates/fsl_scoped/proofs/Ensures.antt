-- An `ensures` sees its contract's variables, and the result where it speaks of it.
use Rattle.std.proofs.Common.{◌≡◌, ℕ, ◌<◌, ◌+◌, ◌++◌, true, false, List, [], ◌∷◌, length, ℤ, pos, slice_get, is_some, ap, ◌∙◌, sym, refl, arith, length-append}
use Rattle.fsl_core.specs.declared.declaration.Proc.{Proc}
use Rattle.fsl_core.specs.declared.mode.Rung.TheVariants.{Plain}
use Rattle.fsl_core.specs.declared.scope.Scope.{Scope}
use Rattle.fsl_core.specs.declared.scope.Sight.{Sight}
use Rattle.fsl_core.specs.declared.scope.Sight.TheVariants as sight
use Rattle.fsl_core.specs.Scopes.{is_free, sight_at, in_ensures, behind_requires, asrt_scoped}
use Rattle.fsl_core.specs.logic.Assertions.{asrt_of}
use Rattle.fsl_scoped.specs.Assertions.{is_shared, Shares}
use Rattle.fsl_scoped.specs.Procedures.{EnsuresAreSeen, EnsuresNeedNoResult, EnsuresMindNoResult}
use Rattle.fsl_scoped.proofs.Lists.{room_long, last_behind, append_alike, append_front}
use Rattle.fsl_scoped.proofs.Alike.{Alike}
use Rattle.fsl_scoped.proofs.Asking.{asrt_seen}
use Rattle.fsl_scoped.proofs.Bodies.{contracts_outside}
use Rattle.fsl_scoped.proofs.Parameters.{ProcFits, proc_fits, held_within}
use Rattle.fsl_scoped.proofs.Unsaid.{asrt_unsaid}

long_behind : (xs ys : List ℤ) (r : ℤ) → length xs ≡ length ys → length (xs ++ r ∷ []) ≡ length (ys ++ r ∷ [])
long_behind xs ys r h = length-append xs (r ∷ []) ∙ ap (λ (n : ℕ). n + 1) h ∙ sym (length-append ys (r ∷ []))

with_result : (scope : Scope) (xs ys : List ℤ) (r : ℤ) → Shares scope xs ys → Alike (in_ensures scope) (xs ++ r ∷ []) (ys ++ r ∷ [])
with_result scope xs ys r shares = record {
  alike = λ slot s. append_alike xs ys (r ∷ []) slot shares.long (shares.alike slot s);
  room = λ slot free. room_long (xs ++ r ∷ []) (ys ++ r ∷ []) slot (long_behind xs ys r shares.long);
  last = λ h. (long_behind xs ys r shares.long, last_behind (pos 0) xs r ∙ sym (last_behind (pos 0) ys r));
}

pub ensures_seen : EnsuresAreSeen
ensures_seen procs q t xs ys r n scoped long shares e =
    let scope = behind_requires q in
    let x = asrt_seen t q.post (in_ensures scope) Plain (xs ++ r ∷ []) (ys ++ r ∷ []) n (proc_fits procs q scoped).post (with_result scope xs ys r shares) e in
    (x.need, x.is, x.same)

-- ---- without a result

shared_held : (s : Sight) → is_shared s ≡ true → s ≡ sight.Kept → ⊥
shared_held s h e = let d : false ≡ true = sym (ap is_shared e) ∙ h in cc

free_held : (s : Sight) → is_free s ≡ true → s ≡ sight.Kept → ⊥
free_held s h e = let d : false ≡ true = sym (ap is_free e) ∙ h in cc

-- the variables are in front
front : (procs : List Proc) (q : Proc) (xs : List ℤ) (r : ℤ) (slot : ℕ) → ProcFits procs q → length xs ≡ q.slots → (sight_at (behind_requires q) slot ≡ sight.Kept → ⊥)
    → slice_get (xs ++ r ∷ []) slot ≡ slice_get xs slot
front procs q xs r slot fits long held =
    let l : slot < q.slots = held_within procs q slot fits held in append_front xs (r ∷ []) slot (omega (arith, l, long))

without_result : (procs : List Proc) (q : Proc) (xs : List ℤ) (r : ℤ) → ProcFits procs q → length xs ≡ q.slots → Alike (behind_requires q) (xs ++ r ∷ []) xs
without_result procs q xs r fits long = record {
  alike = λ slot s. front procs q xs r slot fits long (shared_held (sight_at (behind_requires q) slot) s);
  room = λ slot s. ap is_some (front procs q xs r slot fits long (free_held (sight_at (behind_requires q) slot) s));
  last = λ h. absurd (let d : true ≡ false = sym h ∙ contracts_outside q in cc);
}

turned : (scope : Scope) (xs ys : List ℤ) → scope.in_ensures ≡ false → Alike scope xs ys → Alike scope ys xs
turned scope xs ys out h = record {
  alike = λ slot s. sym (h.alike slot s);
  room = λ slot s. sym (h.room slot s);
  last = λ k. absurd (let d : true ≡ false = sym k ∙ out in cc);
}

-- the `ensures` stands outside of one
stands : (procs : List Proc) (q : Proc) → ProcFits procs q → (asrt_of q.post).says ≡ false → (asrt_scoped q.post).fits (behind_requires q) ≡ true
stands procs q fits quiet = (asrt_unsaid q.post).fits (in_ensures (behind_requires q)) (behind_requires q) refl fits.post quiet

pub ensures_need_no_result : EnsuresNeedNoResult
ensures_need_no_result procs q t xs r n scoped long quiet e =
    let fits = proc_fits procs q scoped in
    let x = asrt_seen t q.post (behind_requires q) Plain (xs ++ r ∷ []) xs n (stands procs q fits quiet) (without_result procs q xs r fits long) e in
    (x.need, x.is, x.same)

pub ensures_mind_no_result : EnsuresMindNoResult
ensures_mind_no_result procs q t xs r n scoped long quiet e =
    let fits = proc_fits procs q scoped in
    let alike = turned (behind_requires q) (xs ++ r ∷ []) xs (contracts_outside q) (without_result procs q xs r fits long) in
    let x = asrt_seen t q.post (behind_requires q) Plain xs (xs ++ r ∷ []) n (stands procs q fits quiet) alike e in
    (x.need, x.is, x.same)
