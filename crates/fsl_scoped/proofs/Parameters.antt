-- What is seen at the start of a procedure: its parameters, as numbers or as banks.
use Rattle.std.proofs.Common.{◌≡◌, ◌⊎◌, inl, inr, ℕ, zero, suc, ◌<◌, ◌≤◌, ◌==◌, nat_lt, nat_le, Bool, true, false, ◌&&◌, if◌then◌else◌, List, [], ◌∷◌, map, length, get_or, replicate, ap, ◌∙◌, sym, subst, refl, arith, lt-ltb, eqb-true, leb-true, ltb-true}
use Rattle.std.proofs.lemmas.Bool.{and_parts, or_from}
use Rattle.std.specs.List.{list_any}
use Rattle.fsl_core.specs.declared.declaration.Proc.{Proc}
use Rattle.fsl_core.specs.declared.scope.Scope.{Scope}
use Rattle.fsl_core.specs.declared.scope.Sight.{Sight}
use Rattle.fsl_core.specs.declared.scope.Sight.TheVariants as sight
use Rattle.fsl_core.specs.Scopes.{is_number, is_free, sight_at, with_sight, with_first, with_banks, no_variables, nothing_declared, parameters_of, kept, in_body, in_ensures, behind_requires, has_room, proc_is_scoped, asrt_scoped, block_scoped}
use Rattle.fsl_scoped.proofs.Lists.{set_cases}
use Rattle.fsl_scoped.proofs.Binding.{Later, asrt_binds}

-- ---- sights of the first variables, and of banks among them

none_there : {X : Type 0} (n k : ℕ) (x : X) → get_or (replicate n x) k x ≡ x
none_there zero k x = refl
none_there (suc n) zero x = refl
none_there (suc n) (suc k) x = none_there n k x

first_cases : (n : ℕ) (s : Sight) (scope : Scope) (slot : ℕ) (P : Sight → Type 0) → (slot < n → P s) → P (sight_at scope slot) → P (sight_at (with_first n s scope) slot)
first_cases zero s scope slot P same other = other
first_cases (suc n) s scope slot P same other =
    set_cases (with_first n s scope).sights n slot s sight.Kept P (λ e. same (omega (arith, e)))
    (λ w. first_cases n s scope slot P (λ l. same (omega (arith, l))) other)

bank_cases : (b : Bool) (params bank slot : ℕ) (scope : Scope) (P : Sight → Type 0) → (b ≡ true → bank < params) → (slot < params → P sight.Bank) → P (sight_at scope slot)
    → P (sight_at (if b then with_sight bank sight.Bank scope else scope) slot)
bank_cases true params bank slot scope P test same other = set_cases scope.sights bank slot sight.Bank sight.Kept P
    (λ e. same (let l : bank < params = test refl in omega (arith, e, l))) (λ w. other)
bank_cases false params bank slot scope P test same other = other

banks_cases : (params : ℕ) (banks : List ℕ) (scope : Scope) (slot : ℕ) (P : Sight → Type 0) → (slot < params → P sight.Bank) → P (sight_at scope slot)
    → P (sight_at (with_banks params banks scope) slot)
banks_cases params [] scope slot P same other = other
banks_cases params (bank ∷ banks) scope slot P same other =
    banks_cases params banks (if nat_lt bank params then with_sight bank sight.Bank scope else scope) slot P same
    (bank_cases (nat_lt bank params) params bank slot scope P (λ h. ltb-true bank params h) same other)

parameter_cases : (q : Proc) (slot : ℕ) (P : Sight → Type 0) → (slot < q.params → P sight.Bank) → (slot < q.params → P sight.Given) → (slot < q.slots → P sight.Free) → P sight.Kept
    → P (sight_at (parameters_of q) slot)
parameter_cases q slot P bank given free kept_ =
    banks_cases q.params q.banks (with_first q.params sight.Given (nothing_declared q.slots)) slot P bank
    (first_cases q.params sight.Given (nothing_declared q.slots) slot P given
    (first_cases q.slots sight.Free no_variables slot P free (subst P (sym (none_there 256 slot sight.Kept)) kept_)))

-- a bank is no number
bank_no_number : (scope : Scope) (slot : ℕ) → is_number (sight_at (with_sight slot sight.Bank scope) slot) ≡ true → ⊥
bank_no_number scope slot = set_cases scope.sights slot slot sight.Bank sight.Kept (λ (z : Sight). is_number z ≡ true → ⊥)
    (λ e h. let d : false ≡ true = h in cc) none
  where
    none : (slot ≡ slot → ⊥) ⊎ (sight_at scope slot ≡ sight.Kept) → is_number (sight_at scope slot) ≡ true → ⊥
    none (inl w) h = w refl
    none (inr e) h = let d : false ≡ true = sym (ap is_number e) ∙ h in cc

abbrev bank_seen : ℕ → ℕ → Scope → Scope
bank_seen params bank scope = if nat_lt bank params then with_sight bank sight.Bank scope else scope

numbers_no_banks : (params : ℕ) (banks : List ℕ) (scope : Scope) (slot : ℕ) → slot < params → is_number (sight_at (with_banks params banks scope) slot) ≡ true
    → list_any (λ bank. bank == slot) banks ≡ false
numbers_no_banks params [] scope slot l h = refl
numbers_no_banks params (bank ∷ banks) scope slot l h =
    or_from (bank == slot) (list_any (λ b. b == slot) banks) (by_test (bank == slot) refl) (numbers_no_banks params banks (bank_seen params bank scope) slot l h)
  where
    number : is_number (sight_at (bank_seen params bank scope) slot) ≡ true
    number = banks_cases params banks (bank_seen params bank scope) slot (λ (z : Sight). is_number z ≡ true → is_number (sight_at (bank_seen params bank scope) slot) ≡ true)
        (λ m k. absurd (let d : false ≡ true = k in cc)) (λ k. k) h

    by_test : (b : Bool) → (bank == slot) ≡ b → b ≡ false
    by_test false e = refl
    by_test true e =
        let same : bank ≡ slot = eqb-true bank slot e in
        let small : nat_lt slot params ≡ true = lt-ltb slot params l in
        let test : nat_lt bank params ≡ true = ap (λ (k : ℕ). nat_lt k params) same ∙ small in
        let set : is_number (sight_at (with_sight bank sight.Bank scope) slot) ≡ true =
        subst (λ (b : Bool). is_number (sight_at (if b then with_sight bank sight.Bank scope else scope) slot) ≡ true) test number in
        absurd (bank_no_number scope slot (subst (λ (k : ℕ). is_number (sight_at (with_sight k sight.Bank scope) slot) ≡ true) same set))

pub record IsParameter (q : Proc) (slot : ℕ) : Type 0 where
  pub within : slot < q.params
  pub number : list_any (λ bank. bank == slot) q.banks ≡ false

pub number_parameter : (q : Proc) (slot : ℕ) → is_number (sight_at (parameters_of q) slot) ≡ true → IsParameter q slot
number_parameter q slot h =
    let l : slot < q.params = parameter_cases q slot (λ (z : Sight). is_number z ≡ true → slot < q.params)
    (λ m k. m) (λ m k. m) (λ m k. absurd (let d : false ≡ true = k in cc)) (λ k. absurd (let d : false ≡ true = k in cc)) h in
    record { within = l; number = numbers_no_banks q.params q.banks (with_first q.params sight.Given (nothing_declared q.slots)) slot l h }

pub no_local : (q : Proc) (slot : ℕ) → sight_at (parameters_of q) slot ≡ sight.Local → ⊥
no_local q slot = parameter_cases q slot (λ (z : Sight). z ≡ sight.Local → ⊥)
    (λ l e. let d : sight.Bank ≡ sight.Local = e in cc) (λ l e. let d : sight.Given ≡ sight.Local = e in cc)
    (λ l e. let d : sight.Free ≡ sight.Local = e in cc) (λ e. let d : sight.Kept ≡ sight.Local = e in cc)

banks_outside : (params : ℕ) (banks : List ℕ) (scope : Scope) → (with_banks params banks scope).in_ensures ≡ scope.in_ensures
banks_outside params [] scope = refl
banks_outside params (bank ∷ banks) scope = banks_outside params banks (bank_seen params bank scope) ∙ by_test (nat_lt bank params)
  where
    by_test : (b : Bool) → (if b then with_sight bank sight.Bank scope else scope).in_ensures ≡ scope.in_ensures
    by_test true = refl
    by_test false = refl

first_outside : (n : ℕ) (s : Sight) (scope : Scope) → (with_first n s scope).in_ensures ≡ scope.in_ensures
first_outside zero s scope = refl
first_outside (suc n) s scope = first_outside n s scope

pub parameters_outside : (q : Proc) → (parameters_of q).in_ensures ≡ false
parameters_outside q =
    banks_outside q.params q.banks (with_first q.params sight.Given (nothing_declared q.slots))
    ∙ first_outside q.params sight.Given (nothing_declared q.slots) ∙ first_outside q.slots sight.Free no_variables

-- ---- the parts of a procedure

pub record ProcFits (procs : List Proc) (q : Proc) : Type 0 where
  pub room : q.params ≤ q.slots
  pub pre : (asrt_scoped q.pre).fits (parameters_of q) ≡ true
  pub post : (asrt_scoped q.post).fits (in_ensures (behind_requires q)) ≡ true
  pub body : (block_scoped procs q.body).fits (in_body (behind_requires q)) ≡ true

pub proc_fits : (procs : List Proc) (q : Proc) → proc_is_scoped procs q ≡ true → ProcFits procs q
proc_fits procs q h =
    let pre = (asrt_scoped q.pre).fits (parameters_of q) in
    let post = (asrt_scoped q.post).fits (in_ensures (behind_requires q)) in
    let body = (block_scoped procs q.body).fits (in_body (behind_requires q)) in
    let a = and_parts (has_room q) (pre && (post && body)) h in
    let b = and_parts pre (post && body) a.1 in
    let c = and_parts post body b.1 in
    let d = and_parts (nat_le q.slots 256) (nat_le q.params q.slots && nat_le (length q.banks) q.slots) a.0 in
    let e = and_parts (nat_le q.params q.slots) (nat_le (length q.banks) q.slots) d.1 in
    record { room = leb-true q.params q.slots e.0; pre = b.0; post = c.0; body = c.1 }

-- what is a variable behind `requires` is one of the procedure's
pub held_within : (procs : List Proc) (q : Proc) (slot : ℕ) → ProcFits procs q → (sight_at (behind_requires q) slot ≡ sight.Kept → ⊥) → slot < q.slots
held_within procs q slot fits held = parameter_cases q slot (λ (z : Sight). sight_at (parameters_of q) slot ≡ z → slot < q.slots)
    (λ l e. let r : q.params ≤ q.slots = fits.room in omega (arith, l, r)) (λ l e. let r : q.params ≤ q.slots = fits.room in omega (arith, l, r)) (λ l e. l)
    (λ e. absurd (held (later.kept slot (ap is_free e) ∙ e))) refl
  where
    later : Later (parameters_of q) (behind_requires q)
    later = (asrt_binds q.pre).later (parameters_of q) fits.pre

-- ---- in the body

pub body_sight : (scope : Scope) (slot : ℕ) → sight_at (in_body scope) slot ≡ kept (sight_at scope slot)
body_sight scope slot = mapped scope.sights slot
  where
    mapped : (xs : List Sight) (k : ℕ) → get_or (map kept xs) k sight.Kept ≡ kept (get_or xs k sight.Kept)
    mapped [] k = refl
    mapped (x ∷ xs) zero = refl
    mapped (x ∷ xs) (suc k) = mapped xs k

kept_number : (s : Sight) → is_number (kept s) ≡ true → is_number s ≡ true
kept_number sight.Bound h = absurd (let d : false ≡ true = h in cc)
kept_number sight.Free h = h
kept_number sight.Kept h = h
kept_number sight.Given h = h
kept_number sight.Local h = h
kept_number sight.Bank h = h
kept_number sight.Either h = h

-- a number at the start of a body is a parameter
pub record IsStart (q : Proc) (slot : ℕ) : Type 0 where
  pub number : is_number (sight_at (parameters_of q) slot) ≡ true
  pub shut : is_free (sight_at (parameters_of q) slot) ≡ false

pub start_number : (procs : List Proc) (q : Proc) (slot : ℕ) → ProcFits procs q → is_number (sight_at (in_body (behind_requires q)) slot) ≡ true → IsStart q slot
start_number procs q slot fits h = by_test (is_free (sight_at (parameters_of q) slot)) refl
  where
    later : Later (parameters_of q) (behind_requires q)
    later = (asrt_binds q.pre).later (parameters_of q) fits.pre

    seen : is_number (kept (sight_at (behind_requires q) slot)) ≡ true
    seen = sym (ap is_number (body_sight (behind_requires q) slot)) ∙ h

    freed : (sight_at (behind_requires q) slot ≡ sight.Free) ⊎ (sight_at (behind_requires q) slot ≡ sight.Bound) → ⊥
    freed (inl e) = let d : false ≡ true = sym (ap (λ (s : Sight). is_number (kept s)) e) ∙ seen in cc
    freed (inr e) = let d : false ≡ true = sym (ap (λ (s : Sight). is_number (kept s)) e) ∙ seen in cc

    by_test : (b : Bool) → is_free (sight_at (parameters_of q) slot) ≡ b → IsStart q slot
    by_test true e = absurd (freed (later.freed slot e))
    by_test false e = record {
      number = ap is_number (sym (later.kept slot e)) ∙ kept_number (sight_at (behind_requires q) slot) seen;
      shut = e;
    }
