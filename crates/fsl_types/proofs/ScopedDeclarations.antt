-- Invariants and procedures of a tree without faults are scoped, and a procedure has the banks that its signature says.
use Rattle.std.proofs.Common.{◌≡◌, ◌≢◌, ◌⊎◌, inl, inr, ⊎_elim, ℕ, zero, suc, ◌+◌, ◌<◌, ◌≤◌, Bool, true, false, true≢false, ◌||◌, ◌==◌, if◌then◌else◌, List, [], ◌∷◌, ◌++◌, Option, Some, None, is_some, map, length, nat_lt, nat_le, refl, ap, sym, ◌∙◌, subst, arith, append_assoc, append-nil, length-append, eq-eqb, lt-ltb, le-leb, leb-true, eq-or-lt_of_le}
use Rattle.std.proofs.lemmas.Bool.{and_from, and_parts, eqb-true, false_from_ne_true, ltb-true, or_left, or_parts, or_right}
use Rattle.std.proofs.lemmas.List.{length-map, length-replicate, length-set}
use Rattle.std.proofs.lemmas.List.Folds.{list_all-append, list_any-append}
use Rattle.std.proofs.Math.ListN.{get_or-map}
use Rattle.std.specs.List.{list_all, list_any}
use Rattle.fsl_base.specs.declared.span.Span.{Span}
use Rattle.fsl_core.specs.declared.assertion.Asrt.{Asrt}
use Rattle.fsl_core.specs.declared.declaration.Proc.{Proc}
use Rattle.fsl_core.specs.declared.scope.Scope.{Scope}
use Rattle.fsl_core.specs.declared.scope.Sight.{Sight as Visibility}
use Rattle.fsl_core.specs.declared.scope.Sight.TheVariants as visible
use Rattle.fsl_core.specs.Scopes.{asrt_scoped, behind_requires, given_to, in_body, in_ensures as ensuring, inv_is_scoped, kept, no_variables, nothing_declared, parameters_of as parameters_scope, proc_is_scoped, sight_at, with_banks, with_first, with_sight}
use Rattle.fsl_tree.specs.declared.declaration.Invariant.{Invariant}
use Rattle.fsl_tree.specs.declared.declaration.Parameter.{Parameter}
use Rattle.fsl_tree.specs.declared.declaration.Part.{Part}
use Rattle.fsl_tree.specs.declared.declaration.Procedure.{Procedure}
use Rattle.fsl_types.specs.declared.fault.Fault.{Fault}
use Rattle.fsl_types.specs.declared.occurrence.Occurrence.TheVariants as occurrence
use Rattle.fsl_types.specs.declared.resolver.Resolver.{Resolver}
use Rattle.fsl_types.specs.declared.variable.Sort.{Sort}
use Rattle.fsl_types.specs.declared.variable.Sort.TheVariants as sorts
use Rattle.fsl_types.specs.declared.variable.Variable.{Variable}
use Rattle.fsl_types.specs.Assertions.{clause}
use Rattle.fsl_types.specs.Given.{Given}
use Rattle.fsl_types.specs.Names.{found, text_at}
use Rattle.fsl_types.specs.Programs.{banks_among, contract, in_ensures, in_invariant, in_requires, invariant, is_bank, parameter_sort, parameters_of, part, parts, procedure, with_parameter, with_parameters}
use Rattle.fsl_types.specs.Resolvers.{declared, fresh, judging, noted, one_more, with_bank}
use Rattle.fsl_types.proofs.DeclarationsLemmas.{known, parameters_grow}
use Rattle.fsl_types.proofs.ExpressionsLemmas.{noted_grows}
use Rattle.fsl_types.proofs.ResolverLemmas.{one_more_top}
use Rattle.fsl_types.proofs.ScopedActs.{Added, HasBanks, added_both, added_longer, added_none, bank_added, number_added, in_code, still_high}
use Rattle.fsl_types.proofs.ScopedAssertions.{apart_stands, assertion_binds, clause_binds, stand_in}
use Rattle.fsl_types.proofs.ScopedNames.{Shows, behind_both, declared_shows, seen_other, seen_there, shows_on, suits, taken_back, takes_one}
use Rattle.fsl_types.proofs.ScopedStatements.{block_scopes}
use Rattle.fsl_types.proofs.StatementsLemmas.{Agree}
use Rattle.fsl_types.proofs.TableLemmas.{found_either}

-- ---- the first variables, and those that are banks

first_wide : (n : ℕ) (s : Visibility) (scope : Scope) → length (with_first n s scope).sights ≡ length scope.sights
first_wide zero s scope = refl
first_wide (suc n) s scope = length-set (with_first n s scope).sights n s ∙ first_wide n s scope

first_high : (n : ℕ) (s : Visibility) (scope : Scope) (k : ℕ) → n ≤ k → sight_at (with_first n s scope) k ≡ sight_at scope k
first_high zero s scope k high = refl
first_high (suc n) s scope k high =
    seen_other (with_first n s scope) n k s (λ same. omega (arith, same, high)) ∙ first_high n s scope k (omega (arith, high))

first_low : (n : ℕ) (s : Visibility) (scope : Scope) (k : ℕ) → length scope.sights ≡ 256 → n ≤ 256 → k < n → sight_at (with_first n s scope) k ≡ s
first_low zero s scope k wide within low = absurd (omega (arith, low))
first_low (suc n) s scope k wide within low =
    ⊎_elim
    (λ same. ap (sight_at (with_first (suc n) s scope)) same ∙ seen_there (with_first n s scope) n s (first_wide n s scope ∙ wide) (omega (arith, within)))
    (λ lower. seen_other (with_first n s scope) n k s (λ same. omega (arith, same, lower)) ∙ first_low n s scope k wide (omega (arith, within)) lower)
    (eq-or-lt_of_le {n = k} {m = n} (omega (arith, low)))

bank_wide : (b : Bool) (bank : ℕ) (scope : Scope) → length (if b then with_sight bank visible.Bank scope else scope).sights ≡ length scope.sights
bank_wide true bank scope = length-set scope.sights bank visible.Bank
bank_wide false bank scope = refl

-- what a scope says besides stays
with_first_flag : (n : ℕ) (s : Visibility) (scope : Scope) → (with_first n s scope).in_ensures ≡ scope.in_ensures
with_first_flag zero s scope = refl
with_first_flag (suc n) s scope = with_first_flag n s scope

with_first_loop : (n : ℕ) (s : Visibility) (scope : Scope) → (with_first n s scope).in_loop ≡ scope.in_loop
with_first_loop zero s scope = refl
with_first_loop (suc n) s scope = with_first_loop n s scope

bank_flag : (b : Bool) (bank : ℕ) (scope : Scope) → (if b then with_sight bank visible.Bank scope else scope).in_ensures ≡ scope.in_ensures
bank_flag true bank scope = refl
bank_flag false bank scope = refl

bank_loop : (b : Bool) (bank : ℕ) (scope : Scope) → (if b then with_sight bank visible.Bank scope else scope).in_loop ≡ scope.in_loop
bank_loop true bank scope = refl
bank_loop false bank scope = refl

with_banks_flag : (params : ℕ) (banks : List ℕ) (scope : Scope) → (with_banks params banks scope).in_ensures ≡ scope.in_ensures
with_banks_flag params [] scope = refl
with_banks_flag params (bank ∷ banks) scope = with_banks_flag params banks _ ∙ bank_flag (nat_lt bank params) bank scope

with_banks_loop : (params : ℕ) (banks : List ℕ) (scope : Scope) → (with_banks params banks scope).in_loop ≡ scope.in_loop
with_banks_loop params [] scope = refl
with_banks_loop params (bank ∷ banks) scope = with_banks_loop params banks _ ∙ bank_loop (nat_lt bank params) bank scope

banks_wide : (params : ℕ) (banks : List ℕ) (scope : Scope) → length (with_banks params banks scope).sights ≡ length scope.sights
banks_wide params [] scope = refl
banks_wide params (bank ∷ banks) scope = banks_wide params banks _ ∙ bank_wide (nat_lt bank params) bank scope

bank_other : (b : Bool) (bank k : ℕ) (scope : Scope) → (b ≡ true → k ≢ bank) → sight_at (if b then with_sight bank visible.Bank scope else scope) k ≡ sight_at scope k
bank_other true bank k scope other = seen_other scope bank k visible.Bank (other refl)
bank_other false bank k scope other = refl

-- behind the parameters nothing changes
banks_high : (params : ℕ) (banks : List ℕ) (scope : Scope) (k : ℕ) → params ≤ k → sight_at (with_banks params banks scope) k ≡ sight_at scope k
banks_high params [] scope k high = refl
banks_high params (bank ∷ banks) scope k high =
    banks_high params banks _ k high
    ∙ bank_other (nat_lt bank params) bank k scope (λ is same. let low : bank < params = ltb-true bank params is in omega (arith, low, high, same))

differs : (a b : ℕ) → (a == b) ≡ false → b ≢ a
differs a b is same = true≢false (sym (eq-eqb a b (sym same)) ∙ is)

-- a number among the parameters
banks_other : (params : ℕ) (banks : List ℕ) (scope : Scope) (k : ℕ) → list_any (λ (bank : ℕ). bank == k) banks ≡ false
    → sight_at (with_banks params banks scope) k ≡ sight_at scope k
banks_other params [] scope k none = refl
banks_other params (bank ∷ banks) scope k none =
    let neither = or_parts (bank == k) (list_any (λ (b : ℕ). b == k) banks) none in
    banks_other params banks _ k neither.1 ∙ bank_other (nat_lt bank params) bank k scope (λ is. differs bank k neither.0)

-- a bank among them
bank_set : (params bank k : ℕ) (scope : Scope) → length scope.sights ≡ 256 → params ≤ 256 → k < params → bank ≡ k
    → sight_at (if nat_lt bank params then with_sight bank visible.Bank scope else scope) k ≡ visible.Bank
bank_set params bank k scope wide within low same =
    subst (λ (n : ℕ). sight_at (if nat_lt n params then with_sight n visible.Bank scope else scope) k ≡ visible.Bank) (sym same)
    (ap (λ (b : Bool). sight_at (if b then with_sight k visible.Bank scope else scope) k) (lt-ltb k params low) ∙ seen_there scope k visible.Bank wide (omega (arith, low, within)))

bank_either : (b : Bool) (params bank k : ℕ) (banks : List ℕ) (scope : Scope) → (bank == k) ≡ b → length scope.sights ≡ 256 → params ≤ 256 → k < params
    → ((b || list_any (λ (n : ℕ). n == k) banks) ≡ true) ⊎ (sight_at scope k ≡ visible.Bank)
    → (list_any (λ (n : ℕ). n == k) banks ≡ true) ⊎ (sight_at (if nat_lt bank params then with_sight bank visible.Bank scope else scope) k ≡ visible.Bank)
bank_either true params bank k banks scope is wide within low may = inr (bank_set params bank k scope wide within low (eqb-true bank k is))
bank_either false params bank k banks scope is wide within low may =
    ⊎_elim (λ any. inl any) (λ seen. inr (bank_other (nat_lt bank params) bank k scope (λ lower. differs bank k is) ∙ seen)) may

banks_there : (params : ℕ) (banks : List ℕ) (scope : Scope) (k : ℕ) → length scope.sights ≡ 256 → params ≤ 256 → k < params
    → (list_any (λ (bank : ℕ). bank == k) banks ≡ true) ⊎ (sight_at scope k ≡ visible.Bank) → sight_at (with_banks params banks scope) k ≡ visible.Bank
banks_there params [] scope k wide within low may = ⊎_elim (λ any. absurd (true≢false (sym any))) (λ seen. seen) may
banks_there params (bank ∷ banks) scope k wide within low may =
    banks_there params banks _ k (bank_wide (nat_lt bank params) bank scope ∙ wide) within low (bank_either (bank == k) params bank k banks scope refl wide within low may)

-- ---- parameters

-- the banks at the end, of which those that come behind have slots that aren't taken yet
pub record Ends (resolver : Resolver) (banks : List ℕ) : Type 0 where
  pub more : List ℕ
  pub are : banks ≡ resolver.banks ++ more
  pub high : list_all (λ (bank : ℕ). nat_le resolver.slots bank) more ≡ true

ends_added : (before behind : Resolver) → Added before behind → Ends before behind.banks
ends_added before behind added = record { more = added.more; are = added.are; high = added.high }

ends_before : (before behind : Resolver) (banks : List ℕ) → Added before behind → Ends behind banks → Ends before banks
ends_before before behind banks added ends =
    let longer = added_longer before behind added in
    record {
      more = added.more ++ ends.more;
      are = ends.are ∙ ap (λ (bs : List ℕ). bs ++ ends.more) added.are ∙ append_assoc before.banks added.more ends.more;
      high = list_all-append (λ (bank : ℕ). nat_le before.slots bank) added.more ends.more
          ∙ and_from _ _ added.high (still_high before.slots behind.slots ends.more longer ends.high);
    }

none_low : (n : ℕ) (banks : List ℕ) → list_all (λ (bank : ℕ). nat_lt bank n) banks ≡ true → list_any (λ (bank : ℕ). bank == n) banks ≡ false
none_low n [] all = refl
none_low n (bank ∷ banks) all =
    let both = and_parts (nat_lt bank n) (list_all (λ (b : ℕ). nat_lt b n) banks) all in
    let low : bank < n = ltb-true bank n both.0 in
    ap (λ (b : Bool). b || list_any (λ (b : ℕ). b == n) banks) (false_from_ne_true (bank == n) (λ is. let same : bank ≡ n = eqb-true bank n is in omega (arith, low, same)))
    ∙ none_low n banks both.1

none_high : (k n : ℕ) (banks : List ℕ) → k < n → list_all (λ (bank : ℕ). nat_le n bank) banks ≡ true → list_any (λ (bank : ℕ). bank == k) banks ≡ false
none_high k n [] low all = refl
none_high k n (bank ∷ banks) low all =
    let both = and_parts (nat_le n bank) (list_all (λ (b : ℕ). nat_le n b) banks) all in
    let high : n ≤ bank = leb-true n bank both.0 in
    ap (λ (b : Bool). b || list_any (λ (b : ℕ). b == k) banks) (false_from_ne_true (bank == k) (λ is. let same : bank ≡ k = eqb-true bank k is in omega (arith, low, high, same)))
    ∙ none_high k n banks low both.1

all_lower : (low high : ℕ) (banks : List ℕ) → low ≤ high → list_all (λ (bank : ℕ). nat_lt bank low) banks ≡ true → list_all (λ (bank : ℕ). nat_lt bank high) banks ≡ true
all_lower low high [] within all = refl
all_lower low high (bank ∷ banks) within all =
    let both = and_parts (nat_lt bank low) (list_all (λ (b : ℕ). nat_lt b low) banks) all in
    let less : bank < low = ltb-true bank low both.0 in
    and_from _ _ (lt-ltb bank high (omega (arith, less, within))) (all_lower low high banks within both.1)

-- what the parameter of a sort is seen as
abbrev pub given_as : Sort → Visibility
given_as sorts.Parameter = visible.Given
given_as sorts.Local = visible.Local
given_as sorts.Bank = visible.Bank

abbrev pub is_bank_sort : Sort → Bool
is_bank_sort sorts.Bank = true
is_bank_sort _ = false

parameter_is : (o : Option Span) → is_bank_sort (parameter_sort o) ≡ is_some o
parameter_is None = refl
parameter_is (Some word) = refl

parameter_no_local : (o : Option Span) → parameter_sort o ≡ sorts.Local → ⊥
parameter_no_local None is = absurd cc
parameter_no_local (Some word) is = absurd cc

-- the parameters so far: their slots are taken, and those that are banks are among the banks
pub record Parametric (resolver : Resolver) (banks : List ℕ) : Type 0 where
  pub low : list_all (λ (bank : ℕ). nat_lt bank resolver.slots) resolver.banks ≡ true
  pub few : length resolver.banks ≤ resolver.slots
  pub each : (name : List ℕ) (v : Variable) → found name resolver.names ≡ Some v
      → (v.slot < resolver.slots) × (list_any (λ (bank : ℕ). bank == v.slot) banks ≡ is_bank_sort v.sort) × (v.sort ≡ sorts.Local → ⊥)

with_bank_low : (sort : Sort) (slot : ℕ) (banks : List ℕ) → list_all (λ (bank : ℕ). nat_lt bank slot) banks ≡ true
    → list_all (λ (bank : ℕ). nat_lt bank (slot + 1)) (with_bank sort slot banks) ≡ true
with_bank_low sorts.Parameter slot banks all = all_lower slot (slot + 1) banks (omega arith) all
with_bank_low sorts.Local slot banks all = all_lower slot (slot + 1) banks (omega arith) all
with_bank_low sorts.Bank slot banks all =
    list_all-append (λ (bank : ℕ). nat_lt bank (slot + 1)) banks (slot ∷ [])
    ∙ and_from _ _ (all_lower slot (slot + 1) banks (omega arith) all) (and_from _ _ (lt-ltb slot (slot + 1) (omega arith)) refl)

with_bank_few : (sort : Sort) (slot : ℕ) (banks : List ℕ) → length banks ≤ slot → length (with_bank sort slot banks) ≤ slot + 1
with_bank_few sorts.Parameter slot banks few = omega (arith, few)
with_bank_few sorts.Local slot banks few = omega (arith, few)
with_bank_few sorts.Bank slot banks few = let long = length-append banks (slot ∷ []) in omega (arith, few, long)

-- whether the slot of a declaration is a bank's, at the end
mark : (sort : Sort) (slot : ℕ) (banks more all : List ℕ) → list_all (λ (bank : ℕ). nat_lt bank slot) banks ≡ true → all ≡ with_bank sort slot banks ++ more
    → list_all (λ (bank : ℕ). nat_le (slot + 1) bank) more ≡ true → list_any (λ (bank : ℕ). bank == slot) all ≡ is_bank_sort sort
mark sorts.Parameter slot banks more all low is high =
    ap (list_any (λ (bank : ℕ). bank == slot)) is ∙ list_any-append (λ (bank : ℕ). bank == slot) banks more
    ∙ ap (λ (b : Bool). b || list_any (λ (bank : ℕ). bank == slot) more) (none_low slot banks low) ∙ none_high slot (slot + 1) more (omega arith) high
mark sorts.Local slot banks more all low is high =
    ap (list_any (λ (bank : ℕ). bank == slot)) is ∙ list_any-append (λ (bank : ℕ). bank == slot) banks more
    ∙ ap (λ (b : Bool). b || list_any (λ (bank : ℕ). bank == slot) more) (none_low slot banks low) ∙ none_high slot (slot + 1) more (omega arith) high
mark sorts.Bank slot banks more all low is high =
    ap (list_any (λ (bank : ℕ). bank == slot)) is ∙ list_any-append (λ (bank : ℕ). bank == slot) (banks ++ slot ∷ []) more
    ∙ or_left _ _ (list_any-append (λ (bank : ℕ). bank == slot) banks (slot ∷ []) ∙ or_right _ _ (or_left _ _ (eq-eqb slot slot refl)))

slot_marked : (bytes : List ℕ) (name : Span) (sort : Sort) (resolver : Resolver) (banks : List ℕ) → (declared 16 bytes name sort resolver).slots ≡ resolver.slots + 1
    → list_all (λ (bank : ℕ). nat_lt bank resolver.slots) resolver.banks ≡ true → Ends (declared 16 bytes name sort resolver) banks
    → list_any (λ (bank : ℕ). bank == resolver.slots) banks ≡ is_bank_sort sort
slot_marked bytes name sort resolver banks next low ends =
    mark sort resolver.slots resolver.banks ends.more banks low ends.are (subst (λ (n : ℕ). list_all (λ (bank : ℕ). nat_le n bank) ends.more ≡ true) next ends.high)

parameter_known : (bytes : List ℕ) (p : Parameter) (resolver : Resolver) (banks : List ℕ) → (with_parameter bytes p resolver).faults ≡ [] → Ends (with_parameter bytes p resolver) banks
    → Parametric resolver banks → Parametric (with_parameter bytes p resolver) banks
parameter_known bytes p resolver banks none ends known =
    let sort = parameter_sort p.bank in
    let next : (with_parameter bytes p resolver).slots ≡ resolver.slots + 1 = (takes_one 16 bytes p.name sort resolver none (omega arith)).1 in
    record {
      low = subst (λ (n : ℕ). list_all (λ (bank : ℕ). nat_lt bank n) (with_bank sort resolver.slots resolver.banks) ≡ true) (sym next) (with_bank_low sort resolver.slots resolver.banks known.low);
      few = let few = with_bank_few sort resolver.slots resolver.banks known.few in omega (arith, few, next);
      each = λ name v is.
          ⊎_elim
          (λ before. let old = known.each name v before in let low = old.0 in (omega (arith, low, next), old.1, old.2))
          (λ new.
          subst (λ (w : Variable). (w.slot < (with_parameter bytes p resolver).slots) × (list_any (λ (bank : ℕ). bank == w.slot) banks ≡ is_bank_sort w.sort) × (w.sort ≡ sorts.Local → ⊥)) new.1
          (omega (arith, next), slot_marked bytes p.name sort resolver banks next known.low ends, parameter_no_local p.bank))
          (found_either name (text_at bytes p.name) (record { slot = resolver.slots; sort = sort }) v resolver.names is);
    }

-- a parameter takes a slot, and a bank among them
sort_added : (bytes : List ℕ) (name : Span) (sort : Sort) (resolver : Resolver) → (declared 16 bytes name sort resolver).faults ≡ [] → Added resolver (declared 16 bytes name sort resolver)
sort_added bytes name sorts.Parameter resolver none =
    let more = (takes_one 16 bytes name sorts.Parameter resolver none (omega arith)).1 in added_none resolver _ refl (omega (arith, more))
sort_added bytes name sorts.Local resolver none = number_added 16 bytes name resolver none (omega arith)
sort_added bytes name sorts.Bank resolver none = bank_added 16 bytes name resolver none (omega arith)

parameter_added : (bytes : List ℕ) (p : Parameter) (resolver : Resolver) → (with_parameter bytes p resolver).faults ≡ [] → Added resolver (with_parameter bytes p resolver)
parameter_added bytes p resolver none = sort_added bytes p.name (parameter_sort p.bank) resolver none

parameters_added : (bytes : List ℕ) (ps : List Parameter) (resolver : Resolver) → (with_parameters bytes ps resolver).faults ≡ [] → Added resolver (with_parameters bytes ps resolver)
parameters_added bytes [] resolver none = added_none resolver resolver refl (omega arith)
parameters_added bytes (p ∷ ps) resolver none =
    added_both resolver (with_parameter bytes p resolver) _ (parameter_added bytes p resolver (parameters_grow bytes ps (with_parameter bytes p resolver) none))
    (parameters_added bytes ps (with_parameter bytes p resolver) none)

parameters_known : (bytes : List ℕ) (ps : List Parameter) (resolver : Resolver) (banks : List ℕ) → (with_parameters bytes ps resolver).faults ≡ []
    → Ends (with_parameters bytes ps resolver) banks → Parametric resolver banks → Parametric (with_parameters bytes ps resolver) banks × Agree banks resolver.slots (map is_bank ps)
parameters_known bytes [] resolver banks none ends known = (known, tt)
parameters_known bytes (p ∷ ps) resolver banks none ends known =
    let after = with_parameter bytes p resolver in
    let none_after = parameters_grow bytes ps after none in
    let next : after.slots ≡ resolver.slots + 1 = (takes_one 16 bytes p.name (parameter_sort p.bank) resolver none_after (omega arith)).1 in
    let ends_after = ends_before after (with_parameters bytes ps after) banks (parameters_added bytes ps after none) ends in
    let rest = parameters_known bytes ps after banks none ends (parameter_known bytes p resolver banks none_after ends_after known) in (
      rest.0,
      (
        slot_marked bytes p.name (parameter_sort p.bank) resolver banks next known.low ends_after ∙ parameter_is p.bank,
        subst (λ (n : ℕ). Agree banks n (map is_bank ps)) next rest.1,
      ),
    )

no_parameters : (faults : List Fault) (banks : List ℕ) → Parametric (fresh faults) banks
no_parameters faults banks = record { low = refl; few = omega arith; each = λ name v is. absurd cc }

parameters_top : (bytes : List ℕ) (ps : List Parameter) (resolver : Resolver) → resolver.slots ≤ 256 → (with_parameters bytes ps resolver).slots ≤ 256
parameters_top bytes [] resolver small = small
parameters_top bytes (p ∷ ps) resolver small = parameters_top bytes ps (with_parameter bytes p resolver) (one_more_top resolver.slots)

-- ---- the scope of parameters

-- the first variables are parameters that are seen so, and no other is declared
abbrev opening : Visibility → ℕ → ℕ → Scope
opening s params slots = with_first params s (nothing_declared slots)

no_wide : length no_variables.sights ≡ 256
no_wide = length-replicate 256 visible.Kept

nothing_wide : (slots : ℕ) → length (nothing_declared slots).sights ≡ 256
nothing_wide slots = first_wide slots visible.Free no_variables ∙ no_wide

opening_wide : (s : Visibility) (params slots : ℕ) → length (opening s params slots).sights ≡ 256
opening_wide s params slots = first_wide params s (nothing_declared slots) ∙ nothing_wide slots

opening_free : (s : Visibility) (params slots k : ℕ) → slots ≤ 256 → params ≤ k → k < slots → sight_at (opening s params slots) k ≡ visible.Free
opening_free s params slots k within high low =
    first_high params s (nothing_declared slots) k high ∙ first_low slots visible.Free no_variables k no_wide within low

opening_given : (s : Visibility) (params slots k : ℕ) → params ≤ 256 → k < params → sight_at (opening s params slots) k ≡ s
opening_given s params slots k within low = first_low params s (nothing_declared slots) k (nothing_wide slots) within low

-- of a procedure
sort_seen : (sort : Sort) (params slots k : ℕ) (banks : List ℕ) → params ≤ 256 → k < params → list_any (λ (bank : ℕ). bank == k) banks ≡ is_bank_sort sort
    → (sort ≡ sorts.Local → ⊥) → sight_at (with_banks params banks (opening visible.Given params slots)) k ≡ given_as sort
sort_seen sorts.Parameter params slots k banks within low is other =
    banks_other params banks (opening visible.Given params slots) k is ∙ opening_given visible.Given params slots k within low
sort_seen sorts.Local params slots k banks within low is other = absurd (other refl)
sort_seen sorts.Bank params slots k banks within low is other =
    banks_there params banks (opening visible.Given params slots) k (opening_wide visible.Given params slots) within low (inl is)

suits_given : (code : Bool) (sort : Sort) → suits code (given_as sort) sort ≡ true
suits_given code sorts.Parameter = refl
suits_given true sorts.Local = refl
suits_given false sorts.Local = refl
suits_given code sorts.Bank = refl

suits_either : (sort : Sort) → suits false visible.Either sort ≡ true
suits_either sorts.Parameter = refl
suits_either sorts.Local = refl
suits_either sorts.Bank = refl

procedure_shows : (code : Bool) (resolver : Resolver) (banks : List ℕ) (total : ℕ) → Parametric resolver banks → resolver.slots ≤ 256 → total ≤ 256
    → Shows (record { code = code; in_ensures = false; in_loop = false }) total (with_banks resolver.slots banks (opening visible.Given resolver.slots total)) resolver
procedure_shows code resolver banks total known small within =
    let scope = opening visible.Given resolver.slots total in
    record {
      wide = banks_wide resolver.slots banks scope ∙ opening_wide visible.Given resolver.slots total;
      free = λ slot high low. banks_high resolver.slots banks scope slot high ∙ opening_free visible.Given resolver.slots total slot within high low;
      each = λ name v is.
          let it = known.each name v is in
          record { low = it.0; fits = ap (λ (s : Visibility). suits code s v.sort) (sort_seen v.sort resolver.slots total v.slot banks small it.0 it.1 it.2) ∙ suits_given code v.sort };
      in_ensures = with_banks_flag resolver.slots banks scope ∙ with_first_flag resolver.slots visible.Given (nothing_declared total) ∙ with_first_flag total visible.Free no_variables;
      in_loop = with_banks_loop resolver.slots banks scope ∙ with_first_loop resolver.slots visible.Given (nothing_declared total) ∙ with_first_loop total visible.Free no_variables;
    }

-- ---- procedures

-- what a procedure is made with, step by step
record MadeWell (given : Given) (q : Procedure) (faults : List Fault) : Type 0 where
  none_agreed : (contract given q (known given q.parameters faults)).resolver.faults ≡ []
  none_pre : (clause given q.requires_clause in_requires (known given q.parameters faults)).resolver.faults ≡ []
  none_known : (known given q.parameters faults).faults ≡ []
  longer_pre : (known given q.parameters faults).slots ≤ (clause given q.requires_clause in_requires (known given q.parameters faults)).resolver.slots
  longer_post : (clause given q.requires_clause in_requires (known given q.parameters faults)).resolver.slots ≤ (contract given q (known given q.parameters faults)).resolver.slots
  names : (contract given q (known given q.parameters faults)).resolver.names ≡ (known given q.parameters faults).names
  banks : (contract given q (known given q.parameters faults)).resolver.banks ≡ (known given q.parameters faults).banks
  added : Added (contract given q (known given q.parameters faults)).resolver (procedure given q faults).resolver

made_of : (given : Given) (q : Procedure) (faults : List Fault) → (procedure given q faults).resolver.faults ≡ [] → MadeWell given q faults
made_of given q faults none =
    let start = known given q.parameters faults in
    let pre = (clause given q.requires_clause in_requires start).resolver in
    let agreed = (contract given q start).resolver in
    let pre_binds = clause_binds given q.requires_clause in
    let post_binds = clause_binds given q.ensures_clause in
    let body = block_scopes [] given q.body in
    let none_agreed : agreed.faults ≡ [] = body.grows false agreed none in
    let none_pre : pre.faults ≡ [] = post_binds.grows in_ensures pre none_agreed in
    record {
      none_agreed = none_agreed;
      none_pre = none_pre;
      none_known = pre_binds.grows in_requires start none_pre;
      longer_pre = pre_binds.longer in_requires start none_pre;
      longer_post = post_binds.longer in_ensures pre none_agreed;
      names = taken_back start.names _ (behind_both start.names pre.names _ (pre_binds.names in_requires start) (post_binds.names in_ensures pre));
      banks = post_binds.banks in_ensures pre ∙ pre_binds.banks in_requires start;
      added = body.added false agreed none;
    }

starts : (given : Given) (q : Procedure) (faults : List Fault) → (procedure given q faults).resolver.faults ≡ []
    → Parametric (known given q.parameters faults) (procedure given q faults).resolver.banks × Agree (procedure given q faults).resolver.banks 0 (banks_among q.parameters)
starts given q faults none =
    let made = made_of given q faults none in
    let start = known given q.parameters faults in
    let agreed = (contract given q start).resolver in
    let early = made.longer_pre in
    let late = made.longer_post in
    let banks = (procedure given q faults).resolver.banks in
    parameters_known given.bytes (parameters_of q.parameters) (fresh faults) banks made.none_known
    (ends_before start agreed banks (added_none start agreed made.banks (omega (arith, early, late))) (ends_added agreed (procedure given q faults).resolver made.added)) (no_parameters faults banks)

pub procedure_agrees : (given : Given) (q : Procedure) (faults : List Fault) → (procedure given q faults).resolver.faults ≡ []
    → Agree (procedure given q faults).made.banks 0 (banks_among q.parameters)
procedure_agrees given q faults none = (starts given q faults none).1

kept_sight : (scope : Scope) (slot : ℕ) → sight_at (in_body scope) slot ≡ kept (sight_at scope slot)
kept_sight scope slot = get_or-map kept scope.sights slot visible.Kept

kept_given : (sort : Sort) → kept (given_as sort) ≡ given_as sort
kept_given sorts.Parameter = refl
kept_given sorts.Local = refl
kept_given sorts.Bank = refl

procedure_top : (given : Given) (q : Procedure) (faults : List Fault) → (procedure given q faults).resolver.slots ≤ 256
procedure_top given q faults =
    let start = known given q.parameters faults in
    let small = parameters_top given.bytes (parameters_of q.parameters) (fresh faults) (omega arith) in
    (block_scopes [] given q.body).top false (contract given q start).resolver
    ((clause_binds given q.ensures_clause).top in_ensures (clause given q.requires_clause in_requires start).resolver ((clause_binds given q.requires_clause).top in_requires start small))

pub procedure_scoped : (procs : List Proc) (given : Given) → HasBanks procs given → (q : Procedure) (faults : List Fault) → (procedure given q faults).resolver.faults ≡ []
    → proc_is_scoped procs (procedure given q faults).made ≡ true
procedure_scoped procs given has q faults none =
    let made = made_of given q faults none in
    let parametric = (starts given q faults none).0 in
    let start = known given q.parameters faults in
    let pre = (clause given q.requires_clause in_requires start).resolver in
    let agreed = (contract given q start).resolver in
    let end = (procedure given q faults).resolver in
    let proc = (procedure given q faults).made in
    let early = made.longer_pre in
    let middle = made.longer_post in
    let late : agreed.slots ≤ end.slots = added_longer agreed end made.added in
    let small : start.slots ≤ 256 = parameters_top given.bytes (parameters_of q.parameters) (fresh faults) (omega arith) in
    let within : end.slots ≤ 256 = procedure_top given q faults in
    let first : length end.banks ≡ length (agreed.banks ++ made.added.more) = ap length made.added.are in
    let second : length (agreed.banks ++ made.added.more) ≡ length agreed.banks + length made.added.more = length-append agreed.banks made.added.more in
    let third : length agreed.banks ≡ length start.banks = ap length made.banks in
    let few : length start.banks ≤ start.slots = parametric.few in
    let fewer : length made.added.more + agreed.slots ≤ end.slots = made.added.few in
    let room = and_from _ _ (le-leb end.slots 256 within) (and_from _ _ (le-leb start.slots end.slots (omega (arith, early, middle, late)))
    (le-leb (length end.banks) end.slots (omega (arith, first, second, third, few, fewer, early, middle)))) in
    let opens = parameters_scope proc in
    let shows = procedure_shows false start end.banks end.slots parametric small within in
    let pre_stands = (clause_binds given q.requires_clause).stands in_requires false start end.slots opens shows (omega (arith, middle, late)) made.none_pre in
    let behind = behind_requires proc in
    let shows_pre : Shows (stand_in in_requires false) end.slots behind pre = pre_stands.shows in
    let shows_ensures : Shows (stand_in in_ensures false) end.slots (ensuring behind) pre =
    record {
      wide = shows_pre.wide;
      free = shows_pre.free;
      each = λ name v is. let it = shows_pre.each name v is in record { low = it.low; fits = it.fits };
      in_ensures = refl;
      in_loop = shows_pre.in_loop;
    } in
    let post_stands = (clause_binds given q.ensures_clause).stands in_ensures false pre end.slots (ensuring behind) shows_ensures late made.none_agreed in
    let shows_body : Shows (in_code false) end.slots (in_body behind) agreed = record {
      wide = length-map behind.sights kept ∙ shows_pre.wide;
      free = λ slot high low. kept_sight behind slot ∙ ap kept (shows_pre.free slot (omega (arith, high, middle)) low);
      each = λ name v is.
          let it = parametric.each name v (ap (found name) (sym made.names) ∙ is) in
          let lower : v.slot < start.slots = it.0 in
          let seen = kept_sight behind v.slot
          ∙ ap kept (pre_stands.old v.slot lower ∙ sort_seen v.sort start.slots end.slots v.slot end.banks small lower it.1 it.2) ∙ kept_given v.sort in
          record { low = omega (arith, lower, early, middle); fits = ap (λ (s : Visibility). suits true s v.sort) seen ∙ suits_given true v.sort };
      in_ensures = shows_pre.in_ensures;
      in_loop = shows_pre.in_loop;
    } in
    and_from _ _ room (and_from _ _ pre_stands.fits (and_from _ _ post_stands.fits
    ((block_scopes procs given q.body).fits has false agreed end.slots (in_body behind) shows_body (omega arith) none)))

-- ---- invariants

part_grows : (given : Given) (before : ℕ) (p : Part) (resolver : Resolver) → (part given before p resolver).resolver.faults ≡ [] → resolver.faults ≡ []
part_grows given before p resolver none = noted_grows resolver.faults _ ((assertion_binds given p.assertion).grows in_invariant _ none)

parts_grow : (given : Given) (before : ℕ) (ps : List Part) (resolver : Resolver) → (parts given before ps resolver).resolver.faults ≡ [] → resolver.faults ≡ []
parts_grow given before [] resolver none = none
parts_grow given before (p ∷ ps) resolver none = part_grows given before p resolver (parts_grow given (one_more 8 before) ps _ none)

parts_longer : (given : Given) (before : ℕ) (ps : List Part) (resolver : Resolver) → (parts given before ps resolver).resolver.faults ≡ []
    → resolver.slots ≤ (parts given before ps resolver).resolver.slots
parts_longer given before [] resolver none = omega arith
parts_longer given before (p ∷ ps) resolver none =
    let noted_part = judging (noted (occurrence.Part p.open before)) resolver in
    let between = (part given before p resolver).resolver in
    let late = parts_longer given (one_more 8 before) ps between none in
    let early = (assertion_binds given p.assertion).longer in_invariant noted_part (parts_grow given (one_more 8 before) ps between none) in
    omega (arith, early, late)

parts_top : (given : Given) (before : ℕ) (ps : List Part) (resolver : Resolver) → resolver.slots ≤ 256 → (parts given before ps resolver).resolver.slots ≤ 256
parts_top given before [] resolver small = small
parts_top given before (p ∷ ps) resolver small =
    parts_top given (one_more 8 before) ps _ ((assertion_binds given p.assertion).top in_invariant (judging (noted (occurrence.Part p.open before)) resolver) small)

parts_scoped : (given : Given) (before : ℕ) (ps : List Part) (resolver : Resolver) (total : ℕ) (scope : Scope) → Shows (stand_in in_invariant false) total scope resolver
    → (parts given before ps resolver).resolver.slots ≤ total → (parts given before ps resolver).resolver.faults ≡ []
    → list_all (λ (a : Asrt). (asrt_scoped a).fits scope) (parts given before ps resolver).made ≡ true
parts_scoped given before [] resolver total scope shows room none = refl
parts_scoped given before (p ∷ ps) resolver total scope shows room none =
    let noted_part = judging (noted (occurrence.Part p.open before)) resolver in
    let between = (part given before p resolver).resolver in
    let late = parts_longer given (one_more 8 before) ps between none in
    let one = apart_stands _ (assertion_binds given p.assertion) in_invariant false noted_part total scope
    (shows_on (stand_in in_invariant false) total scope resolver noted_part shows (omega arith) refl) (omega (arith, room, late))
    (parts_grow given (one_more 8 before) ps between none) in
    and_from _ _ one.0 (parts_scoped given (one_more 8 before) ps between total scope one.1 room none)

invariant_shows : (resolver : Resolver) (banks : List ℕ) (total : ℕ) → Parametric resolver banks → resolver.slots ≤ 256 → total ≤ 256
    → Shows (stand_in in_invariant false) total (opening visible.Either resolver.slots total) resolver
invariant_shows resolver banks total known small within = record {
  wide = opening_wide visible.Either resolver.slots total;
  free = λ slot high low. opening_free visible.Either resolver.slots total slot within high low;
  each = λ name v is.
      let it = known.each name v is in
      record { low = it.0; fits = ap (λ (s : Visibility). suits false s v.sort) (opening_given visible.Either resolver.slots total v.slot small it.0) ∙ suits_either v.sort };
  in_ensures = with_first_flag resolver.slots visible.Either (nothing_declared total) ∙ with_first_flag total visible.Free no_variables;
  in_loop = with_first_loop resolver.slots visible.Either (nothing_declared total) ∙ with_first_loop total visible.Free no_variables;
}

pub invariant_scoped : (given : Given) (i : Invariant) (faults : List Fault) → (invariant given i faults).resolver.faults ≡ [] → inv_is_scoped (invariant given i faults).made ≡ true
invariant_scoped given i faults none =
    let start = known given i.parameters faults in
    let valued = declared 256 given.bytes i.value sorts.Local start in
    let end = (invariant given i faults).resolver in
    let none_valued : valued.faults ≡ [] = parts_grow given 0 (i.first ∷ i.more) valued none in
    let none_start : start.faults ≡ [] = noted_grows start.faults _ none_valued in
    let next : valued.slots ≡ start.slots + 1 = (takes_one 256 given.bytes i.value sorts.Local start none_valued (omega arith)).1 in
    let late : valued.slots ≤ end.slots = parts_longer given 0 (i.first ∷ i.more) valued none in
    let small : start.slots ≤ 256 = parameters_top given.bytes (parameters_of i.parameters) (fresh faults) (omega arith) in
    let within : end.slots ≤ 256 = parts_top given 0 (i.first ∷ i.more) valued (one_more_top start.slots) in
    let ends : Ends start start.banks = record { more = []; are = sym (append-nil start.banks); high = refl } in
    let parametric = (parameters_known given.bytes (parameters_of i.parameters) (fresh faults) start.banks none_start ends (no_parameters faults start.banks)).0 in
    let shows = declared_shows (stand_in in_invariant false) end.slots (opening visible.Either start.slots end.slots) 256 given.bytes i.value sorts.Local visible.Given start
    (invariant_shows start start.banks end.slots parametric small within) none_valued (omega arith) refl in
    and_from _ _ (le-leb end.slots 256 within) (and_from _ _ (lt-ltb start.slots end.slots (omega (arith, next, late)))
    (parts_scoped given 0 (i.first ∷ i.more) valued end.slots (given_to (invariant given i faults).made) shows (omega arith) none))
