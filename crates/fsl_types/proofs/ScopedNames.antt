-- Names and scopes: a scope shows names, if each of them is seen as its sort says and the slots that aren't taken are
-- free. What is declared in both is shown again.
use Rattle.std.proofs.Common.{◌≡◌, ◌≢◌, ℕ, ◌+◌, ◌<◌, ◌≤◌, Bool, true, false, true≢false, not, ◌&&◌, ◌||◌, List, [], ◌∷◌, ◌++◌, length, take, Option, Some, None, is_some, refl, ap, sym, ◌∙◌, subst, ⊎_elim, if◌then◌else◌, arith, append_assoc, append-nil, leb-false}
use Rattle.std.proofs.lemmas.Bool.{and_from, and_parts, not-false}
use Rattle.std.proofs.lemmas.List.{get_or-set_other, get_or-set_same, length-set}
use Rattle.std.proofs.Math.Seq.{take-append_seam}
use Rattle.fsl_base.specs.declared.span.Span.{Span}
use Rattle.fsl_core.specs.declared.scope.Scope.{Scope}
use Rattle.fsl_core.specs.declared.scope.Sight.{Sight as Visibility}
use Rattle.fsl_core.specs.declared.scope.Sight.TheVariants as visible
use Rattle.fsl_core.specs.Scopes.{is_bank, is_number, is_settable, sight_at, with_sight}
use Rattle.fsl_types.specs.declared.occurrence.Due.{Due}
use Rattle.fsl_types.specs.declared.occurrence.Due.TheVariants as due
use Rattle.fsl_types.specs.declared.occurrence.Occurrence.TheVariants as occurrence
use Rattle.fsl_types.specs.declared.resolver.Resolver.{Resolver}
use Rattle.fsl_types.specs.declared.variable.Sort.{Sort}
use Rattle.fsl_types.specs.declared.variable.Sort.TheVariants as sorts
use Rattle.fsl_types.specs.declared.variable.Variable.{Variable}
use Rattle.fsl_types.specs.Faults.{is_due}
use Rattle.fsl_types.specs.Names.{Names, found, slot_of, sort_of, text_at}
use Rattle.fsl_types.specs.Resolvers.{declared}
use Rattle.fsl_types.proofs.ExpressionsLemmas.{Keeps, noted_keeps}
use Rattle.fsl_types.proofs.ResolverLemmas.{next_number}
use Rattle.fsl_types.proofs.TableLemmas.{found_either}

-- ---- sorts

-- where something stands: in code or in an assertion, in an `ensures`, in a loop
pub record Stand : Type 0 where
  pub code : Bool
  pub in_ensures : Bool
  pub in_loop : Bool

-- a variable is seen as its sort says; what code sees may be set, if it is no parameter
abbrev pub suits : Bool → Visibility → Sort → Bool
suits code seen sorts.Parameter = is_number seen
suits code seen sorts.Local = is_number seen && (not code || is_settable seen)
suits code seen sorts.Bank = is_bank seen

pub as_number : (code : Bool) (seen : Visibility) (sort : Sort) → suits code seen sort ≡ true → is_due due.Number sort ≡ true → is_number seen ≡ true
as_number code seen sorts.Parameter fit wanted = fit
as_number code seen sorts.Local fit wanted = (and_parts _ _ fit).0
as_number code seen sorts.Bank fit wanted = absurd (true≢false (sym wanted))

pub as_bank : (code : Bool) (seen : Visibility) (sort : Sort) → suits code seen sort ≡ true → is_due due.Bank sort ≡ true → is_bank seen ≡ true
as_bank code seen sorts.Parameter fit wanted = absurd (true≢false (sym wanted))
as_bank code seen sorts.Local fit wanted = absurd (true≢false (sym wanted))
as_bank code seen sorts.Bank fit wanted = fit

pub as_target : (seen : Visibility) (sort : Sort) → suits true seen sort ≡ true → is_due due.Target sort ≡ true → is_settable seen ≡ true
as_target seen sorts.Parameter fit wanted = absurd (true≢false (sym wanted))
as_target seen sorts.Local fit wanted = (and_parts (is_number seen) (is_settable seen) fit).1
as_target seen sorts.Bank fit wanted = absurd (true≢false (sym wanted))

less_strict : (code : Bool) (seen : Visibility) (sort : Sort) → suits code seen sort ≡ true → suits false seen sort ≡ true
less_strict code seen sorts.Parameter fit = fit
less_strict code seen sorts.Local fit = and_from _ _ (and_parts _ _ fit).0 refl
less_strict code seen sorts.Bank fit = fit

-- a name that keeps the rules is what is due
pub named : (scope : Scope) (place : Span) (wanted : Due) (test : Visibility → Bool) (o : Option Variable)
    → ((v : Variable) → o ≡ Some v → is_due wanted v.sort ≡ true → test (sight_at scope v.slot) ≡ true) → Keeps (occurrence.Variable place wanted (sort_of o))
    → test (sight_at scope (slot_of o)) ≡ true
named scope place wanted test None fit keeps = absurd (true≢false keeps.known)
named scope place wanted test (Some v) fit keeps = fit v refl (not-false (is_due wanted v.sort) keeps.typed)

-- ---- scopes

-- a variable of a name is seen as its sort says, and its slot is taken
pub record IsShown (code : Bool) (scope : Scope) (taken : ℕ) (v : Variable) : Type 0 where
  pub low : v.slot < taken
  pub fits : suits code (sight_at scope v.slot) v.sort ≡ true

-- of `total` slots those that aren't taken are free, and the names are seen as their sorts say
pub record Shows (stand : Stand) (total : ℕ) (scope : Scope) (resolver : Resolver) : Type 0 where
  pub wide : length scope.sights ≡ 256
  pub free : (slot : ℕ) → resolver.slots ≤ slot → slot < total → sight_at scope slot ≡ visible.Free
  pub each : (name : List ℕ) (v : Variable) → found name resolver.names ≡ Some v → IsShown stand.code scope resolver.slots v
  pub in_ensures : scope.in_ensures ≡ stand.in_ensures
  pub in_loop : scope.in_loop ≡ stand.in_loop

-- the same scope where more slots are taken, with the same names
pub shows_on : (stand : Stand) (total : ℕ) (scope : Scope) (before behind : Resolver) → Shows stand total scope before → before.slots ≤ behind.slots
    → behind.names ≡ before.names → Shows stand total scope behind
shows_on stand total scope before behind shows more same = record {
  wide = shows.wide;
  free = λ slot high low. shows.free slot (omega (arith, high, more)) low;
  each = λ name v is. let old = shows.each name v (ap (found name) (sym same) ∙ is) in record { low = let lower = old.low in omega (arith, lower, more); fits = old.fits };
  in_ensures = shows.in_ensures;
  in_loop = shows.in_loop;
}

-- an assertion stands in the code's scope
abbrev pub in_assertion : Stand → Stand
in_assertion stand = record stand { code = false }

pub shows_assertion : (stand : Stand) (total : ℕ) (scope : Scope) (resolver : Resolver) → Shows stand total scope resolver → Shows (in_assertion stand) total scope resolver
shows_assertion stand total scope resolver shows = record {
  wide = shows.wide;
  free = shows.free;
  each = λ name v is. let old = shows.each name v is in record { low = old.low; fits = less_strict stand.code (sight_at scope v.slot) v.sort old.fits };
  in_ensures = shows.in_ensures;
  in_loop = shows.in_loop;
}

-- ---- declarations

-- without faults, a declaration takes one slot of 256
pub takes_one : (limit : ℕ) (bytes : List ℕ) (name : Span) (sort : Sort) (resolver : Resolver) → (declared limit bytes name sort resolver).faults ≡ [] → limit ≤ 256
    → (resolver.slots < 256) × ((declared limit bytes name sort resolver).slots ≡ resolver.slots + 1)
takes_one limit bytes name sort resolver none within =
    let keeps = noted_keeps (occurrence.Declared name (is_some (found (text_at bytes name) resolver.names)) resolver.slots limit) resolver.faults none in
    let small : resolver.slots < limit = leb-false limit resolver.slots keeps.counted in
    (omega (arith, small, within), next_number limit 256 resolver.slots keeps.counted (omega (arith, within)))

pub declared_longer : (limit : ℕ) (bytes : List ℕ) (name : Span) (sort : Sort) (resolver : Resolver) → (declared limit bytes name sort resolver).faults ≡ [] → limit ≤ 256
    → resolver.slots ≤ (declared limit bytes name sort resolver).slots
declared_longer limit bytes name sort resolver none within = let more = (takes_one limit bytes name sort resolver none within).1 in omega (arith, more)

-- a sight is replaced
pub seen_there : (scope : Scope) (slot : ℕ) (seen : Visibility) → length scope.sights ≡ 256 → slot < 256 → sight_at (with_sight slot seen scope) slot ≡ seen
seen_there scope slot seen wide low = get_or-set_same scope.sights slot seen visible.Kept (subst (λ n. slot < n) (sym wide) low)

pub seen_other : (scope : Scope) (slot other : ℕ) (seen : Visibility) → other ≢ slot → sight_at (with_sight slot seen scope) other ≡ sight_at scope other
seen_other scope slot other seen apart = get_or-set_other scope.sights slot other seen visible.Kept apart

declared_shown : (code : Bool) (scope : Scope) (taken : ℕ) (sort : Sort) (seen : Visibility) (v : Variable) → length scope.sights ≡ 256 → taken < 256
    → suits code seen sort ≡ true → record { slot = taken; sort = sort } ≡ v → IsShown code (with_sight taken seen scope) (taken + 1) v
declared_shown code scope taken sort seen v wide low fit is =
    subst (IsShown code (with_sight taken seen scope) (taken + 1)) is
    (record { low = omega arith; fits = ap (λ (s : Visibility). suits code s sort) (seen_there scope taken seen wide low) ∙ fit })

shown_still : (code : Bool) (scope : Scope) (taken : ℕ) (seen : Visibility) (v : Variable) → IsShown code scope taken v → IsShown code (with_sight taken seen scope) (taken + 1) v
shown_still code scope taken seen v is =
    let lower = is.low in
    record {
      low = omega (arith, lower);
      fits = ap (λ (s : Visibility). suits code s v.sort) (seen_other scope taken v.slot seen (λ same. omega (arith, same, lower))) ∙ is.fits;
    }

pub declared_shows : (stand : Stand) (total : ℕ) (scope : Scope) (limit : ℕ) (bytes : List ℕ) (name : Span) (sort : Sort) (seen : Visibility) (resolver : Resolver)
    → Shows stand total scope resolver → (declared limit bytes name sort resolver).faults ≡ [] → limit ≤ 256 → suits stand.code seen sort ≡ true
    → Shows stand total (with_sight resolver.slots seen scope) (declared limit bytes name sort resolver)
declared_shows stand total scope limit bytes name sort seen resolver shows none within fit =
    let counted = takes_one limit bytes name sort resolver none within in
    let next : (declared limit bytes name sort resolver).slots ≡ resolver.slots + 1 = counted.1 in
    record {
      wide = length-set scope.sights resolver.slots seen ∙ shows.wide;
      free = λ slot high low.
          seen_other scope resolver.slots slot seen (λ same. omega (arith, same, high, next)) ∙ shows.free slot (omega (arith, high, next)) low;
      each = λ text v is.
          subst (λ n. IsShown stand.code (with_sight resolver.slots seen scope) n v) (sym next)
          (⊎_elim (λ before. shown_still stand.code scope resolver.slots seen v (shows.each text v before))
          (λ new. declared_shown stand.code scope resolver.slots sort seen v shows.wide counted.0 fit new.1)
          (found_either text (text_at bytes name) (record { slot = resolver.slots; sort = sort }) v resolver.names is));
      in_ensures = shows.in_ensures;
      in_loop = shows.in_loop;
    }

-- the slot of the next declaration is free
pub next_free : (stand : Stand) (total : ℕ) (scope : Scope) (limit : ℕ) (bytes : List ℕ) (name : Span) (sort : Sort) (resolver : Resolver) → Shows stand total scope resolver
    → (declared limit bytes name sort resolver).faults ≡ [] → limit ≤ 256 → (declared limit bytes name sort resolver).slots ≤ total
    → sight_at scope resolver.slots ≡ visible.Free
next_free stand total scope limit bytes name sort resolver shows none within room =
    let more = (takes_one limit bytes name sort resolver none within).1 in
    shows.free resolver.slots (omega arith) (omega (arith, more, room))

-- ---- blocks

-- names are put behind those that were there before
abbrev pub Behind : Names → Names → Type 0
Behind before behind = (more : Names) × (behind ≡ before ++ more)

pub behind_same : (names : Names) → Behind names names
behind_same names = ([], sym (append-nil names))

pub behind_both : (first second third : Names) → Behind first second → Behind second third → Behind first third
behind_both first second third one two = (one.0 ++ two.0, two.1 ∙ ap (λ names. names ++ two.0) one.1 ∙ append_assoc first one.0 two.0)

pub taken_back : (before behind : Names) → Behind before behind → take (length before) behind ≡ before
taken_back before behind is =
    ap (take (length before)) is.1 ∙ take-append_seam before is.0

with_name_behind : (b : Bool) (names : Names) (text : List ℕ) (v : Variable) → Behind names (if b then names else names ++ (text, v) ∷ [])
with_name_behind true names text v = behind_same names
with_name_behind false names text v = ((text, v) ∷ [], refl)

pub declared_behind : (limit : ℕ) (bytes : List ℕ) (name : Span) (sort : Sort) (resolver : Resolver) → Behind resolver.names (declared limit bytes name sort resolver).names
declared_behind limit bytes name sort resolver =
    with_name_behind (is_some (found (text_at bytes name) resolver.names)) resolver.names (text_at bytes name) (record { slot = resolver.slots; sort = sort })
