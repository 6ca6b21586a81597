-- What is made of an assertion without faults stands in each scope that shows the names before it, and the scope behind
-- it shows those behind it.
use Rattle.std.proofs.Common.{◌≡◌, ℕ, ◌<◌, ◌≤◌, Bool, true, false, true≢false, ◌&&◌, List, [], ◌∷◌, Option, Some, None, map, length, refl, ap, sym, ◌∙◌, subst, arith, append-nil}
use Rattle.std.proofs.lemmas.Bool.{and_from, and_parts, eqb-true, not-false}
use Rattle.fsl_base.specs.declared.span.Span.{Span}
use Rattle.fsl_core.specs.declared.assertion.Asrt.{Asrt, map-Asrt}
use Rattle.fsl_core.specs.declared.assertion.Asrt.TheFolds.{fold-roll-Asrt}
use Rattle.fsl_core.specs.declared.assertion.Asrt.TheOpen.{Asrt-F}
use Rattle.fsl_core.specs.declared.assertion.Asrt.TheVariants as asrt
use Rattle.fsl_core.specs.declared.assertion.Asrt.TheVariants.{rolls-Emp, rolls-Fact, rolls-Points, rolls-Init, rolls-Rel, rolls-Acq, rolls-RmwAcq, rolls-Tok, rolls-Auth, rolls-Choice, rolls-Up, rolls-Down, rolls-Both}
use Rattle.fsl_core.specs.declared.assertion.Asrt.TheViews.{roll-Asrt}
use Rattle.fsl_core.specs.declared.expr.Expr.TheOpen.{Expr-F}
use Rattle.fsl_core.specs.declared.expr.Expr.TheVariants.{rolls-Const}
use Rattle.fsl_core.specs.declared.scope.Scope.{Scope}
use Rattle.fsl_core.specs.declared.scope.Sight.TheVariants as visible
use Rattle.fsl_core.specs.Scopes.{Scoped, asrt_scoped, asrt_step, bound, in_turn as together, inst_reads, is_bank, is_free, pat_fits, reads, sight_at, still}
use Rattle.fsl_tree.specs.declared.assertion.Assertion.{Assertion, map-Assertion}
use Rattle.fsl_tree.specs.declared.assertion.Atom.{Atom, map-Atom}
use Rattle.fsl_tree.specs.declared.assertion.Atom.TheFolds.{ind-Assertion, fold-roll-Atom, fold-roll-Assertion, fold-roll-Conjunct}
use Rattle.fsl_tree.specs.declared.assertion.Atom.TheOpen.{Atom-F, Assertion-F, Conjunct-F}
use Rattle.fsl_tree.specs.declared.assertion.Atom.TheViews.{roll-Atom, roll-Assertion, roll-Conjunct}
use Rattle.fsl_tree.specs.declared.assertion.BankWord.{BankWord}
use Rattle.fsl_tree.specs.declared.assertion.BankWord.TheVariants as bank_words
use Rattle.fsl_tree.specs.declared.assertion.Conjunct.{Conjunct, map-Conjunct}
use Rattle.fsl_tree.specs.declared.assertion.Pattern.{Pattern}
use Rattle.fsl_tree.specs.declared.assertion.Pattern.TheVariants as patterns
use Rattle.fsl_tree.specs.declared.assertion.Relation.{Relation}
use Rattle.fsl_tree.specs.declared.assertion.Relation.TheVariants as relations
use Rattle.fsl_tree.specs.declared.assertion.Share.{Share}
use Rattle.fsl_tree.specs.declared.declaration.Clause.{Clause}
use Rattle.fsl_tree.specs.declared.expression.Arguments.{Arguments}
use Rattle.fsl_tree.specs.declared.expression.Condition.{Condition}
use Rattle.fsl_tree.specs.declared.expression.Condition.TheVariants as conditions
use Rattle.fsl_tree.specs.declared.expression.Expression.{Expression}
use Rattle.fsl_tree.specs.declared.expression.Use.{Use}
use Rattle.fsl_types.specs.declared.fault.Fault.{Fault}
use Rattle.fsl_types.specs.declared.given.Setting.{Setting}
use Rattle.fsl_types.specs.declared.occurrence.Occurrence.TheVariants as occurrence
use Rattle.fsl_types.specs.declared.resolver.Resolver.{Resolver}
use Rattle.fsl_types.specs.declared.variable.Signature.{Signature}
use Rattle.fsl_types.specs.declared.variable.Sort.TheVariants as sorts
use Rattle.fsl_types.specs.Assertions.{Reads, apart, assertion, assertion_step, atom, atom_step, both_of, choice, clause, conjunct, conjunct_step, each, full_share, judged_acquire, judged_permission, judged_share, judged_tokens, modality, number_in, part_number, pattern, relation, share_of, sight, tokens, unmodal}
use Rattle.fsl_types.specs.Expressions.{Judged, Sight, arguments_of, banks_of, condition_of, expression_of, fits, instance_of, judged_condition, judged_number, judged_use, numbered_arguments, signature_at}
use Rattle.fsl_types.specs.Given.{Given}
use Rattle.fsl_types.specs.Names.{Signatures, slot_at}
use Rattle.fsl_types.specs.Resolvers.{judging}
use Rattle.fsl_types.proofs.AssertionsLemmas.{acquire_numbered, pattern_grows, permission_grows, share_grows}
use Rattle.fsl_types.proofs.ExpressionsLemmas.{Grows, Keeps, condition_grows, noted_grows, number_grows, use_grows, use_keeps}
use Rattle.fsl_types.proofs.ResolverLemmas.{one_more_top}
use Rattle.fsl_types.proofs.ScopedExpressions.{Reaches, arguments_given, each_given, bank_seen, condition_tested, excluded_read, instance_given, number_read, reaches, read_layer}
use Rattle.fsl_types.proofs.ScopedNames.{Behind, Shows, Stand, behind_both, behind_same, declared_behind, declared_longer, declared_shows, next_free, seen_other, shows_on, taken_back}

-- ---- uses of invariants

-- where a signature is known and there are as many arguments as parameters
pub as_many : (o : Option Signature) (place : Span) (arguments : Option Arguments) → Keeps (occurrence.Used place (fits arguments o))
    → length (arguments_of arguments) ≡ length (banks_of o)
as_many None place arguments keeps = absurd (true≢false keeps.known)
as_many (Some s) place arguments keeps = eqb-true _ _ (not-false _ keeps.fitting)

pub use_given : (scope : Scope) (seen : Sight) → Reaches scope seen → (o : Option Signature) (u : Use) (faults : List Fault) → judged_use seen o u faults ≡ []
    → each_given scope (banks_of o) (map (expression_of seen.bytes seen.names) (arguments_of u.arguments)) ≡ true
use_given scope seen reach o u faults none =
    arguments_given scope seen reach (banks_of o) (arguments_of u.arguments) _ (as_many o u.name u.arguments (use_keeps seen o u faults none)) none

pub instance_read : (scope : Scope) (seen : Sight) → Reaches scope seen → (signatures : Signatures) (u : Use) (faults : List Fault)
    → judged_use seen (signature_at seen.bytes signatures u.name) u faults ≡ [] → inst_reads scope (instance_of seen.bytes signatures seen.names u) ≡ true
instance_read scope seen reach signatures u faults none =
    instance_given scope (banks_of (signature_at seen.bytes signatures u.name)) _ (use_given scope seen reach (signature_at seen.bytes signatures u.name) u faults none)

-- ---- what stands in a scope

-- one layer of an assertion
scoped_layer : (a : Asrt) (layer : Asrt-F Asrt) → roll-Asrt layer ≡ a → asrt_step (map-Asrt Asrt Scoped asrt_scoped layer) ≡ asrt_scoped a
scoped_layer a layer is = sym (fold-roll-Asrt Scoped asrt_step layer) ∙ ap asrt_scoped is

-- it may stand there, the scope behind it shows the names, and what was declared before is seen as before
pub record Stands (stand : Stand) (total : ℕ) (scope : Scope) (x : Scoped) (before behind : Resolver) : Type 0 where
  pub fits : x.fits scope ≡ true
  pub shows : Shows stand total (x.behind scope) behind
  pub old : (slot : ℕ) → slot < before.slots → sight_at (x.behind scope) slot ≡ sight_at scope slot

-- as what stands there is known
stands_as : (stand : Stand) (total : ℕ) (scope : Scope) (x y : Scoped) (before behind : Resolver) → x ≡ y → Stands stand total scope y before behind
    → Stands stand total scope x before behind
stands_as stand total scope x y before behind is stands = subst (λ (z : Scoped). Stands stand total scope z before behind) (sym is) stands

-- where assertions stand: in a setting
abbrev pub stand_in : Setting → Bool → Stand
stand_in setting in_loop = record { code = false; in_ensures = setting.in_ensures; in_loop = in_loop }

-- whatever is read without faults takes slots, puts names behind those that are there, declares no bank, and stands in
-- a scope that shows the names
pub record Binding (reads_it : Reads) : Type 0 where
  pub grows : (setting : Setting) (resolver : Resolver) → (reads_it setting resolver).resolver.faults ≡ [] → resolver.faults ≡ []
  pub longer : (setting : Setting) (resolver : Resolver) → (reads_it setting resolver).resolver.faults ≡ [] → resolver.slots ≤ (reads_it setting resolver).resolver.slots
  pub top : (setting : Setting) (resolver : Resolver) → resolver.slots ≤ 256 → (reads_it setting resolver).resolver.slots ≤ 256
  pub names : (setting : Setting) (resolver : Resolver) → Behind resolver.names (reads_it setting resolver).resolver.names
  pub banks : (setting : Setting) (resolver : Resolver) → (reads_it setting resolver).resolver.banks ≡ resolver.banks
  pub stands : (setting : Setting) (in_loop : Bool) (resolver : Resolver) (total : ℕ) (scope : Scope) → Shows (stand_in setting in_loop) total scope resolver
      → (reads_it setting resolver).resolver.slots ≤ total → (reads_it setting resolver).resolver.faults ≡ []
      → Stands (stand_in setting in_loop) total scope (asrt_scoped (reads_it setting resolver).made) resolver (reads_it setting resolver).resolver

-- a part that declares nothing, whose faults are judged alone
judges : (make : Resolver → Asrt) (judged : Setting → Resolver → Judged) → ((setting : Setting) (resolver : Resolver) → Grows (judged setting resolver))
    → ((setting : Setting) (in_loop : Bool) (resolver : Resolver) (total : ℕ) (scope : Scope) → Shows (stand_in setting in_loop) total scope resolver
    → judged setting resolver resolver.faults ≡ []
    → (test : Scope → Bool) × (asrt_scoped (make resolver) ≡ still test) × (test scope ≡ true))
    → Binding (λ setting resolver. record { made = make resolver; resolver = judging (judged setting resolver) resolver })
judges make judged grow fit = record {
  grows = λ setting resolver none. grow setting resolver resolver.faults none;
  longer = λ setting resolver none. omega arith;
  top = λ setting resolver small. small;
  names = λ setting resolver. behind_same resolver.names;
  banks = λ setting resolver. refl;
  stands = λ setting in_loop resolver total scope shows room none.
      let is = fit setting in_loop resolver total scope shows none in
      stands_as (stand_in setting in_loop) total scope _ (still is.0) resolver _ is.1
      (record { fits = is.2; shows = shows_on (stand_in setting in_loop) total scope resolver _ shows (omega arith) refl; old = λ slot low. refl });
}

-- what is read apart
pub apart_binds : (reads_it : Reads) → Binding reads_it → (setting : Setting) (resolver : Resolver) → (apart reads_it setting resolver).resolver.names ≡ resolver.names
apart_binds reads_it binds setting resolver = taken_back resolver.names (reads_it setting resolver).resolver.names (binds.names setting resolver)

pub apart_stands : (reads_it : Reads) → Binding reads_it → (setting : Setting) (in_loop : Bool) (resolver : Resolver) (total : ℕ) (scope : Scope)
    → Shows (stand_in setting in_loop) total scope resolver → (apart reads_it setting resolver).resolver.slots ≤ total → (apart reads_it setting resolver).resolver.faults ≡ []
    → ((asrt_scoped (apart reads_it setting resolver).made).fits scope ≡ true) × Shows (stand_in setting in_loop) total scope (apart reads_it setting resolver).resolver
apart_stands reads_it binds setting in_loop resolver total scope shows room none = (
  (binds.stands setting in_loop resolver total scope shows room none).fits,
  shows_on (stand_in setting in_loop) total scope resolver _ shows (binds.longer setting resolver none) (apart_binds reads_it binds setting resolver),
)

-- ---- parts of assertions

full_read : (scope : Scope) → reads scope full_share ≡ true
full_read scope = read_layer scope _ (Expr-F.Const _) (rolls-Const _) refl

share_read : (given : Given) (scope : Scope) (setting : Setting) (resolver : Resolver) → Reaches scope (sight given setting.in_ensures resolver) → (share : Option Share) (faults : List Fault)
    → judged_share (sight given setting.in_ensures resolver) share faults ≡ [] → reads scope (share_of given resolver share) ≡ true
share_read given scope setting resolver reach None faults none = full_read scope
share_read given scope setting resolver reach (Some share) faults none = number_read scope _ reach share.amount faults none

-- a pattern's own laws
pattern_longer : (given : Given) (setting : Setting) (value : Pattern) (resolver : Resolver) → (pattern given setting value resolver).resolver.faults ≡ []
    → resolver.slots ≤ (pattern given setting value resolver).resolver.slots
pattern_longer given setting (patterns.Any place) resolver none = omega arith
pattern_longer given setting (patterns.Binder mark name) resolver none = declared_longer 256 given.bytes name sorts.Local resolver none (omega arith)
pattern_longer given setting (patterns.Value value) resolver none = omega arith

pattern_top : (given : Given) (setting : Setting) (value : Pattern) (resolver : Resolver) → resolver.slots ≤ 256 → (pattern given setting value resolver).resolver.slots ≤ 256
pattern_top given setting (patterns.Any place) resolver small = small
pattern_top given setting (patterns.Binder mark name) resolver small = one_more_top resolver.slots
pattern_top given setting (patterns.Value value) resolver small = small

pattern_names : (given : Given) (setting : Setting) (value : Pattern) (resolver : Resolver) → Behind resolver.names (pattern given setting value resolver).resolver.names
pattern_names given setting (patterns.Any place) resolver = behind_same resolver.names
pattern_names given setting (patterns.Binder mark name) resolver = declared_behind 256 given.bytes name sorts.Local resolver
pattern_names given setting (patterns.Value value) resolver = behind_same resolver.names

pattern_banks : (given : Given) (setting : Setting) (value : Pattern) (resolver : Resolver) → (pattern given setting value resolver).resolver.banks ≡ resolver.banks
pattern_banks given setting (patterns.Any place) resolver = refl
pattern_banks given setting (patterns.Binder mark name) resolver = refl
pattern_banks given setting (patterns.Value value) resolver = refl

-- a pattern binds the next slot alone
pattern_old : (given : Given) (setting : Setting) (value : Pattern) (resolver : Resolver) (scope : Scope) (slot : ℕ) → slot < resolver.slots
    → sight_at (bound (pattern given setting value resolver).made scope) slot ≡ sight_at scope slot
pattern_old given setting (patterns.Any place) resolver scope slot low = refl
pattern_old given setting (patterns.Binder mark name) resolver scope slot low = seen_other scope resolver.slots slot visible.Bound (λ same. omega (arith, same, low))
pattern_old given setting (patterns.Value value) resolver scope slot low = refl

pattern_stands : (given : Given) (setting : Setting) (in_loop : Bool) (value : Pattern) (resolver : Resolver) (total : ℕ) (scope : Scope) → Shows (stand_in setting in_loop) total scope resolver
    → (pattern given setting value resolver).resolver.slots ≤ total → (pattern given setting value resolver).resolver.faults ≡ []
    → (pat_fits scope (pattern given setting value resolver).made ≡ true)
    × Shows (stand_in setting in_loop) total (bound (pattern given setting value resolver).made scope) (pattern given setting value resolver).resolver
pattern_stands given setting in_loop (patterns.Any place) resolver total scope shows room none = (refl, shows)
pattern_stands given setting in_loop (patterns.Binder mark name) resolver total scope shows room none = (
  ap is_free (next_free (stand_in setting in_loop) total scope 256 given.bytes name sorts.Local resolver shows none (omega arith) room),
  declared_shows (stand_in setting in_loop) total scope 256 given.bytes name sorts.Local visible.Bound resolver shows none (omega arith) refl,
)
pattern_stands given setting in_loop (patterns.Value value) resolver total scope shows room none = (
  number_read scope _ (reaches (stand_in setting in_loop) total scope resolver given.bytes shows) value resolver.faults none,
  shows_on (stand_in setting in_loop) total scope resolver _ shows (omega arith) refl,
)

relation_binds : (given : Given) (left : Expression) (how : Relation) → Binding (λ setting resolver. relation given setting left how resolver)
relation_binds given left (relations.Compared comparison right) =
    judges (λ resolver. asrt.Fact (condition_of given.bytes resolver.names (conditions.Compared left comparison right)))
    (λ setting resolver. judged_condition (sight given setting.in_ensures resolver) (conditions.Compared left comparison right))
    (λ setting resolver. condition_grows (sight given setting.in_ensures resolver) (conditions.Compared left comparison right))
    (λ setting in_loop resolver total scope shows none. (
      _,
      sym (scoped_layer _ (Asrt-F.Fact _) (rolls-Fact _)),
      condition_tested scope _ (reaches (stand_in setting in_loop) total scope resolver given.bytes shows) (conditions.Compared left comparison right) resolver.faults none,
    ))
relation_binds given left (relations.PointsTo arrow share value) = record {
  grows = λ setting resolver none.
      let seen = sight given setting.in_ensures resolver in
      number_grows seen left resolver.faults (share_grows seen share _ (pattern_grows given setting value _ none));
  longer = λ setting resolver none. pattern_longer given setting value _ none;
  top = λ setting resolver small.
      let seen = sight given setting.in_ensures resolver in
      pattern_top given setting value (judging (λ faults. judged_share seen share (judged_number seen left faults)) resolver) small;
  names = λ setting resolver. pattern_names given setting value _;
  banks = λ setting resolver. pattern_banks given setting value _;
  stands = λ setting in_loop resolver total scope shows room none.
      let seen = sight given setting.in_ensures resolver in
      let reach = reaches (stand_in setting in_loop) total scope resolver given.bytes shows in
      let judged = judging (λ faults. judged_share seen share (judged_number seen left faults)) resolver in
      let shared = pattern_grows given setting value judged none in
      let behind = pattern_stands given setting in_loop value judged total scope (shows_on (stand_in setting in_loop) total scope resolver judged shows (omega arith) refl) room none in
      let is = scoped_layer _ (Asrt-F.Points (number_in given resolver left) (share_of given resolver share) (pattern given setting value judged).made) (rolls-Points _ _ _) in
      stands_as (stand_in setting in_loop) total scope _ _ resolver _ (sym is)
      (record {
        fits = and_from _ _ (number_read scope seen reach left resolver.faults (share_grows seen share _ shared)) (and_from _ _ (share_read given scope setting resolver reach share _ shared) behind.0);
        shows = behind.1;
        old = pattern_old given setting value judged scope;
      });
}

permission_read : (scope : Scope) (seen : Sight) → Reaches scope seen → (signatures : Signatures) (location : Expression) (u : Use) (faults : List Fault)
    → judged_permission seen signatures location u faults ≡ []
    → (reads scope (expression_of seen.bytes seen.names location) && inst_reads scope (instance_of seen.bytes signatures seen.names u)) ≡ true
permission_read scope seen reach signatures location u faults none =
    and_from _ _ (number_read scope seen reach location faults (use_grows seen (signature_at seen.bytes signatures u.name) u _ none))
    (instance_read scope seen reach signatures u _ none)

tokens_scoped : (given : Given) (scope : Scope) (resolver : Resolver) (word : BankWord) (bank : Span) (amount : Expression) → (is_bank (sight_at scope (slot_at given.bytes resolver.names bank)) && reads scope (number_in given resolver amount)) ≡ true
    → (test : Scope → Bool) × (asrt_scoped (tokens given resolver word bank amount) ≡ still test) × (test scope ≡ true)
tokens_scoped given scope resolver (bank_words.Tok place) bank amount is = (_, sym (scoped_layer _ (Asrt-F.Tok _ _) (rolls-Tok _ _)), is)
tokens_scoped given scope resolver (bank_words.Auth place) bank amount is = (_, sym (scoped_layer _ (Asrt-F.Auth _ _) (rolls-Auth _ _)), is)

pub empty_scoped : (scope : Scope) → (asrt_scoped asrt.Emp).fits scope ≡ true
empty_scoped scope = ap (λ (x : Scoped). x.fits scope) (sym (scoped_layer asrt.Emp Asrt-F.Emp rolls-Emp))

empty_binds : Binding (λ setting resolver. record { made = asrt.Emp; resolver = resolver })
empty_binds = record {
  grows = λ setting resolver none. none;
  longer = λ setting resolver none. omega arith;
  top = λ setting resolver small. small;
  names = λ setting resolver. behind_same resolver.names;
  banks = λ setting resolver. refl;
  stands = λ setting in_loop resolver total scope shows room none.
      stands_as (stand_in setting in_loop) total scope _ _ resolver resolver (sym (scoped_layer asrt.Emp Asrt-F.Emp rolls-Emp)) (record { fits = refl; shows = shows; old = λ slot low. refl });
}

-- inside a modality
modality_binds : (reads_it : Reads) → Binding reads_it → (word : Span) (make : Asrt → Asrt) → ((a : Asrt) → asrt_scoped (make a) ≡ still (asrt_scoped a).fits)
    → Binding (λ setting resolver. let read = apart reads_it (unmodal setting) (modality word setting resolver) in record { made = make read.made; resolver = read.resolver })
modality_binds reads_it inside word make is = record {
  grows = λ setting resolver none. noted_grows resolver.faults _ (inside.grows (unmodal setting) _ none);
  longer = λ setting resolver none. inside.longer (unmodal setting) (modality word setting resolver) none;
  top = λ setting resolver small. inside.top (unmodal setting) (modality word setting resolver) small;
  names = λ setting resolver. ([], apart_binds reads_it inside (unmodal setting) (modality word setting resolver) ∙ sym (append-nil resolver.names));
  banks = λ setting resolver. inside.banks (unmodal setting) (modality word setting resolver);
  stands = λ setting in_loop resolver total scope shows room none.
      let after = modality word setting resolver in
      let behind = apart_stands reads_it inside (unmodal setting) in_loop after total scope (shows_on (stand_in setting in_loop) total scope resolver after shows (omega arith) refl) room none in
      stands_as (stand_in setting in_loop) total scope _ _ resolver _ (is (apart reads_it (unmodal setting) after).made) (record { fits = behind.0; shows = behind.1; old = λ slot low. refl });
}

choice_binds : (given : Given) (condition : Condition) (first second : Reads) → Binding first → Binding second → Binding (choice given condition first second)
choice_binds given condition first second one other = record {
  grows = λ setting resolver none. condition_grows (sight given setting.in_ensures resolver) condition resolver.faults (one.grows setting _ (other.grows setting _ none));
  longer = λ setting resolver none.
      let judged = judging (judged_condition (sight given setting.in_ensures resolver) condition) resolver in
      let between = (apart first setting judged).resolver in
      let late = other.longer setting between none in
      let early = one.longer setting judged (other.grows setting between none) in
      omega (arith, early, late);
  top = λ setting resolver small.
      let judged = judging (judged_condition (sight given setting.in_ensures resolver) condition) resolver in
      other.top setting (apart first setting judged).resolver (one.top setting judged small);
  names = λ setting resolver.
      let judged = judging (judged_condition (sight given setting.in_ensures resolver) condition) resolver in
      ([], apart_binds second other setting (apart first setting judged).resolver ∙ apart_binds first one setting judged ∙ sym (append-nil resolver.names));
  banks = λ setting resolver.
      let judged = judging (judged_condition (sight given setting.in_ensures resolver) condition) resolver in
      other.banks setting (apart first setting judged).resolver ∙ one.banks setting judged;
  stands = λ setting in_loop resolver total scope shows room none.
      let seen = sight given setting.in_ensures resolver in
      let judged = judging (judged_condition seen condition) resolver in
      let between = (apart first setting judged).resolver in
      let none_between = other.grows setting between none in
      let none_judged = one.grows setting judged none_between in
      let late = other.longer setting between none in
      let arm = apart_stands first one setting in_loop judged total scope (shows_on (stand_in setting in_loop) total scope resolver judged shows (omega arith) refl) (omega (arith, room, late)) none_between in
      let rest = apart_stands second other setting in_loop between total scope arm.1 room none in
      let is = scoped_layer _ (Asrt-F.Choice (condition_of given.bytes resolver.names condition) (apart first setting judged).made (apart second setting between).made) (rolls-Choice _ _ _) in
      let tested = condition_tested scope seen (reaches (stand_in setting in_loop) total scope resolver given.bytes shows) condition resolver.faults none_judged in
      stands_as (stand_in setting in_loop) total scope _ _ resolver _ (sym is) (record { fits = and_from _ _ tested (and_from _ _ arm.0 rest.0); shows = rest.1; old = λ slot low. refl });
}

-- ---- several parts

-- a part of a tree of which this holds
abbrev Bound : (A : Type 0) → (A → Reads) → Type 0
Bound A reads_it = (part : A) × Binding (reads_it part)

each_grows : {A : Type 0} (reads_it : A → Reads) (parts : List (Bound A reads_it)) (setting : Setting) (resolver : Resolver)
    → (each (map reads_it (map (λ part. part.0) parts)) setting resolver).resolver.faults ≡ [] → resolver.faults ≡ []
each_grows reads_it [] setting resolver none = none
each_grows reads_it (part ∷ parts) setting resolver none = part.1.grows setting resolver (each_grows reads_it parts setting _ none)

each_longer : {A : Type 0} (reads_it : A → Reads) (parts : List (Bound A reads_it)) (setting : Setting) (resolver : Resolver)
    → (each (map reads_it (map (λ part. part.0) parts)) setting resolver).resolver.faults ≡ []
    → resolver.slots ≤ (each (map reads_it (map (λ part. part.0) parts)) setting resolver).resolver.slots
each_longer reads_it [] setting resolver none = omega arith
each_longer reads_it (part ∷ parts) setting resolver none =
    let between = (reads_it part.0 setting resolver).resolver in
    let late = each_longer reads_it parts setting between none in
    let early = part.1.longer setting resolver (each_grows reads_it parts setting between none) in
    omega (arith, early, late)

each_top : {A : Type 0} (reads_it : A → Reads) (parts : List (Bound A reads_it)) (setting : Setting) (resolver : Resolver) → resolver.slots ≤ 256
    → (each (map reads_it (map (λ part. part.0) parts)) setting resolver).resolver.slots ≤ 256
each_top reads_it [] setting resolver small = small
each_top reads_it (part ∷ parts) setting resolver small = each_top reads_it parts setting (reads_it part.0 setting resolver).resolver (part.1.top setting resolver small)

each_names : {A : Type 0} (reads_it : A → Reads) (parts : List (Bound A reads_it)) (setting : Setting) (resolver : Resolver)
    → Behind resolver.names (each (map reads_it (map (λ part. part.0) parts)) setting resolver).resolver.names
each_names reads_it [] setting resolver = behind_same resolver.names
each_names reads_it (part ∷ parts) setting resolver =
    behind_both resolver.names (reads_it part.0 setting resolver).resolver.names _ (part.1.names setting resolver) (each_names reads_it parts setting _)

each_banks : {A : Type 0} (reads_it : A → Reads) (parts : List (Bound A reads_it)) (setting : Setting) (resolver : Resolver)
    → (each (map reads_it (map (λ part. part.0) parts)) setting resolver).resolver.banks ≡ resolver.banks
each_banks reads_it [] setting resolver = refl
each_banks reads_it (part ∷ parts) setting resolver = each_banks reads_it parts setting _ ∙ part.1.banks setting resolver

abbrev AllStand : Stand → ℕ → Scope → List Asrt → Resolver → Resolver → Type 0
AllStand stand total scope made before behind = Stands stand total scope (together (map asrt_scoped made)) before behind

each_stands : {A : Type 0} (reads_it : A → Reads) (parts : List (Bound A reads_it)) (setting : Setting) (in_loop : Bool) (resolver : Resolver) (total : ℕ) (scope : Scope)
    → Shows (stand_in setting in_loop) total scope resolver
    → (each (map reads_it (map (λ part. part.0) parts)) setting resolver).resolver.slots ≤ total
    → (each (map reads_it (map (λ part. part.0) parts)) setting resolver).resolver.faults ≡ []
    → AllStand (stand_in setting in_loop) total scope (each (map reads_it (map (λ part. part.0) parts)) setting resolver).made resolver
    (each (map reads_it (map (λ part. part.0) parts)) setting resolver).resolver
each_stands reads_it [] setting in_loop resolver total scope shows room none = record { fits = refl; shows = shows; old = λ slot low. refl }
each_stands reads_it (part ∷ parts) setting in_loop resolver total scope shows room none =
    let between = (reads_it part.0 setting resolver).resolver in
    let late = each_longer reads_it parts setting between none in
    let one = part.1.stands setting in_loop resolver total scope shows (omega (arith, room, late)) (each_grows reads_it parts setting between none) in
    let others = each_stands reads_it parts setting in_loop between total _ one.shows room none in
    let early = part.1.longer setting resolver (each_grows reads_it parts setting between none) in
    record { fits = and_from _ _ one.fits others.fits; shows = others.shows; old = λ slot low. others.old slot (omega (arith, low, early)) ∙ one.old slot low }

both_stand : (stand : Stand) (total : ℕ) (scope : Scope) (first : Asrt) (more : List Asrt) (before behind : Resolver) → AllStand stand total scope (first ∷ more) before behind
    → Stands stand total scope (asrt_scoped (both_of first more)) before behind
both_stand stand total scope first [] before behind all = record { fits = (and_parts _ _ all.fits).0; shows = all.shows; old = all.old }
both_stand stand total scope first (a ∷ more) before behind all =
    stands_as stand total scope _ _ before behind (sym (scoped_layer _ (Asrt-F.Both (first ∷ a ∷ more)) (rolls-Both _))) all

-- ---- one level of an assertion

abbrev BoundAtom : Given → Type 0
BoundAtom given = Bound Atom (atom given)

abbrev BoundAssertion : Given → Type 0
BoundAssertion given = Bound Assertion (assertion given)

abbrev BoundConjunct : Given → Type 0
BoundConjunct given = Bound Conjunct (conjunct given)

abbrev AtomParts : Given → Type 0
AtomParts given = Atom-F (BoundAtom given) (BoundAssertion given) (BoundConjunct given)

abbrev bare_atom : (given : Given) → AtomParts given → Atom-F Atom Assertion Conjunct
bare_atom given y = map-Atom (BoundAtom given) (BoundAssertion given) (BoundConjunct given) Atom Assertion Conjunct (λ part. part.0) (λ part. part.0) (λ part. part.0) y

abbrev atom_reads : Given → Atom-F Atom Assertion Conjunct → Reads
atom_reads given x = atom_step given (map-Atom Atom Assertion Conjunct Reads Reads Reads (atom given) (assertion given) (conjunct given) x)

atom_layer_binds : (given : Given) (y : AtomParts given) → Binding (atom_reads given (bare_atom given y))
atom_layer_binds given (Atom-F.Empty word) = empty_binds
atom_layer_binds given (Atom-F.Choice word start condition end first_start first first_end otherwise second_start second second_end) =
    choice_binds given condition _ _ first.1 second.1
atom_layer_binds given (Atom-F.Up word start inside end) = modality_binds _ inside.1 word asrt.Up (λ a. sym (scoped_layer _ (Asrt-F.Up a) (rolls-Up a)))
atom_layer_binds given (Atom-F.Down word start inside end) = modality_binds _ inside.1 word asrt.Down (λ a. sym (scoped_layer _ (Asrt-F.Down a) (rolls-Down a)))
atom_layer_binds given (Atom-F.Init word start location end) =
    judges (λ resolver. asrt.Init (number_in given resolver location)) (λ setting resolver. judged_number (sight given setting.in_ensures resolver) location)
    (λ setting resolver. number_grows (sight given setting.in_ensures resolver) location)
    (λ setting in_loop resolver total scope shows none. (
      _,
      sym (scoped_layer _ (Asrt-F.Init _) (rolls-Init _)),
      number_read scope _ (reaches (stand_in setting in_loop) total scope resolver given.bytes shows) location resolver.faults none,
    ))
atom_layer_binds given (Atom-F.Rel word start location comma invariant end) =
    judges (λ resolver. asrt.Rel (number_in given resolver location) (instance_of given.bytes given.invariants resolver.names invariant))
    (λ setting resolver. judged_permission (sight given setting.in_ensures resolver) given.invariants location invariant)
    (λ setting resolver. permission_grows (sight given setting.in_ensures resolver) given.invariants location invariant)
    (λ setting in_loop resolver total scope shows none. (
      _,
      sym (scoped_layer _ (Asrt-F.Rel _ _) (rolls-Rel _ _)),
      permission_read scope _ (reaches (stand_in setting in_loop) total scope resolver given.bytes shows) given.invariants location invariant resolver.faults none,
    ))
atom_layer_binds given (Atom-F.RmwAcq word start location comma invariant end) =
    judges (λ resolver. asrt.RmwAcq (number_in given resolver location) (instance_of given.bytes given.invariants resolver.names invariant))
    (λ setting resolver. judged_permission (sight given setting.in_ensures resolver) given.invariants location invariant)
    (λ setting resolver. permission_grows (sight given setting.in_ensures resolver) given.invariants location invariant)
    (λ setting in_loop resolver total scope shows none. (
      _,
      sym (scoped_layer _ (Asrt-F.RmwAcq _ _) (rolls-RmwAcq _ _)),
      permission_read scope _ (reaches (stand_in setting in_loop) total scope resolver given.bytes shows) given.invariants location invariant resolver.faults none,
    ))
atom_layer_binds given (Atom-F.Acq word start location use_comma invariant part_comma part value set_comma set_start excluded set_end end) =
    judges (λ resolver. asrt.Acq (number_in given resolver location) (instance_of given.bytes given.invariants resolver.names invariant) (part_number value)
    (numbered_arguments given.bytes resolver.names excluded))
    (λ setting resolver. judged_acquire (sight given setting.in_ensures resolver) given.invariants location invariant part value excluded)
    (λ setting resolver faults none.
    let seen = sight given setting.in_ensures resolver in
    permission_grows seen given.invariants location invariant faults (noted_grows _ _ (acquire_numbered seen given.invariants location invariant part value excluded faults none)))
    (λ setting in_loop resolver total scope shows none.
    let seen = sight given setting.in_ensures resolver in
    let reach = reaches (stand_in setting in_loop) total scope resolver given.bytes shows in
    let both = and_parts _ _ (permission_read scope seen reach given.invariants location invariant resolver.faults
    (noted_grows _ _ (acquire_numbered seen given.invariants location invariant part value excluded resolver.faults none))) in (
      _,
      sym (scoped_layer _ (Asrt-F.Acq _ _ _ _) (rolls-Acq _ _ _ _)),
      and_from _ _ both.0 (and_from _ _ both.1 (excluded_read scope seen reach 0 (arguments_of excluded) _ none)),
    ))
atom_layer_binds given (Atom-F.Bank word start bank comma amount end) =
    judges (λ resolver. tokens given resolver word bank amount) (λ setting resolver. judged_tokens (sight given setting.in_ensures resolver) bank amount)
    (λ setting resolver faults none. noted_grows faults _ (number_grows (sight given setting.in_ensures resolver) amount _ none))
    (λ setting in_loop resolver total scope shows none.
    let seen = sight given setting.in_ensures resolver in
    let reach = reaches (stand_in setting in_loop) total scope resolver given.bytes shows in
    tokens_scoped given scope resolver word bank amount
    (and_from _ _ (bank_seen scope seen reach bank resolver.faults (number_grows seen amount _ none)) (number_read scope seen reach amount _ none)))
atom_layer_binds given (Atom-F.Related left how) = relation_binds given left how
atom_layer_binds given (Atom-F.Predicate predicate) = empty_binds

atom_rolled : (given : Given) (x : Atom-F Atom Assertion Conjunct) (y : AtomParts given) → bare_atom given y ≡ x → Binding (atom given (roll-Atom x))
atom_rolled given x y is =
    subst Binding (sym (fold-roll-Atom Reads Reads Reads (atom_step given) assertion_step conjunct_step x))
    (subst (λ (l : Atom-F Atom Assertion Conjunct). Binding (atom_reads given l)) is (atom_layer_binds given y))

abbrev AssertionParts : Given → Type 0
AssertionParts given = Assertion-F (BoundAtom given) (BoundAssertion given) (BoundConjunct given)

abbrev bare_assertion : (given : Given) → AssertionParts given → Assertion-F Atom Assertion Conjunct
bare_assertion given y =
    map-Assertion (BoundAtom given) (BoundAssertion given) (BoundConjunct given) Atom Assertion Conjunct (λ part. part.0) (λ part. part.0) (λ part. part.0) y

abbrev assertion_reads : Given → Assertion-F Atom Assertion Conjunct → Reads
assertion_reads given x = assertion_step (map-Assertion Atom Assertion Conjunct Reads Reads Reads (atom given) (assertion given) (conjunct given) x)

assertion_layer_binds : (given : Given) (y : AssertionParts given) → Binding (assertion_reads given (bare_assertion given y))
assertion_layer_binds given y = record {
  grows = λ setting resolver none. y.first.1.grows setting resolver (each_grows (conjunct given) y.more setting _ none);
  longer = λ setting resolver none.
      let between = (atom given y.first.0 setting resolver).resolver in
      let late = each_longer (conjunct given) y.more setting between none in
      let early = y.first.1.longer setting resolver (each_grows (conjunct given) y.more setting between none) in
      omega (arith, early, late);
  top = λ setting resolver small. each_top (conjunct given) y.more setting (atom given y.first.0 setting resolver).resolver (y.first.1.top setting resolver small);
  names = λ setting resolver.
      behind_both resolver.names (atom given y.first.0 setting resolver).resolver.names _ (y.first.1.names setting resolver) (each_names (conjunct given) y.more setting _);
  banks = λ setting resolver. each_banks (conjunct given) y.more setting _ ∙ y.first.1.banks setting resolver;
  stands = λ setting in_loop resolver total scope shows room none.
      let between = (atom given y.first.0 setting resolver).resolver in
      let late = each_longer (conjunct given) y.more setting between none in
      let none_between = each_grows (conjunct given) y.more setting between none in
      let early = y.first.1.longer setting resolver none_between in
      let one = y.first.1.stands setting in_loop resolver total scope shows (omega (arith, room, late)) none_between in
      let others = each_stands (conjunct given) y.more setting in_loop between total _ one.shows room none in
      both_stand (stand_in setting in_loop) total scope _ _ resolver _
      (record { fits = and_from _ _ one.fits others.fits; shows = others.shows; old = λ slot low. others.old slot (omega (arith, low, early)) ∙ one.old slot low });
}

assertion_rolled : (given : Given) (x : Assertion-F Atom Assertion Conjunct) (y : AssertionParts given) → bare_assertion given y ≡ x → Binding (assertion given (roll-Assertion x))
assertion_rolled given x y is =
    subst Binding (sym (fold-roll-Assertion Reads Reads Reads (atom_step given) assertion_step conjunct_step x))
    (subst (λ (l : Assertion-F Atom Assertion Conjunct). Binding (assertion_reads given l)) is (assertion_layer_binds given y))

abbrev ConjunctParts : Given → Type 0
ConjunctParts given = Conjunct-F (BoundAtom given) (BoundAssertion given) (BoundConjunct given)

abbrev bare_conjunct : (given : Given) → ConjunctParts given → Conjunct-F Atom Assertion Conjunct
bare_conjunct given y =
    map-Conjunct (BoundAtom given) (BoundAssertion given) (BoundConjunct given) Atom Assertion Conjunct (λ part. part.0) (λ part. part.0) (λ part. part.0) y

conjunct_rolled : (given : Given) (x : Conjunct-F Atom Assertion Conjunct) (y : ConjunctParts given) → bare_conjunct given y ≡ x → Binding (conjunct given (roll-Conjunct x))
conjunct_rolled given x y is =
    subst Binding (sym (fold-roll-Conjunct Reads Reads Reads (atom_step given) assertion_step conjunct_step x))
    (subst (λ (l : Conjunct-F Atom Assertion Conjunct). Binding (atom given l.atom)) is y.atom.1)

-- ---- assertions and clauses

pub assertion_binds : (given : Given) (a : Assertion) → Binding (assertion given a)
assertion_binds given = ind-Assertion
    (λ (a : Atom). Binding (atom given a)) (λ (a : Assertion). Binding (assertion given a)) (λ (c : Conjunct). Binding (conjunct given c))
    (atom_rolled given) (assertion_rolled given) (conjunct_rolled given)

pub clause_binds : (given : Given) (c : Option Clause) → Binding (clause given c)
clause_binds given None = empty_binds
clause_binds given (Some c) = assertion_binds given c.assertion
