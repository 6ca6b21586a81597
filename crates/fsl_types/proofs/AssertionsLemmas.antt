-- What is made of an assertion without faults fits the invariants that it uses, and has a modality only where one may
-- stand.
use Rattle.std.proofs.Common.{◌≡◌, ℕ, ◌+◌, ◌<◌, ◌≤◌, Bool, true, false, true≢false, not, ◌&&◌, ◌||◌, List, [], ◌∷◌, Option, Some, None, map, length, min, slice_get, nat_lt, ◌==◌, refl, ap, sym, ◌∙◌, subst, subst₂, arith, ltb-false, lt-ltb, eq-eqb}
use Rattle.std.proofs.lemmas.Bool.{and_from, eqb-true, not-false, or_left, or_right}
use Rattle.std.proofs.lemmas.List.{length-map}
use Rattle.std.proofs.lemmas.List.Folds.{list_all-map}
use Rattle.std.specs.List.{list_all, list_any}
use Rattle.fsl_base.specs.declared.span.Span.{Span}
use Rattle.fsl_core.specs.declared.assertion.Asrt.{Asrt, map-Asrt}
use Rattle.fsl_core.specs.declared.assertion.Asrt.TheFolds.{fold-roll-Asrt}
use Rattle.fsl_core.specs.declared.assertion.Asrt.TheOpen.{Asrt-F}
use Rattle.fsl_core.specs.declared.assertion.Asrt.TheVariants as asrt
use Rattle.fsl_core.specs.declared.assertion.Asrt.TheVariants.{rolls-Emp, rolls-Fact, rolls-Points, rolls-Init, rolls-Rel, rolls-Acq, rolls-RmwAcq, rolls-Tok, rolls-Auth, rolls-Choice, rolls-Up, rolls-Down, rolls-Both}
use Rattle.fsl_core.specs.declared.assertion.Asrt.TheViews.{roll-Asrt}
use Rattle.fsl_core.specs.declared.expr.Expr.{Expr}
use Rattle.fsl_core.specs.declared.declaration.Inv.{Inv}
use Rattle.fsl_core.specs.WellFormed.{Test, asrt_fits, asrt_step, inst_fits, inv_has_part, inv_takes}
use Rattle.fsl_tree.specs.declared.assertion.Assertion.{Assertion, map-Assertion}
use Rattle.fsl_tree.specs.declared.assertion.Atom.{Atom, map-Atom}
use Rattle.fsl_tree.specs.declared.assertion.Atom.TheFolds.{ind-Assertion, fold-roll-Atom, fold-roll-Assertion, fold-roll-Conjunct}
use Rattle.fsl_tree.specs.declared.assertion.Atom.TheOpen.{Atom-F, Assertion-F, Conjunct-F}
use Rattle.fsl_tree.specs.declared.assertion.Atom.TheViews.{roll-Atom, roll-Assertion, roll-Conjunct}
use Rattle.fsl_tree.specs.declared.assertion.BankWord.{BankWord}
use Rattle.fsl_tree.specs.declared.assertion.BankWord.TheVariants as bank_words
use Rattle.fsl_tree.specs.declared.assertion.Conjunct.{Conjunct, map-Conjunct}
use Rattle.fsl_tree.specs.declared.assertion.Pattern.{Pattern}
use Rattle.fsl_tree.specs.declared.assertion.Pattern.TheVariants as patterns
use Rattle.fsl_tree.specs.declared.assertion.Relation.{Relation}
use Rattle.fsl_tree.specs.declared.assertion.Relation.TheVariants as relations
use Rattle.fsl_tree.specs.declared.assertion.Share.{Share}
use Rattle.fsl_tree.specs.declared.declaration.Clause.{Clause}
use Rattle.fsl_tree.specs.declared.expression.Arguments.{Arguments}
use Rattle.fsl_tree.specs.declared.expression.Condition.{Condition}
use Rattle.fsl_tree.specs.declared.expression.Condition.TheVariants as conditions
use Rattle.fsl_tree.specs.declared.expression.Expression.{Expression}
use Rattle.fsl_tree.specs.declared.expression.Use.{Use}
use Rattle.fsl_types.specs.declared.fault.Fault.{Fault}
use Rattle.fsl_types.specs.declared.given.Setting.{Setting}
use Rattle.fsl_types.specs.declared.occurrence.Occurrence.TheVariants as occurrence
use Rattle.fsl_types.specs.declared.variable.Signature.{Signature}
use Rattle.fsl_types.specs.declared.resolver.Resolver.{Resolver}
use Rattle.fsl_types.specs.Assertions.{Reads, apart, assertion, assertion_step, atom, atom_step, both_of, choice, clause, conjunct, conjunct_step, each, has_modality, is_modal_assertion, is_modal_atom, is_modal_conjunct, judged_acquire, judged_permission, judged_share, last_part_of, modal_assertion_step, modal_conjunct_step, modal_step, modality, part_number, pattern, relation, sight, tokens, unmodal}
use Rattle.fsl_types.specs.Expressions.{Sight, arguments_of, fits, instance_of, judged_number, judged_use, number_of, numbered_arguments, signature_at}
use Rattle.fsl_types.specs.Given.{Given}
use Rattle.fsl_types.specs.Names.{Names, Signatures, found, text_at}
use Rattle.fsl_types.specs.Resolvers.{noted}
use Rattle.fsl_types.proofs.ExpressionsLemmas.{Grows, Keeps, condition_grows, excluded_grows, noted_grows, noted_keeps, number_grows, use_grows, use_keeps}

-- ---- invariants by name

-- the invariant of a signature
pub record IsInvariant (invs : List Inv) (s : Signature) : Type 0 where
  pub inv : Inv
  pub at : slice_get invs s.number ≡ Some inv
  pub params : inv.params ≡ length s.banks
  pub parts : length inv.parts ≡ s.last_part + 1

abbrev pub HasInvariants : List Inv → Given → Type 0
HasInvariants invs given = (name : List ℕ) (s : Signature) → found name given.invariants ≡ Some s → IsInvariant invs s

-- there are as many arguments as parameters where the tree has as many
pub equal_numbers : (a b c d : ℕ) → not (a == b) ≡ false → c ≡ b → d ≡ a → (c == d) ≡ true
equal_numbers a b c d fit params args = eq-eqb c d (params ∙ sym (eqb-true a b (not-false (a == b) fit)) ∙ sym args)

inv_found : (invs : List Inv) (place : Span) (arguments : Option Arguments) (args : List Expr) (o : Option Signature)
    → ((s : Signature) → o ≡ Some s → IsInvariant invs s) → length args ≡ length (arguments_of arguments)
    → Keeps (occurrence.Used place (fits arguments o)) → inv_takes args (slice_get invs (number_of o)) ≡ true
inv_found invs place arguments args None knows long keeps = absurd (true≢false keeps.known)
inv_found invs place arguments args (Some s) knows long keeps =
    let is = knows s refl in
    ap (inv_takes args) is.at
    ∙ equal_numbers (length (arguments_of arguments)) (length s.banks) is.inv.params (length args) keeps.fitting is.params long

pub instance_fits : (invs : List Inv) (given : Given) (seen : Sight) (names : Names) (u : Use) (faults : List Fault) → HasInvariants invs given
    → judged_use seen (signature_at given.bytes given.invariants u.name) u faults ≡ []
    → inst_fits invs (instance_of given.bytes given.invariants names u) ≡ true
instance_fits invs given seen names u faults has none =
    inv_found invs u.name u.arguments (numbered_arguments given.bytes names u.arguments) (signature_at given.bytes given.invariants u.name)
    (λ s is. has (text_at given.bytes u.name) s is) (length-map (arguments_of u.arguments) _)
    (use_keeps seen (signature_at given.bytes given.invariants u.name) u faults none)

below_last : (value last many : ℕ) → nat_lt last value ≡ false → many ≡ last + 1 → min value 8 < many
below_last value last many in_range is = let small : value ≤ last = ltb-false last value in_range in omega (arith, small, is)

part_found : (invs : List Inv) (place : Span) (value : ℕ) (o : Option Signature) (used : Span) (arguments : Option Arguments)
    → ((s : Signature) → o ≡ Some s → IsInvariant invs s) → Keeps (occurrence.Used used (fits arguments o))
    → Keeps (occurrence.PartNumber place value (last_part_of o)) → inv_has_part (part_number value) (slice_get invs (number_of o)) ≡ true
part_found invs place value None used arguments knows keeps numbered = absurd (true≢false keeps.known)
part_found invs place value (Some s) used arguments knows keeps numbered =
    let is = knows s refl in
    ap (inv_has_part (part_number value)) is.at
    ∙ lt-ltb (min value 8) (length is.inv.parts) (below_last value s.last_part (length is.inv.parts) numbered.part is.parts)

-- ---- what is made of parts of assertions

-- one layer of an assertion
pub layer_fits : (invs : List Inv) (a : Asrt) (layer : Asrt-F Asrt) (flag : Bool) → roll-Asrt layer ≡ a
    → asrt_step invs (map-Asrt Asrt Test (asrt_fits invs) layer) flag ≡ true → asrt_fits invs a flag ≡ true
layer_fits invs a layer flag is fit =
    subst (λ (x : Asrt). asrt_fits invs x flag ≡ true) is (ap (λ (t : Test). t flag) (fold-roll-Asrt Test (asrt_step invs) layer) ∙ fit)

-- Whatever is read without faults fits. Whether modalities may stand where it is used counts only if it has one, and is
-- then what the setting says.
pub record Fitting (invs : List Inv) (given : Given) (modal : Bool) (reads : Reads) : Type 0 where
  pub grows : (setting : Setting) (resolver : Resolver) → (reads setting resolver).resolver.faults ≡ [] → resolver.faults ≡ []
  pub fits : HasInvariants invs given → (setting : Setting) (resolver : Resolver) (flag : Bool) → (modal ≡ true → setting.modal ≡ flag)
      → (reads setting resolver).resolver.faults ≡ [] → asrt_fits invs (reads setting resolver).made flag ≡ true

-- a part that uses no invariant and holds no other
plain : (invs : List Inv) (given : Given) (reads : Reads) → ((setting : Setting) (resolver : Resolver) → (reads setting resolver).resolver.faults ≡ [] → resolver.faults ≡ [])
    → ((setting : Setting) (resolver : Resolver) (flag : Bool) → asrt_fits invs (reads setting resolver).made flag ≡ true) → Fitting invs given false reads
plain invs given reads grow fit = record { grows = grow; fits = λ has setting resolver flag may none. fit setting resolver flag }

pub share_grows : (seen : Sight) (share : Option Share) → Grows (judged_share seen share)
share_grows seen None faults none = none
share_grows seen (Some share) faults none = number_grows seen share.amount faults none

pub pattern_grows : (given : Given) (setting : Setting) (value : Pattern) (resolver : Resolver) → (pattern given setting value resolver).resolver.faults ≡ [] → resolver.faults ≡ []
pattern_grows given setting (patterns.Any place) resolver none = none
pattern_grows given setting (patterns.Binder mark name) resolver none = noted_grows resolver.faults _ none
pattern_grows given setting (patterns.Value value) resolver none = number_grows (sight given setting.in_ensures resolver) value resolver.faults none

relation_fits : (invs : List Inv) (given : Given) (left : Expression) (how : Relation) → Fitting invs given false (λ setting resolver. relation given setting left how resolver)
relation_fits invs given left (relations.Compared comparison right) = record {
  grows = λ setting resolver none. condition_grows (sight given setting.in_ensures resolver) (conditions.Compared left comparison right) resolver.faults none;
  fits = λ has setting resolver flag may none. layer_fits invs _ (Asrt-F.Fact _) flag (rolls-Fact _) refl;
}
relation_fits invs given left (relations.PointsTo arrow share value) = record {
  grows = λ setting resolver none.
      let seen = sight given setting.in_ensures resolver in
      number_grows seen left resolver.faults (share_grows seen share _ (pattern_grows given setting value _ none));
  fits = λ has setting resolver flag may none. layer_fits invs _ (Asrt-F.Points _ _ _) flag (rolls-Points _ _ _) refl;
}

permission_fits : (invs : List Inv) (given : Given) (seen : Sight) (names : Names) (location : Expression) (u : Use) (faults : List Fault) → HasInvariants invs given
    → judged_permission seen given.invariants location u faults ≡ [] → seen.bytes ≡ given.bytes
    → inst_fits invs (instance_of given.bytes given.invariants names u) ≡ true
permission_fits invs given seen names location u faults has none same =
    instance_fits invs given seen names u (judged_number seen location faults) has
    (subst (λ (bytes : List ℕ). judged_use seen (signature_at bytes given.invariants u.name) u (judged_number seen location faults) ≡ []) same none)

pub permission_grows : (seen : Sight) (signatures : Signatures) (location : Expression) (u : Use) → Grows (judged_permission seen signatures location u)
permission_grows seen signatures location u faults none = number_grows seen location faults (use_grows seen (signature_at seen.bytes signatures u.name) u _ none)

pub acquire_numbered : (seen : Sight) (signatures : Signatures) (location : Expression) (u : Use) (part : Span) (value : ℕ) (excluded : Option Arguments) (faults : List Fault)
    → judged_acquire seen signatures location u part value excluded faults ≡ []
    → noted (occurrence.PartNumber part value (last_part_of (signature_at seen.bytes signatures u.name))) (judged_permission seen signatures location u faults) ≡ []
acquire_numbered seen signatures location u part value excluded faults none = excluded_grows seen 0 (arguments_of excluded) _ none

tokens_fit : (invs : List Inv) (given : Given) (resolver : Resolver) (word : BankWord) (bank : Span) (amount : Expression) (flag : Bool)
    → asrt_fits invs (tokens given resolver word bank amount) flag ≡ true
tokens_fit invs given resolver (bank_words.Tok place) bank amount flag = layer_fits invs _ (Asrt-F.Tok _ _) flag (rolls-Tok _ _) refl
tokens_fit invs given resolver (bank_words.Auth place) bank amount flag = layer_fits invs _ (Asrt-F.Auth _ _) flag (rolls-Auth _ _) refl

choice_fits : (invs : List Inv) (given : Given) (condition : Condition) (m n : Bool) (first second : Reads) → Fitting invs given m first → Fitting invs given n second
    → Fitting invs given (m || n) (choice given condition first second)
choice_fits invs given condition m n first second one other = record {
  grows = λ setting resolver none. condition_grows (sight given setting.in_ensures resolver) condition resolver.faults (one.grows setting _ (other.grows setting _ none));
  fits = λ has setting resolver flag may none.
      let first_none = other.grows setting _ none in
      layer_fits invs _ (Asrt-F.Choice _ _ _) flag (rolls-Choice _ _ _)
      (and_from _ _ (one.fits has setting _ flag (λ is. may (or_left m n is)) first_none) (other.fits has setting _ flag (λ is. may (or_right m n is)) none));
}

-- ---- one level of an assertion

-- a part of a tree of which this holds
abbrev Part : (invs : List Inv) (given : Given) (A : Type 0) → (A → Bool) → (A → Reads) → Type 0
Part invs given A modal reads = (part : A) × Fitting invs given (modal part) (reads part)

each_grows : (invs : List Inv) (given : Given) {A : Type 0} (modal : A → Bool) (reads : A → Reads) (parts : List (Part invs given A modal reads)) (setting : Setting) (resolver : Resolver)
    → (each (map reads (map (λ part. part.0) parts)) setting resolver).resolver.faults ≡ [] → resolver.faults ≡ []
each_grows invs given modal reads [] setting resolver none = none
each_grows invs given modal reads (part ∷ parts) setting resolver none = part.1.grows setting resolver (each_grows invs given modal reads parts setting _ none)

each_fits : (invs : List Inv) (given : Given) → HasInvariants invs given → {A : Type 0} (modal : A → Bool) (reads : A → Reads) (parts : List (Part invs given A modal reads)) (setting : Setting) (resolver : Resolver) (flag : Bool)
    → (list_any (λ m. m) (map modal (map (λ part. part.0) parts)) ≡ true → setting.modal ≡ flag)
    → (each (map reads (map (λ part. part.0) parts)) setting resolver).resolver.faults ≡ []
    → list_all (λ (a : Asrt). asrt_fits invs a flag) (each (map reads (map (λ part. part.0) parts)) setting resolver).made ≡ true
each_fits invs given has modal reads [] setting resolver flag may none = refl
each_fits invs given has modal reads (part ∷ parts) setting resolver flag may none =
    and_from _ _
    (part.1.fits has setting resolver flag (λ is. may (or_left (modal part.0) _ is)) (each_grows invs given modal reads parts setting _ none))
    (each_fits invs given has modal reads parts setting _ flag (λ is. may (or_right (modal part.0) _ is)) none)

both_fits : (invs : List Inv) (first : Asrt) (more : List Asrt) (flag : Bool) → asrt_fits invs first flag ≡ true
    → list_all (λ (a : Asrt). asrt_fits invs a flag) more ≡ true → asrt_fits invs (both_of first more) flag ≡ true
both_fits invs first [] flag one others = one
both_fits invs first (a ∷ more) flag one others =
    layer_fits invs _ (Asrt-F.Both (first ∷ a ∷ more)) flag (rolls-Both _)
    (list_all-map (λ (t : Test). t flag) (asrt_fits invs) (first ∷ a ∷ more) ∙ and_from _ _ one others)

abbrev FittingAtom : List Inv → Given → Type 0
FittingAtom invs given = Part invs given Atom is_modal_atom (atom given)

abbrev FittingAssertion : List Inv → Given → Type 0
FittingAssertion invs given = Part invs given Assertion is_modal_assertion (assertion given)

abbrev FittingConjunct : List Inv → Given → Type 0
FittingConjunct invs given = Part invs given Conjunct is_modal_conjunct (conjunct given)

abbrev AtomParts : List Inv → Given → Type 0
AtomParts invs given = Atom-F (FittingAtom invs given) (FittingAssertion invs given) (FittingConjunct invs given)

abbrev bare_atom : (invs : List Inv) (given : Given) → AtomParts invs given → Atom-F Atom Assertion Conjunct
bare_atom invs given y =
    map-Atom (FittingAtom invs given) (FittingAssertion invs given) (FittingConjunct invs given) Atom Assertion Conjunct (λ part. part.0) (λ part. part.0) (λ part. part.0) y

-- the modalities of a layer, and what it reads
abbrev atom_modal : Atom-F Atom Assertion Conjunct → Bool
atom_modal x = modal_step (map-Atom Atom Assertion Conjunct Bool Bool Bool is_modal_atom is_modal_assertion is_modal_conjunct x)

abbrev atom_reads : Given → Atom-F Atom Assertion Conjunct → Reads
atom_reads given x = atom_step given (map-Atom Atom Assertion Conjunct Reads Reads Reads (atom given) (assertion given) (conjunct given) x)

modality_fits : (invs : List Inv) (given : Given) (modal : Bool) (reads : Reads) (word : Span) (make : Asrt → Asrt)
    → ((a : Asrt) (flag : Bool) → (flag && asrt_fits invs a false) ≡ true → asrt_fits invs (make a) flag ≡ true) → Fitting invs given modal reads
    → Fitting invs given true (λ setting resolver. let read = apart reads (unmodal setting) (modality word setting resolver) in record { made = make read.made; resolver = read.resolver })
modality_fits invs given modal reads word make holds inside = record {
  grows = λ setting resolver none. noted_grows resolver.faults _ (inside.grows (unmodal setting) _ none);
  fits = λ has setting resolver flag may none.
      let keeps = noted_keeps (occurrence.Modality word setting.modal) resolver.faults (inside.grows (unmodal setting) _ none) in
      let allowed : setting.modal ≡ true = not-false setting.modal keeps.unmodal in
      holds _ flag (and_from flag _ (sym (may refl) ∙ allowed) (inside.fits has (unmodal setting) _ false (λ is. refl) none));
}

atom_layer_fits : (invs : List Inv) (given : Given) (y : AtomParts invs given)
    → Fitting invs given (atom_modal (bare_atom invs given y)) (atom_reads given (bare_atom invs given y))
atom_layer_fits invs given (Atom-F.Empty word) = plain invs given _ (λ setting resolver none. none) (λ setting resolver flag. layer_fits invs _ Asrt-F.Emp flag rolls-Emp refl)
atom_layer_fits invs given (Atom-F.Choice word start condition end first_start first first_end otherwise second_start second second_end) =
    choice_fits invs given condition _ _ _ _ first.1 second.1
atom_layer_fits invs given (Atom-F.Up word start inside end) =
    modality_fits invs given _ _ word asrt.Up (λ a flag fit. layer_fits invs _ (Asrt-F.Up a) flag (rolls-Up a) fit) inside.1
atom_layer_fits invs given (Atom-F.Down word start inside end) =
    modality_fits invs given _ _ word asrt.Down (λ a flag fit. layer_fits invs _ (Asrt-F.Down a) flag (rolls-Down a) fit) inside.1
atom_layer_fits invs given (Atom-F.Init word start location end) =
    plain invs given _ (λ setting resolver none. number_grows (sight given setting.in_ensures resolver) location resolver.faults none) (λ setting resolver flag. layer_fits invs _ (Asrt-F.Init _) flag (rolls-Init _) refl)
atom_layer_fits invs given (Atom-F.Rel word start location comma invariant end) = record {
  grows = λ setting resolver none. permission_grows (sight given setting.in_ensures resolver) given.invariants location invariant resolver.faults none;
  fits = λ has setting resolver flag may none.
      layer_fits invs _ (Asrt-F.Rel _ _) flag (rolls-Rel _ _)
      (permission_fits invs given (sight given setting.in_ensures resolver) resolver.names location invariant resolver.faults has none refl);
}
atom_layer_fits invs given (Atom-F.RmwAcq word start location comma invariant end) = record {
  grows = λ setting resolver none. permission_grows (sight given setting.in_ensures resolver) given.invariants location invariant resolver.faults none;
  fits = λ has setting resolver flag may none.
      layer_fits invs _ (Asrt-F.RmwAcq _ _) flag (rolls-RmwAcq _ _)
      (permission_fits invs given (sight given setting.in_ensures resolver) resolver.names location invariant resolver.faults has none refl);
}
atom_layer_fits invs given (Atom-F.Acq word start location use_comma invariant part_comma part value set_comma set_start excluded set_end end) = record {
  grows = λ setting resolver none.
      let seen = sight given setting.in_ensures resolver in
      permission_grows seen given.invariants location invariant resolver.faults
      (noted_grows _ _ (acquire_numbered seen given.invariants location invariant part value excluded resolver.faults none));
  fits = λ has setting resolver flag may none.
      let seen = sight given setting.in_ensures resolver in
      let numbered = acquire_numbered seen given.invariants location invariant part value excluded resolver.faults none in
      let permitted = noted_grows _ _ numbered in
      layer_fits invs _ (Asrt-F.Acq _ _ _ _) flag (rolls-Acq _ _ _ _)
      (and_from _ _ (permission_fits invs given seen resolver.names location invariant resolver.faults has permitted refl)
      (part_found invs part value (signature_at given.bytes given.invariants invariant.name) invariant.name invariant.arguments
      (λ s is. has (text_at given.bytes invariant.name) s is)
      (use_keeps seen (signature_at given.bytes given.invariants invariant.name) invariant _ permitted) (noted_keeps _ _ numbered)));
}
atom_layer_fits invs given (Atom-F.Bank word start bank comma amount end) =
    plain invs given _ (λ setting resolver none. noted_grows resolver.faults _ (number_grows (sight given setting.in_ensures resolver) amount _ none))
    (λ setting resolver flag. tokens_fit invs given resolver word bank amount flag)
atom_layer_fits invs given (Atom-F.Related left how) = relation_fits invs given left how
atom_layer_fits invs given (Atom-F.Predicate predicate) = plain invs given _ (λ setting resolver none. none) (λ setting resolver flag. layer_fits invs _ Asrt-F.Emp flag rolls-Emp refl)

atom_rolled : (invs : List Inv) (given : Given) (x : Atom-F Atom Assertion Conjunct) (y : AtomParts invs given) → bare_atom invs given y ≡ x
    → Fitting invs given (is_modal_atom (roll-Atom x)) (atom given (roll-Atom x))
atom_rolled invs given x y is =
    let layer : Fitting invs given (atom_modal x) (atom_reads given x) =
    subst (λ (l : Atom-F Atom Assertion Conjunct). Fitting invs given (atom_modal l) (atom_reads given l)) is (atom_layer_fits invs given y) in
    subst₂ (Fitting invs given) (sym (fold-roll-Atom Bool Bool Bool modal_step modal_assertion_step modal_conjunct_step x))
    (sym (fold-roll-Atom Reads Reads Reads (atom_step given) assertion_step conjunct_step x)) layer

abbrev AssertionParts : List Inv → Given → Type 0
AssertionParts invs given = Assertion-F (FittingAtom invs given) (FittingAssertion invs given) (FittingConjunct invs given)

abbrev bare_assertion : (invs : List Inv) (given : Given) → AssertionParts invs given → Assertion-F Atom Assertion Conjunct
bare_assertion invs given y =
    map-Assertion (FittingAtom invs given) (FittingAssertion invs given) (FittingConjunct invs given) Atom Assertion Conjunct (λ part. part.0) (λ part. part.0) (λ part. part.0) y

abbrev assertion_modal : Assertion-F Atom Assertion Conjunct → Bool
assertion_modal x = modal_assertion_step (map-Assertion Atom Assertion Conjunct Bool Bool Bool is_modal_atom is_modal_assertion is_modal_conjunct x)

abbrev assertion_reads : Given → Assertion-F Atom Assertion Conjunct → Reads
assertion_reads given x = assertion_step (map-Assertion Atom Assertion Conjunct Reads Reads Reads (atom given) (assertion given) (conjunct given) x)

assertion_layer_fits : (invs : List Inv) (given : Given) (y : AssertionParts invs given)
    → Fitting invs given (assertion_modal (bare_assertion invs given y)) (assertion_reads given (bare_assertion invs given y))
assertion_layer_fits invs given y = record {
  grows = λ setting resolver none. y.first.1.grows setting resolver (each_grows invs given is_modal_conjunct (conjunct given) y.more setting _ none);
  fits = λ has setting resolver flag may none.
      both_fits invs _ _ flag
      (y.first.1.fits has setting resolver flag (λ is. may (or_left (is_modal_atom y.first.0) _ is)) (each_grows invs given is_modal_conjunct (conjunct given) y.more setting _ none))
      (each_fits invs given has is_modal_conjunct (conjunct given) y.more setting _ flag (λ is. may (or_right (is_modal_atom y.first.0) _ is)) none);
}

assertion_rolled : (invs : List Inv) (given : Given) (x : Assertion-F Atom Assertion Conjunct) (y : AssertionParts invs given) → bare_assertion invs given y ≡ x
    → Fitting invs given (is_modal_assertion (roll-Assertion x)) (assertion given (roll-Assertion x))
assertion_rolled invs given x y is =
    let layer : Fitting invs given (assertion_modal x) (assertion_reads given x) =
    subst (λ (l : Assertion-F Atom Assertion Conjunct). Fitting invs given (assertion_modal l) (assertion_reads given l)) is (assertion_layer_fits invs given y) in
    subst₂ (Fitting invs given) (sym (fold-roll-Assertion Bool Bool Bool modal_step modal_assertion_step modal_conjunct_step x))
    (sym (fold-roll-Assertion Reads Reads Reads (atom_step given) assertion_step conjunct_step x)) layer

abbrev ConjunctParts : List Inv → Given → Type 0
ConjunctParts invs given = Conjunct-F (FittingAtom invs given) (FittingAssertion invs given) (FittingConjunct invs given)

abbrev bare_conjunct : (invs : List Inv) (given : Given) → ConjunctParts invs given → Conjunct-F Atom Assertion Conjunct
bare_conjunct invs given y =
    map-Conjunct (FittingAtom invs given) (FittingAssertion invs given) (FittingConjunct invs given) Atom Assertion Conjunct (λ part. part.0) (λ part. part.0) (λ part. part.0) y

conjunct_rolled : (invs : List Inv) (given : Given) (x : Conjunct-F Atom Assertion Conjunct) (y : ConjunctParts invs given) → bare_conjunct invs given y ≡ x
    → Fitting invs given (is_modal_conjunct (roll-Conjunct x)) (conjunct given (roll-Conjunct x))
conjunct_rolled invs given x y is =
    let layer : Fitting invs given (is_modal_atom x.atom) (atom given x.atom) =
    subst (λ (l : Conjunct-F Atom Assertion Conjunct). Fitting invs given (is_modal_atom l.atom) (atom given l.atom)) is y.atom.1 in
    subst₂ (Fitting invs given) (sym (fold-roll-Conjunct Bool Bool Bool modal_step modal_assertion_step modal_conjunct_step x))
    (sym (fold-roll-Conjunct Reads Reads Reads (atom_step given) assertion_step conjunct_step x)) layer

-- ---- assertions and clauses

pub assertion_fits : (invs : List Inv) (given : Given) (a : Assertion) → Fitting invs given (is_modal_assertion a) (assertion given a)
assertion_fits invs given = ind-Assertion
    (λ (a : Atom). Fitting invs given (is_modal_atom a) (atom given a)) (λ (a : Assertion). Fitting invs given (is_modal_assertion a) (assertion given a))
    (λ (c : Conjunct). Fitting invs given (is_modal_conjunct c) (conjunct given c))
    (atom_rolled invs given) (assertion_rolled invs given) (conjunct_rolled invs given)

pub clause_fits : (invs : List Inv) (given : Given) (c : Option Clause) → Fitting invs given (has_modality c) (clause given c)
clause_fits invs given None = plain invs given _ (λ setting resolver none. none) (λ setting resolver flag. layer_fits invs _ Asrt-F.Emp flag rolls-Emp refl)
clause_fits invs given (Some c) = assertion_fits invs given c.assertion
