-- Assertions over numbered variables, with the binders that they declare and their faults. A binder is visible in the
-- rest of its assertion up to the end of the innermost arm, modality or part that holds it.
use Rattle.std.specs.Prelude.{ℕ, ◌^◌, Bool, true, false, ◌||◌, List, [], ◌∷◌, Option, Some, None, pos, min, length}
use Rattle.std.specs.List.{list_any}
use Rattle.fsl_base.specs.declared.span.Span.{Span}
use Rattle.fsl_core.specs.declared.assertion.Asrt.{Asrt}
use Rattle.fsl_core.specs.declared.assertion.Asrt.TheVariants as asrt
use Rattle.fsl_core.specs.declared.assertion.Inst.{Inst}
use Rattle.fsl_core.specs.declared.assertion.Pat.{Pat}
use Rattle.fsl_core.specs.declared.assertion.Pat.TheVariants as pat
use Rattle.fsl_core.specs.declared.expr.Expr.{Expr}
use Rattle.fsl_core.specs.declared.expr.Expr.TheVariants as expr
use Rattle.fsl_tree.specs.declared.assertion.Assertion.{Assertion}
use Rattle.fsl_tree.specs.declared.assertion.Atom.{Atom}
use Rattle.fsl_tree.specs.declared.assertion.Atom.TheFolds.{fold-Atom, fold-Assertion, fold-Conjunct}
use Rattle.fsl_tree.specs.declared.assertion.Atom.TheOpen.{Atom-F, Assertion-F, Conjunct-F}
use Rattle.fsl_tree.specs.declared.assertion.Atom.TheViews.{out-Atom}
use Rattle.fsl_tree.specs.declared.assertion.BankWord.{BankWord}
use Rattle.fsl_tree.specs.declared.assertion.BankWord.TheVariants as bank_words
use Rattle.fsl_tree.specs.declared.assertion.Conjunct.{Conjunct}
use Rattle.fsl_tree.specs.declared.assertion.Pattern.{Pattern}
use Rattle.fsl_tree.specs.declared.assertion.Pattern.TheVariants as patterns
use Rattle.fsl_tree.specs.declared.assertion.Relation.{Relation}
use Rattle.fsl_tree.specs.declared.assertion.Relation.TheVariants as relations
use Rattle.fsl_tree.specs.declared.assertion.Share.{Share}
use Rattle.fsl_tree.specs.declared.declaration.Clause.{Clause}
use Rattle.fsl_tree.specs.declared.expression.Arguments.{Arguments}
use Rattle.fsl_tree.specs.declared.expression.Condition.{Condition}
use Rattle.fsl_tree.specs.declared.expression.Condition.TheVariants as conditions
use Rattle.fsl_tree.specs.declared.expression.Expression.{Expression}
use Rattle.fsl_tree.specs.declared.expression.Use.{Use}
use Rattle.fsl_types.specs.declared.given.Setting.{Setting}
use Rattle.fsl_types.specs.declared.occurrence.Due.TheVariants as due
use Rattle.fsl_types.specs.declared.occurrence.Occurrence.TheVariants as occurrence
use Rattle.fsl_types.specs.declared.variable.Signature.{Signature}
use Rattle.fsl_types.specs.declared.variable.Sort.TheVariants as sorts
use Rattle.fsl_types.specs.declared.resolver.Resolver.{Resolver}
use Rattle.fsl_types.specs.Expressions.{Judged, Sight, arguments_of, condition_of, expression_of, instance_of, judged_condition, judged_excluded, judged_name, judged_number, judged_use, numbered_arguments, signature_at}
use Rattle.fsl_types.specs.Given.{Given}
use Rattle.fsl_types.specs.Names.{Signatures, slot_at}
use Rattle.fsl_types.specs.Resolvers.{Made, declared, judging, leaving, noted}

abbrev pub sight : Given → Bool → Resolver → Sight
sight given in_ensures resolver = record { bytes = given.bytes; names = resolver.names; in_ensures = in_ensures }

abbrev pub number_in : Given → Resolver → Expression → Expr
number_in given resolver e = expression_of given.bytes resolver.names e

-- what a part of an assertion makes, in its setting
abbrev pub Reads : Type 0
Reads = Setting → Resolver → Made Asrt

-- the names that a part declares go at its end
abbrev pub apart : Reads → Reads
apart reads setting resolver =
    let inside = reads setting resolver in record { made = inside.made; resolver = leaving (length resolver.names) inside.resolver }

-- inside a modality there is no other
abbrev pub unmodal : Setting → Setting
unmodal setting = record setting { modal = false }

abbrev pub modality : Span → Setting → Resolver → Resolver
modality word setting = judging (noted (occurrence.Modality word setting.modal))

abbrev pub full_share : Expr
full_share = expr.Const (pos (2 ^ 63))

abbrev pub share_of : Given → Resolver → Option Share → Expr
share_of given resolver None = full_share
share_of given resolver (Some share) = number_in given resolver share.amount

abbrev pub judged_share : Sight → Option Share → Judged
judged_share sight None faults = faults
judged_share sight (Some share) faults = judged_number sight share.amount faults

-- the value of a cell: a binder is declared behind its atom
abbrev pub pattern : Given → Setting → Pattern → Resolver → Made Pat
pattern given setting (patterns.Any place) resolver = record { made = pat.Any; resolver = resolver }
pattern given setting (patterns.Binder mark name) resolver =
    record { made = pat.Bind resolver.slots; resolver = declared 256 given.bytes name sorts.Local resolver }
pattern given setting (patterns.Value value) resolver =
    record { made = pat.Is (number_in given resolver value); resolver = judging (judged_number (sight given setting.in_ensures resolver) value) resolver }

abbrev pub relation : Given → Setting → Expression → Relation → Resolver → Made Asrt
relation given setting left (relations.Compared comparison right) resolver = record {
  made = asrt.Fact (condition_of given.bytes resolver.names (conditions.Compared left comparison right));
  resolver = judging (judged_condition (sight given setting.in_ensures resolver) (conditions.Compared left comparison right)) resolver;
}
relation given setting left (relations.PointsTo arrow share value) resolver =
    let judged = judging (λ faults. judged_share (sight given setting.in_ensures resolver) share (judged_number (sight given setting.in_ensures resolver) left faults)) resolver in
    let behind = pattern given setting value judged in
    record { made = asrt.Points (number_in given resolver left) (share_of given resolver share) behind.made; resolver = behind.resolver }

-- the number of a part, as far as an invariant can have one
abbrev pub part_number : ℕ → ℕ
part_number n = min n 8

abbrev pub last_part_of : Option Signature → Option ℕ
last_part_of None = None
last_part_of (Some signature) = Some signature.last_part

-- the permission to write, or to read-modify-write, a location under an invariant
abbrev pub judged_permission : Sight → Signatures → Expression → Use → Judged
judged_permission seen invariants location u faults =
    judged_use seen (signature_at seen.bytes invariants u.name) u (judged_number seen location faults)

abbrev pub judged_acquire : Sight → Signatures → Expression → Use → Span → ℕ → Option Arguments → Judged
judged_acquire seen invariants location u part value excluded faults =
    judged_excluded seen 0 (arguments_of excluded) (
    noted (occurrence.PartNumber part value (last_part_of (signature_at seen.bytes invariants u.name))) (
    judged_permission seen invariants location u faults))

abbrev pub tokens : Given → Resolver → BankWord → Span → Expression → Asrt
tokens given resolver (bank_words.Tok place) bank amount = asrt.Tok (slot_at given.bytes resolver.names bank) (number_in given resolver amount)
tokens given resolver (bank_words.Auth place) bank amount = asrt.Auth (slot_at given.bytes resolver.names bank) (number_in given resolver amount)

abbrev pub judged_tokens : Sight → Span → Expression → Judged
judged_tokens seen bank amount faults = judged_number seen amount (judged_name seen due.Bank bank faults)

-- an arm is read apart from the other
abbrev pub choice : Given → Condition → Reads → Reads → Reads
choice given condition first second setting resolver =
    let judged = judging (judged_condition (sight given setting.in_ensures resolver) condition) resolver in
    let one = apart first setting judged in
    let other = apart second setting one.resolver in
    record { made = asrt.Choice (condition_of given.bytes resolver.names condition) one.made other.made; resolver = other.resolver }

-- inside a modality, which makes an assertion of the one that it holds
abbrev pub modal : Span → (Asrt → Asrt) → Reads → Reads
modal word make inside setting resolver =
    let read = apart inside (unmodal setting) (modality word setting resolver) in record { made = make read.made; resolver = read.resolver }

-- a part that declares nothing
abbrev pub declares_nothing : (Resolver → Asrt) → (Sight → Judged) → Given → Reads
declares_nothing make judged given setting resolver =
    record { made = make resolver; resolver = judging (judged (sight given setting.in_ensures resolver)) resolver }

abbrev pub invariant_used : Given → Resolver → Use → Inst
invariant_used given resolver u = instance_of given.bytes given.invariants resolver.names u

abbrev pub acquire : Given → Expression → Use → ℕ → Option Arguments → Resolver → Asrt
acquire given location u value excluded resolver =
    asrt.Acq (number_in given resolver location) (invariant_used given resolver u) (part_number value) (numbered_arguments given.bytes resolver.names excluded)

-- the use of a predicate is replaced by its body before names are judged
abbrev pub empty : Reads
empty setting resolver = record { made = asrt.Emp; resolver = resolver }

abbrev pub atom_step : Given → Atom-F Reads Reads Reads → Reads
atom_step given (Atom-F.Empty word) = empty
atom_step given (Atom-F.Choice word start condition end first_start first first_end otherwise second_start second second_end) =
    choice given condition first second
atom_step given (Atom-F.Up word start inside end) = modal word asrt.Up inside
atom_step given (Atom-F.Down word start inside end) = modal word asrt.Down inside
atom_step given (Atom-F.Init word start location end) =
    declares_nothing (λ resolver. asrt.Init (number_in given resolver location)) (λ seen. judged_number seen location) given
atom_step given (Atom-F.Rel word start location comma u end) =
    declares_nothing (λ resolver. asrt.Rel (number_in given resolver location) (invariant_used given resolver u))
    (λ seen. judged_permission seen given.invariants location u) given
atom_step given (Atom-F.RmwAcq word start location comma u end) =
    declares_nothing (λ resolver. asrt.RmwAcq (number_in given resolver location) (invariant_used given resolver u))
    (λ seen. judged_permission seen given.invariants location u) given
atom_step given (Atom-F.Acq word start location use_comma u part_comma part value set_comma set_start excluded set_end end) =
    declares_nothing (acquire given location u value excluded) (λ seen. judged_acquire seen given.invariants location u part value excluded) given
atom_step given (Atom-F.Bank word start bank comma amount end) =
    declares_nothing (λ resolver. tokens given resolver word bank amount) (λ seen. judged_tokens seen bank amount) given
atom_step given (Atom-F.Related left how) = λ setting resolver. relation given setting left how resolver
atom_step given (Atom-F.Predicate predicate) = empty

-- several parts, each after the one before it
abbrev pub each : List Reads → Setting → Resolver → Made (List Asrt)
each [] setting resolver = record { made = []; resolver = resolver }
each (r ∷ rs) setting resolver =
    let first = r setting resolver in
    let others = each rs setting first.resolver in
    record { made = first.made ∷ others.made; resolver = others.resolver }

-- one part is no conjunction
abbrev pub both_of : Asrt → List Asrt → Asrt
both_of first [] = first
both_of first (a ∷ more) = asrt.Both (first ∷ a ∷ more)

abbrev pub assertion_step : Assertion-F Reads Reads Reads → Reads
assertion_step a setting resolver =
    let first = a.first setting resolver in
    let others = each a.more setting first.resolver in
    record { made = both_of first.made others.made; resolver = others.resolver }

abbrev pub conjunct_step : Conjunct-F Reads Reads Reads → Reads
conjunct_step c = c.atom

abbrev pub atom : Given → Atom → Reads
atom given = fold-Atom Reads Reads Reads (atom_step given) assertion_step conjunct_step

abbrev pub assertion : Given → Assertion → Reads
assertion given = fold-Assertion Reads Reads Reads (atom_step given) assertion_step conjunct_step

abbrev pub conjunct : Given → Conjunct → Reads
conjunct given = fold-Conjunct Reads Reads Reads (atom_step given) assertion_step conjunct_step

-- an absent clause is `emp`
abbrev pub clause : Given → Option Clause → Reads
clause given None setting resolver = record { made = asrt.Emp; resolver = resolver }
clause given (Some c) setting resolver = assertion given c.assertion setting resolver

-- whether a part holds no other
abbrev pub is_alone_step : Atom-F Atom Assertion Conjunct → Bool
is_alone_step (Atom-F.Empty word) = false
is_alone_step (Atom-F.Predicate predicate) = false
is_alone_step (Atom-F.Choice word start condition end first_start first first_end otherwise second_start second second_end) = false
is_alone_step (Atom-F.Up word start inside end) = false
is_alone_step (Atom-F.Down word start inside end) = false
is_alone_step _ = true

abbrev pub is_alone : Atom → Bool
is_alone a = is_alone_step (out-Atom a)

-- ---- modalities in an assertion

abbrev pub modal_step : Atom-F Bool Bool Bool → Bool
modal_step (Atom-F.Up word start inside end) = true
modal_step (Atom-F.Down word start inside end) = true
modal_step (Atom-F.Choice word start condition end first_start first first_end otherwise second_start second second_end) = first || second
modal_step _ = false

abbrev pub modal_assertion_step : Assertion-F Bool Bool Bool → Bool
modal_assertion_step a = a.first || list_any (λ m. m) a.more

abbrev pub modal_conjunct_step : Conjunct-F Bool Bool Bool → Bool
modal_conjunct_step c = c.atom

abbrev pub is_modal_atom : Atom → Bool
is_modal_atom = fold-Atom Bool Bool Bool modal_step modal_assertion_step modal_conjunct_step

abbrev pub is_modal_assertion : Assertion → Bool
is_modal_assertion = fold-Assertion Bool Bool Bool modal_step modal_assertion_step modal_conjunct_step

abbrev pub is_modal_conjunct : Conjunct → Bool
is_modal_conjunct = fold-Conjunct Bool Bool Bool modal_step modal_assertion_step modal_conjunct_step

abbrev pub has_modality : Option Clause → Bool
has_modality None = false
has_modality (Some c) = is_modal_assertion c.assertion
