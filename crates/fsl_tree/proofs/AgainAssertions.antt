-- The same of assertions.
use Rattle.std.proofs.Common.{◌≡◌, ◌∷◌, Option, Some, None, refl, subst}
use Rattle.fsl_token.specs.declared.kind.TokenKind.TheVariants as kind
use Rattle.fsl_tree.specs.declared.assertion.Assertion.{Assertion, map-Assertion}
use Rattle.fsl_tree.specs.declared.assertion.Atom.{Atom, map-Atom}
use Rattle.fsl_tree.specs.declared.assertion.Conjunct.{Conjunct, map-Conjunct}
use Rattle.fsl_tree.specs.declared.assertion.Atom.TheOpen.{Atom-F, Assertion-F, Conjunct-F}
use Rattle.fsl_tree.specs.declared.assertion.Atom.TheViews.{roll-Atom, roll-Assertion, roll-Conjunct}
use Rattle.fsl_tree.specs.declared.assertion.Atom.TheFolds.{ind-Assertion}
use Rattle.fsl_tree.specs.declared.assertion.BankWord.{BankWord}
use Rattle.fsl_tree.specs.declared.assertion.BankWord.TheVariants as bank_words
use Rattle.fsl_tree.specs.declared.assertion.Relation.{Relation}
use Rattle.fsl_tree.specs.declared.assertion.Relation.TheVariants as relations
use Rattle.fsl_tree.specs.declared.assertion.Share.{Share}
use Rattle.fsl_tree.specs.declared.assertion.Pattern.{Pattern}
use Rattle.fsl_tree.specs.declared.assertion.Pattern.TheVariants as patterns
use Rattle.fsl_tree.specs.SpelledAssertions.{bank_word_token, pattern, optional_share, relation, atom, assertion, conjunct}
use Rattle.fsl_tree.proofs.Layers.{AtomLayer, atom_layer, atom_spells, AssertionLayer, assertion_layer, assertion_spells, ConjunctLayer, conjunct_layer, conjunct_spells}
use Rattle.fsl_tree.proofs.Again.{Again, With, token, number, and_then, made, nothing, many}
use Rattle.fsl_tree.proofs.AgainExpressions.{expression_again, comparison_again, condition_again, optional_arguments_again, usage_again}

pub bank_word_again : (w : BankWord) → Again (λ (x : BankWord) after. bank_word_token x ∷ after) w
bank_word_again (bank_words.Tok place) = made (token kind.TokAssertion place) (λ t. bank_words.Tok t) (λ t after. refl)
bank_word_again (bank_words.Auth place) = made (token kind.AuthAssertion place) (λ t. bank_words.Auth t) (λ t after. refl)

pattern_again : (p : Pattern) → Again pattern p
pattern_again (patterns.Any place) = made (token kind.Underscore place) (λ t. patterns.Any t) (λ t after. refl)
pattern_again (patterns.Binder mark name) = made (and_then (token kind.Question mark) (token kind.Name name)) (λ t. patterns.Binder t.0 t.1) (λ t after. refl)
pattern_again (patterns.Value value) = made (expression_again value) (λ t. patterns.Value t) (λ t after. refl)

optional_share_again : (s : Option Share) → Again optional_share s
optional_share_again None = nothing None (λ after. refl)
optional_share_again (Some s) = made (and_then (token kind.OpenBracket s.open) (and_then (expression_again s.amount) (token kind.CloseBracket s.close))) (λ t. Some (record { «open» = t.0; amount = t.1.0; close = t.1.1 })) (λ t after. refl)

relation_again : (r : Relation) → Again relation r
relation_again (relations.Compared comparison right) = made (and_then (comparison_again comparison) (expression_again right)) (λ t. relations.Compared t.0 t.1) (λ t after. refl)
relation_again (relations.PointsTo arrow share value) = made (and_then (token kind.PointsTo arrow) (and_then (optional_share_again share) (pattern_again value))) (λ t. relations.PointsTo t.0 t.1.0 t.1.1) (λ t after. refl)

abbrev AtomParts : Type 0
AtomParts = Atom-F (With Atom atom) (With Assertion assertion) (With Conjunct conjunct)

abbrev bare_atom : AtomParts → AtomLayer
bare_atom y = map-Atom (With Atom atom) (With Assertion assertion) (With Conjunct conjunct) Atom Assertion Conjunct (λ p. p.0) (λ p. p.0) (λ p. p.0) y

atom_parts : (y : AtomParts) → Again atom_layer (bare_atom y)
atom_parts (Atom-F.Empty word) = made (token kind.Emp word) (λ t. Atom-F.Empty t) (λ t after. refl)
atom_parts (Atom-F.Choice word start holds end first_start first first_end otherwise second_start second second_end) = made (and_then (token kind.If word) (and_then (token kind.OpenParen start) (and_then (condition_again holds) (and_then (token kind.CloseParen end) (and_then (token kind.OpenBrace first_start) (and_then first.1 (and_then (token kind.CloseBrace first_end) (and_then (token kind.Else otherwise) (and_then (token kind.OpenBrace second_start) (and_then second.1 (token kind.CloseBrace second_end))))))))))) (λ t. Atom-F.Choice t.0 t.1.0 t.1.1.0 t.1.1.1.0 t.1.1.1.1.0 t.1.1.1.1.1.0 t.1.1.1.1.1.1.0 t.1.1.1.1.1.1.1.0 t.1.1.1.1.1.1.1.1.0 t.1.1.1.1.1.1.1.1.1.0 t.1.1.1.1.1.1.1.1.1.1) (λ t after. refl)
atom_parts (Atom-F.Up word start inside end) = made (and_then (token kind.Up word) (and_then (token kind.OpenParen start) (and_then inside.1 (token kind.CloseParen end)))) (λ t. Atom-F.Up t.0 t.1.0 t.1.1.0 t.1.1.1) (λ t after. refl)
atom_parts (Atom-F.Down word start inside end) = made (and_then (token kind.Down word) (and_then (token kind.OpenParen start) (and_then inside.1 (token kind.CloseParen end)))) (λ t. Atom-F.Down t.0 t.1.0 t.1.1.0 t.1.1.1) (λ t after. refl)
atom_parts (Atom-F.Init word start location end) = made (and_then (token kind.InitAssertion word) (and_then (token kind.OpenParen start) (and_then (expression_again location) (token kind.CloseParen end)))) (λ t. Atom-F.Init t.0 t.1.0 t.1.1.0 t.1.1.1) (λ t after. refl)
atom_parts (Atom-F.Rel word start location comma invariant end) = made (and_then (token kind.RelAssertion word) (and_then (token kind.OpenParen start) (and_then (expression_again location) (and_then (token kind.Comma comma) (and_then (usage_again invariant) (token kind.CloseParen end)))))) (λ t. Atom-F.Rel t.0 t.1.0 t.1.1.0 t.1.1.1.0 t.1.1.1.1.0 t.1.1.1.1.1) (λ t after. refl)
atom_parts (Atom-F.RmwAcq word start location comma invariant end) = made (and_then (token kind.RmwAcqAssertion word) (and_then (token kind.OpenParen start) (and_then (expression_again location) (and_then (token kind.Comma comma) (and_then (usage_again invariant) (token kind.CloseParen end)))))) (λ t. Atom-F.RmwAcq t.0 t.1.0 t.1.1.0 t.1.1.1.0 t.1.1.1.1.0 t.1.1.1.1.1) (λ t after. refl)
atom_parts (Atom-F.Acq word start location use_comma invariant part_comma part value set_comma set_start excluded set_end end) = made (and_then (token kind.AcqAssertion word) (and_then (token kind.OpenParen start) (and_then (expression_again location) (and_then (token kind.Comma use_comma) (and_then (usage_again invariant) (and_then (token kind.Comma part_comma) (and_then (number value part) (and_then (token kind.Comma set_comma) (and_then (token kind.OpenBrace set_start) (and_then (optional_arguments_again excluded) (and_then (token kind.CloseBrace set_end) (token kind.CloseParen end)))))))))))) (λ t. Atom-F.Acq t.0 t.1.0 t.1.1.0 t.1.1.1.0 t.1.1.1.1.0 t.1.1.1.1.1.0 t.1.1.1.1.1.1.0 value t.1.1.1.1.1.1.1.0 t.1.1.1.1.1.1.1.1.0 t.1.1.1.1.1.1.1.1.1.0 t.1.1.1.1.1.1.1.1.1.1.0 t.1.1.1.1.1.1.1.1.1.1.1) (λ t after. refl)
atom_parts (Atom-F.Bank word start bank comma amount end) = made (and_then (bank_word_again word) (and_then (token kind.OpenParen start) (and_then (token kind.Name bank) (and_then (token kind.Comma comma) (and_then (expression_again amount) (token kind.CloseParen end)))))) (λ t. Atom-F.Bank t.0 t.1.0 t.1.1.0 t.1.1.1.0 t.1.1.1.1.0 t.1.1.1.1.1) (λ t after. refl)
atom_parts (Atom-F.Related left how) = made (and_then (expression_again left) (relation_again how)) (λ t. Atom-F.Related t.0 t.1) (λ t after. refl)
atom_parts (Atom-F.Predicate predicate) = made (usage_again predicate) (λ t. Atom-F.Predicate t) (λ t after. refl)

atom_rolled : (x : AtomLayer) (y : AtomParts) → bare_atom y ≡ x → Again atom (roll-Atom x)
atom_rolled x y is = made (subst (Again atom_layer) is (atom_parts y)) roll-Atom atom_spells

abbrev AssertionParts : Type 0
AssertionParts = Assertion-F (With Atom atom) (With Assertion assertion) (With Conjunct conjunct)

abbrev bare_assertion : AssertionParts → AssertionLayer
bare_assertion y = map-Assertion (With Atom atom) (With Assertion assertion) (With Conjunct conjunct) Atom Assertion Conjunct (λ p. p.0) (λ p. p.0) (λ p. p.0) y

assertion_parts : (y : AssertionParts) → Again assertion_layer (bare_assertion y)
assertion_parts y = made (and_then y.first.1 (many y.more)) (λ t. record { first = t.0; more = t.1 }) (λ t after. refl)

assertion_rolled : (x : AssertionLayer) (y : AssertionParts) → bare_assertion y ≡ x → Again assertion (roll-Assertion x)
assertion_rolled x y is = made (subst (Again assertion_layer) is (assertion_parts y)) roll-Assertion assertion_spells

abbrev ConjunctParts : Type 0
ConjunctParts = Conjunct-F (With Atom atom) (With Assertion assertion) (With Conjunct conjunct)

abbrev bare_conjunct : ConjunctParts → ConjunctLayer
bare_conjunct y = map-Conjunct (With Atom atom) (With Assertion assertion) (With Conjunct conjunct) Atom Assertion Conjunct (λ p. p.0) (λ p. p.0) (λ p. p.0) y

conjunct_parts : (y : ConjunctParts) → Again conjunct_layer (bare_conjunct y)
conjunct_parts y = made (and_then (token kind.Separate y.separate) y.atom.1) (λ t. record { separate = t.0; atom = t.1 }) (λ t after. refl)

conjunct_rolled : (x : ConjunctLayer) (y : ConjunctParts) → bare_conjunct y ≡ x → Again conjunct (roll-Conjunct x)
conjunct_rolled x y is = made (subst (Again conjunct_layer) is (conjunct_parts y)) roll-Conjunct conjunct_spells

pub assertion_again : (a : Assertion) → Again assertion a
assertion_again = ind-Assertion (Again atom) (Again assertion) (Again conjunct) atom_rolled assertion_rolled conjunct_rolled
