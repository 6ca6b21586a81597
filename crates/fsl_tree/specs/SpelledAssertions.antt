-- The tokens of assertions, in front of those that follow them.
use Rattle.std.specs.Prelude.{◌∷◌, Option, Some, None}
use Rattle.fsl_token.specs.declared.kind.Token.{Token}
use Rattle.fsl_token.specs.declared.kind.TokenKind.TheVariants as kind
use Rattle.fsl_tree.specs.declared.assertion.Assertion.{Assertion}
use Rattle.fsl_tree.specs.declared.assertion.Atom.{Atom}
use Rattle.fsl_tree.specs.declared.assertion.Conjunct.{Conjunct}
use Rattle.fsl_tree.specs.declared.assertion.Atom.TheOpen.{Atom-F, Assertion-F, Conjunct-F}
use Rattle.fsl_tree.specs.declared.assertion.Atom.TheFolds.{fold-Atom, fold-Assertion, fold-Conjunct}
use Rattle.fsl_tree.specs.declared.assertion.BankWord.{BankWord}
use Rattle.fsl_tree.specs.declared.assertion.BankWord.TheVariants as bank_words
use Rattle.fsl_tree.specs.declared.assertion.Relation.{Relation}
use Rattle.fsl_tree.specs.declared.assertion.Relation.TheVariants as relations
use Rattle.fsl_tree.specs.declared.assertion.Share.{Share}
use Rattle.fsl_tree.specs.declared.assertion.Pattern.{Pattern}
use Rattle.fsl_tree.specs.declared.assertion.Pattern.TheVariants as patterns
use Rattle.fsl_tree.specs.SpelledExpressions.{Spelled, fixed, numeral, all, expression, comparison_token, usage, grouped, tested, held, excluded_set}

abbrev pub bank_word_token : BankWord → Token
bank_word_token (bank_words.Tok place) = fixed kind.TokAssertion place
bank_word_token (bank_words.Auth place) = fixed kind.AuthAssertion place

abbrev pub pattern : Pattern → Spelled
pattern (patterns.Any place) after = fixed kind.Underscore place ∷ after
pattern (patterns.Binder mark name) after = fixed kind.Question mark ∷ fixed kind.Name name ∷ after
pattern (patterns.Value value) after = expression value after

abbrev pub optional_share : Option Share → Spelled
optional_share None after = after
optional_share (Some s) after = fixed kind.OpenBracket s.open ∷ expression s.amount (fixed kind.CloseBracket s.close ∷ after)

abbrev pub relation : Relation → Spelled
relation (relations.Compared comparison right) after = comparison_token comparison ∷ expression right after
relation (relations.PointsTo arrow share value) after = fixed kind.PointsTo arrow ∷ optional_share share (pattern value after)

-- ---- one level of an assertion, with the tokens of each part in its place

abbrev pub atom_step : Atom-F Spelled Spelled Spelled → Spelled
atom_step (Atom-F.Empty word) after = fixed kind.Emp word ∷ after
atom_step (Atom-F.Choice word start holds end first_start first first_end otherwise second_start second second_end) after =
    fixed kind.If word ∷ tested start holds end (
    fixed kind.OpenBrace first_start ∷ first (
    fixed kind.CloseBrace first_end ∷ fixed kind.Else otherwise ∷ fixed kind.OpenBrace second_start ∷ second (
    fixed kind.CloseBrace second_end ∷ after)))
atom_step (Atom-F.Up word start inside end) after =
    fixed kind.Up word ∷ fixed kind.OpenParen start ∷ inside (fixed kind.CloseParen end ∷ after)
atom_step (Atom-F.Down word start inside end) after =
    fixed kind.Down word ∷ fixed kind.OpenParen start ∷ inside (fixed kind.CloseParen end ∷ after)
atom_step (Atom-F.Init word start location end) after = fixed kind.InitAssertion word ∷ grouped start location end after
atom_step (Atom-F.Rel word start location comma invariant end) after =
    fixed kind.RelAssertion word ∷ held start location comma invariant end after
atom_step (Atom-F.RmwAcq word start location comma invariant end) after =
    fixed kind.RmwAcqAssertion word ∷ held start location comma invariant end after
atom_step (Atom-F.Acq word start location use_comma invariant part_comma part value set_comma set_start excluded set_end end) after =
    fixed kind.AcqAssertion word ∷ fixed kind.OpenParen start ∷ expression location (
    fixed kind.Comma use_comma ∷ usage invariant (
    fixed kind.Comma part_comma ∷ numeral part value ∷ fixed kind.Comma set_comma ∷ excluded_set set_start excluded set_end (
    fixed kind.CloseParen end ∷ after)))
atom_step (Atom-F.Bank word start bank comma amount end) after =
    bank_word_token word ∷ fixed kind.OpenParen start ∷ fixed kind.Name bank ∷ fixed kind.Comma comma ∷ expression amount (
    fixed kind.CloseParen end ∷ after)
atom_step (Atom-F.Related left how) after = expression left (relation how after)
atom_step (Atom-F.Predicate predicate) after = usage predicate after

abbrev pub assertion_step : Assertion-F Spelled Spelled Spelled → Spelled
assertion_step a after = a.first (all a.more after)

abbrev pub conjunct_step : Conjunct-F Spelled Spelled Spelled → Spelled
conjunct_step c after = fixed kind.Separate c.separate ∷ c.atom after

-- ---- assertions

unfoldable pub atom : Atom → Spelled
atom = fold-Atom Spelled Spelled Spelled atom_step assertion_step conjunct_step

unfoldable pub assertion : Assertion → Spelled
assertion = fold-Assertion Spelled Spelled Spelled atom_step assertion_step conjunct_step

unfoldable pub conjunct : Conjunct → Spelled
conjunct = fold-Conjunct Spelled Spelled Spelled atom_step assertion_step conjunct_step
