-- How assertions are read.
use Rattle.std.specs.Prelude.{ℕ, zero, suc, ◌-◌, if◌then◌else◌, ◌||◌, Option, Some, None, length}
use Rattle.fsl_token.specs.declared.kind.TokenKind.{TokenKind}
use Rattle.fsl_token.specs.declared.kind.TokenKind.TheVariants as kind
use Rattle.fsl_tree.specs.declared.assertion.Assertion.{Assertion}
use Rattle.fsl_tree.specs.declared.assertion.Atom.{Atom}
use Rattle.fsl_tree.specs.declared.assertion.Atom.TheOpen.{Atom-F}
use Rattle.fsl_tree.specs.declared.assertion.Atom.TheViews.{roll-Atom, roll-Assertion, roll-Conjunct}
use Rattle.fsl_tree.specs.declared.assertion.Conjunct.{Conjunct}
use Rattle.fsl_tree.specs.declared.assertion.BankWord.{BankWord}
use Rattle.fsl_tree.specs.declared.assertion.BankWord.TheVariants as bank_words
use Rattle.fsl_tree.specs.declared.assertion.Relation.{Relation}
use Rattle.fsl_tree.specs.declared.assertion.Relation.TheVariants as relations
use Rattle.fsl_tree.specs.declared.assertion.Share.{Share}
use Rattle.fsl_tree.specs.declared.assertion.Pattern.{Pattern}
use Rattle.fsl_tree.specs.declared.assertion.Pattern.TheVariants as patterns
use Rattle.fsl_tree.specs.declared.declaration.Clause.{Clause}
use Rattle.fsl_tree.specs.declared.declaration.Part.{Part}
use Rattle.fsl_grammar.specs.declared.groups.Arm.{Arm}
use Rattle.fsl_grammar.specs.declared.groups.Permission.{Permission}
use Rattle.fsl_grammar.specs.Heads.{is_next, is_use_next}
use Rattle.fsl_grammar.specs.Readers.{Outcome, Found, Wrong, Reader, bind, take, open_at, number, many_of}
use Rattle.fsl_grammar.specs.ReadExpressions.{read_expression, read_comparison, read_usage}
use Rattle.fsl_grammar.specs.ReadGroups.{read_enclosed, read_test, read_held, read_excluded_set}

-- ---- parts without assertions inside

unfoldable pub read_pattern : ℕ → Reader Pattern
read_pattern room tokens =
    if is_next kind.Underscore tokens then bind (take kind.Underscore tokens) (λ place left. Found (patterns.Any place) left)
    else (if is_next kind.Question tokens then
    bind (take kind.Question tokens) (λ mark left. bind (take kind.Name left) (λ name left. Found (patterns.Binder mark name) left))
    else bind (read_expression room tokens) (λ value left. Found (patterns.Value value) left))

unfoldable pub read_share : ℕ → Reader Share
read_share room tokens =
    bind (open_at kind.OpenBracket room tokens) (λ start left. bind (read_expression (room - 1) left) (λ amount left.
    bind (take kind.CloseBracket left) (λ end left. Found (record { «open» = start; amount = amount; close = end }) left)))

unfoldable pub read_optional_share : ℕ → Reader (Option Share)
read_optional_share room tokens =
    if is_next kind.OpenBracket tokens then bind (read_share room tokens) (λ share left. Found (Some share) left) else Found None tokens

unfoldable pub read_points_to : ℕ → Reader Relation
read_points_to room tokens =
    bind (take kind.PointsTo tokens) (λ arrow left. bind (read_optional_share room left) (λ share left.
    bind (read_pattern room left) (λ pattern left. Found (relations.PointsTo arrow share pattern) left)))

unfoldable pub read_comparison_to : ℕ → Reader Relation
read_comparison_to room tokens =
    bind (read_comparison tokens) (λ comparison left. bind (read_expression room left) (λ right left.
    Found (relations.Compared comparison right) left))

unfoldable pub read_relation : ℕ → Reader Relation
read_relation room tokens = if is_next kind.PointsTo tokens then read_points_to room tokens else read_comparison_to room tokens

unfoldable pub read_related : ℕ → Reader Atom
read_related room tokens =
    bind (read_expression room tokens) (λ left_side left. bind (read_relation room left) (λ relation left.
    Found (roll-Atom (Atom-F.Related left_side relation)) left))

unfoldable pub read_named_or_related : ℕ → Reader Atom
read_named_or_related room tokens =
    if is_use_next tokens then bind (read_usage room tokens) (λ usage left. Found (roll-Atom (Atom-F.Predicate usage)) left)
    else read_related room tokens

unfoldable pub read_bank_word : Reader BankWord
read_bank_word tokens =
    if is_next kind.TokAssertion tokens then bind (take kind.TokAssertion tokens) (λ place left. Found (bank_words.Tok place) left)
    else bind (take kind.AuthAssertion tokens) (λ place left. Found (bank_words.Auth place) left)

unfoldable pub read_bank_amount : ℕ → Reader Atom
read_bank_amount room tokens =
    bind (read_bank_word tokens) (λ word left. bind (open_at kind.OpenParen room left) (λ start left.
    bind (take kind.Name left) (λ bank left. bind (take kind.Comma left) (λ comma left.
    bind (read_expression (room - 1) left) (λ amount left. bind (take kind.CloseParen left) (λ end left.
    Found (roll-Atom (Atom-F.Bank word start bank comma amount end)) left))))))

unfoldable pub read_initialised : ℕ → Reader Atom
read_initialised room tokens =
    bind (read_enclosed kind.InitAssertion room tokens) (λ e left. Found (roll-Atom (Atom-F.Init e.word e.open e.expression e.close)) left)

unfoldable pub read_permission : TokenKind → ℕ → Reader Permission
read_permission word room tokens =
    bind (take word tokens) (λ place left. bind (open_at kind.OpenParen room left) (λ start left.
    bind (read_held (room - 1) left) (λ held left. bind (take kind.CloseParen left) (λ end left.
    Found (record { word = place; «open» = start; held = held; close = end }) left))))

unfoldable pub read_release_permission : ℕ → Reader Atom
read_release_permission room tokens =
    bind (read_permission kind.RelAssertion room tokens) (λ p left.
    Found (roll-Atom (Atom-F.Rel p.word p.open p.held.location p.held.comma p.held.invariant p.close)) left)

unfoldable pub read_update_permission : ℕ → Reader Atom
read_update_permission room tokens =
    bind (read_permission kind.RmwAcqAssertion room tokens) (λ p left.
    Found (roll-Atom (Atom-F.RmwAcq p.word p.open p.held.location p.held.comma p.held.invariant p.close)) left)

unfoldable pub read_acquire_permission : ℕ → Reader Atom
read_acquire_permission room tokens =
    bind (take kind.AcqAssertion tokens) (λ word left. bind (open_at kind.OpenParen room left) (λ start left.
    bind (read_held (room - 1) left) (λ held left. bind (take kind.Comma left) (λ part_comma left.
    bind (number left) (λ part left. bind (take kind.Comma left) (λ set_comma left.
    bind (read_excluded_set (room - 1) left) (λ set left. bind (take kind.CloseParen left) (λ end left.
    Found (roll-Atom (Atom-F.Acq word start held.location held.comma held.invariant part_comma part.place part.value set_comma set.open set.excluded set.close end)) left))))))))

-- ---- assertions, given how atoms are read

unfoldable pub read_conjunct : Reader Atom → Reader Conjunct
read_conjunct atom tokens =
    bind (take kind.Separate tokens) (λ separate left. bind (atom left) (λ a left. Found (roll-Conjunct (record { separate = separate; atom = a })) left))

unfoldable pub read_assertion_of : Reader Atom → Reader Assertion
read_assertion_of atom tokens =
    bind (atom tokens) (λ first left. bind (many_of (is_next kind.Separate) (read_conjunct atom) left)
    (λ more left. Found (roll-Assertion (record { first = first; more = more })) left))

-- ---- atoms, given how those with one level less room are read

unfoldable pub read_clause_of : TokenKind → ℕ → Reader Atom → Reader Clause
read_clause_of word room inner tokens =
    bind (take word tokens) (λ place left. bind (open_at kind.OpenParen room left) (λ start left.
    bind (read_assertion_of inner left) (λ inside left. bind (take kind.CloseParen left) (λ end left.
    Found (record { word = place; «open» = start; assertion = inside; close = end }) left))))

unfoldable pub read_part_of : ℕ → Reader Atom → Reader Part
read_part_of room inner tokens =
    bind (open_at kind.OpenBrace room tokens) (λ start left. bind (read_assertion_of inner left) (λ inside left.
    bind (take kind.CloseBrace left) (λ end left. Found (record { «open» = start; assertion = inside; close = end }) left)))

unfoldable pub read_arm : ℕ → Reader Atom → Reader Arm
read_arm room inner tokens =
    bind (read_part_of room inner tokens) (λ p left. Found (record { «open» = p.open; assertion = p.assertion; close = p.close }) left)

unfoldable pub read_choice : ℕ → Reader Atom → Reader Atom
read_choice room inner tokens =
    bind (read_test kind.If room tokens) (λ test left. bind (read_arm room inner left) (λ first left.
    bind (take kind.Else left) (λ otherwise left. bind (read_arm room inner left) (λ second left.
    Found (roll-Atom (Atom-F.Choice test.word test.open test.condition test.close first.open first.assertion first.close otherwise
    second.open second.assertion second.close)) left))))

unfoldable pub read_raised : ℕ → Reader Atom → Reader Atom
read_raised room inner tokens =
    bind (read_clause_of kind.Up room inner tokens) (λ c left. Found (roll-Atom (Atom-F.Up c.word c.open c.assertion c.close)) left)

unfoldable pub read_lowered : ℕ → Reader Atom → Reader Atom
read_lowered room inner tokens =
    bind (read_clause_of kind.Down room inner tokens) (λ c left. Found (roll-Atom (Atom-F.Down c.word c.open c.assertion c.close)) left)

abbrev pub read_atom_of : ℕ → Reader Atom → Reader Atom
read_atom_of room inner tokens =
    if is_next kind.Emp tokens then bind (take kind.Emp tokens) (λ word left. Found (roll-Atom (Atom-F.Empty word)) left)
    else (if is_next kind.If tokens then read_choice room inner tokens
    else (if is_next kind.Up tokens then read_raised room inner tokens
    else (if is_next kind.Down tokens then read_lowered room inner tokens
    else (if is_next kind.InitAssertion tokens then read_initialised room tokens
    else (if is_next kind.RelAssertion tokens then read_release_permission room tokens
    else (if is_next kind.RmwAcqAssertion tokens then read_update_permission room tokens
    else (if is_next kind.AcqAssertion tokens then read_acquire_permission room tokens
    else (if is_next kind.TokAssertion tokens || is_next kind.AuthAssertion tokens then read_bank_amount room tokens
    else read_named_or_related room tokens))))))))

abbrev pub read_atom : ℕ → Reader Atom
read_atom zero = read_atom_of 0 (λ tokens. Wrong tokens)
read_atom (suc room) = read_atom_of (suc room) (read_atom room)

abbrev pub read_assertion : ℕ → Reader Assertion
read_assertion room = read_assertion_of (read_atom room)

abbrev pub read_clause : TokenKind → ℕ → Reader Clause
read_clause word room = read_clause_of word room (read_atom (room - 1))

abbrev pub read_part : ℕ → Reader Part
read_part room = read_part_of room (read_atom (room - 1))
