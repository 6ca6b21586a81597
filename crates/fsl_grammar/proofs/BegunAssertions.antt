-- The same of assertions.
use Rattle.std.proofs.Common.{ℕ, zero, suc, ◌-◌, ◌||◌, List, [], refl, Some, None}
use Rattle.fsl_token.specs.declared.kind.TokenKind.{TokenKind}
use Rattle.fsl_tree.specs.declared.assertion.Assertion.{Assertion}
use Rattle.fsl_tree.specs.declared.assertion.Atom.{Atom}
use Rattle.fsl_tree.specs.declared.assertion.Atom.TheOpen.{Atom-F}
use Rattle.fsl_tree.specs.declared.assertion.Atom.TheViews.{roll-Atom, roll-Assertion, roll-Conjunct}
use Rattle.fsl_tree.specs.declared.assertion.Conjunct.{Conjunct}
use Rattle.fsl_tree.specs.declared.assertion.BankWord.{BankWord}
use Rattle.fsl_tree.specs.declared.assertion.Share.{Share}
use Rattle.fsl_tree.specs.declared.declaration.Clause.{Clause}
use Rattle.fsl_tree.specs.declared.declaration.Part.{Part}
use Rattle.fsl_grammar.specs.declared.groups.Arm.{Arm}
use Rattle.fsl_grammar.specs.declared.groups.Permission.{Permission}
use Rattle.fsl_grammar.specs.Heads.{is_next, is_use_next}
use Rattle.fsl_grammar.specs.Readers.{Wrong, Reader}
use Rattle.fsl_grammar.specs.ReadAssertions.{read_pattern, read_share, read_optional_share, read_points_to, read_comparison_to, read_relation, read_related, read_named_or_related, read_bank_word, read_bank_amount, read_initialised, read_permission, read_release_permission, read_update_permission, read_acquire_permission, read_conjunct, read_assertion_of, read_clause_of, read_part_of, read_arm, read_choice, read_raised, read_lowered, read_atom_of, read_atom, read_assertion, read_clause, read_part}
use Rattle.fsl_tree.specs.SpelledAssertions.{bank_word_token, pattern, optional_share, relation, atom, assertion, conjunct}
use Rattle.fsl_tree.specs.SpelledStatements.{clause, otherwise}
use Rattle.fsl_tree.specs.Spelling.{part}
use Rattle.fsl_grammar.proofs.GroupTokens.{test, held, permission, arm}
use Rattle.fsl_tree.specs.declared.expression.Expression.{Expression}
use Rattle.fsl_grammar.specs.declared.groups.Test.{Test}
use Rattle.fsl_grammar.specs.declared.groups.Held.{Held}
use Rattle.fsl_grammar.specs.declared.groups.ExcludedSet.{ExcludedSet}
use Rattle.fsl_grammar.specs.declared.groups.Numeral.{Numeral}
use Rattle.fsl_token.specs.declared.kind.TokenKind.TheVariants as kind
use Rattle.fsl_tree.specs.declared.assertion.BankWord.TheVariants as bank_words
use Rattle.fsl_tree.specs.declared.assertion.Relation.TheVariants as relations
use Rattle.fsl_tree.specs.declared.assertion.Pattern.TheVariants as patterns
use Rattle.fsl_grammar.proofs.Layers.{atom_spells, assertion_spells, conjunct_spells}
use Rattle.fsl_grammar.proofs.Layers.{AssertionLayer, AtomLayer, ConjunctLayer}
use Rattle.fsl_base.specs.declared.span.Span.{Span}
use Rattle.fsl_grammar.proofs.Shortest.{some_expression, some_held, some_excluded_set, some_pattern, some_relation, some_atom, some_assertion, some_arm}
use Rattle.fsl_grammar.proofs.Sound.{one, some_share}
use Rattle.fsl_grammar.proofs.Begun.{complete_by, done_by, AllGo, complete, done, fails, and_then, when, nowhere, some_numeral, take_goes, number_goes, open_goes, many_of_goes}
use Rattle.fsl_grammar.proofs.BegunExpressions.{expression_goes, comparison_goes, usage_goes}
use Rattle.fsl_grammar.proofs.BegunGroups.{enclosed_goes, test_goes, held_goes, excluded_set_goes}

pub pattern_goes : (room : ℕ) → AllGo pattern (read_pattern room)
unfolding read_pattern
pattern_goes room ts =
    when (is_next kind.Underscore ts) (and_then (take_goes kind.Underscore ts) (λ place. complete (patterns.Any place) _ (λ after. refl)) (λ place l1.
    done (patterns.Any place) (λ after. refl)))
    (when (is_next kind.Question ts) (and_then (take_goes kind.Question ts) (λ mark. complete (patterns.Binder mark nowhere) _ (λ after. refl))
    (λ mark l1.
    and_then (take_goes kind.Name l1) (λ name. complete (patterns.Binder mark name) _ (λ after. refl)) (λ name l2.
    done (patterns.Binder mark name) (λ after. refl))))
    (and_then (expression_goes room ts) (λ value. complete (patterns.Value value) _ (λ after. refl)) (λ value l1.
    done (patterns.Value value) (λ after. refl))))

abbrev share_made : Span → Expression → Span → Share
share_made start amount end =
    record { «open» = start; amount = amount; close = end }

pub share_goes : (room : ℕ) → AllGo some_share (read_share room)
unfolding read_share
share_goes room ts =
    and_then (open_goes kind.OpenBracket room ts) (λ start. complete (share_made start some_expression nowhere) _ (λ after. refl)) (λ start l1.
    and_then (expression_goes (room - 1) l1) (λ amount. complete (share_made start amount nowhere) _ (λ after. refl)) (λ amount l2.
    and_then (take_goes kind.CloseBracket l2) (λ end. complete (share_made start amount end) _ (λ after. refl)) (λ end l3.
    done (share_made start amount end) (λ after. refl))))

pub optional_share_goes : (room : ℕ) → AllGo optional_share (read_optional_share room)
unfolding read_optional_share
optional_share_goes room ts =
    when (is_next kind.OpenBracket ts) (and_then (share_goes room ts) (λ share. complete (Some share) _ (λ after. refl)) (λ share l1.
    done (Some share) (λ after. refl)))
    (done None (λ after. refl))

pub points_to_goes : (room : ℕ) → AllGo relation (read_points_to room)
unfolding read_points_to
points_to_goes room ts =
    and_then (take_goes kind.PointsTo ts) (λ arrow. complete (relations.PointsTo arrow None some_pattern) _ (λ after. refl)) (λ arrow l1.
    and_then (optional_share_goes room l1) (λ share. complete (relations.PointsTo arrow share some_pattern) _ (λ after. refl)) (λ share l2.
    and_then (pattern_goes room l2) (λ pattern. complete (relations.PointsTo arrow share pattern) _ (λ after. refl)) (λ pattern l3.
    done (relations.PointsTo arrow share pattern) (λ after. refl))))

pub comparison_to_goes : (room : ℕ) → AllGo relation (read_comparison_to room)
unfolding read_comparison_to
comparison_to_goes room ts =
    and_then (comparison_goes ts) (λ comparison. complete (relations.Compared comparison some_expression) _ (λ after. refl)) (λ comparison l1.
    and_then (expression_goes room l1) (λ right. complete (relations.Compared comparison right) _ (λ after. refl)) (λ right l2.
    done (relations.Compared comparison right) (λ after. refl)))

pub relation_goes : (room : ℕ) → AllGo relation (read_relation room)
unfolding read_relation
relation_goes room ts =
    when (is_next kind.PointsTo ts) (points_to_goes room ts)
    (comparison_to_goes room ts)

pub related_goes : (room : ℕ) → AllGo atom (read_related room)
unfolding read_related
related_goes room ts =
    and_then (expression_goes room ts) (λ left_side. complete_by roll-Atom atom_spells (Atom-F.Related left_side some_relation) _ (λ after. refl))
    (λ left_side l1.
    and_then (relation_goes room l1) (λ relation. complete_by roll-Atom atom_spells (Atom-F.Related left_side relation) _ (λ after. refl))
    (λ relation l2.
    done_by roll-Atom atom_spells (Atom-F.Related left_side relation) (λ after. refl)))

pub named_or_related_goes : (room : ℕ) → AllGo atom (read_named_or_related room)
unfolding read_named_or_related
named_or_related_goes room ts =
    when (is_use_next ts) (and_then (usage_goes room ts) (λ usage. complete_by roll-Atom atom_spells (Atom-F.Predicate usage) _ (λ after. refl))
    (λ usage l1.
    done_by roll-Atom atom_spells (Atom-F.Predicate usage) (λ after. refl)))
    (related_goes room ts)

pub bank_word_goes : AllGo (one bank_word_token) read_bank_word
unfolding read_bank_word
bank_word_goes ts =
    when (is_next kind.TokAssertion ts) (and_then (take_goes kind.TokAssertion ts) (λ place. complete (bank_words.Tok place) _ (λ after. refl))
    (λ place l1.
    done (bank_words.Tok place) (λ after. refl)))
    (and_then (take_goes kind.AuthAssertion ts) (λ place. complete (bank_words.Auth place) _ (λ after. refl)) (λ place l1.
    done (bank_words.Auth place) (λ after. refl)))

abbrev bank_amount_made : BankWord → Span → Span → Span → Expression → Span → AtomLayer
bank_amount_made word start bank comma amount end =
    Atom-F.Bank word start bank comma amount end

pub bank_amount_goes : (room : ℕ) → AllGo atom (read_bank_amount room)
unfolding read_bank_amount
bank_amount_goes room ts =
    and_then (bank_word_goes ts) (λ word. complete_by roll-Atom atom_spells
    (bank_amount_made word nowhere nowhere nowhere some_expression nowhere) _ (λ after. refl)) (λ word l1.
    and_then (open_goes kind.OpenParen room l1)
    (λ start. complete_by roll-Atom atom_spells (bank_amount_made word start nowhere nowhere some_expression nowhere) _ (λ after. refl))
    (λ start l2.
    and_then (take_goes kind.Name l2)
    (λ bank. complete_by roll-Atom atom_spells (bank_amount_made word start bank nowhere some_expression nowhere) _ (λ after. refl))
    (λ bank l3.
    and_then (take_goes kind.Comma l3)
    (λ comma. complete_by roll-Atom atom_spells (bank_amount_made word start bank comma some_expression nowhere) _ (λ after. refl))
    (λ comma l4.
    and_then (expression_goes (room - 1) l4)
    (λ amount. complete_by roll-Atom atom_spells (bank_amount_made word start bank comma amount nowhere) _ (λ after. refl)) (λ amount l5.
    and_then (take_goes kind.CloseParen l5) (λ end. complete_by roll-Atom atom_spells (bank_amount_made word start bank comma amount end) _
    (λ after. refl)) (λ end l6.
    done_by roll-Atom atom_spells (bank_amount_made word start bank comma amount end) (λ after. refl)))))))

pub initialised_goes : (room : ℕ) → AllGo atom (read_initialised room)
unfolding read_initialised
initialised_goes room ts =
    and_then (enclosed_goes kind.InitAssertion room ts) (λ e. complete_by roll-Atom atom_spells (Atom-F.Init e.word e.open e.expression e.close) _
    (λ after. refl)) (λ e l1.
    done_by roll-Atom atom_spells (Atom-F.Init e.word e.open e.expression e.close) (λ after. refl))

abbrev permission_made : Span → Span → Held → Span → Permission
permission_made place start held end =
    record { word = place; «open» = start; held = held; close = end }

pub permission_goes : (word : TokenKind) (room : ℕ) → AllGo (permission word) (read_permission word room)
unfolding read_permission
permission_goes word room ts =
    and_then (take_goes word ts) (λ place. complete (permission_made place nowhere some_held nowhere) _ (λ after. refl)) (λ place l1.
    and_then (open_goes kind.OpenParen room l1) (λ start. complete (permission_made place start some_held nowhere) _ (λ after. refl)) (λ start l2.
    and_then (held_goes (room - 1) l2) (λ held. complete (permission_made place start held nowhere) _ (λ after. refl)) (λ held l3.
    and_then (take_goes kind.CloseParen l3) (λ end. complete (permission_made place start held end) _ (λ after. refl)) (λ end l4.
    done (permission_made place start held end) (λ after. refl)))))

pub release_permission_goes : (room : ℕ) → AllGo atom (read_release_permission room)
unfolding read_release_permission
release_permission_goes room ts =
    and_then (permission_goes kind.RelAssertion room ts)
    (λ p. complete_by roll-Atom atom_spells (Atom-F.Rel p.word p.open p.held.location p.held.comma p.held.invariant p.close) _
    (λ after. refl)) (λ p l1.
    done_by roll-Atom atom_spells (Atom-F.Rel p.word p.open p.held.location p.held.comma p.held.invariant p.close) (λ after. refl))

pub update_permission_goes : (room : ℕ) → AllGo atom (read_update_permission room)
unfolding read_update_permission
update_permission_goes room ts =
    and_then (permission_goes kind.RmwAcqAssertion room ts)
    (λ p. complete_by roll-Atom atom_spells (Atom-F.RmwAcq p.word p.open p.held.location p.held.comma p.held.invariant p.close) _
    (λ after. refl)) (λ p l1.
    done_by roll-Atom atom_spells (Atom-F.RmwAcq p.word p.open p.held.location p.held.comma p.held.invariant p.close) (λ after. refl))

abbrev acquire_permission_made : Span → Span → Held → Span → Numeral → Span → ExcludedSet → Span → AtomLayer
acquire_permission_made word start held part_comma part set_comma set end =
    Atom-F.Acq word start held.location held.comma held.invariant part_comma part.place part.value set_comma set.open set.excluded set.close end

pub acquire_permission_goes : (room : ℕ) → AllGo atom (read_acquire_permission room)
unfolding read_acquire_permission
acquire_permission_goes room ts =
    and_then (take_goes kind.AcqAssertion ts)
    (λ word. complete_by roll-Atom atom_spells
    (acquire_permission_made word nowhere some_held nowhere some_numeral nowhere some_excluded_set nowhere) _ (λ after. refl)) (λ word l1.
    and_then (open_goes kind.OpenParen room l1)
    (λ start. complete_by roll-Atom atom_spells
    (acquire_permission_made word start some_held nowhere some_numeral nowhere some_excluded_set nowhere) _ (λ after. refl)) (λ start l2.
    and_then (held_goes (room - 1) l2)
    (λ held. complete_by roll-Atom atom_spells
    (acquire_permission_made word start held nowhere some_numeral nowhere some_excluded_set nowhere) _ (λ after. refl)) (λ held l3.
    and_then (take_goes kind.Comma l3)
    (λ part_comma. complete_by roll-Atom atom_spells
    (acquire_permission_made word start held part_comma some_numeral nowhere some_excluded_set nowhere) _ (λ after. refl))
    (λ part_comma l4.
    and_then (number_goes l4) (λ part. complete_by roll-Atom atom_spells
    (acquire_permission_made word start held part_comma part nowhere some_excluded_set nowhere) _ (λ after. refl)) (λ part l5.
    and_then (take_goes kind.Comma l5)
    (λ set_comma. complete_by roll-Atom atom_spells
    (acquire_permission_made word start held part_comma part set_comma some_excluded_set nowhere) _ (λ after. refl)) (λ set_comma l6.
    and_then (excluded_set_goes (room - 1) l6)
    (λ set. complete_by roll-Atom atom_spells (acquire_permission_made word start held part_comma part set_comma set nowhere) _
    (λ after. refl)) (λ set l7.
    and_then (take_goes kind.CloseParen l7)
    (λ end. complete_by roll-Atom atom_spells (acquire_permission_made word start held part_comma part set_comma set end) _
    (λ after. refl)) (λ end l8.
    done_by roll-Atom atom_spells (acquire_permission_made word start held part_comma part set_comma set end) (λ after. refl)))))))))

abbrev conjunct_made : Span → Atom → ConjunctLayer
conjunct_made separate a =
    record { separate = separate; atom = a }

pub conjunct_goes : (reader : Reader Atom) → AllGo atom reader → AllGo conjunct (read_conjunct reader)
unfolding read_conjunct
conjunct_goes reader each ts =
    and_then (take_goes kind.Separate ts) (λ separate. complete_by roll-Conjunct conjunct_spells (conjunct_made separate some_atom) _
    (λ after. refl)) (λ separate l1.
    and_then (each l1) (λ a. complete_by roll-Conjunct conjunct_spells (conjunct_made separate a) _ (λ after. refl)) (λ a l2.
    done_by roll-Conjunct conjunct_spells (conjunct_made separate a) (λ after. refl)))

abbrev assertion_of_made : Atom → List Conjunct → AssertionLayer
assertion_of_made first more =
    record { first = first; more = more }

pub assertion_of_goes : (reader : Reader Atom) → AllGo atom reader → AllGo assertion (read_assertion_of reader)
unfolding read_assertion_of
assertion_of_goes reader each ts =
    and_then (each ts) (λ first. complete_by roll-Assertion assertion_spells (assertion_of_made first []) _ (λ after. refl)) (λ first l1.
    and_then (many_of_goes (is_next kind.Separate) (conjunct_goes reader each) l1)
    (λ more. complete_by roll-Assertion assertion_spells (assertion_of_made first more) _ (λ after. refl)) (λ more l2.
    done_by roll-Assertion assertion_spells (assertion_of_made first more) (λ after. refl)))

abbrev clause_of_made : Span → Span → Assertion → Span → Clause
clause_of_made place start inside end =
    record { word = place; «open» = start; assertion = inside; close = end }

pub clause_of_goes : (word : TokenKind) (room : ℕ) (inner : Reader Atom) → AllGo atom inner → AllGo (clause word) (read_clause_of word room inner)
unfolding read_clause_of
clause_of_goes word room inner each ts =
    and_then (take_goes word ts) (λ place. complete (clause_of_made place nowhere some_assertion nowhere) _ (λ after. refl)) (λ place l1.
    and_then (open_goes kind.OpenParen room l1) (λ start. complete (clause_of_made place start some_assertion nowhere) _ (λ after. refl))
    (λ start l2.
    and_then (assertion_of_goes inner each l2) (λ inside. complete (clause_of_made place start inside nowhere) _ (λ after. refl)) (λ inside l3.
    and_then (take_goes kind.CloseParen l3) (λ end. complete (clause_of_made place start inside end) _ (λ after. refl)) (λ end l4.
    done (clause_of_made place start inside end) (λ after. refl)))))

abbrev part_of_made : Span → Assertion → Span → Part
part_of_made start inside end =
    record { «open» = start; assertion = inside; close = end }

pub part_of_goes : (room : ℕ) (inner : Reader Atom) → AllGo atom inner → AllGo part (read_part_of room inner)
unfolding read_part_of
part_of_goes room inner each ts =
    and_then (open_goes kind.OpenBrace room ts) (λ start. complete (part_of_made start some_assertion nowhere) _ (λ after. refl)) (λ start l1.
    and_then (assertion_of_goes inner each l1) (λ inside. complete (part_of_made start inside nowhere) _ (λ after. refl)) (λ inside l2.
    and_then (take_goes kind.CloseBrace l2) (λ end. complete (part_of_made start inside end) _ (λ after. refl)) (λ end l3.
    done (part_of_made start inside end) (λ after. refl))))

pub arm_goes : (room : ℕ) (inner : Reader Atom) → AllGo atom inner → AllGo arm (read_arm room inner)
unfolding read_arm
arm_goes room inner each ts =
    and_then (part_of_goes room inner each ts) (λ p. complete (record { «open» = p.open; assertion = p.assertion; close = p.close }) _
    (λ after. refl)) (λ p l1.
    done (record { «open» = p.open; assertion = p.assertion; close = p.close }) (λ after. refl))

abbrev choice_made : Test → Arm → Span → Arm → AtomLayer
choice_made test first otherwise second =
    Atom-F.Choice test.word test.open test.condition test.close first.open first.assertion first.close otherwise second.open second.assertion second.close

pub choice_goes : (room : ℕ) (inner : Reader Atom) → AllGo atom inner → AllGo atom (read_choice room inner)
unfolding read_choice
choice_goes room inner each ts =
    and_then (test_goes kind.If room ts) (λ test. complete_by roll-Atom atom_spells (choice_made test some_arm nowhere some_arm) _
    (λ after. refl)) (λ test l1.
    and_then (arm_goes room inner each l1) (λ first. complete_by roll-Atom atom_spells (choice_made test first nowhere some_arm) _
    (λ after. refl)) (λ first l2.
    and_then (take_goes kind.Else l2) (λ otherwise. complete_by roll-Atom atom_spells (choice_made test first otherwise some_arm) _
    (λ after. refl)) (λ otherwise l3.
    and_then (arm_goes room inner each l3) (λ second. complete_by roll-Atom atom_spells (choice_made test first otherwise second) _
    (λ after. refl)) (λ second l4.
    done_by roll-Atom atom_spells (choice_made test first otherwise second) (λ after. refl)))))

pub raised_goes : (room : ℕ) (inner : Reader Atom) → AllGo atom inner → AllGo atom (read_raised room inner)
unfolding read_raised
raised_goes room inner each ts =
    and_then (clause_of_goes kind.Up room inner each ts) (λ c. complete_by roll-Atom atom_spells (Atom-F.Up c.word c.open c.assertion c.close) _
    (λ after. refl)) (λ c l1.
    done_by roll-Atom atom_spells (Atom-F.Up c.word c.open c.assertion c.close) (λ after. refl))

pub lowered_goes : (room : ℕ) (inner : Reader Atom) → AllGo atom inner → AllGo atom (read_lowered room inner)
unfolding read_lowered
lowered_goes room inner each ts =
    and_then (clause_of_goes kind.Down room inner each ts)
    (λ c. complete_by roll-Atom atom_spells (Atom-F.Down c.word c.open c.assertion c.close) _ (λ after. refl)) (λ c l1.
    done_by roll-Atom atom_spells (Atom-F.Down c.word c.open c.assertion c.close) (λ after. refl))

pub atom_of_goes : (room : ℕ) (inner : Reader Atom) → AllGo atom inner → AllGo atom (read_atom_of room inner)
atom_of_goes room inner each ts =
    when (is_next kind.Emp ts) (and_then (take_goes kind.Emp ts) (λ word. complete_by roll-Atom atom_spells (Atom-F.Empty word) _ (λ after. refl))
    (λ word l1.
    done_by roll-Atom atom_spells (Atom-F.Empty word) (λ after. refl)))
    (when (is_next kind.If ts) (choice_goes room inner each ts)
    (when (is_next kind.Up ts) (raised_goes room inner each ts)
    (when (is_next kind.Down ts) (lowered_goes room inner each ts)
    (when (is_next kind.InitAssertion ts) (initialised_goes room ts)
    (when (is_next kind.RelAssertion ts) (release_permission_goes room ts)
    (when (is_next kind.RmwAcqAssertion ts) (update_permission_goes room ts)
    (when (is_next kind.AcqAssertion ts) (acquire_permission_goes room ts)
    (when (is_next kind.TokAssertion ts || is_next kind.AuthAssertion ts) (bank_amount_goes room ts)
    (named_or_related_goes room ts)))))))))

pub atom_goes : (room : ℕ) → AllGo atom (read_atom room)
atom_goes zero = atom_of_goes 0 (λ tokens. Wrong tokens) (fails some_atom)
atom_goes (suc room) = atom_of_goes (suc room) (read_atom room) (atom_goes room)

pub assertion_goes : (room : ℕ) → AllGo assertion (read_assertion room)
assertion_goes room = assertion_of_goes (read_atom room) (atom_goes room)

pub clause_goes : (word : TokenKind) (room : ℕ) → AllGo (clause word) (read_clause word room)
clause_goes word room = clause_of_goes word room (read_atom (room - 1)) (atom_goes (room - 1))

pub part_goes : (room : ℕ) → AllGo part (read_part room)
part_goes room = part_of_goes room (read_atom (room - 1)) (atom_goes (room - 1))
