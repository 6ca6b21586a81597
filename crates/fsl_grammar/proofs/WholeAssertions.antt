-- The same of assertions.
use Rattle.std.proofs.Common.{ℕ, zero, suc, ◌+◌, ◌-◌, ◌≡◌, ◌≤◌, ◌<◌, ◌∙◌, Bool, true, false, ◌||◌, List, [], ◌∷◌, map, length, max, refl, sym, ap, subst, arith, Option, Some, None}
use Rattle.fsl_base.specs.declared.span.Span.{Span}
use Rattle.fsl_token.specs.declared.kind.TokenKind.{TokenKind}
use Rattle.fsl_token.specs.declared.kind.TokenKind.TheVariants as kind
use Rattle.fsl_tree.specs.declared.assertion.Assertion.{Assertion}
use Rattle.fsl_tree.specs.declared.assertion.Atom.{Atom}
use Rattle.fsl_tree.specs.declared.assertion.Conjunct.{Conjunct}
use Rattle.fsl_tree.specs.declared.assertion.Atom.TheOpen.{Atom-F, Assertion-F, Conjunct-F}
use Rattle.fsl_tree.specs.declared.assertion.Atom.TheViews.{roll-Atom, roll-Assertion, roll-Conjunct, out-Atom, out-Assertion, out-Conjunct, roll-out-Atom, roll-out-Assertion, roll-out-Conjunct}
use Rattle.fsl_tree.specs.declared.assertion.Atom.TheFolds.{fold-roll-Atom, fold-roll-Assertion, fold-roll-Conjunct}
use Rattle.fsl_tree.specs.declared.assertion.BankWord.{BankWord}
use Rattle.fsl_tree.specs.declared.assertion.BankWord.TheVariants as bank_words
use Rattle.fsl_tree.specs.declared.assertion.Relation.{Relation}
use Rattle.fsl_tree.specs.declared.assertion.Relation.TheVariants as relations
use Rattle.fsl_tree.specs.declared.assertion.Share.{Share}
use Rattle.fsl_tree.specs.declared.assertion.Pattern.{Pattern}
use Rattle.fsl_tree.specs.declared.assertion.Pattern.TheVariants as patterns
use Rattle.fsl_tree.specs.declared.declaration.Clause.{Clause}
use Rattle.fsl_tree.specs.declared.declaration.Part.{Part}
use Rattle.fsl_tree.specs.declared.expression.Expression.{Expression}
use Rattle.fsl_tree.specs.declared.expression.Use.{Use}
use Rattle.fsl_tree.specs.declared.expression.Condition.{Condition}
use Rattle.fsl_tree.specs.declared.expression.Arguments.{Arguments}
use Rattle.fsl_tree.specs.SpelledExpressions.{Tokens, Spelled, fixed, numeral, all, comparison_token, expression, condition, optional_arguments, usage}
use Rattle.fsl_tree.specs.SpelledAssertions.{bank_word_token, pattern, optional_share, relation, atom_step, assertion_step, conjunct_step, atom, assertion, conjunct}
use Rattle.fsl_tree.specs.SpelledStatements.{clause}
use Rattle.fsl_tree.specs.Spelling.{part}
use Rattle.fsl_tree.specs.Nesting.{greatest, in_expression, in_condition, in_arguments, in_use, in_pattern, in_share, in_relation, atom_depth, assertion_depth, conjunct_depth, in_atom, in_assertion, in_conjunct, in_clause, in_part}
use Rattle.fsl_grammar.specs.declared.groups.Permission.{Permission}
use Rattle.fsl_grammar.specs.declared.groups.Test.{Test}
use Rattle.fsl_grammar.specs.declared.groups.Enclosed.{Enclosed}
use Rattle.fsl_grammar.specs.declared.groups.Held.{Held}
use Rattle.fsl_grammar.specs.declared.groups.ExcludedSet.{ExcludedSet}
use Rattle.fsl_grammar.proofs.GroupTokens.{permission, in_permission, excluded_set}
use Rattle.fsl_grammar.specs.Heads.{is_next, is_number_next, is_use_next}
use Rattle.fsl_grammar.specs.Readers.{Outcome, Found, Wrong, Reader, bind, take, open_at, number, many}
use Rattle.fsl_grammar.specs.ReadExpressions.{is_sign_next, read_expression, read_comparison, read_usage, read_addend, read_arguments, read_compared, read_condition, read_expression_of, read_group, read_multiplier, read_negative, read_next_argument, read_optional_arguments, read_sign, read_term}
use Rattle.fsl_grammar.specs.ReadGroups.{read_enclosed, read_test, read_held, read_excluded_set}
use Rattle.fsl_grammar.specs.ReadAssertions.{read_pattern, read_share, read_optional_share, read_points_to, read_comparison_to, read_relation, read_related, read_named_or_related, read_bank_word, read_bank_amount, read_initialised, read_permission, read_release_permission, read_update_permission, read_acquire_permission, read_conjunct, read_assertion_of, read_clause_of, read_part_of, read_choice, read_raised, read_lowered, read_atom_of, read_atom, read_assertion, read_clause, read_part, read_arm}
use Rattle.fsl_grammar.proofs.Whole.{Reads, ManyRead, many_read, take_reads, open_reads}
use Rattle.fsl_grammar.proofs.WholeExpressions.{EndsExpression, expression_reads, not_start, expression_no_use}
use Rattle.fsl_grammar.proofs.WholeUses.{OptionReads, comparison_reads, comparison_ends, comparison_no_use, comparison_no_arrow, usage_reads}
use Rattle.fsl_grammar.proofs.WholeGroups.{enclosed_reads, test_reads, held_reads, excluded_set_reads}

-- ---- patterns, shares and relations

pattern_reads : (room : ℕ) (p : Pattern) (after : Tokens) → in_pattern p ≤ room → EndsExpression after → Reads (read_pattern room) (pattern p) p after
unfolding read_addend read_expression_of read_group read_multiplier read_negative read_pattern read_sign read_term
pattern_reads room (patterns.Any place) after fits ends = record { reads = refl; grows = omega arith }
pattern_reads room (patterns.Binder mark name) after fits ends = record { reads = refl; grows = omega arith }
pattern_reads room (patterns.Value value) after fits ends =
    let one = expression_reads room value after fits ends in let g = one.grows in
    record { reads = rw (not_start kind.Underscore refl value after, not_start kind.Question refl value after, one.reads) refl; grows = omega arith }

pattern_no_share : (p : Pattern) (after : Tokens) → is_next kind.OpenBracket (pattern p after) ≡ false
pattern_no_share (patterns.Any place) after = refl
pattern_no_share (patterns.Binder mark name) after = refl
pattern_no_share (patterns.Value value) after = not_start kind.OpenBracket refl value after

optional_share_reads : (room : ℕ) (s : Option Share) (after : Tokens) → in_share s ≤ room → is_next kind.OpenBracket after ≡ false
    → OptionReads (read_optional_share room) (optional_share s) s after
unfolding read_addend read_expression_of read_group read_multiplier read_negative read_optional_share read_share read_sign read_term
optional_share_reads room None after fits stops = record { reads = rw (stops) refl; grows = omega arith }
optional_share_reads room (Some s) after fits stops =
    let inner = expression_reads (room - 1) s.amount (fixed kind.CloseBracket s.close ∷ after) (omega arith) (record { no_star = refl; no_sign = refl }) in
    let g = inner.grows in let roomy : 0 < room = omega arith in
    record { reads = rw (open_reads, inner.reads) refl; grows = omega arith }

relation_reads : (room : ℕ) (r : Relation) (after : Tokens) → in_relation r ≤ room → EndsExpression after → Reads (read_relation room) (relation r) r after
unfolding read_addend read_comparison read_comparison_to read_expression_of read_group read_multiplier read_negative read_optional_share read_pattern read_points_to read_relation read_share read_sign read_term
relation_reads room (relations.Compared comparison right) after fits ends =
    let one = expression_reads room right after fits ends in let g = one.grows in
    record { reads = rw (comparison_no_arrow comparison (expression right after), comparison_reads comparison (expression right after), one.reads) refl; grows = omega arith }
relation_reads room (relations.PointsTo arrow share value) after fits ends =
    let second = pattern_reads room value after (omega arith) ends in
    let first = optional_share_reads room share (pattern value after) (omega arith) (pattern_no_share value after) in
    let g = first.grows in let g' = second.grows in
    record { reads = rw (first.reads, second.reads) refl; grows = omega arith }

relation_ends : (r : Relation) (after : Tokens) → EndsExpression (relation r after)
relation_ends (relations.Compared comparison right) after = comparison_ends comparison (expression right after)
relation_ends (relations.PointsTo arrow share value) after = record { no_star = refl; no_sign = refl }

relation_no_use : (r : Relation) (after : Tokens) → is_next kind.OpenParen (relation r after) ≡ false
relation_no_use (relations.Compared comparison right) after = comparison_no_use comparison (expression right after)
relation_no_use (relations.PointsTo arrow share value) after = refl

permission_reads : (word : TokenKind) (room : ℕ) (p : Permission) (after : Tokens) → in_permission p ≤ room
    → Reads (read_permission word room) (permission word p) p after
unfolding read_addend read_arguments read_expression_of read_group read_held read_multiplier read_negative read_next_argument read_optional_arguments read_permission read_sign read_term read_usage
permission_reads word room p after fits =
    let inner = held_reads (room - 1) p.held (fixed kind.CloseParen p.close ∷ after) (omega arith) in
    let g = inner.grows in let roomy : 0 < room = omega arith in
    record { reads = rw (take_reads, open_reads, inner.reads) refl; grows = omega arith }

bank_word_reads : (w : BankWord) (after : Tokens) → read_bank_word (bank_word_token w ∷ after) ≡ Found w after
unfolding read_bank_word
bank_word_reads (bank_words.Tok place) after = refl
bank_word_reads (bank_words.Auth place) after = refl

-- ---- assertions, given how atoms are read

abbrev pub AtomsRead : ℕ → Reader Atom → Type 0
AtomsRead room reader = (a : Atom) (after : Tokens) → in_atom a ≤ room → EndsExpression after → Reads reader (atom a) a after

abbrev ConjunctLayer : Type 0
ConjunctLayer = Conjunct-F Atom Assertion Conjunct

abbrev AssertionLayer : Type 0
AssertionLayer = Assertion-F Atom Assertion Conjunct

abbrev AtomLayer : Type 0
AtomLayer = Atom-F Atom Assertion Conjunct

conjunct_spelled : (x : ConjunctLayer) → conjunct (roll-Conjunct x) ≡ (λ after. fixed kind.Separate x.separate ∷ atom x.atom after)
unfolding atom assertion conjunct
conjunct_spelled x = fold-roll-Conjunct Spelled Spelled Spelled atom_step assertion_step conjunct_step x

conjunct_nested : (x : ConjunctLayer) → in_conjunct (roll-Conjunct x) ≡ in_atom x.atom
unfolding in_atom in_assertion in_conjunct
conjunct_nested x = fold-roll-Conjunct ℕ ℕ ℕ atom_depth assertion_depth conjunct_depth x

assertion_spelled : (x : AssertionLayer) → assertion (roll-Assertion x) ≡ (λ after. atom x.first (all (map conjunct x.more) after))
unfolding atom assertion conjunct
assertion_spelled x = fold-roll-Assertion Spelled Spelled Spelled atom_step assertion_step conjunct_step x

assertion_nested : (x : AssertionLayer) → in_assertion (roll-Assertion x) ≡ max (in_atom x.first) (greatest (map in_conjunct x.more))
unfolding in_atom in_assertion in_conjunct
assertion_nested x = fold-roll-Assertion ℕ ℕ ℕ atom_depth assertion_depth conjunct_depth x

conjunct_layer : (room : ℕ) (reader : Reader Atom) → AtomsRead room reader → (x : ConjunctLayer) (after : Tokens)
    → in_conjunct (roll-Conjunct x) ≤ room → EndsExpression after → Reads (read_conjunct reader) (conjunct (roll-Conjunct x)) (roll-Conjunct x) after
unfolding read_conjunct
conjunct_layer room reader each x after fits ends =
    let deep = conjunct_nested x in
    let inner = each x.atom after (omega arith) ends in let g = inner.grows in
    rw (conjunct_spelled x) (record { reads = rw (inner.reads) refl; grows = omega arith })

conjunct_reads : (room : ℕ) (reader : Reader Atom) → AtomsRead room reader → (c : Conjunct) (after : Tokens)
    → in_conjunct c ≤ room → EndsExpression after → Reads (read_conjunct reader) (conjunct c) c after
unfolding read_conjunct
conjunct_reads room reader each c after =
    subst (λ (u : Conjunct). in_conjunct u ≤ room → EndsExpression after → Reads (read_conjunct reader) (conjunct u) u after) (roll-out-Conjunct c)
    (conjunct_layer room reader each (out-Conjunct c) after)

conjunct_begins : (c : Conjunct) (after : Tokens) → is_next kind.Separate (conjunct c after) ≡ true
conjunct_begins c after = subst (λ (u : Conjunct). is_next kind.Separate (conjunct u after) ≡ true) (roll-out-Conjunct c)
    (rw (conjunct_spelled (out-Conjunct c)) refl)

conjunct_ends : (c : Conjunct) (after : Tokens) → EndsExpression (conjunct c after)
conjunct_ends c after = subst (λ (u : Conjunct). EndsExpression (conjunct u after)) (roll-out-Conjunct c)
    (rw (conjunct_spelled (out-Conjunct c)) (record { no_star = refl; no_sign = refl }))

-- what may follow an assertion
pub record EndsAssertion (after : Tokens) : Type 0 where
  pub expression : EndsExpression after
  pub no_separate : is_next kind.Separate after ≡ false

assertion_layer : (room : ℕ) (reader : Reader Atom) → AtomsRead room reader → (x : AssertionLayer) (after : Tokens)
    → in_assertion (roll-Assertion x) ≤ room → EndsAssertion after
    → Reads (read_assertion_of reader) (assertion (roll-Assertion x)) (roll-Assertion x) after
unfolding read_assertion_of read_conjunct
assertion_layer room reader each x after fits ends =
    let deep = assertion_nested x in
    let others = many_read (is_next kind.Separate) (read_conjunct reader) conjunct in_conjunct room EndsExpression
    conjunct_begins conjunct_ends (conjunct_reads room reader each) x.more after (omega arith) ends.expression ends.no_separate in
    let first = each x.first (all (map conjunct x.more) after) (omega arith) others.ends in
    let e = others.reads (length (all (map conjunct x.more) after)) (omega arith) in
    let g = first.grows in let g' = others.grows in
    rw (assertion_spelled x) (record { reads = rw (first.reads, e) refl; grows = omega arith })

assertion_of_reads : (room : ℕ) (reader : Reader Atom) → AtomsRead room reader → (a : Assertion) (after : Tokens)
    → in_assertion a ≤ room → EndsAssertion after → Reads (read_assertion_of reader) (assertion a) a after
unfolding read_assertion_of read_conjunct
assertion_of_reads room reader each a after =
    subst (λ (u : Assertion). in_assertion u ≤ room → EndsAssertion after → Reads (read_assertion_of reader) (assertion u) u after)
    (roll-out-Assertion a) (assertion_layer room reader each (out-Assertion a) after)

-- ---- what holds assertions in parentheses or braces

clause_of_reads : (word : TokenKind) (room : ℕ) (inner : Reader Atom) → (0 < room → AtomsRead (room - 1) inner) → (c : Clause) (after : Tokens)
    → in_clause c ≤ room → Reads (read_clause_of word room inner) (clause word c) c after
unfolding read_assertion_of read_clause_of read_conjunct
clause_of_reads word room inner each c after fits =
    let roomy : 0 < room = omega arith in
    let one = assertion_of_reads (room - 1) inner (each roomy) c.assertion (fixed kind.CloseParen c.close ∷ after) (omega arith)
    (record { expression = record { no_star = refl; no_sign = refl }; no_separate = refl }) in
    let g = one.grows in
    record { reads = rw (take_reads, open_reads, one.reads) refl; grows = omega arith }

part_of_reads : (room : ℕ) (inner : Reader Atom) → (0 < room → AtomsRead (room - 1) inner) → (p : Part) (after : Tokens)
    → in_part p ≤ room → Reads (read_part_of room inner) (part p) p after
unfolding read_assertion_of read_conjunct read_part_of
part_of_reads room inner each p after fits =
    let roomy : 0 < room = omega arith in
    let one = assertion_of_reads (room - 1) inner (each roomy) p.assertion (fixed kind.CloseBrace p.close ∷ after) (omega arith)
    (record { expression = record { no_star = refl; no_sign = refl }; no_separate = refl }) in
    let g = one.grows in
    record { reads = rw (open_reads, one.reads) refl; grows = omega arith }

-- ---- atoms, given how those with one level less room are read

atom_layer : (room : ℕ) (inner : Reader Atom) → (0 < room → AtomsRead (room - 1) inner) → (x : AtomLayer) (after : Tokens)
    → in_atom (roll-Atom x) ≤ room → EndsExpression after → Reads (read_atom_of room inner) (atom (roll-Atom x)) (roll-Atom x) after
unfolding atom assertion conjunct in_atom in_assertion in_conjunct read_acquire_permission read_addend read_arguments read_arm read_assertion_of read_bank_amount read_bank_word read_choice read_clause_of read_compared read_comparison read_comparison_to read_condition read_conjunct read_enclosed read_excluded_set read_expression_of read_group read_held read_initialised read_lowered read_multiplier read_named_or_related read_negative read_next_argument read_optional_arguments read_optional_share read_part_of read_pattern read_permission read_points_to read_raised read_related read_relation read_release_permission read_share read_sign read_term read_test read_update_permission read_usage
atom_layer room inner each (Atom-F.Empty word) after fits ends =
    let deep : in_atom (roll-Atom (Atom-F.Empty word)) ≡ 0 = fold-roll-Atom ℕ ℕ ℕ atom_depth assertion_depth conjunct_depth (Atom-F.Empty word) in
    rw (fold-roll-Atom Spelled Spelled Spelled atom_step assertion_step conjunct_step (Atom-F.Empty word)) (record { reads = refl; grows = omega arith })
atom_layer room inner each (Atom-F.Choice word start holds end first_start first first_end otherwise second_start second second_end) after fits ends =
    let deep : in_atom (roll-Atom (Atom-F.Choice word start holds end first_start first first_end otherwise second_start second second_end)) ≡ 1 + max (in_condition holds) (max (in_assertion first) (in_assertion second)) = fold-roll-Atom ℕ ℕ ℕ atom_depth assertion_depth conjunct_depth (Atom-F.Choice word start holds end first_start first first_end otherwise second_start second second_end) in
    let b : Part = record { «open» = second_start; assertion = second; close = second_end } in
    let a : Part = record { «open» = first_start; assertion = first; close = first_end } in
    let t : Test = record { word = word; «open» = start; condition = holds; close = end } in
    let third = part_of_reads room inner each b after (omega arith) in
    let second_one = part_of_reads room inner each a (fixed kind.Else otherwise ∷ part b after) (omega arith) in
    let first_one = test_reads kind.If room t (part a (fixed kind.Else otherwise ∷ part b after)) (omega arith) in
    let g = first_one.grows in let g' = second_one.grows in let g'' = third.grows in
    rw (fold-roll-Atom Spelled Spelled Spelled atom_step assertion_step conjunct_step (Atom-F.Choice word start holds end first_start first first_end otherwise second_start second second_end)) (record { reads = rw (first_one.reads, second_one.reads, third.reads) refl; grows = omega arith })
atom_layer room inner each (Atom-F.Up word start inside end) after fits ends =
    let deep : in_atom (roll-Atom (Atom-F.Up word start inside end)) ≡ 1 + in_assertion inside = fold-roll-Atom ℕ ℕ ℕ atom_depth assertion_depth conjunct_depth (Atom-F.Up word start inside end) in
    let c : Clause = record { word = word; «open» = start; assertion = inside; close = end } in
    let one = clause_of_reads kind.Up room inner each c after (omega arith) in let g = one.grows in
    rw (fold-roll-Atom Spelled Spelled Spelled atom_step assertion_step conjunct_step (Atom-F.Up word start inside end)) (record { reads = rw (one.reads) refl; grows = omega arith })
atom_layer room inner each (Atom-F.Down word start inside end) after fits ends =
    let deep : in_atom (roll-Atom (Atom-F.Down word start inside end)) ≡ 1 + in_assertion inside = fold-roll-Atom ℕ ℕ ℕ atom_depth assertion_depth conjunct_depth (Atom-F.Down word start inside end) in
    let c : Clause = record { word = word; «open» = start; assertion = inside; close = end } in
    let one = clause_of_reads kind.Down room inner each c after (omega arith) in let g = one.grows in
    rw (fold-roll-Atom Spelled Spelled Spelled atom_step assertion_step conjunct_step (Atom-F.Down word start inside end)) (record { reads = rw (one.reads) refl; grows = omega arith })
atom_layer room inner each (Atom-F.Init word start location end) after fits ends =
    let deep : in_atom (roll-Atom (Atom-F.Init word start location end)) ≡ 1 + in_expression location = fold-roll-Atom ℕ ℕ ℕ atom_depth assertion_depth conjunct_depth (Atom-F.Init word start location end) in
    let c : Enclosed = record { word = word; «open» = start; expression = location; close = end } in
    let one = enclosed_reads kind.InitAssertion room c after (omega arith) in let g = one.grows in
    rw (fold-roll-Atom Spelled Spelled Spelled atom_step assertion_step conjunct_step (Atom-F.Init word start location end)) (record { reads = rw (one.reads) refl; grows = omega arith })
atom_layer room inner each (Atom-F.Rel word start location comma invariant end) after fits ends =
    let deep : in_atom (roll-Atom (Atom-F.Rel word start location comma invariant end)) ≡ 1 + max (in_expression location) (in_use invariant) = fold-roll-Atom ℕ ℕ ℕ atom_depth assertion_depth conjunct_depth (Atom-F.Rel word start location comma invariant end) in
    let p : Permission = record { word = word; «open» = start; held = record { location = location; comma = comma; invariant = invariant }; close = end } in
    let one = permission_reads kind.RelAssertion room p after (omega arith) in let g = one.grows in
    rw (fold-roll-Atom Spelled Spelled Spelled atom_step assertion_step conjunct_step (Atom-F.Rel word start location comma invariant end)) (record { reads = rw (one.reads) refl; grows = omega arith })
atom_layer room inner each (Atom-F.RmwAcq word start location comma invariant end) after fits ends =
    let deep : in_atom (roll-Atom (Atom-F.RmwAcq word start location comma invariant end)) ≡ 1 + max (in_expression location) (in_use invariant) = fold-roll-Atom ℕ ℕ ℕ atom_depth assertion_depth conjunct_depth (Atom-F.RmwAcq word start location comma invariant end) in
    let p : Permission = record { word = word; «open» = start; held = record { location = location; comma = comma; invariant = invariant }; close = end } in
    let one = permission_reads kind.RmwAcqAssertion room p after (omega arith) in let g = one.grows in
    rw (fold-roll-Atom Spelled Spelled Spelled atom_step assertion_step conjunct_step (Atom-F.RmwAcq word start location comma invariant end)) (record { reads = rw (one.reads) refl; grows = omega arith })
atom_layer room inner each (Atom-F.Acq word start location use_comma invariant part_comma number_place value set_comma set_start excluded set_end end) after fits ends =
    let deep : in_atom (roll-Atom (Atom-F.Acq word start location use_comma invariant part_comma number_place value set_comma set_start excluded set_end end)) ≡ 1 + max (in_expression location) (max (in_use invariant) (1 + in_arguments excluded)) = fold-roll-Atom ℕ ℕ ℕ atom_depth assertion_depth conjunct_depth (Atom-F.Acq word start location use_comma invariant part_comma number_place value set_comma set_start excluded set_end end) in
    let h : Held = record { location = location; comma = use_comma; invariant = invariant } in
    let s : ExcludedSet = record { «open» = set_start; excluded = excluded; close = set_end } in
    let roomy : 0 < room = omega arith in
    let second = excluded_set_reads (room - 1) s (fixed kind.CloseParen end ∷ after) (omega arith) in
    let first = held_reads (room - 1) h (fixed kind.Comma part_comma ∷ numeral number_place value ∷ fixed kind.Comma set_comma ∷
    excluded_set s (fixed kind.CloseParen end ∷ after)) (omega arith) in
    let g = first.grows in let g' = second.grows in
    rw (fold-roll-Atom Spelled Spelled Spelled atom_step assertion_step conjunct_step (Atom-F.Acq word start location use_comma invariant part_comma number_place value set_comma set_start excluded set_end end)) (record { reads = rw (open_reads, first.reads, second.reads) refl; grows = omega arith })
atom_layer room inner each (Atom-F.Bank (bank_words.Tok place) start bank comma amount end) after fits ends =
    let deep : in_atom (roll-Atom (Atom-F.Bank (bank_words.Tok place) start bank comma amount end)) ≡ 1 + in_expression amount = fold-roll-Atom ℕ ℕ ℕ atom_depth assertion_depth conjunct_depth (Atom-F.Bank (bank_words.Tok place) start bank comma amount end) in
    let roomy : 0 < room = omega arith in
    let one = expression_reads (room - 1) amount (fixed kind.CloseParen end ∷ after) (omega arith) (record { no_star = refl; no_sign = refl }) in let g = one.grows in
    rw (fold-roll-Atom Spelled Spelled Spelled atom_step assertion_step conjunct_step (Atom-F.Bank (bank_words.Tok place) start bank comma amount end)) (record { reads = rw (open_reads, one.reads) refl; grows = omega arith })
atom_layer room inner each (Atom-F.Bank (bank_words.Auth place) start bank comma amount end) after fits ends =
    let deep : in_atom (roll-Atom (Atom-F.Bank (bank_words.Auth place) start bank comma amount end)) ≡ 1 + in_expression amount = fold-roll-Atom ℕ ℕ ℕ atom_depth assertion_depth conjunct_depth (Atom-F.Bank (bank_words.Auth place) start bank comma amount end) in
    let roomy : 0 < room = omega arith in
    let one = expression_reads (room - 1) amount (fixed kind.CloseParen end ∷ after) (omega arith) (record { no_star = refl; no_sign = refl }) in let g = one.grows in
    rw (fold-roll-Atom Spelled Spelled Spelled atom_step assertion_step conjunct_step (Atom-F.Bank (bank_words.Auth place) start bank comma amount end)) (record { reads = rw (open_reads, one.reads) refl; grows = omega arith })
atom_layer room inner each (Atom-F.Related left how) after fits ends =
    let deep : in_atom (roll-Atom (Atom-F.Related left how)) ≡ max (in_expression left) (in_relation how) = fold-roll-Atom ℕ ℕ ℕ atom_depth assertion_depth conjunct_depth (Atom-F.Related left how) in
    let second = relation_reads room how after (omega arith) ends in
    let first = expression_reads room left (relation how after) (omega arith) (relation_ends how after) in
    let g = first.grows in let g' = second.grows in
    rw (fold-roll-Atom Spelled Spelled Spelled atom_step assertion_step conjunct_step (Atom-F.Related left how)) (record { reads = rw (not_start kind.Emp refl left (relation how after), not_start kind.If refl left (relation how after), not_start kind.Up refl left (relation how after), not_start kind.Down refl left (relation how after), not_start kind.InitAssertion refl left (relation how after), not_start kind.RelAssertion refl left (relation how after), not_start kind.RmwAcqAssertion refl left (relation how after), not_start kind.AcqAssertion refl left (relation how after), not_start kind.TokAssertion refl left (relation how after), not_start kind.AuthAssertion refl left (relation how after), expression_no_use left (relation how after) (relation_no_use how after), first.reads, second.reads) refl; grows = omega arith })
atom_layer room inner each (Atom-F.Predicate called) after fits ends =
    let deep : in_atom (roll-Atom (Atom-F.Predicate called)) ≡ in_use called = fold-roll-Atom ℕ ℕ ℕ atom_depth assertion_depth conjunct_depth (Atom-F.Predicate called) in
    let one = usage_reads room called after (omega arith) in let g = one.grows in
    rw (fold-roll-Atom Spelled Spelled Spelled atom_step assertion_step conjunct_step (Atom-F.Predicate called)) (record { reads = rw (one.reads) refl; grows = omega arith })

pub atoms_read : (room : ℕ) → AtomsRead room (read_atom room)
unfolding read_acquire_permission read_addend read_arguments read_arm read_assertion_of read_bank_amount read_bank_word read_choice read_clause_of read_compared read_comparison read_comparison_to read_condition read_conjunct read_enclosed read_excluded_set read_expression_of read_group read_held read_initialised read_lowered read_multiplier read_named_or_related read_negative read_next_argument read_optional_arguments read_optional_share read_part_of read_pattern read_permission read_points_to read_raised read_related read_relation read_release_permission read_share read_sign read_term read_test read_update_permission read_usage
atoms_read zero a after =
    subst (λ (u : Atom). in_atom u ≤ 0 → EndsExpression after → Reads (read_atom 0) (atom u) u after) (roll-out-Atom a)
    (atom_layer 0 (λ tokens. Wrong tokens) (λ h. absurd (omega arith)) (out-Atom a) after)
atoms_read (suc room) a after =
    subst (λ (u : Atom). in_atom u ≤ suc room → EndsExpression after → Reads (read_atom (suc room)) (atom u) u after) (roll-out-Atom a)
    (atom_layer (suc room) (read_atom room) (λ h. subst (λ (k : ℕ). AtomsRead k (read_atom room)) (omega arith) (atoms_read room)) (out-Atom a) after)

pub assertion_reads : (room : ℕ) (a : Assertion) (after : Tokens) → in_assertion a ≤ room → EndsAssertion after
    → Reads (read_assertion room) (assertion a) a after
unfolding read_acquire_permission read_addend read_arguments read_arm read_assertion_of read_bank_amount read_bank_word read_choice read_clause_of read_compared read_comparison read_comparison_to read_condition read_conjunct read_enclosed read_excluded_set read_expression_of read_group read_held read_initialised read_lowered read_multiplier read_named_or_related read_negative read_next_argument read_optional_arguments read_optional_share read_part_of read_pattern read_permission read_points_to read_raised read_related read_relation read_release_permission read_share read_sign read_term read_test read_update_permission read_usage
assertion_reads room = assertion_of_reads room (read_atom room) (atoms_read room)

pub clause_reads : (word : TokenKind) (room : ℕ) (c : Clause) (after : Tokens) → in_clause c ≤ room → Reads (read_clause word room) (clause word c) c after
unfolding read_acquire_permission read_addend read_arguments read_arm read_assertion_of read_bank_amount read_bank_word read_choice read_clause_of read_compared read_comparison read_comparison_to read_condition read_conjunct read_enclosed read_excluded_set read_expression_of read_group read_held read_initialised read_lowered read_multiplier read_named_or_related read_negative read_next_argument read_optional_arguments read_optional_share read_part_of read_pattern read_permission read_points_to read_raised read_related read_relation read_release_permission read_share read_sign read_term read_test read_update_permission read_usage
clause_reads word room = clause_of_reads word room (read_atom (room - 1)) (λ h. atoms_read (room - 1))

pub part_reads : (room : ℕ) (p : Part) (after : Tokens) → in_part p ≤ room → Reads (read_part room) (part p) p after
unfolding read_acquire_permission read_addend read_arguments read_arm read_assertion_of read_bank_amount read_bank_word read_choice read_clause_of read_compared read_comparison read_comparison_to read_condition read_conjunct read_enclosed read_excluded_set read_expression_of read_group read_held read_initialised read_lowered read_multiplier read_named_or_related read_negative read_next_argument read_optional_arguments read_optional_share read_part_of read_pattern read_permission read_points_to read_raised read_related read_relation read_release_permission read_share read_sign read_term read_test read_update_permission read_usage
part_reads room = part_of_reads room (read_atom (room - 1)) (λ h. atoms_read (room - 1))
