-- What is read as an assertion has its tokens, and nests no deeper than there was room for.
use Rattle.std.proofs.Common.{ℕ, zero, suc, ◌-◌, ◌||◌, refl, subst, arith}
use Rattle.fsl_token.specs.declared.kind.TokenKind.{TokenKind}
use Rattle.fsl_tree.specs.declared.assertion.Atom.{Atom}
use Rattle.fsl_tree.specs.declared.assertion.Atom.TheOpen.{Atom-F}
use Rattle.fsl_grammar.specs.Heads.{is_next, is_use_next}
use Rattle.fsl_grammar.specs.Readers.{Wrong, Reader}
use Rattle.fsl_tree.specs.SpelledAssertions.{bank_word_token, pattern, optional_share, relation, atom, assertion, conjunct}
use Rattle.fsl_tree.specs.SpelledStatements.{clause}
use Rattle.fsl_tree.specs.Spelling.{part}
use Rattle.fsl_tree.specs.Nesting.{in_pattern, in_share, in_relation, in_atom, in_assertion, in_conjunct, in_clause, in_part}
use Rattle.fsl_grammar.proofs.GroupTokens.{permission, in_permission, arm, in_arm}
use Rattle.fsl_grammar.specs.ReadAssertions.{read_pattern, read_share, read_optional_share, read_points_to, read_comparison_to, read_relation, read_related, read_named_or_related, read_bank_word, read_bank_amount, read_initialised, read_permission, read_release_permission, read_update_permission, read_acquire_permission, read_conjunct, read_assertion_of, read_clause_of, read_part_of, read_choice, read_raised, read_lowered, read_atom_of, read_atom, read_assertion, read_clause, read_part, read_arm}
use Rattle.fsl_token.specs.declared.kind.TokenKind.TheVariants as kind
use Rattle.fsl_grammar.proofs.Layers.{atom_spells, atom_nests, assertion_spells, assertion_nests, conjunct_spells, conjunct_nests}
use Rattle.fsl_grammar.proofs.Sound.{is_read, maybe_read, found, wrong, and_then, when, Sound, SoundIfThere, one, none, take_sound, open_sound, number_sound, many_of_sound, some_share, in_some_share}
use Rattle.fsl_grammar.proofs.SoundExpressions.{expression_sound, comparison_sound, usage_sound}
use Rattle.fsl_grammar.proofs.SoundGroups.{enclosed_sound, test_sound, held_sound, excluded_set_sound}

pub pattern_sound : (room : ℕ) → Sound pattern in_pattern room (read_pattern room)
unfolding read_pattern
pattern_sound room ts =
    when (is_next kind.Underscore ts) (λ h. and_then (take_sound kind.Underscore ts) (λ place l1 e1.
    found _ _ (is_read (cc) (omega arith) (omega arith))))
    (λ h. when (is_next kind.Question ts) (λ h. and_then (take_sound kind.Question ts) (λ mark l1 e1.
    and_then (take_sound kind.Name l1) (λ name l2 e2. found _ _ (is_read (cc) (omega arith) (omega arith)))))
    (λ h. and_then (expression_sound room ts) (λ value l1 e1. found _ _ (is_read (cc) (omega arith) (omega arith)))))

pub share_sound : (room : ℕ) → Sound some_share in_some_share room (read_share room)
unfolding read_share
share_sound room ts =
    and_then (open_sound kind.OpenBracket room ts) (λ start l1 e1. and_then (expression_sound (room - 1) l1) (λ amount l2 e2.
    and_then (take_sound kind.CloseBracket l2) (λ end l3 e3. found _ _ (is_read (cc) (omega arith) (omega arith)))))

pub optional_share_sound : (room : ℕ) → SoundIfThere optional_share in_share room (read_optional_share room)
unfolding read_optional_share
optional_share_sound room ts =
    when (is_next kind.OpenBracket ts) (λ h. and_then (share_sound room ts) (λ share l1 e1. found _ _ (maybe_read (cc) (omega arith) (omega arith))))
    (λ h. found _ _ (maybe_read refl (omega arith) (omega arith)))

pub points_to_sound : (room : ℕ) → Sound relation in_relation room (read_points_to room)
unfolding read_points_to
points_to_sound room ts =
    and_then (take_sound kind.PointsTo ts) (λ arrow l1 e1. and_then (optional_share_sound room l1) (λ share l2 e2.
    and_then (pattern_sound room l2) (λ pattern l3 e3. found _ _ (is_read (cc) (omega arith) (omega arith)))))

pub comparison_to_sound : (room : ℕ) → Sound relation in_relation room (read_comparison_to room)
unfolding read_comparison_to
comparison_to_sound room ts =
    and_then (comparison_sound room ts) (λ comparison l1 e1. and_then (expression_sound room l1) (λ right l2 e2.
    found _ _ (is_read (cc) (omega arith) (omega arith))))

pub relation_sound : (room : ℕ) → Sound relation in_relation room (read_relation room)
unfolding read_relation
relation_sound room ts =
    when (is_next kind.PointsTo ts) (λ h. points_to_sound room ts)
    (λ h. comparison_to_sound room ts)

pub related_sound : (room : ℕ) → Sound atom in_atom room (read_related room)
unfolding read_related
related_sound room ts =
    and_then (expression_sound room ts) (λ left_side l1 e1. and_then (relation_sound room l1) (λ relation l2 e2.
    let spells = atom_spells (Atom-F.Related left_side relation) l2 in let nests = atom_nests (Atom-F.Related left_side relation) in
    found _ _ (is_read (cc) (omega arith) (omega arith))))

pub named_or_related_sound : (room : ℕ) → Sound atom in_atom room (read_named_or_related room)
unfolding read_named_or_related
named_or_related_sound room ts =
    when (is_use_next ts) (λ h. and_then (usage_sound room ts) (λ usage l1 e1. let spells = atom_spells (Atom-F.Predicate usage) l1 in
    let nests = atom_nests (Atom-F.Predicate usage) in found _ _ (is_read (cc) (omega arith) (omega arith))))
    (λ h. related_sound room ts)

pub bank_word_sound : (room : ℕ) → Sound (one bank_word_token) none room read_bank_word
unfolding read_bank_word
bank_word_sound room ts =
    when (is_next kind.TokAssertion ts) (λ h. and_then (take_sound kind.TokAssertion ts) (λ place l1 e1.
    found _ _ (is_read (cc) (omega arith) (omega arith))))
    (λ h. and_then (take_sound kind.AuthAssertion ts) (λ place l1 e1. found _ _ (is_read (cc) (omega arith) (omega arith))))

pub bank_amount_sound : (room : ℕ) → Sound atom in_atom room (read_bank_amount room)
unfolding read_bank_amount
bank_amount_sound room ts =
    and_then (bank_word_sound room ts) (λ word l1 e1. and_then (open_sound kind.OpenParen room l1) (λ start l2 e2.
    and_then (take_sound kind.Name l2) (λ bank l3 e3. and_then (take_sound kind.Comma l3) (λ comma l4 e4.
    and_then (expression_sound (room - 1) l4) (λ amount l5 e5. and_then (take_sound kind.CloseParen l5) (λ end l6 e6.
    let spells = atom_spells (Atom-F.Bank word start bank comma amount end) l6 in
    let nests = atom_nests (Atom-F.Bank word start bank comma amount end) in found _ _ (is_read (cc) (omega arith) (omega arith))))))))

pub initialised_sound : (room : ℕ) → Sound atom in_atom room (read_initialised room)
unfolding read_initialised
initialised_sound room ts =
    and_then (enclosed_sound kind.InitAssertion room ts) (λ e l1 e1. let spells = atom_spells (Atom-F.Init e.word e.open e.expression e.close) l1 in
    let nests = atom_nests (Atom-F.Init e.word e.open e.expression e.close) in found _ _ (is_read (cc) (omega arith) (omega arith)))

pub permission_sound : (word : TokenKind) (room : ℕ) → Sound (permission word) in_permission room (read_permission word room)
unfolding read_permission
permission_sound word room ts =
    and_then (take_sound word ts) (λ place l1 e1. and_then (open_sound kind.OpenParen room l1) (λ start l2 e2.
    and_then (held_sound (room - 1) l2) (λ held l3 e3. and_then (take_sound kind.CloseParen l3) (λ end l4 e4.
    found _ _ (is_read (cc) (omega arith) (omega arith))))))

pub release_permission_sound : (room : ℕ) → Sound atom in_atom room (read_release_permission room)
unfolding read_release_permission
release_permission_sound room ts =
    and_then (permission_sound kind.RelAssertion room ts) (λ p l1 e1.
    let spells = atom_spells (Atom-F.Rel p.word p.open p.held.location p.held.comma p.held.invariant p.close) l1 in
    let nests = atom_nests (Atom-F.Rel p.word p.open p.held.location p.held.comma p.held.invariant p.close) in
    found _ _ (is_read (cc) (omega arith) (omega arith)))

pub update_permission_sound : (room : ℕ) → Sound atom in_atom room (read_update_permission room)
unfolding read_update_permission
update_permission_sound room ts =
    and_then (permission_sound kind.RmwAcqAssertion room ts) (λ p l1 e1.
    let spells = atom_spells (Atom-F.RmwAcq p.word p.open p.held.location p.held.comma p.held.invariant p.close) l1 in
    let nests = atom_nests (Atom-F.RmwAcq p.word p.open p.held.location p.held.comma p.held.invariant p.close) in
    found _ _ (is_read (cc) (omega arith) (omega arith)))

pub acquire_permission_sound : (room : ℕ) → Sound atom in_atom room (read_acquire_permission room)
unfolding read_acquire_permission
acquire_permission_sound room ts =
    and_then (take_sound kind.AcqAssertion ts) (λ word l1 e1. and_then (open_sound kind.OpenParen room l1) (λ start l2 e2.
    and_then (held_sound (room - 1) l2) (λ held l3 e3. and_then (take_sound kind.Comma l3) (λ part_comma l4 e4.
    and_then (number_sound l4) (λ part l5 e5. and_then (take_sound kind.Comma l5) (λ set_comma l6 e6.
    and_then (excluded_set_sound (room - 1) l6) (λ set l7 e7. and_then (take_sound kind.CloseParen l7) (λ end l8 e8.
    let spells = atom_spells (Atom-F.Acq word start held.location held.comma held.invariant part_comma part.place part.value set_comma set.open set.excluded set.close end) l8 in
    let nests = atom_nests (Atom-F.Acq word start held.location held.comma held.invariant part_comma part.place part.value set_comma set.open set.excluded set.close end) in
    found _ _ (is_read (cc) (omega arith) (omega arith))))))))))

pub conjunct_sound : (room : ℕ) (reader : Reader Atom) → Sound atom in_atom room reader → Sound conjunct in_conjunct room (read_conjunct reader)
unfolding read_conjunct
conjunct_sound room reader each ts =
    and_then (take_sound kind.Separate ts) (λ separate l1 e1. and_then (each l1) (λ a l2 e2.
    let spells = conjunct_spells (record { separate = separate; atom = a }) l2 in
    let nests = conjunct_nests (record { separate = separate; atom = a }) in found _ _ (is_read (cc) (omega arith) (omega arith))))

pub assertion_of_sound : (room : ℕ) (reader : Reader Atom) → Sound atom in_atom room reader
    → Sound assertion in_assertion room (read_assertion_of reader)
unfolding read_assertion_of
assertion_of_sound room reader each ts =
    and_then (each ts) (λ first l1 e1. and_then (many_of_sound (is_next kind.Separate) (conjunct_sound room reader each) l1) (λ more l2 e2.
    let spells = assertion_spells (record { first = first; more = more }) l2 in
    let nests = assertion_nests (record { first = first; more = more }) in found _ _ (is_read (cc) (omega arith) (omega arith))))

pub clause_of_sound : (word : TokenKind) (room : ℕ) (inner : Reader Atom) → Sound atom in_atom (room - 1) inner
    → Sound (clause word) in_clause room (read_clause_of word room inner)
unfolding read_clause_of
clause_of_sound word room inner each ts =
    and_then (take_sound word ts) (λ place l1 e1. and_then (open_sound kind.OpenParen room l1) (λ start l2 e2.
    and_then (assertion_of_sound (room - 1) inner each l2) (λ inside l3 e3. and_then (take_sound kind.CloseParen l3) (λ end l4 e4.
    found _ _ (is_read (cc) (omega arith) (omega arith))))))

pub part_of_sound : (room : ℕ) (inner : Reader Atom) → Sound atom in_atom (room - 1) inner → Sound part in_part room (read_part_of room inner)
unfolding read_part_of
part_of_sound room inner each ts =
    and_then (open_sound kind.OpenBrace room ts) (λ start l1 e1. and_then (assertion_of_sound (room - 1) inner each l1) (λ inside l2 e2.
    and_then (take_sound kind.CloseBrace l2) (λ end l3 e3. found _ _ (is_read (cc) (omega arith) (omega arith)))))

pub arm_sound : (room : ℕ) (inner : Reader Atom) → Sound atom in_atom (room - 1) inner → Sound arm in_arm room (read_arm room inner)
unfolding read_arm
arm_sound room inner each ts =
    and_then (part_of_sound room inner each ts) (λ p l1 e1. found _ _ (is_read (cc) (omega arith) (omega arith)))

pub choice_sound : (room : ℕ) (inner : Reader Atom) → Sound atom in_atom (room - 1) inner → Sound atom in_atom room (read_choice room inner)
unfolding read_choice
choice_sound room inner each ts =
    and_then (test_sound kind.If room ts) (λ test l1 e1. and_then (arm_sound room inner each l1) (λ first l2 e2.
    and_then (take_sound kind.Else l2) (λ otherwise l3 e3. and_then (arm_sound room inner each l3) (λ second l4 e4.
    let spells = atom_spells (Atom-F.Choice test.word test.open test.condition test.close first.open first.assertion first.close otherwise second.open second.assertion second.close) l4 in
    let nests = atom_nests (Atom-F.Choice test.word test.open test.condition test.close first.open first.assertion first.close otherwise second.open second.assertion second.close) in
    found _ _ (is_read (cc) (omega arith) (omega arith))))))

pub raised_sound : (room : ℕ) (inner : Reader Atom) → Sound atom in_atom (room - 1) inner → Sound atom in_atom room (read_raised room inner)
unfolding read_raised
raised_sound room inner each ts =
    and_then (clause_of_sound kind.Up room inner each ts) (λ c l1 e1. let spells = atom_spells (Atom-F.Up c.word c.open c.assertion c.close) l1 in
    let nests = atom_nests (Atom-F.Up c.word c.open c.assertion c.close) in found _ _ (is_read (cc) (omega arith) (omega arith)))

pub lowered_sound : (room : ℕ) (inner : Reader Atom) → Sound atom in_atom (room - 1) inner → Sound atom in_atom room (read_lowered room inner)
unfolding read_lowered
lowered_sound room inner each ts =
    and_then (clause_of_sound kind.Down room inner each ts) (λ c l1 e1. let spells = atom_spells (Atom-F.Down c.word c.open c.assertion c.close) l1 in
    let nests = atom_nests (Atom-F.Down c.word c.open c.assertion c.close) in found _ _ (is_read (cc) (omega arith) (omega arith)))

pub atom_of_sound : (room : ℕ) (inner : Reader Atom) → Sound atom in_atom (room - 1) inner → Sound atom in_atom room (read_atom_of room inner)
atom_of_sound room inner each ts =
    when (is_next kind.Emp ts) (λ h. and_then (take_sound kind.Emp ts) (λ word l1 e1. let spells = atom_spells (Atom-F.Empty word) l1 in
    let nests = atom_nests (Atom-F.Empty word) in found _ _ (is_read (cc) (omega arith) (omega arith))))
    (λ h. when (is_next kind.If ts) (λ h. choice_sound room inner each ts)
    (λ h. when (is_next kind.Up ts) (λ h. raised_sound room inner each ts)
    (λ h. when (is_next kind.Down ts) (λ h. lowered_sound room inner each ts)
    (λ h. when (is_next kind.InitAssertion ts) (λ h. initialised_sound room ts)
    (λ h. when (is_next kind.RelAssertion ts) (λ h. release_permission_sound room ts)
    (λ h. when (is_next kind.RmwAcqAssertion ts) (λ h. update_permission_sound room ts)
    (λ h. when (is_next kind.AcqAssertion ts) (λ h. acquire_permission_sound room ts)
    (λ h. when (is_next kind.TokAssertion ts || is_next kind.AuthAssertion ts) (λ h. bank_amount_sound room ts)
    (λ h. named_or_related_sound room ts)))))))))

pub atom_sound : (room : ℕ) → Sound atom in_atom room (read_atom room)
atom_sound zero = atom_of_sound 0 (λ tokens. Wrong tokens) (λ tokens. wrong tokens)
atom_sound (suc room) = atom_of_sound (suc room) (read_atom room)
    (subst (λ (k : ℕ). Sound atom in_atom k (read_atom room)) (omega arith) (atom_sound room))

pub assertion_sound : (room : ℕ) → Sound assertion in_assertion room (read_assertion room)
assertion_sound room = assertion_of_sound room (read_atom room) (atom_sound room)

pub clause_sound : (word : TokenKind) (room : ℕ) → Sound (clause word) in_clause room (read_clause word room)
clause_sound word room = clause_of_sound word room (read_atom (room - 1)) (atom_sound (room - 1))

pub part_sound : (room : ℕ) → Sound part in_part room (read_part room)
part_sound room = part_of_sound room (read_atom (room - 1)) (atom_sound (room - 1))
