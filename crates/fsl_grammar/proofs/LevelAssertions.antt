-- The same of assertions.
use Rattle.std.proofs.Common.{ℕ, zero, suc, ◌-◌, ◌||◌, List, refl, subst, arith}
use Rattle.fsl_token.specs.declared.kind.TokenKind.{TokenKind}
use Rattle.fsl_tree.specs.declared.assertion.Atom.{Atom}
use Rattle.fsl_grammar.specs.Heads.{is_next, is_use_next}
use Rattle.fsl_grammar.specs.Readers.{Wrong, Reader}
use Rattle.fsl_grammar.specs.ReadAssertions.{read_pattern, read_share, read_optional_share, read_points_to, read_comparison_to, read_relation, read_related, read_named_or_related, read_bank_word, read_bank_amount, read_initialised, read_permission, read_release_permission, read_update_permission, read_acquire_permission, read_conjunct, read_assertion_of, read_clause_of, read_part_of, read_arm, read_choice, read_raised, read_lowered, read_atom_of, read_atom, read_assertion, read_clause, read_part}
use Rattle.fsl_grammar.specs.Levels.{Opened}
use Rattle.fsl_token.specs.declared.kind.TokenKind.TheVariants as kind
use Rattle.fsl_grammar.proofs.Level.{LevelOf, Fits, inside, IsPlain, Any, NotEnded, done, off, and_then, when, take_plain, take_name, number_level, close_paren, close_brace, close_bracket, open_level, many_of_level}
use Rattle.fsl_grammar.proofs.LevelExpressions.{expression_level, comparison_level, usage_level}
use Rattle.fsl_grammar.proofs.LevelGroups.{enclosed_level, test_level, held_level, excluded_set_level}

pub pattern_level : {n room : ℕ} {F : List Opened} → Fits n room F → LevelOf n F NotEnded Any (read_pattern room)
unfolding read_pattern
pattern_level fits flag ts q =
    when (is_next kind.Underscore ts) (and_then (take_plain kind.Underscore (λ F b. refl) fits flag ts) (λ place l1 f1 q1. done f1 tt))
    (when (is_next kind.Question ts) (and_then (take_plain kind.Question (λ F b. refl) fits flag ts) (λ mark l1 f1 q1.
    and_then (take_name fits f1 l1) (λ name l2 f2 q2. done f2 tt)))
    (and_then (expression_level fits flag ts q) (λ value l1 f1 q1. done f1 tt)))

pub share_level : {n room : ℕ} {F : List Opened} → Fits n room F → LevelOf n F Any NotEnded (read_share room)
unfolding read_share
share_level fits flag ts q =
    and_then (open_level kind.OpenBracket (λ b. refl) fits.fits flag ts) (λ start l1 f1 q1.
    and_then (expression_level (inside fits q1.roomy) f1 l1 q1.closed) (λ amount l2 f2 q2. and_then (close_bracket fits f2 l2) (λ end l3 f3 q3.
    done f3 q3)))

pub optional_share_level : {n room : ℕ} {F : List Opened} → Fits n room F → LevelOf n F NotEnded NotEnded (read_optional_share room)
unfolding read_optional_share
optional_share_level fits flag ts q =
    when (is_next kind.OpenBracket ts) (and_then (share_level fits flag ts tt) (λ share l1 f1 q1. done f1 q1))
    (done flag q)

pub points_to_level : {n room : ℕ} {F : List Opened} → Fits n room F → LevelOf n F Any Any (read_points_to room)
unfolding read_points_to
points_to_level fits flag ts q =
    and_then (take_plain kind.PointsTo (λ F b. refl) fits flag ts) (λ arrow l1 f1 q1. and_then (optional_share_level fits f1 l1 q1) (λ share l2 f2 q2.
    and_then (pattern_level fits f2 l2 q2) (λ pattern l3 f3 q3. done f3 tt)))

pub comparison_to_level : {n room : ℕ} {F : List Opened} → Fits n room F → LevelOf n F Any Any (read_comparison_to room)
unfolding read_comparison_to
comparison_to_level fits flag ts q =
    and_then (comparison_level fits flag ts tt) (λ comparison l1 f1 q1. and_then (expression_level fits f1 l1 q1) (λ right l2 f2 q2. done f2 tt))

pub relation_level : {n room : ℕ} {F : List Opened} → Fits n room F → LevelOf n F Any Any (read_relation room)
unfolding read_relation
relation_level fits flag ts q =
    when (is_next kind.PointsTo ts) (points_to_level fits flag ts tt)
    (comparison_to_level fits flag ts tt)

pub related_level : {n room : ℕ} {F : List Opened} → Fits n room F → LevelOf n F NotEnded Any (read_related room)
unfolding read_related
related_level fits flag ts q =
    and_then (expression_level fits flag ts q) (λ left_side l1 f1 q1. and_then (relation_level fits f1 l1 tt) (λ relation l2 f2 q2. done f2 tt))

pub named_or_related_level : {n room : ℕ} {F : List Opened} → Fits n room F → LevelOf n F NotEnded Any (read_named_or_related room)
unfolding read_named_or_related
named_or_related_level fits flag ts q =
    when (is_use_next ts) (and_then (usage_level fits flag ts tt) (λ usage l1 f1 q1. done f1 tt))
    (related_level fits flag ts q)

pub bank_word_level : {n room : ℕ} {F : List Opened} → Fits n room F → LevelOf n F Any Any read_bank_word
unfolding read_bank_word
bank_word_level fits flag ts q =
    when (is_next kind.TokAssertion ts) (and_then (take_plain kind.TokAssertion (λ F b. refl) fits flag ts) (λ place l1 f1 q1. done f1 tt))
    (and_then (take_plain kind.AuthAssertion (λ F b. refl) fits flag ts) (λ place l1 f1 q1. done f1 tt))

pub bank_amount_level : {n room : ℕ} {F : List Opened} → Fits n room F → LevelOf n F Any Any (read_bank_amount room)
unfolding read_bank_amount
bank_amount_level fits flag ts q =
    and_then (bank_word_level fits flag ts tt) (λ word l1 f1 q1. and_then (open_level kind.OpenParen (λ b. refl) fits.fits f1 l1) (λ start l2 f2 q2.
    and_then (take_name (inside fits q2.roomy) f2 l2) (λ bank l3 f3 q3.
    and_then (take_plain kind.Comma (λ F b. refl) (inside fits q2.roomy) f3 l3) (λ comma l4 f4 q4.
    and_then (expression_level (inside fits q2.roomy) f4 l4 q4) (λ amount l5 f5 q5. and_then (close_paren fits f5 l5) (λ end l6 f6 q6.
    done f6 tt))))))

pub initialised_level : {n room : ℕ} {F : List Opened} → Fits n room F → LevelOf n F Any Any (read_initialised room)
unfolding read_initialised
initialised_level fits flag ts q =
    and_then (enclosed_level kind.InitAssertion (λ F b. refl) fits flag ts tt) (λ e l1 f1 q1. done f1 tt)

pub permission_level : {n room : ℕ} {F : List Opened} (word : TokenKind) → IsPlain word → Fits n room F
    → LevelOf n F Any Any (read_permission word room)
unfolding read_permission
permission_level word plain fits flag ts q =
    and_then (take_plain word plain fits flag ts) (λ place l1 f1 q1.
    and_then (open_level kind.OpenParen (λ b. refl) fits.fits f1 l1) (λ start l2 f2 q2.
    and_then (held_level (inside fits q2.roomy) f2 l2 q2.closed) (λ held l3 f3 q3. and_then (close_paren fits f3 l3) (λ end l4 f4 q4.
    done f4 tt))))

pub release_permission_level : {n room : ℕ} {F : List Opened} → Fits n room F → LevelOf n F Any Any (read_release_permission room)
unfolding read_release_permission
release_permission_level fits flag ts q =
    and_then (permission_level kind.RelAssertion (λ F b. refl) fits flag ts tt) (λ p l1 f1 q1. done f1 tt)

pub update_permission_level : {n room : ℕ} {F : List Opened} → Fits n room F → LevelOf n F Any Any (read_update_permission room)
unfolding read_update_permission
update_permission_level fits flag ts q =
    and_then (permission_level kind.RmwAcqAssertion (λ F b. refl) fits flag ts tt) (λ p l1 f1 q1. done f1 tt)

pub acquire_permission_level : {n room : ℕ} {F : List Opened} → Fits n room F → LevelOf n F Any Any (read_acquire_permission room)
unfolding read_acquire_permission
acquire_permission_level fits flag ts q =
    and_then (take_plain kind.AcqAssertion (λ F b. refl) fits flag ts) (λ word l1 f1 q1.
    and_then (open_level kind.OpenParen (λ b. refl) fits.fits f1 l1) (λ start l2 f2 q2.
    and_then (held_level (inside fits q2.roomy) f2 l2 q2.closed) (λ held l3 f3 q3.
    and_then (take_plain kind.Comma (λ F b. refl) (inside fits q2.roomy) f3 l3) (λ part_comma l4 f4 q4.
    and_then (number_level (inside fits q2.roomy) f4 l4) (λ part l5 f5 q5.
    and_then (take_plain kind.Comma (λ F b. refl) (inside fits q2.roomy) f5 l5) (λ set_comma l6 f6 q6.
    and_then (excluded_set_level (inside fits q2.roomy) f6 l6 tt) (λ set l7 f7 q7. and_then (close_paren fits f7 l7) (λ end l8 f8 q8.
    done f8 tt))))))))

abbrev pub AtomLevel : ℕ → ℕ → Reader Atom → Type 0
AtomLevel n room reader = (F : List Opened) → Fits n room F → LevelOf n F NotEnded Any reader

pub conjunct_level : {n room : ℕ} {F : List Opened} {reader : Reader Atom} → AtomLevel n room reader → Fits n room F
    → LevelOf n F Any Any (read_conjunct reader)
unfolding read_conjunct
conjunct_level each fits flag ts q =
    and_then (take_plain kind.Separate (λ F b. refl) fits flag ts) (λ separate l1 f1 q1. and_then (each _ fits f1 l1 q1) (λ a l2 f2 q2. done f2 tt))

pub assertion_of_level : {n room : ℕ} {F : List Opened} {reader : Reader Atom} → AtomLevel n room reader → Fits n room F
    → LevelOf n F NotEnded Any (read_assertion_of reader)
unfolding read_assertion_of
assertion_of_level each fits flag ts q =
    and_then (each _ fits flag ts q) (λ first l1 f1 q1.
    and_then (many_of_level {Q = Any} (is_next kind.Separate) (conjunct_level each fits) f1 l1 tt) (λ more l2 f2 q2. done f2 tt))

pub clause_of_level : {n room : ℕ} {F : List Opened} {inner : Reader Atom} (word : TokenKind) → IsPlain word → AtomLevel n (room - 1) inner
    → Fits n room F → LevelOf n F Any Any (read_clause_of word room inner)
unfolding read_clause_of
clause_of_level word plain each fits flag ts q =
    and_then (take_plain word plain fits flag ts) (λ place l1 f1 q1.
    and_then (open_level kind.OpenParen (λ b. refl) fits.fits f1 l1) (λ start l2 f2 q2.
    and_then (assertion_of_level each (inside fits q2.roomy) f2 l2 q2.closed) (λ inside l3 f3 q3.
    and_then (close_paren fits f3 l3) (λ end l4 f4 q4. done f4 tt))))

pub part_of_level : {n room : ℕ} {F : List Opened} {inner : Reader Atom} → AtomLevel n (room - 1) inner → Fits n room F
    → LevelOf n F Any Any (read_part_of room inner)
unfolding read_part_of
part_of_level each fits flag ts q =
    and_then (open_level kind.OpenBrace (λ b. refl) fits.fits flag ts) (λ start l1 f1 q1.
    and_then (assertion_of_level each (inside fits q1.roomy) f1 l1 q1.closed) (λ inside l2 f2 q2.
    and_then (close_brace fits f2 l2) (λ end l3 f3 q3. done f3 tt)))

pub arm_level : {n room : ℕ} {F : List Opened} {inner : Reader Atom} → AtomLevel n (room - 1) inner → Fits n room F
    → LevelOf n F Any Any (read_arm room inner)
unfolding read_arm
arm_level each fits flag ts q =
    and_then (part_of_level each fits flag ts tt) (λ p l1 f1 q1. done f1 tt)

pub choice_level : {n room : ℕ} {F : List Opened} {inner : Reader Atom} → AtomLevel n (room - 1) inner → Fits n room F
    → LevelOf n F Any Any (read_choice room inner)
unfolding read_choice
choice_level each fits flag ts q =
    and_then (test_level kind.If (λ F b. refl) fits flag ts tt) (λ test l1 f1 q1. and_then (arm_level each fits f1 l1 tt) (λ first l2 f2 q2.
    and_then (take_plain kind.Else (λ F b. refl) fits f2 l2) (λ otherwise l3 f3 q3. and_then (arm_level each fits f3 l3 tt) (λ second l4 f4 q4.
    done f4 tt))))

pub raised_level : {n room : ℕ} {F : List Opened} {inner : Reader Atom} → AtomLevel n (room - 1) inner → Fits n room F
    → LevelOf n F Any Any (read_raised room inner)
unfolding read_raised
raised_level each fits flag ts q =
    and_then (clause_of_level kind.Up (λ F b. refl) each fits flag ts tt) (λ c l1 f1 q1. done f1 tt)

pub lowered_level : {n room : ℕ} {F : List Opened} {inner : Reader Atom} → AtomLevel n (room - 1) inner → Fits n room F
    → LevelOf n F Any Any (read_lowered room inner)
unfolding read_lowered
lowered_level each fits flag ts q =
    and_then (clause_of_level kind.Down (λ F b. refl) each fits flag ts tt) (λ c l1 f1 q1. done f1 tt)

pub atom_of_level : {n room : ℕ} {F : List Opened} {inner : Reader Atom} → AtomLevel n (room - 1) inner → Fits n room F
    → LevelOf n F NotEnded Any (read_atom_of room inner)
atom_of_level each fits flag ts q =
    when (is_next kind.Emp ts) (and_then (take_plain kind.Emp (λ F b. refl) fits flag ts) (λ word l1 f1 q1. done f1 tt))
    (when (is_next kind.If ts) (choice_level each fits flag ts tt)
    (when (is_next kind.Up ts) (raised_level each fits flag ts tt)
    (when (is_next kind.Down ts) (lowered_level each fits flag ts tt)
    (when (is_next kind.InitAssertion ts) (initialised_level fits flag ts tt)
    (when (is_next kind.RelAssertion ts) (release_permission_level fits flag ts tt)
    (when (is_next kind.RmwAcqAssertion ts) (update_permission_level fits flag ts tt)
    (when (is_next kind.AcqAssertion ts) (acquire_permission_level fits flag ts tt)
    (when (is_next kind.TokAssertion ts || is_next kind.AuthAssertion ts) (bank_amount_level fits flag ts tt)
    (named_or_related_level fits flag ts q)))))))))

pub atom_level : (n room : ℕ) → AtomLevel n room (read_atom room)
atom_level n zero F fits = atom_of_level {inner = λ tokens. Wrong tokens} (λ G h flag ts q. off) fits
atom_level n (suc room) F fits = atom_of_level {inner = read_atom room}
    (subst (λ (k : ℕ). AtomLevel n k (read_atom room)) (omega arith) (atom_level n room)) fits

pub assertion_level : {n room : ℕ} {F : List Opened} → Fits n room F → LevelOf n F NotEnded Any (read_assertion room)
assertion_level {n = n} {room = room} fits = assertion_of_level (atom_level n room) fits

pub clause_level : {n room : ℕ} {F : List Opened} (word : TokenKind) → IsPlain word → Fits n room F → LevelOf n F Any Any (read_clause word room)
clause_level {n = n} {room = room} word plain fits = clause_of_level word plain (atom_level n (room - 1)) fits

pub part_level : {n room : ℕ} {F : List Opened} → Fits n room F → LevelOf n F Any Any (read_part room)
part_level {n = n} {room = room} fits = part_of_level (atom_level n (room - 1)) fits
