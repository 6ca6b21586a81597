-- The same of assertions.
use Rattle.std.proofs.Common.{ℕ, zero, suc, ◌≡◌, Bool, true, false, [], ◌∷◌, ◌++◌, length, refl, sym, subst, arith}
use Rattle.std.proofs.Math.Path.{fun_ext}
use Rattle.fsl_token.specs.declared.kind.TokenKind.{TokenKind}
use Rattle.fsl_tree.specs.declared.assertion.Atom.{Atom}
use Rattle.fsl_tree.specs.declared.assertion.Atom.TheOpen.{Atom-F}
use Rattle.fsl_grammar.specs.Heads.{is_next, is_use_next}
use Rattle.fsl_grammar.specs.Readers.{Found, Wrong, Reader, bind, take, open_at}
use Rattle.fsl_grammar.specs.ReadExpressions.{read_usage}
use Rattle.fsl_grammar.specs.ReadGroups.{read_test}
use Rattle.fsl_grammar.specs.ReadAssertions.{read_pattern, read_share, read_optional_share, read_points_to, read_comparison_to, read_relation, read_related, read_named_or_related, read_bank_word, read_bank_amount, read_initialised, read_permission, read_release_permission, read_update_permission, read_acquire_permission, read_conjunct, read_assertion_of, read_clause_of, read_part_of, read_arm, read_choice, read_raised, read_lowered, read_atom_of, read_atom, read_assertion, read_clause, read_part}
use Rattle.fsl_tree.specs.SpelledExpressions.{Tokens}
use Rattle.fsl_base.specs.declared.span.Span.{Span}
use Rattle.fsl_token.specs.declared.kind.TokenKind.TheVariants as kind
use Rattle.fsl_grammar.proofs.Local.{Rooms, inner, Local, loose, found_local, wrong_local, and_then, when, next_by_head, or_by_head, take_local, number_local, open_local, many_local}
use Rattle.fsl_grammar.proofs.LocalExpressions.{expression_local, comparison_local, usage_local}
use Rattle.fsl_grammar.proofs.LocalGroups.{enclosed_local, test_local, held_local, excluded_set_local}
use Rattle.fsl_grammar.specs.declared.groups.Test.{Test}
use Rattle.fsl_grammar.proofs.Tokens.{is_fixed_token}
use Rattle.fsl_grammar.proofs.Local.{Same, Past, never, none_then, none_after, same_next, end_if, takes_if, same_if, steady_if, next_same, Skips, skips_then, skips_if}
use Rattle.fsl_grammar.proofs.LocalExpressions.{none_opened, shut, same_rest, same_both, name_expression_skips, name_usage_skips}
use Rattle.fsl_tree.specs.SpelledExpressions.{fixed}
use Rattle.fsl_token.specs.declared.kind.Token.{Token}
use Rattle.fsl_tree.specs.declared.assertion.Atom.TheViews.{roll-Atom}
use Rattle.fsl_grammar.specs.Heads.{is_fixed}

pub pattern_local : {P : Type 0} {n m : ℕ} → Rooms P n m → Local P 1 (read_pattern n) (read_pattern m)
unfolding read_pattern
pattern_local rooms =
    when (next_by_head kind.Underscore) (and_then (take_local kind.Underscore) (λ place. found_local _))
    (when (next_by_head kind.Question) (and_then (take_local kind.Question) (λ mark. and_then (take_local kind.Name) (λ name. found_local _)))
    (and_then (expression_local rooms) (λ value. found_local _)))

pub share_local : {P : Type 0} {n m : ℕ} → Rooms P n m → Local P 1 (read_share n) (read_share m)
unfolding read_share
share_local rooms =
    and_then (open_local kind.OpenBracket rooms) (λ start. and_then (expression_local (inner rooms)) (λ amount.
    and_then (take_local kind.CloseBracket) (λ end. found_local _)))

pub optional_share_local : {P : Type 0} {n m : ℕ} → Rooms P n m → Local P 0 (read_optional_share n) (read_optional_share m)
unfolding read_optional_share
optional_share_local rooms =
    when (next_by_head kind.OpenBracket) (loose (and_then (share_local rooms) (λ share. found_local _)))
    (found_local _)

pub points_to_local : {P : Type 0} {n m : ℕ} → Rooms P n m → Local P 1 (read_points_to n) (read_points_to m)
unfolding read_points_to
points_to_local rooms =
    and_then (take_local kind.PointsTo) (λ arrow. and_then (optional_share_local rooms) (λ share.
    and_then (pattern_local rooms) (λ pattern. found_local _)))

pub comparison_to_local : {P : Type 0} {n m : ℕ} → Rooms P n m → Local P 1 (read_comparison_to n) (read_comparison_to m)
unfolding read_comparison_to
comparison_to_local rooms =
    and_then comparison_local (λ comparison. and_then (expression_local rooms) (λ right. found_local _))

pub relation_local : {P : Type 0} {n m : ℕ} → Rooms P n m → Local P 1 (read_relation n) (read_relation m)
unfolding read_relation
relation_local rooms =
    when (next_by_head kind.PointsTo) (points_to_local rooms)
    (comparison_to_local rooms)

pub related_local : {P : Type 0} {n m : ℕ} → Rooms P n m → Local P 1 (read_related n) (read_related m)
unfolding read_related
related_local rooms =
    and_then (expression_local rooms) (λ left_side. and_then (relation_local rooms) (λ relation. found_local _))

-- ---- a use, or an expression: the two tokens that decide are both read

related_skips : (n : ℕ) (place : Span) → Skips (fixed kind.Name place) (read_related n)
unfolding read_related
related_skips n place =
    let rooms : Rooms (Unit {0}) n n = record { more = omega arith; same = λ p. refl } in
    skips_then (name_expression_skips n place) (λ left. and_then (relation_local rooms) (λ relation. found_local _))

abbrev read_named : ℕ → Reader Atom
read_named room tokens = bind (read_usage room tokens) (λ usage left. Found (roll-Atom (Atom-F.Predicate usage)) left)

named_local : {P : Type 0} {n m : ℕ} → Rooms P n m → Local P 1 (read_named n) (read_named m)
named_local rooms = and_then (usage_local rooms) (λ usage. found_local _)

named_skips : (n : ℕ) (place : Span) → Skips (fixed kind.Name place) (read_named n)
named_skips n place = skips_then {P = Unit {0}} (name_usage_skips n place) (λ usage. found_local _)

first_alike : {P : Type 0} {n m : ℕ} → Rooms P n m → (token : Token) (a b : Tokens) (c : Bool) → is_fixed kind.Name token ≡ c
    → Same P token a b (read_named_or_related n (token ∷ a)) (read_named_or_related m (token ∷ b))
unfolding read_named_or_related
first_alike {n = n} rooms token a b true e =
    let is = sym (is_fixed_token kind.Name token e) in
    let named = subst (λ (u : Token). Skips u (read_named n)) is (named_skips n token.span) in
    let related = subst (λ (u : Token). Skips u (read_related n)) is (related_skips n token.span) in
    Past (skips_if (is_use_next (token ∷ a)) (read_named n (token ∷ a)) (read_related n (token ∷ a)) (length a) (named.skips a) (related.skips a))
first_alike rooms token a b false e =
    same_if (is_use_next (token ∷ a)) (is_use_next (token ∷ b)) (rw e refl) ((named_local rooms).alike token a b [])
    ((related_local rooms).alike token a b [])

named_or_related_alike : {P : Type 0} {n m : ℕ} → Rooms P n m → (token : Token) (a b front : Tokens)
    → Same P token a b (read_named_or_related n (front ++ token ∷ a)) (read_named_or_related m (front ++ token ∷ b))
unfolding read_named_or_related
named_or_related_alike rooms token a b [] = first_alike rooms token a b (is_fixed kind.Name token) refl
named_or_related_alike rooms token a b (t ∷ ts) =
    same_if (is_use_next (t ∷ ts ++ token ∷ a)) (is_use_next (t ∷ ts ++ token ∷ b)) (rw (next_same kind.OpenParen token a b ts) refl)
    ((named_local rooms).alike token a b (t ∷ ts)) ((related_local rooms).alike token a b (t ∷ ts))

pub named_or_related_local : {P : Type 0} {n m : ℕ} → Rooms P n m → Local P 1 (read_named_or_related n) (read_named_or_related m)
unfolding read_named_or_related
named_or_related_local {P = P} {n = n} {m = m} rooms =
    let named : Local P 1 (read_named n) (read_named m) = named_local rooms in
    let related : Local P 1 (read_related n) (read_related m) = related_local rooms in
    record {
      ends = λ ts. end_if (is_use_next ts) (read_named n ts) (read_related n ts) ts (named.ends ts) (related.ends ts);
      ends_too = λ ts. end_if (is_use_next ts) (read_named m ts) (read_related m ts) ts (named.ends_too ts) (related.ends_too ts);
      takes = λ ts. takes_if (is_use_next ts) (read_named n ts) (read_related n ts) 1 ts (named.takes ts) (related.takes ts);
      takes_too = λ ts. takes_if (is_use_next ts) (read_named m ts) (read_related m ts) 1 ts (named.takes_too ts) (related.takes_too ts);
      alike = named_or_related_alike rooms;
      steady = λ ts. steady_if (is_use_next ts) (named.steady ts) (related.steady ts);
    }

pub bank_word_local : {P : Type 0} → Local P 1 read_bank_word read_bank_word
unfolding read_bank_word
bank_word_local =
    when (next_by_head kind.TokAssertion) (and_then (take_local kind.TokAssertion) (λ place. found_local _))
    (and_then (take_local kind.AuthAssertion) (λ place. found_local _))

pub bank_amount_local : {P : Type 0} {n m : ℕ} → Rooms P n m → Local P 1 (read_bank_amount n) (read_bank_amount m)
unfolding read_bank_amount
bank_amount_local rooms =
    and_then bank_word_local (λ word. and_then (open_local kind.OpenParen rooms) (λ start. and_then (take_local kind.Name) (λ bank.
    and_then (take_local kind.Comma) (λ comma. and_then (expression_local (inner rooms)) (λ amount.
    and_then (take_local kind.CloseParen) (λ end. found_local _))))))

pub initialised_local : {P : Type 0} {n m : ℕ} → Rooms P n m → Local P 1 (read_initialised n) (read_initialised m)
unfolding read_initialised
initialised_local rooms =
    and_then (enclosed_local kind.InitAssertion rooms) (λ e. found_local _)

pub permission_local : {P : Type 0} {n m : ℕ} (word : TokenKind) → Rooms P n m → Local P 1 (read_permission word n) (read_permission word m)
unfolding read_permission
permission_local word rooms =
    and_then (take_local word) (λ place. and_then (open_local kind.OpenParen rooms) (λ start. and_then (held_local (inner rooms)) (λ held.
    and_then (take_local kind.CloseParen) (λ end. found_local _))))

pub release_permission_local : {P : Type 0} {n m : ℕ} → Rooms P n m → Local P 1 (read_release_permission n) (read_release_permission m)
unfolding read_release_permission
release_permission_local rooms =
    and_then (permission_local kind.RelAssertion rooms) (λ p. found_local _)

pub update_permission_local : {P : Type 0} {n m : ℕ} → Rooms P n m → Local P 1 (read_update_permission n) (read_update_permission m)
unfolding read_update_permission
update_permission_local rooms =
    and_then (permission_local kind.RmwAcqAssertion rooms) (λ p. found_local _)

pub acquire_permission_local : {P : Type 0} {n m : ℕ} → Rooms P n m → Local P 1 (read_acquire_permission n) (read_acquire_permission m)
unfolding read_acquire_permission
acquire_permission_local rooms =
    and_then (take_local kind.AcqAssertion) (λ word. and_then (open_local kind.OpenParen rooms) (λ start. and_then (held_local (inner rooms)) (λ held.
    and_then (take_local kind.Comma) (λ part_comma. and_then number_local (λ part. and_then (take_local kind.Comma) (λ set_comma.
    and_then (excluded_set_local (inner rooms)) (λ set. and_then (take_local kind.CloseParen) (λ end. found_local _))))))))

pub conjunct_local : {P : Type 0} {reader also : Reader Atom} → Local P 1 reader also → Local P 1 (read_conjunct reader) (read_conjunct also)
unfolding read_conjunct
conjunct_local each =
    and_then (take_local kind.Separate) (λ separate. and_then each (λ a. found_local _))

pub assertion_of_local : {P : Type 0} {reader also : Reader Atom} → Local P 1 reader also
    → Local P 1 (read_assertion_of reader) (read_assertion_of also)
unfolding read_assertion_of
assertion_of_local each =
    and_then each (λ first. and_then (many_local (next_by_head kind.Separate) (conjunct_local each)) (λ more. found_local _))

pub clause_of_local : {P : Type 0} {n m : ℕ} {reader also : Reader Atom} (word : TokenKind) → Rooms P n m → Local P 1 reader also
    → Local P 1 (read_clause_of word n reader) (read_clause_of word m also)
unfolding read_clause_of
clause_of_local word rooms each =
    and_then (take_local word) (λ place. and_then (open_local kind.OpenParen rooms) (λ start. and_then (assertion_of_local each) (λ inside.
    and_then (take_local kind.CloseParen) (λ end. found_local _))))

pub part_of_local : {P : Type 0} {n m : ℕ} {reader also : Reader Atom} → Rooms P n m → Local P 1 reader also
    → Local P 1 (read_part_of n reader) (read_part_of m also)
unfolding read_part_of
part_of_local rooms each =
    and_then (open_local kind.OpenBrace rooms) (λ start. and_then (assertion_of_local each) (λ inside.
    and_then (take_local kind.CloseBrace) (λ end. found_local _)))

pub arm_local : {P : Type 0} {n m : ℕ} {reader also : Reader Atom} → Rooms P n m → Local P 1 reader also
    → Local P 1 (read_arm n reader) (read_arm m also)
unfolding read_arm
arm_local rooms each =
    and_then (part_of_local rooms each) (λ p. found_local _)

pub choice_local : {P : Type 0} {n m : ℕ} {reader also : Reader Atom} → Rooms P n m → Local P 1 reader also
    → Local P 1 (read_choice n reader) (read_choice m also)
unfolding read_choice
choice_local rooms each =
    and_then (test_local kind.If rooms) (λ test. and_then (arm_local rooms each) (λ first. and_then (take_local kind.Else) (λ otherwise.
    and_then (arm_local rooms each) (λ second. found_local _))))

pub raised_local : {P : Type 0} {n m : ℕ} {reader also : Reader Atom} → Rooms P n m → Local P 1 reader also
    → Local P 1 (read_raised n reader) (read_raised m also)
unfolding read_raised
raised_local rooms each =
    and_then (clause_of_local kind.Up rooms each) (λ c. found_local _)

pub lowered_local : {P : Type 0} {n m : ℕ} {reader also : Reader Atom} → Rooms P n m → Local P 1 reader also
    → Local P 1 (read_lowered n reader) (read_lowered m also)
unfolding read_lowered
lowered_local rooms each =
    and_then (clause_of_local kind.Down rooms each) (λ c. found_local _)

pub atom_of_local : {P : Type 0} {n m : ℕ} {reader also : Reader Atom} → Rooms P n m → Local P 1 reader also
    → Local P 1 (read_atom_of n reader) (read_atom_of m also)
atom_of_local rooms each =
    when (next_by_head kind.Emp) (and_then (take_local kind.Emp) (λ word. found_local _))
    (when (next_by_head kind.If) (choice_local rooms each)
    (when (next_by_head kind.Up) (raised_local rooms each)
    (when (next_by_head kind.Down) (lowered_local rooms each)
    (when (next_by_head kind.InitAssertion) (initialised_local rooms)
    (when (next_by_head kind.RelAssertion) (release_permission_local rooms)
    (when (next_by_head kind.RmwAcqAssertion) (update_permission_local rooms)
    (when (next_by_head kind.AcqAssertion) (acquire_permission_local rooms)
    (when (or_by_head (next_by_head kind.TokAssertion) (next_by_head kind.AuthAssertion)) (bank_amount_local rooms)
    (named_or_related_local rooms)))))))))

-- ---- with no room nothing is read inside

none_tested : (word : TokenKind) (ts : Tokens) (x : Test) (left : Tokens) → read_test word 0 ts ≡ Found x left → ⊥
unfolding read_test
none_tested word ts = none_after (take word ts) _ (λ place us. none_then (open_at kind.OpenParen 0 us) _ (none_opened kind.OpenParen us))

pub test_shut : {A : Type 0} (word : TokenKind) (ts : Tokens) (f g : Test → Reader A) → bind (read_test word 0 ts) f ≡ bind (read_test word 0 ts) g
unfolding read_test
test_shut word ts f g = never (read_test word 0 ts) f g (none_tested word ts)

clause_shut : (word : TokenKind) (i j : Reader Atom) (ts : Tokens) → read_clause_of word 0 i ts ≡ read_clause_of word 0 j ts
unfolding read_clause_of
clause_shut word i j ts = same_next (take word ts) _ _ (λ place us. shut kind.OpenParen us _ _)

no_atom_inside : (i j : Reader Atom) (ts : Tokens) → read_atom_of 0 i ts ≡ read_atom_of 0 j ts
unfolding read_choice read_raised read_lowered read_clause_of read_test
no_atom_inside i j ts = same_rest (is_next kind.Emp ts) _ _ _ (same_both (is_next kind.If ts) _ _ _ _ (test_shut kind.If ts _ _)
    (same_both (is_next kind.Up ts) _ _ _ _ (rw (clause_shut kind.Up i j ts) refl) (same_both (is_next kind.Down ts) _ _ _ _ (rw
    (clause_shut kind.Down i j ts) refl) refl)))

-- ---- atoms and assertions

pub atom_local : {P : Type 0} {n m : ℕ} → Rooms P n m → Local P 1 (read_atom n) (read_atom m)
atom_local {n = zero} {m = zero} rooms = atom_of_local rooms wrong_local
atom_local {P = P} {n = zero} {m = suc m} rooms =
    subst (λ (r : Reader Atom). Local P 1 r (read_atom (suc m))) (fun_ext (λ ts. no_atom_inside (read_atom m) (λ tokens. Wrong tokens) ts))
    (atom_of_local rooms (atom_local {P = P} {n = m} {m = m} (record { more = omega arith; same = λ p. refl })))
atom_local {n = suc n} {m = zero} rooms = let h = rooms.more in absurd (omega arith)
atom_local {P = P} {n = suc n} {m = suc m} rooms = atom_of_local rooms (atom_local {P = P} {n = n} {m = m}
    (let h = rooms.more in record { more = omega arith; same = λ p. let e = rooms.same p in omega arith }))

pub assertion_local : {P : Type 0} {n m : ℕ} → Rooms P n m → Local P 1 (read_assertion n) (read_assertion m)
assertion_local rooms = assertion_of_local (atom_local rooms)

pub clause_local : {P : Type 0} {n m : ℕ} (word : TokenKind) → Rooms P n m → Local P 1 (read_clause word n) (read_clause word m)
clause_local word rooms = clause_of_local word rooms (atom_local (inner rooms))

pub part_local : {P : Type 0} {n m : ℕ} → Rooms P n m → Local P 1 (read_part n) (read_part m)
part_local rooms = part_of_local rooms (atom_local (inner rooms))
