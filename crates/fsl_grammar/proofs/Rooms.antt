-- With room for no level more nothing is read inside, so how that would be read makes no difference.
use Rattle.std.proofs.Common.{ℕ, zero, suc, ◌-◌, ◌≡◌, ◌∙◌, ◌||◌, Bool, true, false, if◌then◌else◌, refl, sym, ap, arith, Result}
use Rattle.fsl_token.specs.declared.kind.TokenKind.{TokenKind}
use Rattle.fsl_token.specs.declared.kind.TokenKind.TheVariants as kind
use Rattle.fsl_tree.specs.SpelledExpressions.{Tokens}
use Rattle.fsl_tree.specs.declared.assertion.Atom.{Atom}
use Rattle.fsl_tree.specs.declared.statement.Statement.{Statement}
use Rattle.std.proofs.Common.{Option}
use Rattle.fsl_tree.specs.declared.declaration.Clause.{Clause}
use Rattle.fsl_tree.specs.declared.declaration.Declaration.{Declaration}
use Rattle.fsl_tree.specs.declared.statement.Block.{Block}
use Rattle.fsl_grammar.specs.declared.groups.Contracted.{Contracted}
use Rattle.fsl_grammar.specs.declared.groups.Ensured.{Ensured}
use Rattle.fsl_grammar.specs.declared.fault.Fault.{Fault}
use Rattle.fsl_base.specs.declared.span.Span.{Span}
use Rattle.fsl_grammar.specs.Heads.{is_next}
use Rattle.fsl_grammar.specs.Readers.{Outcome, Found, Wrong, Deep, Reader, ReadsAs, bind, take, open_at}
use Rattle.fsl_grammar.specs.ReadGroups.{read_test, read_enclosed, read_excluded_set, read_held, read_pair, read_triple}
use Rattle.fsl_grammar.specs.ReadAssertions.{read_choice, read_raised, read_lowered, read_clause_of, read_named_or_related, read_atom_of, read_atom, read_acquire_permission, read_arm, read_assertion_of, read_bank_amount, read_bank_word, read_comparison_to, read_conjunct, read_initialised, read_optional_share, read_part_of, read_pattern, read_permission, read_points_to, read_related, read_relation, read_release_permission, read_share, read_update_permission}
use Rattle.fsl_grammar.specs.ReadDeclarations.{Contract, read_header, read_procedure, read_contracted_procedure, read_declaration, read_bank_parameter, read_contract, read_contracted, read_ensured, read_invariant, read_next_parameter, read_optional_parameters, read_parameter, read_parameters, read_plain_parameter, read_predicate}
use Rattle.fsl_grammar.specs.ReadStatements.{read_if, read_while, read_guarded_while, read_optional_clause, read_block, read_simple_statement, read_statement_of, read_statement, read_allocate, read_allocation, read_assert, read_assign, read_bank, read_block_of, read_call, read_called, read_compare_and_swap, read_fence, read_fence_kind, read_free, read_guarded, read_let, read_load, read_mode, read_optional_expression, read_optional_otherwise, read_optional_with, read_otherwise, read_parallel, read_parallel_call, read_print, read_release, read_release_word, read_return, read_right_side, read_shared, read_shared_cell, read_step, read_step_line, read_step_statement, read_step_word, read_store, read_update, read_update_word, read_with}
use Rattle.fsl_grammar.specs.ReadExpressions.{read_addend, read_arguments, read_compared, read_comparison, read_condition, read_expression_of, read_group, read_multiplier, read_negative, read_next_argument, read_optional_arguments, read_sign, read_term, read_usage}

shut_by : {A : Type 0} (c : Bool) (tokens : Tokens) (f g : Span → Reader A)
    → bind (if c then Deep tokens else Wrong tokens) f ≡ bind (if c then Deep tokens else Wrong tokens) g
shut_by true tokens f g = refl
shut_by false tokens f g = refl

-- a token that nests isn't taken
shut : {A : Type 0} (kind : TokenKind) (tokens : Tokens) (f g : Span → Reader A) → bind (open_at kind 0 tokens) f ≡ bind (open_at kind 0 tokens) g
shut kind tokens f g = shut_by (is_next kind tokens) tokens f g

same_after : {A B : Type 0} (o : Outcome A) (f g : A → Reader B) → ((a : A) (left : Tokens) → f a left ≡ g a left) → bind o f ≡ bind o g
same_after (Found a left) f g h = h a left
same_after (Wrong left) f g h = refl
same_after (Deep left) f g h = refl

-- two parts in one
last_part : {B C D : Type 0} (o : Outcome B) (both : B → C) (next : C → Reader D)
    → bind o (λ b left. next (both b) left) ≡ bind (bind o (λ b left. Found (both b) left)) next
last_part (Found b left) both next = refl
last_part (Wrong left) both next = refl
last_part (Deep left) both next = refl

two_parts : {A B C D : Type 0} (o : Outcome A) (second : A → Reader B) (both : A → B → C) (next : C → Reader D)
    → bind o (λ a left. bind (second a left) (λ b left. next (both a b) left))
    ≡ bind (bind o (λ a left. bind (second a left) (λ b left. Found (both a b) left))) next
two_parts (Found a left) second both next = last_part (second a left) (both a) next
two_parts (Wrong left) second both next = refl
two_parts (Deep left) second both next = refl

-- what comes behind a part that isn't found
unfound_by : {B C : Type 0} (c : Bool) (tokens : Tokens) (inside : Span → Reader B) (f g : B → Reader C)
    → bind (bind (if c then Deep tokens else Wrong tokens) inside) f ≡ bind (bind (if c then Deep tokens else Wrong tokens) inside) g
unfound_by true tokens inside f g = refl
unfound_by false tokens inside f g = refl

behind : {B C : Type 0} (o : Outcome Span) (inside : Span → Span → Reader B) (f g : B → Reader C)
    → bind (bind o (λ place left. bind (open_at kind.OpenParen 0 left) (inside place))) f
    ≡ bind (bind o (λ place left. bind (open_at kind.OpenParen 0 left) (inside place))) g
behind (Found place left) inside f g = unfound_by (is_next kind.OpenParen left) left (inside place) f g
behind (Wrong left) inside f g = refl
behind (Deep left) inside f g = refl

-- ---- atoms

choice_shut : (i j : Reader Atom) (tokens : Tokens) → read_choice 0 i tokens ≡ read_choice 0 j tokens
unfolding read_addend read_arm read_assertion_of read_choice read_compared read_comparison read_condition read_conjunct read_expression_of read_group read_multiplier read_negative read_part_of read_sign read_term read_test
choice_shut i j tokens = behind (take kind.If tokens) _ _ _

clause_shut : (word : TokenKind) (i j : Reader Atom) (tokens : Tokens) → read_clause_of word 0 i tokens ≡ read_clause_of word 0 j tokens
unfolding read_assertion_of read_clause_of read_conjunct
clause_shut word i j tokens = same_after (take word tokens) _ _ (λ place left. shut kind.OpenParen left _ _)

raised_shut : (i j : Reader Atom) (tokens : Tokens) → read_raised 0 i tokens ≡ read_raised 0 j tokens
unfolding read_assertion_of read_clause_of read_conjunct read_raised
raised_shut i j tokens = rw (clause_shut kind.Up i j tokens) refl

lowered_shut : (i j : Reader Atom) (tokens : Tokens) → read_lowered 0 i tokens ≡ read_lowered 0 j tokens
unfolding read_assertion_of read_clause_of read_conjunct read_lowered
lowered_shut i j tokens = rw (clause_shut kind.Down i j tokens) refl

atom_shut : (i j : Reader Atom) (tokens : Tokens) → read_atom_of 0 i tokens ≡ read_atom_of 0 j tokens
unfolding read_acquire_permission read_addend read_arguments read_arm read_assertion_of read_bank_amount read_bank_word read_choice read_clause_of read_compared read_comparison read_comparison_to read_condition read_conjunct read_enclosed read_excluded_set read_expression_of read_group read_held read_initialised read_lowered read_multiplier read_named_or_related read_negative read_next_argument read_optional_arguments read_optional_share read_part_of read_pattern read_permission read_points_to read_raised read_related read_relation read_release_permission read_share read_sign read_term read_test read_update_permission read_usage
atom_shut i j tokens = rw (choice_shut i j tokens, raised_shut i j tokens, lowered_shut i j tokens) refl

pub atom_is : (room : ℕ) (tokens : Tokens) → read_atom room tokens ≡ read_atom_of room (read_atom (room - 1)) tokens
unfolding read_acquire_permission read_addend read_arguments read_arm read_assertion_of read_bank_amount read_bank_word read_choice read_clause_of read_compared read_comparison read_comparison_to read_condition read_conjunct read_enclosed read_excluded_set read_expression_of read_group read_held read_initialised read_lowered read_multiplier read_named_or_related read_negative read_next_argument read_optional_arguments read_optional_share read_part_of read_pattern read_permission read_points_to read_raised read_related read_relation read_release_permission read_share read_sign read_term read_test read_update_permission read_usage
atom_is zero tokens = atom_shut (λ tokens. Wrong tokens) (read_atom 0) tokens
atom_is (suc room) tokens = let gone : suc room - 1 ≡ room = omega arith in ap (λ (k : ℕ). read_atom_of (suc room) (read_atom k) tokens) (sym gone)

-- ---- statements

if_shut : (i j : Reader Statement) (tokens : Tokens) → read_if 0 i tokens ≡ read_if 0 j tokens
unfolding read_addend read_block_of read_compared read_comparison read_condition read_expression_of read_group read_if read_multiplier read_negative read_optional_otherwise read_otherwise read_sign read_term read_test
if_shut i j tokens = behind (take kind.If tokens) _ _ _

while_shut : (i j : Reader Statement) (tokens : Tokens) → read_while 0 i tokens ≡ read_while 0 j tokens
unfolding read_acquire_permission read_addend read_arguments read_arm read_assertion_of read_bank_amount read_bank_word read_block_of read_choice read_clause_of read_compared read_comparison read_comparison_to read_condition read_conjunct read_enclosed read_excluded_set read_expression_of read_group read_held read_initialised read_lowered read_multiplier read_named_or_related read_negative read_next_argument read_optional_arguments read_optional_clause read_optional_share read_part_of read_pattern read_permission read_points_to read_raised read_related read_relation read_release_permission read_share read_sign read_term read_test read_update_permission read_usage read_while
while_shut i j tokens = behind (take kind.While tokens) _ _ _

statement_shut : (i j : Reader Statement) (tokens : Tokens) → read_statement_of 0 i tokens ≡ read_statement_of 0 j tokens
unfolding read_acquire_permission read_addend read_allocate read_allocation read_arguments read_arm read_assert read_assertion_of read_assign read_bank read_bank_amount read_bank_word read_block_of read_call read_called read_choice read_clause_of read_compare_and_swap read_compared read_comparison read_comparison_to read_condition read_conjunct read_enclosed read_excluded_set read_expression_of read_fence read_fence_kind read_free read_group read_held read_if read_initialised read_let read_load read_lowered read_mode read_multiplier read_named_or_related read_negative read_next_argument read_optional_arguments read_optional_clause read_optional_expression read_optional_otherwise read_optional_share read_optional_with read_otherwise read_pair read_parallel read_parallel_call read_part_of read_pattern read_permission read_points_to read_print read_raised read_related read_relation read_release read_release_permission read_release_word read_return read_right_side read_share read_shared read_shared_cell read_sign read_simple_statement read_step read_step_line read_step_statement read_step_word read_store read_term read_test read_triple read_update read_update_permission read_update_word read_usage read_while read_with
statement_shut i j tokens = rw (if_shut i j tokens, while_shut i j tokens) refl

pub statement_is : (room : ℕ) (tokens : Tokens) → read_statement room tokens ≡ read_statement_of room (read_statement (room - 1)) tokens
unfolding read_acquire_permission read_addend read_allocate read_allocation read_arguments read_arm read_assert read_assertion_of read_assign read_bank read_bank_amount read_bank_word read_block_of read_call read_called read_choice read_clause_of read_compare_and_swap read_compared read_comparison read_comparison_to read_condition read_conjunct read_enclosed read_excluded_set read_expression_of read_fence read_fence_kind read_free read_group read_held read_if read_initialised read_let read_load read_lowered read_mode read_multiplier read_named_or_related read_negative read_next_argument read_optional_arguments read_optional_clause read_optional_expression read_optional_otherwise read_optional_share read_optional_with read_otherwise read_pair read_parallel read_parallel_call read_part_of read_pattern read_permission read_points_to read_print read_raised read_related read_relation read_release read_release_permission read_release_word read_return read_right_side read_share read_shared read_shared_cell read_sign read_simple_statement read_step read_step_line read_step_statement read_step_word read_store read_term read_test read_triple read_update read_update_permission read_update_word read_usage read_while read_with
statement_is zero tokens = statement_shut (λ tokens. Wrong tokens) (read_statement 0) tokens
statement_is (suc room) tokens =
    let gone : suc room - 1 ≡ room = omega arith in ap (λ (k : ℕ). read_statement_of (suc room) (read_statement k) tokens) (sym gone)

-- ---- a reader that gives the same

pub agrees_by : {A : Type 0} (result : Result A Fault) (left : Tokens) (reader other : Reader A) (tokens : Tokens) → reader tokens ≡ other tokens
    → ReadsAs result left other tokens → ReadsAs result left reader tokens
agrees_by result left reader other tokens same agrees = rw (same) agrees

pub is_choice : (room : ℕ) (tokens : Tokens) → is_next kind.Emp tokens ≡ false → is_next kind.If tokens ≡ true
    → read_atom room tokens ≡ read_choice room (read_atom (room - 1)) tokens
unfolding read_acquire_permission read_addend read_arguments read_arm read_assertion_of read_bank_amount read_bank_word read_choice read_clause_of read_compared read_comparison read_comparison_to read_condition read_conjunct read_enclosed read_excluded_set read_expression_of read_group read_held read_initialised read_lowered read_multiplier read_named_or_related read_negative read_next_argument read_optional_arguments read_optional_share read_part_of read_pattern read_permission read_points_to read_raised read_related read_relation read_release_permission read_share read_sign read_term read_test read_update_permission read_usage
is_choice room tokens e f = atom_is room tokens ∙ rw (e, f) refl

pub is_raised : (room : ℕ) (tokens : Tokens) → is_next kind.Emp tokens ≡ false → is_next kind.If tokens ≡ false → is_next kind.Up tokens ≡ true
    → read_atom room tokens ≡ read_raised room (read_atom (room - 1)) tokens
unfolding read_acquire_permission read_addend read_arguments read_arm read_assertion_of read_bank_amount read_bank_word read_choice read_clause_of read_compared read_comparison read_comparison_to read_condition read_conjunct read_enclosed read_excluded_set read_expression_of read_group read_held read_initialised read_lowered read_multiplier read_named_or_related read_negative read_next_argument read_optional_arguments read_optional_share read_part_of read_pattern read_permission read_points_to read_raised read_related read_relation read_release_permission read_share read_sign read_term read_test read_update_permission read_usage
is_raised room tokens e f g = atom_is room tokens ∙ rw (e, f, g) refl

pub is_lowered : (room : ℕ) (tokens : Tokens) → is_next kind.Emp tokens ≡ false → is_next kind.If tokens ≡ false → is_next kind.Up tokens ≡ false
    → is_next kind.Down tokens ≡ true → read_atom room tokens ≡ read_lowered room (read_atom (room - 1)) tokens
unfolding read_acquire_permission read_addend read_arguments read_arm read_assertion_of read_bank_amount read_bank_word read_choice read_clause_of read_compared read_comparison read_comparison_to read_condition read_conjunct read_enclosed read_excluded_set read_expression_of read_group read_held read_initialised read_lowered read_multiplier read_named_or_related read_negative read_next_argument read_optional_arguments read_optional_share read_part_of read_pattern read_permission read_points_to read_raised read_related read_relation read_release_permission read_share read_sign read_term read_test read_update_permission read_usage
is_lowered room tokens e f g h = atom_is room tokens ∙ rw (e, f, g, h) refl

-- an atom that begins with no word of its own
pub is_named : (room : ℕ) (tokens : Tokens) → is_next kind.Emp tokens ≡ false → is_next kind.If tokens ≡ false → is_next kind.Up tokens ≡ false
    → is_next kind.Down tokens ≡ false → is_next kind.InitAssertion tokens ≡ false → is_next kind.RelAssertion tokens ≡ false
    → is_next kind.RmwAcqAssertion tokens ≡ false → is_next kind.AcqAssertion tokens ≡ false
    → (is_next kind.TokAssertion tokens || is_next kind.AuthAssertion tokens) ≡ false
    → read_atom room tokens ≡ read_named_or_related room tokens
unfolding read_acquire_permission read_addend read_arguments read_arm read_assertion_of read_bank_amount read_bank_word read_choice read_clause_of read_compared read_comparison read_comparison_to read_condition read_conjunct read_enclosed read_excluded_set read_expression_of read_group read_held read_initialised read_lowered read_multiplier read_named_or_related read_negative read_next_argument read_optional_arguments read_optional_share read_part_of read_pattern read_permission read_points_to read_raised read_related read_relation read_release_permission read_share read_sign read_term read_test read_update_permission read_usage
is_named room tokens e f g h i j k l m = atom_is room tokens ∙ rw (e, f, g, h, i, j, k, l, m) refl

pub is_if : (room : ℕ) (tokens : Tokens) → is_next kind.If tokens ≡ true
    → read_statement room tokens ≡ read_if room (read_statement (room - 1)) tokens
unfolding read_acquire_permission read_addend read_allocate read_allocation read_arguments read_arm read_assert read_assertion_of read_assign read_bank read_bank_amount read_bank_word read_block_of read_call read_called read_choice read_clause_of read_compare_and_swap read_compared read_comparison read_comparison_to read_condition read_conjunct read_enclosed read_excluded_set read_expression_of read_fence read_fence_kind read_free read_group read_held read_if read_initialised read_let read_load read_lowered read_mode read_multiplier read_named_or_related read_negative read_next_argument read_optional_arguments read_optional_clause read_optional_expression read_optional_otherwise read_optional_share read_optional_with read_otherwise read_pair read_parallel read_parallel_call read_part_of read_pattern read_permission read_points_to read_print read_raised read_related read_relation read_release read_release_permission read_release_word read_return read_right_side read_share read_shared read_shared_cell read_sign read_simple_statement read_step read_step_line read_step_statement read_step_word read_store read_term read_test read_triple read_update read_update_permission read_update_word read_usage read_while read_with
is_if room tokens e = statement_is room tokens ∙ rw (e) refl

while_guarded : (room : ℕ) (inner : Reader Statement) (tokens : Tokens) → read_while room inner tokens ≡ read_guarded_while room inner tokens
unfolding read_acquire_permission read_addend read_arguments read_arm read_assertion_of read_bank_amount read_bank_word read_block_of read_choice read_clause_of read_compared read_comparison read_comparison_to read_condition read_conjunct read_enclosed read_excluded_set read_expression_of read_group read_guarded read_guarded_while read_held read_initialised read_lowered read_multiplier read_named_or_related read_negative read_next_argument read_optional_arguments read_optional_clause read_optional_share read_part_of read_pattern read_permission read_points_to read_raised read_related read_relation read_release_permission read_share read_sign read_term read_test read_update_permission read_usage read_while
while_guarded room inner tokens =
    same_after (read_test kind.While room tokens) _ _ (λ t left. two_parts (read_optional_clause kind.Inv room left) _ _ _)

pub is_while : (room : ℕ) (tokens : Tokens) → is_next kind.If tokens ≡ false → is_next kind.While tokens ≡ true
    → read_statement room tokens ≡ read_guarded_while room (read_statement (room - 1)) tokens
unfolding read_acquire_permission read_addend read_allocate read_allocation read_arguments read_arm read_assert read_assertion_of read_assign read_bank read_bank_amount read_bank_word read_block_of read_call read_called read_choice read_clause_of read_compare_and_swap read_compared read_comparison read_comparison_to read_condition read_conjunct read_enclosed read_excluded_set read_expression_of read_fence read_fence_kind read_free read_group read_guarded read_guarded_while read_held read_if read_initialised read_let read_load read_lowered read_mode read_multiplier read_named_or_related read_negative read_next_argument read_optional_arguments read_optional_clause read_optional_expression read_optional_otherwise read_optional_share read_optional_with read_otherwise read_pair read_parallel read_parallel_call read_part_of read_pattern read_permission read_points_to read_print read_raised read_related read_relation read_release read_release_permission read_release_word read_return read_right_side read_share read_shared read_shared_cell read_sign read_simple_statement read_step read_step_line read_step_statement read_step_word read_store read_term read_test read_triple read_update read_update_permission read_update_word read_usage read_while read_with
is_while room tokens e f =
    let one : read_statement room tokens ≡ read_while room (read_statement (room - 1)) tokens = statement_is room tokens ∙ rw (e, f) refl in
    one ∙ while_guarded room (read_statement (room - 1)) tokens

-- a statement without a block
pub is_simple : (room : ℕ) (tokens : Tokens) → is_next kind.If tokens ≡ false → is_next kind.While tokens ≡ false
    → read_statement room tokens ≡ read_simple_statement room tokens
unfolding read_acquire_permission read_addend read_allocate read_allocation read_arguments read_arm read_assert read_assertion_of read_assign read_bank read_bank_amount read_bank_word read_block_of read_call read_called read_choice read_clause_of read_compare_and_swap read_compared read_comparison read_comparison_to read_condition read_conjunct read_enclosed read_excluded_set read_expression_of read_fence read_fence_kind read_free read_group read_held read_if read_initialised read_let read_load read_lowered read_mode read_multiplier read_named_or_related read_negative read_next_argument read_optional_arguments read_optional_clause read_optional_expression read_optional_otherwise read_optional_share read_optional_with read_otherwise read_pair read_parallel read_parallel_call read_part_of read_pattern read_permission read_points_to read_print read_raised read_related read_relation read_release read_release_permission read_release_word read_return read_right_side read_share read_shared read_shared_cell read_sign read_simple_statement read_step read_step_line read_step_statement read_step_word read_store read_term read_test read_triple read_update read_update_permission read_update_word read_usage read_while read_with
is_simple room tokens e f = statement_is room tokens ∙ rw (e, f) refl

-- ---- procedures

abbrev contract_of : Option Clause → Option Clause → Contract
contract_of before after = record { requires_clause = before; ensures_clause = after }

abbrev ensured_of : Option Clause → Block → Ensured
ensured_of after body = record { ensures_clause = after; body = body }

abbrev contracted_of : Option Clause → Ensured → Contracted
contracted_of before e = record { requires_clause = before; ensures_clause = e.ensures_clause; body = e.body }

last_clause : {D : Type 0} (before : Option Clause) (o : Outcome (Option Clause)) (third : Reader Block)
    (next : Option Clause → Option Clause → Block → Reader D)
    → bind (bind o (λ b left. Found (contract_of before b) left)) (λ c left. bind (third left) (λ body left. next c.requires_clause c.ensures_clause body left))
    ≡ bind (bind (bind o (λ b left. bind (third left) (λ body left. Found (ensured_of b body) left)))
    (λ e left. Found (contracted_of before e) left)) (λ c left. next c.requires_clause c.ensures_clause c.body left)
last_clause before (Found b left) third next =
    last_part (third left) (ensured_of b) (λ e left. next before e.ensures_clause e.body left)
    ∙ last_part (bind (third left) (λ body left. Found (ensured_of b body) left)) (contracted_of before)
    (λ c left. next c.requires_clause c.ensures_clause c.body left)
last_clause before (Wrong left) third next = refl
last_clause before (Deep left) third next = refl

clauses : {D : Type 0} (o : Outcome (Option Clause)) (second : Reader (Option Clause)) (third : Reader Block)
    (next : Option Clause → Option Clause → Block → Reader D)
    → bind (bind o (λ a left. bind (second left) (λ b left. Found (contract_of a b) left)))
    (λ c left. bind (third left) (λ body left. next c.requires_clause c.ensures_clause body left))
    ≡ bind (bind o (λ a left. bind (bind (second left) (λ b left. bind (third left) (λ body left. Found (ensured_of b body) left)))
    (λ e left. Found (contracted_of a e) left))) (λ c left. next c.requires_clause c.ensures_clause c.body left)
clauses (Found a left) second third next = last_clause a (second left) third next
clauses (Wrong left) second third next = refl
clauses (Deep left) second third next = refl

procedure_contracted : (room : ℕ) (tokens : Tokens) → read_procedure room tokens ≡ read_contracted_procedure room tokens
unfolding read_acquire_permission read_addend read_allocate read_allocation read_arguments read_arm read_assert read_assertion_of read_assign read_bank read_bank_amount read_bank_parameter read_bank_word read_block_of read_call read_called read_choice read_clause_of read_compare_and_swap read_compared read_comparison read_comparison_to read_condition read_conjunct read_contract read_contracted read_contracted_procedure read_enclosed read_ensured read_excluded_set read_expression_of read_fence read_fence_kind read_free read_group read_header read_held read_if read_initialised read_let read_load read_lowered read_mode read_multiplier read_named_or_related read_negative read_next_argument read_next_parameter read_optional_arguments read_optional_clause read_optional_expression read_optional_otherwise read_optional_parameters read_optional_share read_optional_with read_otherwise read_pair read_parallel read_parallel_call read_parameter read_parameters read_part_of read_pattern read_permission read_plain_parameter read_points_to read_print read_procedure read_raised read_related read_relation read_release read_release_permission read_release_word read_return read_right_side read_share read_shared read_shared_cell read_sign read_simple_statement read_step read_step_line read_step_statement read_step_word read_store read_term read_test read_triple read_update read_update_permission read_update_word read_usage read_while read_with
procedure_contracted room tokens =
    same_after (read_header kind.Proc room tokens) _ _ (λ h left.
    clauses (read_optional_clause kind.Requires room left) (read_optional_clause kind.Ensures room) (read_block room) _)

pub is_procedure : (room : ℕ) (tokens : Tokens) → is_next kind.Inv tokens ≡ false → is_next kind.Pred tokens ≡ false
    → read_declaration room tokens ≡ read_contracted_procedure room tokens
unfolding read_acquire_permission read_addend read_allocate read_allocation read_arguments read_arm read_assert read_assertion_of read_assign read_bank read_bank_amount read_bank_parameter read_bank_word read_block_of read_call read_called read_choice read_clause_of read_compare_and_swap read_compared read_comparison read_comparison_to read_condition read_conjunct read_contract read_contracted read_contracted_procedure read_declaration read_enclosed read_ensured read_excluded_set read_expression_of read_fence read_fence_kind read_free read_group read_header read_held read_if read_initialised read_invariant read_let read_load read_lowered read_mode read_multiplier read_named_or_related read_negative read_next_argument read_next_parameter read_optional_arguments read_optional_clause read_optional_expression read_optional_otherwise read_optional_parameters read_optional_share read_optional_with read_otherwise read_pair read_parallel read_parallel_call read_parameter read_parameters read_part_of read_pattern read_permission read_plain_parameter read_points_to read_predicate read_print read_procedure read_raised read_related read_relation read_release read_release_permission read_release_word read_return read_right_side read_share read_shared read_shared_cell read_sign read_simple_statement read_step read_step_line read_step_statement read_step_word read_store read_term read_test read_triple read_update read_update_permission read_update_word read_usage read_while read_with
is_procedure room tokens e f =
    let one : read_declaration room tokens ≡ read_procedure room tokens = rw (e, f) refl in one ∙ procedure_contracted room tokens
