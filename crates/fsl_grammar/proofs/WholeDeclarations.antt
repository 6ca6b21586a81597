-- The same of declarations and files; and so no two trees have one spelling.
use Rattle.std.proofs.Common.{ℕ, zero, suc, ◌+◌, ◌-◌, ◌≡◌, ◌≤◌, ◌<◌, ◌∙◌, Bool, true, false, List, [], ◌∷◌, map, length, max, refl, sym, ap, subst, arith, Option, Some, None}
use Rattle.fsl_base.specs.declared.span.Span.{Span}
use Rattle.fsl_token.specs.declared.kind.TokenKind.{TokenKind}
use Rattle.fsl_token.specs.declared.kind.TokenKind.TheVariants as kind
use Rattle.fsl_tree.specs.declared.declaration.Declaration.{Declaration}
use Rattle.fsl_tree.specs.declared.declaration.Declaration.TheVariants as declarations
use Rattle.fsl_tree.specs.declared.declaration.Invariant.{Invariant}
use Rattle.fsl_tree.specs.declared.declaration.Predicate.{Predicate}
use Rattle.fsl_tree.specs.declared.declaration.Procedure.{Procedure}
use Rattle.fsl_tree.specs.declared.declaration.Part.{Part}
use Rattle.fsl_tree.specs.declared.declaration.Clause.{Clause}
use Rattle.fsl_tree.specs.declared.statement.Block.{Block}
use Rattle.fsl_tree.specs.declared.declaration.Parameters.{Parameters}
use Rattle.fsl_tree.specs.declared.declaration.NextParameter.{NextParameter}
use Rattle.fsl_tree.specs.declared.declaration.Parameter.{Parameter}
use Rattle.fsl_tree.specs.declared.file.File.{File}
use Rattle.fsl_tree.specs.SpelledExpressions.{Tokens, Spelled, fixed, all}
use Rattle.fsl_tree.specs.SpelledStatements.{optional_clause, block}
use Rattle.fsl_tree.specs.Spelling.{parameter, next_parameter, optional_parameters, part, invariant, predicate, procedure, declaration, spelling}
use Rattle.fsl_tree.specs.Nesting.{greatest, in_optional_clause, in_block, in_part, in_declaration, nesting}
use Rattle.fsl_grammar.specs.declared.groups.Header.{Header}
use Rattle.fsl_grammar.proofs.GroupTokens.{header}
use Rattle.fsl_grammar.specs.Heads.{is_next, is_more}
use Rattle.fsl_grammar.specs.Readers.{Outcome, Found, Reader, bind, take, many}
use Rattle.fsl_grammar.specs.ReadAssertions.{read_part, read_acquire_permission, read_arm, read_assertion_of, read_bank_amount, read_bank_word, read_choice, read_clause_of, read_comparison_to, read_conjunct, read_initialised, read_lowered, read_named_or_related, read_optional_share, read_part_of, read_pattern, read_permission, read_points_to, read_raised, read_related, read_relation, read_release_permission, read_share, read_update_permission}
use Rattle.fsl_grammar.specs.ReadStatements.{read_optional_clause, read_block, read_allocate, read_allocation, read_assert, read_assign, read_bank, read_block_of, read_call, read_called, read_compare_and_swap, read_fence, read_fence_kind, read_free, read_if, read_let, read_load, read_mode, read_optional_expression, read_optional_otherwise, read_optional_with, read_otherwise, read_parallel, read_parallel_call, read_print, read_release, read_release_word, read_return, read_right_side, read_shared, read_shared_cell, read_simple_statement, read_step, read_step_line, read_step_statement, read_step_word, read_store, read_update, read_update_word, read_while, read_with}
use Rattle.fsl_grammar.specs.ReadDeclarations.{read_bank_parameter, read_plain_parameter, read_parameter, read_next_parameter, read_parameters, read_optional_parameters, read_header, read_invariant, read_predicate, read_procedure, read_declaration, read_file, read_contract}
use Rattle.fsl_grammar.proofs.Whole.{Reads, ManyRead, many_read, take_reads, open_reads}
use Rattle.fsl_grammar.proofs.WholeUses.{OptionReads}
use Rattle.fsl_grammar.proofs.WholeAssertions.{part_reads}
use Rattle.fsl_grammar.proofs.WholeStatements.{optional_clause_reads, block_reads, block_no_ensures, block_no_requires}
use Rattle.fsl_grammar.specs.ReadExpressions.{read_addend, read_arguments, read_compared, read_comparison, read_condition, read_expression_of, read_group, read_multiplier, read_negative, read_next_argument, read_optional_arguments, read_sign, read_term, read_usage}
use Rattle.fsl_grammar.specs.ReadGroups.{read_enclosed, read_excluded_set, read_held, read_pair, read_test, read_triple}

-- ---- parameters

parameter_of : (bank : Option Span) (name : Span) (after : Tokens)
    → Reads read_parameter (parameter (record { bank = bank; name = name })) (record { bank = bank; name = name }) after
unfolding read_bank_parameter read_parameter read_plain_parameter
parameter_of None name after = record { reads = refl; grows = omega arith }
parameter_of (Some place) name after = record { reads = refl; grows = omega arith }

parameter_reads : (p : Parameter) (after : Tokens) → Reads read_parameter (parameter p) p after
unfolding read_bank_parameter read_parameter read_plain_parameter
parameter_reads p after = parameter_of p.bank p.name after

next_parameter_reads : (p : NextParameter) (after : Tokens) → Reads read_next_parameter (next_parameter p) p after
unfolding read_bank_parameter read_next_parameter read_parameter read_plain_parameter
next_parameter_reads p after =
    let one = parameter_reads p.parameter after in let g = one.grows in
    record { reads = rw (one.reads) refl; grows = omega arith }

no_end_of : (bank : Option Span) (name : Span) (after : Tokens) → is_next kind.CloseParen (parameter (record { bank = bank; name = name }) after) ≡ false
no_end_of None name after = refl
no_end_of (Some place) name after = refl

none_deep : {A : Type 0} (xs : List A) → greatest (map (λ (x : A). 0) xs) ≤ 0
none_deep [] = omega arith
none_deep (x ∷ xs) = let h = none_deep xs in omega arith

optional_parameters_read : (p : Option Parameters) (after : Tokens) → is_next kind.CloseParen after ≡ true → is_next kind.Comma after ≡ false
    → OptionReads read_optional_parameters (optional_parameters p) p after
unfolding read_bank_parameter read_next_parameter read_optional_parameters read_parameter read_parameters read_plain_parameter
optional_parameters_read None after closes stops = record { reads = rw (closes) refl; grows = omega arith }
optional_parameters_read (Some p) after closes stops =
    let others = many_read (is_next kind.Comma) read_next_parameter next_parameter (λ (x : NextParameter). 0) 0 (λ ts. Unit {0})
    (λ x ts. refl) (λ x ts. tt) (λ x ts deep ends. next_parameter_reads x ts) p.more after (none_deep p.more) tt stops in
    let first = parameter_reads p.first (all (map next_parameter p.more) after) in
    let e = others.reads (length (all (map next_parameter p.more) after)) (omega arith) in
    let g = first.grows in let g' = others.grows in
    record { reads = rw (no_end_of p.first.bank p.first.name (all (map next_parameter p.more) after), first.reads, e) refl; grows = omega arith }

header_reads : (word : TokenKind) (room : ℕ) (h : Header) (after : Tokens) → 0 < room → Reads (read_header word room) (header word h) h after
unfolding read_bank_parameter read_header read_next_parameter read_optional_parameters read_parameter read_parameters read_plain_parameter
header_reads word room h after roomy =
    let given = optional_parameters_read h.parameters (fixed kind.CloseParen h.close ∷ after) refl refl in let g = given.grows in
    record { reads = rw (take_reads, open_reads, given.reads) refl; grows = omega arith }

-- ---- declarations

invariant_reads : (room : ℕ) (i : Invariant) (after : Tokens) → max 1 (max (in_part i.first) (greatest (map in_part i.more))) ≤ room
    → is_next kind.OpenBrace after ≡ false → Reads (read_invariant room) (invariant i) (declarations.Invariant i) after
unfolding read_acquire_permission read_addend read_arguments read_arm read_assertion_of read_bank_amount read_bank_parameter read_bank_word read_choice read_clause_of read_compared read_comparison read_comparison_to read_condition read_conjunct read_enclosed read_excluded_set read_expression_of read_group read_header read_held read_initialised read_invariant read_lowered read_multiplier read_named_or_related read_negative read_next_argument read_next_parameter read_optional_arguments read_optional_parameters read_optional_share read_parameter read_parameters read_part_of read_pattern read_permission read_plain_parameter read_points_to read_raised read_related read_relation read_release_permission read_share read_sign read_term read_test read_update_permission read_usage
invariant_reads room i after fits stops =
    let h : Header = record { word = i.word; name = i.name; «open» = i.open; parameters = i.parameters; close = i.close } in
    let others = many_read (is_next kind.OpenBrace) (read_part room) part in_part room (λ ts. Unit {0})
    (λ p ts. refl) (λ p ts. tt) (λ p ts deep ends. part_reads room p ts deep) i.more after (omega arith) tt stops in
    let first = part_reads room i.first (all (map part i.more) after) (omega arith) in
    let top = header_reads kind.Inv room h (fixed kind.Of i.of ∷ fixed kind.Name i.value ∷ part i.first (all (map part i.more) after)) (omega arith) in
    let e = others.reads (length (all (map part i.more) after)) (omega arith) in
    let g = first.grows in let g' = others.grows in let g'' = top.grows in
    record { reads = rw (top.reads, first.reads, e) refl; grows = omega arith }

predicate_reads : (room : ℕ) (p : Predicate) (after : Tokens) → max 1 (in_part p.body) ≤ room
    → Reads (read_predicate room) (predicate p) (declarations.Predicate p) after
unfolding read_acquire_permission read_addend read_arguments read_arm read_assertion_of read_bank_amount read_bank_parameter read_bank_word read_choice read_clause_of read_compared read_comparison read_comparison_to read_condition read_conjunct read_enclosed read_excluded_set read_expression_of read_group read_header read_held read_initialised read_lowered read_multiplier read_named_or_related read_negative read_next_argument read_next_parameter read_optional_arguments read_optional_parameters read_optional_share read_parameter read_parameters read_part_of read_pattern read_permission read_plain_parameter read_points_to read_predicate read_raised read_related read_relation read_release_permission read_share read_sign read_term read_test read_update_permission read_usage
predicate_reads room p after fits =
    let h : Header = record { word = p.word; name = p.name; «open» = p.open; parameters = p.parameters; close = p.close } in
    let body = part_reads room p.body after (omega arith) in
    let top = header_reads kind.Pred room h (part p.body after) (omega arith) in
    let g = body.grows in let g' = top.grows in
    record { reads = rw (top.reads, body.reads) refl; grows = omega arith }

no_requires : (c : Option Clause) (b : Block) (after : Tokens) → is_next kind.Requires (optional_clause kind.Ensures c (block b after)) ≡ false
no_requires None b after = block_no_requires b after
no_requires (Some c) b after = refl

procedure_reads : (room : ℕ) (p : Procedure) (after : Tokens)
    → max 1 (max (in_optional_clause p.requires_clause) (max (in_optional_clause p.ensures_clause) (in_block p.body))) ≤ room
    → Reads (read_procedure room) (procedure p) (declarations.Procedure p) after
unfolding read_acquire_permission read_addend read_allocate read_allocation read_arguments read_arm read_assert read_assertion_of read_assign read_bank read_bank_amount read_bank_parameter read_bank_word read_block_of read_call read_called read_choice read_clause_of read_compare_and_swap read_compared read_comparison read_comparison_to read_condition read_conjunct read_contract read_enclosed read_excluded_set read_expression_of read_fence read_fence_kind read_free read_group read_header read_held read_if read_initialised read_let read_load read_lowered read_mode read_multiplier read_named_or_related read_negative read_next_argument read_next_parameter read_optional_arguments read_optional_clause read_optional_expression read_optional_otherwise read_optional_parameters read_optional_share read_optional_with read_otherwise read_pair read_parallel read_parallel_call read_parameter read_parameters read_part_of read_pattern read_permission read_plain_parameter read_points_to read_print read_procedure read_raised read_related read_relation read_release read_release_permission read_release_word read_return read_right_side read_share read_shared read_shared_cell read_sign read_simple_statement read_step read_step_line read_step_statement read_step_word read_store read_term read_test read_triple read_update read_update_permission read_update_word read_usage read_while read_with
procedure_reads room p after fits =
    let h : Header = record { word = p.word; name = p.name; «open» = p.open; parameters = p.parameters; close = p.close } in
    let body = block_reads room p.body after (omega arith) in
    let second = optional_clause_reads kind.Ensures room p.ensures_clause (block p.body after) (omega arith) (block_no_ensures p.body after) in
    let first = optional_clause_reads kind.Requires room p.requires_clause (optional_clause kind.Ensures p.ensures_clause (block p.body after)) (omega arith)
    (no_requires p.ensures_clause p.body after) in
    let top = header_reads kind.Proc room h (optional_clause kind.Requires p.requires_clause (optional_clause kind.Ensures p.ensures_clause (block p.body after))) (omega arith) in
    let g = body.grows in let g' = second.grows in let g'' = first.grows in let g3 = top.grows in
    record { reads = rw (top.reads, first.reads, second.reads, body.reads) refl; grows = omega arith }

declaration_reads : (room : ℕ) (d : Declaration) (after : Tokens) → in_declaration d ≤ room → is_next kind.OpenBrace after ≡ false
    → Reads (read_declaration room) (declaration d) d after
unfolding read_acquire_permission read_addend read_allocate read_allocation read_arguments read_arm read_assert read_assertion_of read_assign read_bank read_bank_amount read_bank_parameter read_bank_word read_block_of read_call read_called read_choice read_clause_of read_compare_and_swap read_compared read_comparison read_comparison_to read_condition read_conjunct read_contract read_declaration read_enclosed read_excluded_set read_expression_of read_fence read_fence_kind read_free read_group read_header read_held read_if read_initialised read_invariant read_let read_load read_lowered read_mode read_multiplier read_named_or_related read_negative read_next_argument read_next_parameter read_optional_arguments read_optional_clause read_optional_expression read_optional_otherwise read_optional_parameters read_optional_share read_optional_with read_otherwise read_pair read_parallel read_parallel_call read_parameter read_parameters read_part_of read_pattern read_permission read_plain_parameter read_points_to read_predicate read_print read_procedure read_raised read_related read_relation read_release read_release_permission read_release_word read_return read_right_side read_share read_shared read_shared_cell read_sign read_simple_statement read_step read_step_line read_step_statement read_step_word read_store read_term read_test read_triple read_update read_update_permission read_update_word read_usage read_while read_with
declaration_reads room (declarations.Invariant i) after fits stops =
    let one = invariant_reads room i after fits stops in let g = one.grows in record { reads = one.reads; grows = g }
declaration_reads room (declarations.Predicate p) after fits stops =
    let one = predicate_reads room p after fits in let g = one.grows in record { reads = one.reads; grows = g }
declaration_reads room (declarations.Procedure p) after fits stops =
    let one = procedure_reads room p after fits in let g = one.grows in record { reads = one.reads; grows = g }

declaration_more : (d : Declaration) (after : Tokens) → is_more (declaration d after) ≡ true
declaration_more (declarations.Invariant i) after = refl
declaration_more (declarations.Predicate p) after = refl
declaration_more (declarations.Procedure p) after = refl

declaration_no_part : (d : Declaration) (after : Tokens) → is_next kind.OpenBrace (declaration d after) ≡ false
declaration_no_part (declarations.Invariant i) after = refl
declaration_no_part (declarations.Predicate p) after = refl
declaration_no_part (declarations.Procedure p) after = refl

-- ---- files

-- the tokens of a tree that nests within the room are read as that tree
pub file_reads : (room : ℕ) (f : File) → nesting f ≤ room → read_file room (spelling f) ≡ Found f []
unfolding read_file read_acquire_permission read_addend read_allocate read_allocation read_arguments read_arm read_assert read_assertion_of read_assign read_bank read_bank_amount read_bank_parameter read_bank_word read_block_of read_call read_called read_choice read_clause_of read_compare_and_swap read_compared read_comparison read_comparison_to read_condition read_conjunct read_contract read_declaration read_enclosed read_excluded_set read_expression_of read_fence read_fence_kind read_free read_group read_header read_held read_if read_initialised read_invariant read_let read_load read_lowered read_mode read_multiplier read_named_or_related read_negative read_next_argument read_next_parameter read_optional_arguments read_optional_clause read_optional_expression read_optional_otherwise read_optional_parameters read_optional_share read_optional_with read_otherwise read_pair read_parallel read_parallel_call read_parameter read_parameters read_part_of read_pattern read_permission read_plain_parameter read_points_to read_predicate read_print read_procedure read_raised read_related read_relation read_release read_release_permission read_release_word read_return read_right_side read_share read_shared read_shared_cell read_sign read_simple_statement read_step read_step_line read_step_statement read_step_word read_store read_term read_test read_triple read_update read_update_permission read_update_word read_usage read_while read_with
file_reads room f fits =
    let every = many_read is_more (read_declaration room) declaration in_declaration room (λ ts. is_next kind.OpenBrace ts ≡ false)
    declaration_more declaration_no_part (declaration_reads room) f.declarations [] fits refl refl in
    let e = every.reads (length (spelling f)) (omega arith) in
    rw (e) refl

-- no two trees have one spelling
pub one_spelling : (f g : File) → spelling f ≡ spelling g → f ≡ g
one_spelling f g same =
    let room = max (nesting f) (nesting g) in
    let a = file_reads room f (omega arith) in
    let b = file_reads room g (omega arith) in
    let c : read_file room (spelling f) ≡ read_file room (spelling g) = ap (read_file room) same in
    let d : Found f [] ≡ Found g [] = sym a ∙ c ∙ b in
    cc
