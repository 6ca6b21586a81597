-- The same of right sides, statements and blocks.
use Rattle.std.proofs.Common.{ℕ, zero, suc, ◌+◌, ◌-◌, ◌≡◌, ◌≤◌, ◌<◌, ◌∙◌, Bool, true, false, not, ◌||◌, List, [], ◌∷◌, map, length, max, refl, sym, ap, subst, arith, Option, Some, None}
use Rattle.fsl_base.specs.declared.span.Span.{Span}
use Rattle.fsl_token.specs.declared.kind.TokenKind.{TokenKind}
use Rattle.fsl_token.specs.declared.kind.TokenKind.TheVariants as kind
use Rattle.fsl_tree.specs.declared.declaration.Clause.{Clause}
use Rattle.fsl_tree.specs.declared.expression.Expression.{Expression}
use Rattle.fsl_tree.specs.declared.expression.NextArgument.{NextArgument}
use Rattle.fsl_tree.specs.declared.right_side.RightSide.{RightSide}
use Rattle.fsl_tree.specs.declared.right_side.RightSide.TheVariants as right_sides
use Rattle.fsl_tree.specs.declared.right_side.Allocation.{Allocation}
use Rattle.fsl_tree.specs.declared.right_side.Allocation.TheVariants as allocations
use Rattle.fsl_tree.specs.declared.right_side.SharedCell.{SharedCell}
use Rattle.fsl_tree.specs.declared.right_side.SharedCell.TheVariants as cells
use Rattle.fsl_tree.specs.declared.right_side.UpdateWord.{UpdateWord}
use Rattle.fsl_tree.specs.declared.right_side.UpdateWord.TheVariants as update_words
use Rattle.fsl_tree.specs.declared.right_side.Mode.{Mode}
use Rattle.fsl_tree.specs.declared.right_side.Mode.TheVariants as modes
use Rattle.fsl_tree.specs.declared.right_side.With.{With}
use Rattle.fsl_tree.specs.declared.right_side.StepLine.{StepLine}
use Rattle.fsl_tree.specs.declared.right_side.Step.{Step}
use Rattle.fsl_tree.specs.declared.right_side.StepWord.{StepWord}
use Rattle.fsl_tree.specs.declared.right_side.StepWord.TheVariants as step_words
use Rattle.fsl_tree.specs.declared.statement.ParallelCall.{ParallelCall}
use Rattle.fsl_tree.specs.declared.statement.FenceKind.{FenceKind}
use Rattle.fsl_tree.specs.declared.statement.FenceKind.TheVariants as fences
use Rattle.fsl_tree.specs.declared.statement.ReleaseWord.{ReleaseWord}
use Rattle.fsl_tree.specs.declared.statement.ReleaseWord.TheVariants as release_words
use Rattle.fsl_tree.specs.declared.statement.Statement.{Statement}
use Rattle.fsl_tree.specs.declared.statement.Block.{Block}
use Rattle.fsl_tree.specs.declared.statement.Otherwise.{Otherwise}
use Rattle.fsl_tree.specs.declared.statement.Statement.TheOpen.{Statement-F, Block-F, Otherwise-F}
use Rattle.fsl_tree.specs.declared.statement.Statement.TheViews.{roll-Statement, roll-Block, roll-Otherwise, out-Statement, out-Block, out-Otherwise, roll-out-Statement, roll-out-Block, roll-out-Otherwise}
use Rattle.fsl_tree.specs.declared.statement.Statement.TheFolds.{fold-roll-Statement, fold-roll-Block, fold-roll-Otherwise}
use Rattle.fsl_tree.specs.SpelledExpressions.{Tokens, Spelled, fixed, all, expression, condition, usage}
use Rattle.fsl_tree.specs.SpelledAssertions.{assertion}
use Rattle.fsl_tree.specs.SpelledStatements.{mode_token, cell_token, update_word_token, step_word_token, step, step_line, optional_with, allocation, right_side, clause, optional_clause, optional_expression, parallel_call, release_word_token, fence, statement_step, block_step, otherwise_step, statement, block, otherwise, optional_otherwise}
use Rattle.fsl_tree.specs.Nesting.{greatest, in_expression, in_condition, in_assertion, in_use, in_step, in_step_line, in_with, in_allocation, in_right_side, in_clause, in_optional_clause, in_optional_expression, in_parallel_call, in_fence, statement_depth, block_depth, otherwise_depth, in_statement, in_block, in_otherwise, in_optional_otherwise}
use Rattle.fsl_grammar.specs.declared.groups.Test.{Test}
use Rattle.fsl_grammar.specs.declared.groups.Enclosed.{Enclosed}
use Rattle.fsl_grammar.specs.declared.groups.Pair.{Pair}
use Rattle.fsl_grammar.specs.declared.groups.Triple.{Triple}
use Rattle.fsl_grammar.specs.Heads.{is_next}
use Rattle.fsl_grammar.specs.Readers.{Outcome, Found, Wrong, Reader, bind, take, open_at, number, many}
use Rattle.fsl_grammar.specs.ReadExpressions.{is_sign_next, read_expression, read_usage, read_addend, read_arguments, read_compared, read_comparison, read_condition, read_expression_of, read_group, read_multiplier, read_negative, read_next_argument, read_optional_arguments, read_sign, read_term}
use Rattle.fsl_grammar.specs.ReadGroups.{read_enclosed, read_test, read_pair, read_triple, read_excluded_set, read_held}
use Rattle.fsl_grammar.specs.ReadAssertions.{read_assertion, read_clause, read_acquire_permission, read_arm, read_assertion_of, read_bank_amount, read_bank_word, read_choice, read_clause_of, read_comparison_to, read_conjunct, read_initialised, read_lowered, read_named_or_related, read_optional_share, read_part_of, read_pattern, read_permission, read_points_to, read_raised, read_related, read_relation, read_release_permission, read_share, read_update_permission}
use Rattle.fsl_grammar.specs.ReadStatements.{read_mode, read_shared_cell, read_shared, read_allocation, read_update_word, read_step_word, read_step, read_step_line, is_step_next, read_with, read_optional_with, read_load, read_compare_and_swap, read_update, read_called, read_allocate, read_right_side, read_let, read_assign, read_store, read_call, read_parallel_call, read_parallel, read_release_word, read_release, read_fence_kind, read_fence, read_assert, read_print, read_free, read_optional_expression, read_return, read_bank, read_step_statement, read_simple_statement, goes_on, read_block_of, read_otherwise, read_optional_otherwise, read_if, read_optional_clause, read_while, read_statement_of, read_statement, read_block}
use Rattle.fsl_grammar.proofs.Whole.{Reads, ManyRead, many_read, take_reads, open_reads, fixed_is}
use Rattle.fsl_grammar.proofs.WholeExpressions.{EndsExpression, expression_reads, not_start}
use Rattle.fsl_grammar.proofs.WholeUses.{OptionReads, usage_reads}
use Rattle.fsl_grammar.proofs.WholeGroups.{enclosed_reads, test_reads, pair_reads, triple_reads}
use Rattle.fsl_grammar.proofs.WholeAssertions.{assertion_reads, clause_reads}

-- ---- words

mode_reads : (w : Mode) (after : Tokens) → read_mode (mode_token w ∷ after) ≡ Found w after
unfolding read_mode
mode_reads (modes.NonAtomic place) after = refl
mode_reads (modes.Relaxed place) after = refl
mode_reads (modes.Acquire place) after = refl
mode_reads (modes.Release place) after = refl
mode_reads (modes.AcquireRelease place) after = refl

cell_reads : (w : SharedCell) (after : Tokens) → read_shared_cell (cell_token w ∷ after) ≡ Found w after
unfolding read_shared_cell
cell_reads (cells.Acq place) after = refl
cell_reads (cells.Rmw place) after = refl

update_word_reads : (w : UpdateWord) (after : Tokens) → read_update_word (update_word_token w ∷ after) ≡ Found w after
unfolding read_update_word
update_word_reads (update_words.FetchAdd place) after = refl
update_word_reads (update_words.Exchange place) after = refl

step_word_reads : (w : StepWord) (after : Tokens) → read_step_word (step_word_token w ∷ after) ≡ Found w after
unfolding read_step_word
step_word_reads (step_words.Mint place) after = refl
step_word_reads (step_words.Burn place) after = refl

release_word_reads : (w : ReleaseWord) (after : Tokens) → read_release_word (release_word_token w ∷ after) ≡ Found w after
unfolding read_release_word
release_word_reads (release_words.Release place) after = refl
release_word_reads (release_words.AcquireRelease place) after = refl

step_word_begins : (w : StepWord) (after : Tokens) → is_step_next (step_word_token w ∷ after) ≡ true
step_word_begins (step_words.Mint place) after = refl
step_word_begins (step_words.Burn place) after = refl

-- ---- token steps

step_reads : (room : ℕ) (s : Step) (after : Tokens) → in_step s ≤ room → Reads (read_step room) (step s) s after
unfolding read_addend read_expression_of read_group read_multiplier read_negative read_sign read_step read_step_word read_term
step_reads room s after fits =
    let roomy : 0 < room = omega arith in
    let one = expression_reads (room - 1) s.amount (fixed kind.CloseParen s.close ∷ after) (omega arith) (record { no_star = refl; no_sign = refl }) in
    let g = one.grows in
    record { reads = rw (step_word_reads, open_reads, one.reads) refl; grows = omega arith }

step_line_reads : (room : ℕ) (l : StepLine) (after : Tokens) → in_step_line l ≤ room → Reads (read_step_line room) (step_line l) l after
unfolding read_addend read_expression_of read_group read_multiplier read_negative read_sign read_step read_step_line read_step_word read_term
step_line_reads room l after fits =
    let one = step_reads room l.step (fixed kind.Semicolon l.semicolon ∷ after) fits in let g = one.grows in
    record { reads = rw (one.reads) refl; grows = omega arith }

step_line_begins : (l : StepLine) (after : Tokens) → is_step_next (step_line l after) ≡ true
step_line_begins l after = step_word_begins l.step.word (fixed kind.OpenParen l.step.open ∷ fixed kind.Name l.step.bank ∷ fixed kind.Comma l.step.comma ∷
    expression l.step.amount (fixed kind.CloseParen l.step.close ∷ fixed kind.Semicolon l.semicolon ∷ after))

optional_with_reads : (room : ℕ) (w : Option With) (after : Tokens) → in_with w ≤ room → is_next kind.With after ≡ false
    → OptionReads (read_optional_with room) (optional_with w) w after
unfolding read_addend read_expression_of read_group read_multiplier read_negative read_optional_with read_sign read_step read_step_line read_step_word read_term read_with
optional_with_reads room None after fits stops = record { reads = rw (stops) refl; grows = omega arith }
optional_with_reads room (Some w) after fits stops =
    let roomy : 0 < room = omega arith in
    let lines = many_read is_step_next (read_step_line (room - 1)) step_line in_step_line (room - 1) (λ ts. Unit {0})
    step_line_begins (λ l ts. tt) (λ l ts deep ends. step_line_reads (room - 1) l ts deep) w.steps (fixed kind.CloseBrace w.close ∷ after) (omega arith) tt refl in
    let e = lines.reads (length (all (map step_line w.steps) (fixed kind.CloseBrace w.close ∷ after))) (omega arith) in
    let g = lines.grows in
    record { reads = rw (open_reads, e) refl; grows = omega arith }

-- ---- right sides

allocation_reads : (room : ℕ) (a : Allocation) (after : Tokens) → in_allocation a ≤ room → Reads (read_allocation room) (allocation a) a after
unfolding read_addend read_allocation read_arguments read_expression_of read_group read_multiplier read_negative read_next_argument read_optional_arguments read_shared read_shared_cell read_sign read_term read_usage
allocation_reads room (allocations.NonAtomic word) after fits = record { reads = refl; grows = omega arith }
allocation_reads room (allocations.Shared (cells.Acq place) invariant) after fits =
    let one = usage_reads room invariant after fits in let g = one.grows in
    record { reads = rw (one.reads) refl; grows = omega arith }
allocation_reads room (allocations.Shared (cells.Rmw place) invariant) after fits =
    let one = usage_reads room invariant after fits in let g = one.grows in
    record { reads = rw (one.reads) refl; grows = omega arith }

pub right_side_reads : (room : ℕ) (r : RightSide) (after : Tokens) → in_right_side r ≤ room → EndsExpression after → is_next kind.With after ≡ false
    → Reads (read_right_side room) (right_side r) r after
unfolding read_addend read_allocate read_allocation read_arguments read_called read_compare_and_swap read_expression_of read_group read_load read_mode read_multiplier read_negative read_next_argument read_optional_arguments read_optional_with read_pair read_right_side read_shared read_shared_cell read_sign read_step read_step_line read_step_word read_term read_triple read_update read_update_word read_usage read_with
right_side_reads room (right_sides.Value value) after fits ends stops =
    let one = expression_reads room value after fits ends in let g = one.grows in
    record {
      reads = rw (not_start kind.Call refl value after, not_start kind.Alloc refl value after, not_start kind.Load refl value after, not_start kind.Cas refl value after, not_start kind.FetchAdd refl value after, not_start kind.Exchange refl value after, one.reads) refl;
      grows = omega arith;
    }
right_side_reads room (right_sides.Call word callee) after fits ends stops =
    let one = usage_reads room callee after fits in let g = one.grows in
    record { reads = rw (one.reads) refl; grows = omega arith }
right_side_reads room (right_sides.Allocate word what) after fits ends stops =
    let one = allocation_reads room what after fits in let g = one.grows in
    record { reads = rw (one.reads) refl; grows = omega arith }
right_side_reads room (right_sides.Load word mode start location end) after fits ends stops =
    let roomy : 0 < room = omega arith in
    let one = expression_reads (room - 1) location (fixed kind.CloseParen end ∷ after) (omega arith) (record { no_star = refl; no_sign = refl }) in let g = one.grows in
    record { reads = rw (mode_reads, open_reads, one.reads) refl; grows = omega arith }
right_side_reads room (right_sides.CompareAndSwap word success failure start location expected_comma expected new_comma new end timed) after fits ends stops =
    let t : Triple = record { «open» = start; location = location; expected = record { comma = expected_comma; value = expected }; new = record { comma = new_comma; value = new }; close = end } in
    let second = optional_with_reads room timed after (omega arith) stops in
    let first = triple_reads room t (optional_with timed after) (omega arith) in
    let g = first.grows in let g' = second.grows in
    record { reads = rw (mode_reads success, mode_reads failure, first.reads, second.reads) refl; grows = omega arith }
right_side_reads room (right_sides.Update (update_words.FetchAdd place) mode start location comma operand end timed) after fits ends stops =
    let p : Pair = record { «open» = start; location = location; value = record { comma = comma; value = operand }; close = end } in
    let second = optional_with_reads room timed after (omega arith) stops in
    let first = pair_reads room p (optional_with timed after) (omega arith) in
    let g = first.grows in let g' = second.grows in
    record { reads = rw (mode_reads, first.reads, second.reads) refl; grows = omega arith }
right_side_reads room (right_sides.Update (update_words.Exchange place) mode start location comma operand end timed) after fits ends stops =
    let p : Pair = record { «open» = start; location = location; value = record { comma = comma; value = operand }; close = end } in
    let second = optional_with_reads room timed after (omega arith) stops in
    let first = pair_reads room p (optional_with timed after) (omega arith) in
    let g = first.grows in let g' = second.grows in
    record { reads = rw (mode_reads, first.reads, second.reads) refl; grows = omega arith }

-- ---- parts of statements

fence_reads : (room : ℕ) (f : FenceKind) (after : Tokens) → in_fence f ≤ room → Reads (read_fence_kind room) (fence f) f after
unfolding read_acquire_permission read_addend read_arguments read_arm read_assertion_of read_bank_amount read_bank_word read_choice read_clause_of read_compared read_comparison read_comparison_to read_condition read_conjunct read_enclosed read_excluded_set read_expression_of read_fence_kind read_group read_held read_initialised read_lowered read_multiplier read_named_or_related read_negative read_next_argument read_optional_arguments read_optional_share read_part_of read_pattern read_permission read_points_to read_raised read_related read_relation read_release read_release_permission read_release_word read_share read_sign read_term read_test read_update_permission read_usage
fence_reads room (fences.Acquire word) after fits = record { reads = refl; grows = omega arith }
fence_reads room (fences.Release (release_words.Release place) start given end) after fits =
    let roomy : 0 < room = omega arith in
    let one = assertion_reads (room - 1) given (fixed kind.CloseParen end ∷ after) (omega arith) (record { expression = (record { no_star = refl; no_sign = refl }); no_separate = refl }) in
    let g = one.grows in
    record { reads = rw (open_reads, one.reads) refl; grows = omega arith }
fence_reads room (fences.Release (release_words.AcquireRelease place) start given end) after fits =
    let roomy : 0 < room = omega arith in
    let one = assertion_reads (room - 1) given (fixed kind.CloseParen end ∷ after) (omega arith) (record { expression = (record { no_star = refl; no_sign = refl }); no_separate = refl }) in
    let g = one.grows in
    record { reads = rw (open_reads, one.reads) refl; grows = omega arith }

optional_expression_reads : (room : ℕ) (e : Option Expression) (after : Tokens) → in_optional_expression e ≤ room → is_next kind.Semicolon after ≡ true
    → EndsExpression after → OptionReads (read_optional_expression room) (optional_expression e) e after
unfolding read_addend read_expression_of read_group read_multiplier read_negative read_optional_expression read_sign read_term
optional_expression_reads room None after fits stops ends = record { reads = rw (stops) refl; grows = omega arith }
optional_expression_reads room (Some e) after fits stops ends =
    let one = expression_reads room e after fits ends in let g = one.grows in
    record { reads = rw (not_start kind.Semicolon refl e after, one.reads) refl; grows = omega arith }

pub optional_clause_reads : (word : TokenKind) (room : ℕ) (c : Option Clause) (after : Tokens) → in_optional_clause c ≤ room → is_next word after ≡ false
    → OptionReads (read_optional_clause word room) (optional_clause word c) c after
unfolding read_acquire_permission read_addend read_arguments read_arm read_assertion_of read_bank_amount read_bank_word read_choice read_clause_of read_compared read_comparison read_comparison_to read_condition read_conjunct read_enclosed read_excluded_set read_expression_of read_group read_held read_initialised read_lowered read_multiplier read_named_or_related read_negative read_next_argument read_optional_arguments read_optional_clause read_optional_share read_part_of read_pattern read_permission read_points_to read_raised read_related read_relation read_release_permission read_share read_sign read_term read_test read_update_permission read_usage
optional_clause_reads word room None after fits stops = record { reads = rw (stops) refl; grows = omega arith }
optional_clause_reads word room (Some c) after fits stops =
    let one = clause_reads word room c after fits in let g = one.grows in
    record { reads = rw (one.reads, fixed_is word c.word) refl; grows = omega arith }

parallel_call_reads : (room : ℕ) (c : ParallelCall) (after : Tokens) → in_parallel_call c ≤ room → Reads (read_parallel_call room) (parallel_call c) c after
unfolding read_addend read_arguments read_expression_of read_group read_multiplier read_negative read_next_argument read_optional_arguments read_parallel_call read_sign read_term read_usage
parallel_call_reads room c after fits =
    let one = usage_reads room c.callee (fixed kind.Semicolon c.semicolon ∷ after) fits in let g = one.grows in
    record { reads = rw (one.reads) refl; grows = omega arith }

-- ---- blocks, given how statements are read

abbrev pub StatementsRead : ℕ → Reader Statement → Type 0
StatementsRead room reader = (s : Statement) (after : Tokens) → in_statement s ≤ room → is_next kind.Else after ≡ false → Reads reader (statement s) s after

abbrev StatementLayer : Type 0
StatementLayer = Statement-F Statement Block Otherwise

abbrev BlockLayer : Type 0
BlockLayer = Block-F Statement Block Otherwise

abbrev OtherwiseLayer : Type 0
OtherwiseLayer = Otherwise-F Statement Block Otherwise

block_spelled : (x : BlockLayer) → block (roll-Block x) ≡ (λ after. fixed kind.OpenBrace x.open ∷ all (map statement x.statements) (fixed kind.CloseBrace x.close ∷ after))
unfolding statement block otherwise
block_spelled x = fold-roll-Block Spelled Spelled Spelled statement_step block_step otherwise_step x

block_nested : (x : BlockLayer) → in_block (roll-Block x) ≡ 1 + greatest (map in_statement x.statements)
unfolding in_statement in_block in_otherwise
block_nested x = fold-roll-Block ℕ ℕ ℕ statement_depth block_depth otherwise_depth x

otherwise_spelled : (x : OtherwiseLayer) → otherwise (roll-Otherwise x) ≡ (λ after. fixed kind.Else x.word ∷ block x.block after)
unfolding statement block otherwise
otherwise_spelled x = fold-roll-Otherwise Spelled Spelled Spelled statement_step block_step otherwise_step x

otherwise_nested : (x : OtherwiseLayer) → in_otherwise (roll-Otherwise x) ≡ in_block x.block
unfolding in_statement in_block in_otherwise
otherwise_nested x = fold-roll-Otherwise ℕ ℕ ℕ statement_depth block_depth otherwise_depth x

-- a statement begins with neither a closing brace nor `else`
record BeginsStatement (tokens : Tokens) : Type 0 where
  goes : goes_on tokens ≡ true
  no_else : is_next kind.Else tokens ≡ false

step_begins : (w : StepWord) (after : Tokens) → BeginsStatement (step_word_token w ∷ after)
step_begins (step_words.Mint place) after = record { goes = refl; no_else = refl }
step_begins (step_words.Burn place) after = record { goes = refl; no_else = refl }

statement_layer_begins : (x : StatementLayer) (after : Tokens) → BeginsStatement (statement (roll-Statement x) after)
unfolding statement block otherwise
statement_layer_begins (Statement-F.Let word name equals right semicolon) after =
    rw (fold-roll-Statement Spelled Spelled Spelled statement_step block_step otherwise_step (Statement-F.Let word name equals right semicolon)) (record { goes = refl; no_else = refl })
statement_layer_begins (Statement-F.Assign name equals right semicolon) after =
    rw (fold-roll-Statement Spelled Spelled Spelled statement_step block_step otherwise_step (Statement-F.Assign name equals right semicolon)) (record { goes = refl; no_else = refl })
statement_layer_begins (Statement-F.Store word mode start location comma value end semicolon) after =
    rw (fold-roll-Statement Spelled Spelled Spelled statement_step block_step otherwise_step (Statement-F.Store word mode start location comma value end semicolon)) (record { goes = refl; no_else = refl })
statement_layer_begins (Statement-F.Call word callee semicolon) after =
    rw (fold-roll-Statement Spelled Spelled Spelled statement_step block_step otherwise_step (Statement-F.Call word callee semicolon)) (record { goes = refl; no_else = refl })
statement_layer_begins (Statement-F.Parallel word start calls end) after =
    rw (fold-roll-Statement Spelled Spelled Spelled statement_step block_step otherwise_step (Statement-F.Parallel word start calls end)) (record { goes = refl; no_else = refl })
statement_layer_begins (Statement-F.Fence word what semicolon) after =
    rw (fold-roll-Statement Spelled Spelled Spelled statement_step block_step otherwise_step (Statement-F.Fence word what semicolon)) (record { goes = refl; no_else = refl })
statement_layer_begins (Statement-F.If word start holds end body None) after =
    rw (fold-roll-Statement Spelled Spelled Spelled statement_step block_step otherwise_step (Statement-F.If word start holds end body None)) (record { goes = refl; no_else = refl })
statement_layer_begins (Statement-F.If word start holds end body (Some second)) after =
    rw (fold-roll-Statement Spelled Spelled Spelled statement_step block_step otherwise_step (Statement-F.If word start holds end body (Some second))) (record { goes = refl; no_else = refl })
statement_layer_begins (Statement-F.While word start holds end invariant body) after =
    rw (fold-roll-Statement Spelled Spelled Spelled statement_step block_step otherwise_step (Statement-F.While word start holds end invariant body)) (record { goes = refl; no_else = refl })
statement_layer_begins (Statement-F.Assert word start holds end semicolon) after =
    rw (fold-roll-Statement Spelled Spelled Spelled statement_step block_step otherwise_step (Statement-F.Assert word start holds end semicolon)) (record { goes = refl; no_else = refl })
statement_layer_begins (Statement-F.Print word start value end semicolon) after =
    rw (fold-roll-Statement Spelled Spelled Spelled statement_step block_step otherwise_step (Statement-F.Print word start value end semicolon)) (record { goes = refl; no_else = refl })
statement_layer_begins (Statement-F.Free word start location end semicolon) after =
    rw (fold-roll-Statement Spelled Spelled Spelled statement_step block_step otherwise_step (Statement-F.Free word start location end semicolon)) (record { goes = refl; no_else = refl })
statement_layer_begins (Statement-F.Return word value semicolon) after =
    rw (fold-roll-Statement Spelled Spelled Spelled statement_step block_step otherwise_step (Statement-F.Return word value semicolon)) (record { goes = refl; no_else = refl })
statement_layer_begins (Statement-F.Bank word name semicolon) after =
    rw (fold-roll-Statement Spelled Spelled Spelled statement_step block_step otherwise_step (Statement-F.Bank word name semicolon)) (record { goes = refl; no_else = refl })
statement_layer_begins (Statement-F.Step timed semicolon) after =
    rw (fold-roll-Statement Spelled Spelled Spelled statement_step block_step otherwise_step (Statement-F.Step timed semicolon))
    (step_begins timed.word (fixed kind.OpenParen timed.open ∷ fixed kind.Name timed.bank ∷ fixed kind.Comma timed.comma ∷
    expression timed.amount (fixed kind.CloseParen timed.close ∷ fixed kind.Semicolon semicolon ∷ after)))

statement_begins : (s : Statement) (after : Tokens) → BeginsStatement (statement s after)
statement_begins s after = subst (λ (u : Statement). BeginsStatement (statement u after)) (roll-out-Statement s) (statement_layer_begins (out-Statement s) after)

statement_goes : (s : Statement) (after : Tokens) → goes_on (statement s after) ≡ true
statement_goes s after = let b = statement_begins s after in b.goes

statement_no_else : (s : Statement) (after : Tokens) → is_next kind.Else (statement s after) ≡ false
statement_no_else s after = let b = statement_begins s after in b.no_else

block_layer : (room : ℕ) (inner : Reader Statement) → (0 < room → StatementsRead (room - 1) inner) → (x : BlockLayer) (after : Tokens)
    → in_block (roll-Block x) ≤ room → Reads (read_block_of room inner) (block (roll-Block x)) (roll-Block x) after
unfolding read_block_of
block_layer room inner each x after fits =
    let deep = block_nested x in
    let roomy : 0 < room = omega arith in
    let lines = many_read goes_on inner statement in_statement (room - 1) (λ ts. is_next kind.Else ts ≡ false)
    statement_goes statement_no_else (each roomy) x.statements (fixed kind.CloseBrace x.close ∷ after) (omega arith) refl refl in
    let e = lines.reads (length (all (map statement x.statements) (fixed kind.CloseBrace x.close ∷ after))) (omega arith) in
    let g = lines.grows in
    rw (block_spelled x) (record { reads = rw (open_reads, e) refl; grows = omega arith })

block_of_reads : (room : ℕ) (inner : Reader Statement) → (0 < room → StatementsRead (room - 1) inner) → (b : Block) (after : Tokens)
    → in_block b ≤ room → Reads (read_block_of room inner) (block b) b after
unfolding read_block_of
block_of_reads room inner each b after =
    subst (λ (u : Block). in_block u ≤ room → Reads (read_block_of room inner) (block u) u after) (roll-out-Block b) (block_layer room inner each (out-Block b) after)

block_no_inv : (b : Block) (after : Tokens) → is_next kind.Inv (block b after) ≡ false
block_no_inv b after = subst (λ (u : Block). is_next kind.Inv (block u after) ≡ false) (roll-out-Block b) (rw (block_spelled (out-Block b)) refl)

pub block_no_ensures : (b : Block) (after : Tokens) → is_next kind.Ensures (block b after) ≡ false
block_no_ensures b after = subst (λ (u : Block). is_next kind.Ensures (block u after) ≡ false) (roll-out-Block b) (rw (block_spelled (out-Block b)) refl)

pub block_no_requires : (b : Block) (after : Tokens) → is_next kind.Requires (block b after) ≡ false
block_no_requires b after = subst (λ (u : Block). is_next kind.Requires (block u after) ≡ false) (roll-out-Block b) (rw (block_spelled (out-Block b)) refl)

otherwise_layer : (room : ℕ) (inner : Reader Statement) → (0 < room → StatementsRead (room - 1) inner) → (x : OtherwiseLayer) (after : Tokens)
    → in_otherwise (roll-Otherwise x) ≤ room → Reads (read_otherwise room inner) (otherwise (roll-Otherwise x)) (roll-Otherwise x) after
unfolding read_block_of read_otherwise
otherwise_layer room inner each x after fits =
    let deep = otherwise_nested x in
    let one = block_of_reads room inner each x.block after (omega arith) in let g = one.grows in
    rw (otherwise_spelled x) (record { reads = rw (one.reads) refl; grows = omega arith })

otherwise_reads : (room : ℕ) (inner : Reader Statement) → (0 < room → StatementsRead (room - 1) inner) → (o : Otherwise) (after : Tokens)
    → in_otherwise o ≤ room → Reads (read_otherwise room inner) (otherwise o) o after
unfolding read_block_of read_otherwise
otherwise_reads room inner each o after =
    subst (λ (u : Otherwise). in_otherwise u ≤ room → Reads (read_otherwise room inner) (otherwise u) u after) (roll-out-Otherwise o)
    (otherwise_layer room inner each (out-Otherwise o) after)

otherwise_begins : (o : Otherwise) (after : Tokens) → is_next kind.Else (otherwise o after) ≡ true
otherwise_begins o after = subst (λ (u : Otherwise). is_next kind.Else (otherwise u after) ≡ true) (roll-out-Otherwise o) (rw (otherwise_spelled (out-Otherwise o)) refl)

-- ---- statements, given how those with one level less room are read

-- what a token step is read as depends on its word, of which there are two
dispatched : (room : ℕ) (inner : Reader Statement) (w : StepWord) (after : Tokens)
    → read_statement_of room inner (step_word_token w ∷ after) ≡ read_step_statement room (step_word_token w ∷ after)
unfolding read_acquire_permission read_addend read_allocate read_allocation read_arguments read_arm read_assert read_assertion_of read_assign read_bank read_bank_amount read_bank_word read_block_of read_call read_called read_choice read_clause_of read_compare_and_swap read_compared read_comparison read_comparison_to read_condition read_conjunct read_enclosed read_excluded_set read_expression_of read_fence read_fence_kind read_free read_group read_held read_if read_initialised read_let read_load read_lowered read_mode read_multiplier read_named_or_related read_negative read_next_argument read_optional_arguments read_optional_clause read_optional_expression read_optional_otherwise read_optional_share read_optional_with read_otherwise read_pair read_parallel read_parallel_call read_part_of read_pattern read_permission read_points_to read_print read_raised read_related read_relation read_release read_release_permission read_release_word read_return read_right_side read_share read_shared read_shared_cell read_sign read_simple_statement read_step read_step_line read_step_statement read_step_word read_store read_term read_test read_triple read_update read_update_permission read_update_word read_usage read_while read_with
dispatched room inner (step_words.Mint place) after = refl
dispatched room inner (step_words.Burn place) after = refl

step_dispatched : (room : ℕ) (inner : Reader Statement) (s : Step) (after : Tokens)
    → read_statement_of room inner (step s after) ≡ read_step_statement room (step s after)
unfolding read_acquire_permission read_addend read_allocate read_allocation read_arguments read_arm read_assert read_assertion_of read_assign read_bank read_bank_amount read_bank_word read_block_of read_call read_called read_choice read_clause_of read_compare_and_swap read_compared read_comparison read_comparison_to read_condition read_conjunct read_enclosed read_excluded_set read_expression_of read_fence read_fence_kind read_free read_group read_held read_if read_initialised read_let read_load read_lowered read_mode read_multiplier read_named_or_related read_negative read_next_argument read_optional_arguments read_optional_clause read_optional_expression read_optional_otherwise read_optional_share read_optional_with read_otherwise read_pair read_parallel read_parallel_call read_part_of read_pattern read_permission read_points_to read_print read_raised read_related read_relation read_release read_release_permission read_release_word read_return read_right_side read_share read_shared read_shared_cell read_sign read_simple_statement read_step read_step_line read_step_statement read_step_word read_store read_term read_test read_triple read_update read_update_permission read_update_word read_usage read_while read_with
step_dispatched room inner s after = dispatched room inner s.word (fixed kind.OpenParen s.open ∷ fixed kind.Name s.bank ∷ fixed kind.Comma s.comma ∷
    expression s.amount (fixed kind.CloseParen s.close ∷ after))

statement_layer : (room : ℕ) (inner : Reader Statement) → (0 < room → StatementsRead (room - 1) inner) → (x : StatementLayer) (after : Tokens)
    → in_statement (roll-Statement x) ≤ room → is_next kind.Else after ≡ false
    → Reads (read_statement_of room inner) (statement (roll-Statement x)) (roll-Statement x) after
unfolding statement block otherwise in_statement in_block in_otherwise read_acquire_permission read_addend read_allocate read_allocation read_arguments read_arm read_assert read_assertion_of read_assign read_bank read_bank_amount read_bank_word read_block_of read_call read_called read_choice read_clause_of read_compare_and_swap read_compared read_comparison read_comparison_to read_condition read_conjunct read_enclosed read_excluded_set read_expression_of read_fence read_fence_kind read_free read_group read_held read_if read_initialised read_let read_load read_lowered read_mode read_multiplier read_named_or_related read_negative read_next_argument read_optional_arguments read_optional_clause read_optional_expression read_optional_otherwise read_optional_share read_optional_with read_otherwise read_pair read_parallel read_parallel_call read_part_of read_pattern read_permission read_points_to read_print read_raised read_related read_relation read_release read_release_permission read_release_word read_return read_right_side read_share read_shared read_shared_cell read_sign read_simple_statement read_step read_step_line read_step_statement read_step_word read_store read_term read_test read_triple read_update read_update_permission read_update_word read_usage read_while read_with
statement_layer room inner each (Statement-F.Let word name equals right semicolon) after fits stops =
    let deep : in_statement (roll-Statement (Statement-F.Let word name equals right semicolon)) ≡ in_right_side right = fold-roll-Statement ℕ ℕ ℕ statement_depth block_depth otherwise_depth (Statement-F.Let word name equals right semicolon) in
    let one = right_side_reads room right (fixed kind.Semicolon semicolon ∷ after) (omega arith) (record { no_star = refl; no_sign = refl }) refl in let g = one.grows in
    rw (fold-roll-Statement Spelled Spelled Spelled statement_step block_step otherwise_step (Statement-F.Let word name equals right semicolon)) (record { reads = rw (one.reads) refl; grows = omega arith })
statement_layer room inner each (Statement-F.Assign name equals right semicolon) after fits stops =
    let deep : in_statement (roll-Statement (Statement-F.Assign name equals right semicolon)) ≡ in_right_side right = fold-roll-Statement ℕ ℕ ℕ statement_depth block_depth otherwise_depth (Statement-F.Assign name equals right semicolon) in
    let one = right_side_reads room right (fixed kind.Semicolon semicolon ∷ after) (omega arith) (record { no_star = refl; no_sign = refl }) refl in let g = one.grows in
    rw (fold-roll-Statement Spelled Spelled Spelled statement_step block_step otherwise_step (Statement-F.Assign name equals right semicolon)) (record { reads = rw (one.reads) refl; grows = omega arith })
statement_layer room inner each (Statement-F.Store word mode start location comma value end semicolon) after fits stops =
    let deep : in_statement (roll-Statement (Statement-F.Store word mode start location comma value end semicolon)) ≡ 1 + max (in_expression location) (in_expression value) = fold-roll-Statement ℕ ℕ ℕ statement_depth block_depth otherwise_depth (Statement-F.Store word mode start location comma value end semicolon) in
    let p : Pair = record { «open» = start; location = location; value = record { comma = comma; value = value }; close = end } in
    let one = pair_reads room p (fixed kind.Semicolon semicolon ∷ after) (omega arith) in let g = one.grows in
    rw (fold-roll-Statement Spelled Spelled Spelled statement_step block_step otherwise_step (Statement-F.Store word mode start location comma value end semicolon)) (record { reads = rw (mode_reads, one.reads) refl; grows = omega arith })
statement_layer room inner each (Statement-F.Call word callee semicolon) after fits stops =
    let deep : in_statement (roll-Statement (Statement-F.Call word callee semicolon)) ≡ in_use callee = fold-roll-Statement ℕ ℕ ℕ statement_depth block_depth otherwise_depth (Statement-F.Call word callee semicolon) in
    let one = usage_reads room callee (fixed kind.Semicolon semicolon ∷ after) (omega arith) in let g = one.grows in
    rw (fold-roll-Statement Spelled Spelled Spelled statement_step block_step otherwise_step (Statement-F.Call word callee semicolon)) (record { reads = rw (one.reads) refl; grows = omega arith })
statement_layer room inner each (Statement-F.Parallel word start calls end) after fits stops =
    let deep : in_statement (roll-Statement (Statement-F.Parallel word start calls end)) ≡ 1 + greatest (map in_parallel_call calls) = fold-roll-Statement ℕ ℕ ℕ statement_depth block_depth otherwise_depth (Statement-F.Parallel word start calls end) in
    let roomy : 0 < room = omega arith in
    let lines = many_read (is_next kind.Name) (read_parallel_call (room - 1)) parallel_call in_parallel_call (room - 1) (λ ts. Unit {0})
    (λ c ts. refl) (λ c ts. tt) (λ c ts deep ends. parallel_call_reads (room - 1) c ts deep) calls (fixed kind.CloseBrace end ∷ after) (omega arith) tt refl in
    let e = lines.reads (length (all (map parallel_call calls) (fixed kind.CloseBrace end ∷ after))) (omega arith) in let g = lines.grows in
    rw (fold-roll-Statement Spelled Spelled Spelled statement_step block_step otherwise_step (Statement-F.Parallel word start calls end)) (record { reads = rw (open_reads, e) refl; grows = omega arith })
statement_layer room inner each (Statement-F.Fence word what semicolon) after fits stops =
    let deep : in_statement (roll-Statement (Statement-F.Fence word what semicolon)) ≡ in_fence what = fold-roll-Statement ℕ ℕ ℕ statement_depth block_depth otherwise_depth (Statement-F.Fence word what semicolon) in
    let one = fence_reads room what (fixed kind.Semicolon semicolon ∷ after) (omega arith) in let g = one.grows in
    rw (fold-roll-Statement Spelled Spelled Spelled statement_step block_step otherwise_step (Statement-F.Fence word what semicolon)) (record { reads = rw (one.reads) refl; grows = omega arith })
statement_layer room inner each (Statement-F.If word start holds end body None) after fits stops =
    let deep : in_statement (roll-Statement (Statement-F.If word start holds end body None)) ≡ max (1 + in_condition holds) (max (in_block body) 0) = fold-roll-Statement ℕ ℕ ℕ statement_depth block_depth otherwise_depth (Statement-F.If word start holds end body None) in
    let t : Test = record { word = word; «open» = start; condition = holds; close = end } in
    let second = block_of_reads room inner each body after (omega arith) in
    let first = test_reads kind.If room t (block body after) (omega arith) in
    let g = first.grows in let g' = second.grows in
    rw (fold-roll-Statement Spelled Spelled Spelled statement_step block_step otherwise_step (Statement-F.If word start holds end body None)) (record { reads = rw (first.reads, second.reads, stops) refl; grows = omega arith })
statement_layer room inner each (Statement-F.If word start holds end body (Some second)) after fits stops =
    let deep : in_statement (roll-Statement (Statement-F.If word start holds end body (Some second))) ≡ max (1 + in_condition holds) (max (in_block body) (in_otherwise second)) = fold-roll-Statement ℕ ℕ ℕ statement_depth block_depth otherwise_depth (Statement-F.If word start holds end body (Some second)) in
    let t : Test = record { word = word; «open» = start; condition = holds; close = end } in
    let third = otherwise_reads room inner each second after (omega arith) in
    let second_one = block_of_reads room inner each body (otherwise second after) (omega arith) in
    let first = test_reads kind.If room t (block body (otherwise second after)) (omega arith) in
    let g = first.grows in let g' = second_one.grows in let g'' = third.grows in
    rw (fold-roll-Statement Spelled Spelled Spelled statement_step block_step otherwise_step (Statement-F.If word start holds end body (Some second))) (record { reads = rw (first.reads, second_one.reads, otherwise_begins second after, third.reads) refl; grows = omega arith })
statement_layer room inner each (Statement-F.While word start holds end invariant body) after fits stops =
    let deep : in_statement (roll-Statement (Statement-F.While word start holds end invariant body)) ≡ max (1 + in_condition holds) (max (in_optional_clause invariant) (in_block body)) = fold-roll-Statement ℕ ℕ ℕ statement_depth block_depth otherwise_depth (Statement-F.While word start holds end invariant body) in
    let t : Test = record { word = word; «open» = start; condition = holds; close = end } in
    let third = block_of_reads room inner each body after (omega arith) in
    let second = optional_clause_reads kind.Inv room invariant (block body after) (omega arith) (block_no_inv body after) in
    let first = test_reads kind.While room t (optional_clause kind.Inv invariant (block body after)) (omega arith) in
    let g = first.grows in let g' = second.grows in let g'' = third.grows in
    rw (fold-roll-Statement Spelled Spelled Spelled statement_step block_step otherwise_step (Statement-F.While word start holds end invariant body)) (record { reads = rw (first.reads, second.reads, third.reads) refl; grows = omega arith })
statement_layer room inner each (Statement-F.Assert word start holds end semicolon) after fits stops =
    let deep : in_statement (roll-Statement (Statement-F.Assert word start holds end semicolon)) ≡ 1 + in_condition holds = fold-roll-Statement ℕ ℕ ℕ statement_depth block_depth otherwise_depth (Statement-F.Assert word start holds end semicolon) in
    let t : Test = record { word = word; «open» = start; condition = holds; close = end } in
    let one = test_reads kind.Assert room t (fixed kind.Semicolon semicolon ∷ after) (omega arith) in let g = one.grows in
    rw (fold-roll-Statement Spelled Spelled Spelled statement_step block_step otherwise_step (Statement-F.Assert word start holds end semicolon)) (record { reads = rw (one.reads) refl; grows = omega arith })
statement_layer room inner each (Statement-F.Print word start value end semicolon) after fits stops =
    let deep : in_statement (roll-Statement (Statement-F.Print word start value end semicolon)) ≡ 1 + in_expression value = fold-roll-Statement ℕ ℕ ℕ statement_depth block_depth otherwise_depth (Statement-F.Print word start value end semicolon) in
    let e : Enclosed = record { word = word; «open» = start; expression = value; close = end } in
    let one = enclosed_reads kind.Print room e (fixed kind.Semicolon semicolon ∷ after) (omega arith) in let g = one.grows in
    rw (fold-roll-Statement Spelled Spelled Spelled statement_step block_step otherwise_step (Statement-F.Print word start value end semicolon)) (record { reads = rw (one.reads) refl; grows = omega arith })
statement_layer room inner each (Statement-F.Free word start location end semicolon) after fits stops =
    let deep : in_statement (roll-Statement (Statement-F.Free word start location end semicolon)) ≡ 1 + in_expression location = fold-roll-Statement ℕ ℕ ℕ statement_depth block_depth otherwise_depth (Statement-F.Free word start location end semicolon) in
    let e : Enclosed = record { word = word; «open» = start; expression = location; close = end } in
    let one = enclosed_reads kind.Free room e (fixed kind.Semicolon semicolon ∷ after) (omega arith) in let g = one.grows in
    rw (fold-roll-Statement Spelled Spelled Spelled statement_step block_step otherwise_step (Statement-F.Free word start location end semicolon)) (record { reads = rw (one.reads) refl; grows = omega arith })
statement_layer room inner each (Statement-F.Return word value semicolon) after fits stops =
    let deep : in_statement (roll-Statement (Statement-F.Return word value semicolon)) ≡ in_optional_expression value = fold-roll-Statement ℕ ℕ ℕ statement_depth block_depth otherwise_depth (Statement-F.Return word value semicolon) in
    let one = optional_expression_reads room value (fixed kind.Semicolon semicolon ∷ after) (omega arith) refl (record { no_star = refl; no_sign = refl }) in let g = one.grows in
    rw (fold-roll-Statement Spelled Spelled Spelled statement_step block_step otherwise_step (Statement-F.Return word value semicolon)) (record { reads = rw (one.reads) refl; grows = omega arith })
statement_layer room inner each (Statement-F.Bank word name semicolon) after fits stops =
    let deep : in_statement (roll-Statement (Statement-F.Bank word name semicolon)) ≡ 0 = fold-roll-Statement ℕ ℕ ℕ statement_depth block_depth otherwise_depth (Statement-F.Bank word name semicolon) in
    rw (fold-roll-Statement Spelled Spelled Spelled statement_step block_step otherwise_step (Statement-F.Bank word name semicolon)) (record { reads = refl; grows = omega arith })
statement_layer room inner each (Statement-F.Step timed semicolon) after fits stops =
    let deep : in_statement (roll-Statement (Statement-F.Step timed semicolon)) ≡ in_step timed = fold-roll-Statement ℕ ℕ ℕ statement_depth block_depth otherwise_depth (Statement-F.Step timed semicolon) in
    let one = step_reads room timed (fixed kind.Semicolon semicolon ∷ after) (omega arith) in let g = one.grows in
    rw (fold-roll-Statement Spelled Spelled Spelled statement_step block_step otherwise_step (Statement-F.Step timed semicolon))
    (record { reads = step_dispatched room inner timed (fixed kind.Semicolon semicolon ∷ after) ∙ rw (one.reads) refl; grows = omega arith })

pub statements_read : (room : ℕ) → StatementsRead room (read_statement room)
unfolding read_acquire_permission read_addend read_allocate read_allocation read_arguments read_arm read_assert read_assertion_of read_assign read_bank read_bank_amount read_bank_word read_block_of read_call read_called read_choice read_clause_of read_compare_and_swap read_compared read_comparison read_comparison_to read_condition read_conjunct read_enclosed read_excluded_set read_expression_of read_fence read_fence_kind read_free read_group read_held read_if read_initialised read_let read_load read_lowered read_mode read_multiplier read_named_or_related read_negative read_next_argument read_optional_arguments read_optional_clause read_optional_expression read_optional_otherwise read_optional_share read_optional_with read_otherwise read_pair read_parallel read_parallel_call read_part_of read_pattern read_permission read_points_to read_print read_raised read_related read_relation read_release read_release_permission read_release_word read_return read_right_side read_share read_shared read_shared_cell read_sign read_simple_statement read_step read_step_line read_step_statement read_step_word read_store read_term read_test read_triple read_update read_update_permission read_update_word read_usage read_while read_with
statements_read zero s after =
    subst (λ (u : Statement). in_statement u ≤ 0 → is_next kind.Else after ≡ false → Reads (read_statement 0) (statement u) u after) (roll-out-Statement s)
    (statement_layer 0 (λ tokens. Wrong tokens) (λ h. absurd (omega arith)) (out-Statement s) after)
statements_read (suc room) s after =
    subst (λ (u : Statement). in_statement u ≤ suc room → is_next kind.Else after ≡ false → Reads (read_statement (suc room)) (statement u) u after) (roll-out-Statement s)
    (statement_layer (suc room) (read_statement room) (λ h. subst (λ (k : ℕ). StatementsRead k (read_statement room)) (omega arith) (statements_read room)) (out-Statement s) after)

pub block_reads : (room : ℕ) (b : Block) (after : Tokens) → in_block b ≤ room → Reads (read_block room) (block b) b after
unfolding read_acquire_permission read_addend read_allocate read_allocation read_arguments read_arm read_assert read_assertion_of read_assign read_bank read_bank_amount read_bank_word read_block_of read_call read_called read_choice read_clause_of read_compare_and_swap read_compared read_comparison read_comparison_to read_condition read_conjunct read_enclosed read_excluded_set read_expression_of read_fence read_fence_kind read_free read_group read_held read_if read_initialised read_let read_load read_lowered read_mode read_multiplier read_named_or_related read_negative read_next_argument read_optional_arguments read_optional_clause read_optional_expression read_optional_otherwise read_optional_share read_optional_with read_otherwise read_pair read_parallel read_parallel_call read_part_of read_pattern read_permission read_points_to read_print read_raised read_related read_relation read_release read_release_permission read_release_word read_return read_right_side read_share read_shared read_shared_cell read_sign read_simple_statement read_step read_step_line read_step_statement read_step_word read_store read_term read_test read_triple read_update read_update_permission read_update_word read_usage read_while read_with
block_reads room = block_of_reads room (read_statement (room - 1)) (λ h. statements_read (room - 1))
