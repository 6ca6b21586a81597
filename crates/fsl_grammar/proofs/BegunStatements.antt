-- The same of right sides, statements and blocks.
use Rattle.std.proofs.Common.{ℕ, zero, suc, ◌-◌, ◌||◌, List, [], refl, Option, Some, None}
use Rattle.fsl_token.specs.declared.kind.TokenKind.{TokenKind}
use Rattle.fsl_tree.specs.SpelledExpressions.{all}
use Rattle.fsl_tree.specs.declared.declaration.Clause.{Clause}
use Rattle.fsl_tree.specs.declared.expression.Expression.{Expression}
use Rattle.fsl_tree.specs.declared.right_side.RightSide.{RightSide}
use Rattle.fsl_tree.specs.declared.right_side.UpdateWord.{UpdateWord}
use Rattle.fsl_tree.specs.declared.right_side.Mode.{Mode}
use Rattle.fsl_tree.specs.declared.right_side.With.{With}
use Rattle.fsl_tree.specs.declared.right_side.StepLine.{StepLine}
use Rattle.fsl_tree.specs.declared.right_side.Step.{Step}
use Rattle.fsl_tree.specs.declared.right_side.StepWord.{StepWord}
use Rattle.fsl_tree.specs.declared.statement.ParallelCall.{ParallelCall}
use Rattle.fsl_tree.specs.declared.statement.FenceKind.{FenceKind}
use Rattle.fsl_tree.specs.declared.statement.Statement.{Statement}
use Rattle.fsl_tree.specs.declared.statement.Statement.TheOpen.{Statement-F}
use Rattle.fsl_tree.specs.declared.statement.Statement.TheViews.{roll-Statement, roll-Block, roll-Otherwise}
use Rattle.fsl_tree.specs.declared.statement.Block.{Block}
use Rattle.fsl_grammar.specs.Heads.{is_next}
use Rattle.fsl_grammar.specs.Readers.{Wrong, Reader}
use Rattle.fsl_grammar.specs.ReadStatements.{read_mode, read_shared_cell, read_shared, read_allocation, read_update_word, read_step_word, read_step, read_step_line, is_step_next, read_with, read_optional_with, read_load, read_compare_and_swap, read_update, read_called, read_allocate, read_right_side, read_let, read_assign, read_store, read_call, read_parallel_call, read_parallel, read_release_word, read_release, read_fence_kind, read_fence, read_assert, read_print, read_free, read_optional_expression, read_return, read_bank, read_step_statement, read_simple_statement, goes_on, read_block_of, read_otherwise, read_optional_otherwise, read_if, read_optional_clause, read_while, read_statement_of, read_statement, read_block}
use Rattle.fsl_tree.specs.SpelledStatements.{mode_token, cell_token, update_word_token, step_word_token, step, step_line, optional_with, allocation, right_side, optional_clause, optional_expression, parallel_call, release_word_token, fence, statement, block, otherwise, optional_otherwise}
use Rattle.fsl_tree.specs.Spelling.{invariant}
use Rattle.fsl_tree.specs.declared.expression.Use.{Use}
use Rattle.fsl_grammar.specs.declared.groups.Enclosed.{Enclosed}
use Rattle.fsl_grammar.specs.declared.groups.Test.{Test}
use Rattle.fsl_grammar.specs.declared.groups.Pair.{Pair}
use Rattle.fsl_grammar.specs.declared.groups.Triple.{Triple}
use Rattle.fsl_token.specs.declared.kind.TokenKind.TheVariants as kind
use Rattle.fsl_tree.specs.declared.right_side.RightSide.TheVariants as right_sides
use Rattle.fsl_tree.specs.declared.right_side.Allocation.TheVariants as allocations
use Rattle.fsl_tree.specs.declared.right_side.SharedCell.TheVariants as cells
use Rattle.fsl_tree.specs.declared.right_side.UpdateWord.TheVariants as update_words
use Rattle.fsl_tree.specs.declared.right_side.Mode.TheVariants as modes
use Rattle.fsl_tree.specs.declared.right_side.StepWord.TheVariants as step_words
use Rattle.fsl_tree.specs.declared.statement.FenceKind.TheVariants as fences
use Rattle.fsl_tree.specs.declared.statement.ReleaseWord.TheVariants as release_words
use Rattle.fsl_grammar.proofs.Layers.{if_spells, statement_spells, block_spells, otherwise_spells}
use Rattle.fsl_grammar.proofs.Layers.{BlockLayer, OtherwiseLayer, StatementLayer}
use Rattle.fsl_base.specs.declared.span.Span.{Span}
use Rattle.fsl_grammar.proofs.Shortest.{some_expression, some_use, some_pair, some_triple, some_assertion, some_allocation, some_right_side, some_fence_kind, some_block, some_statement}
use Rattle.fsl_grammar.proofs.Sound.{one, some_with}
use Rattle.fsl_grammar.proofs.Begun.{complete_by, done_by, AllGo, complete, done, fails, and_then, when, nowhere, take_goes, open_goes, many_of_goes}
use Rattle.fsl_grammar.proofs.BegunExpressions.{expression_goes, usage_goes}
use Rattle.fsl_grammar.proofs.BegunGroups.{enclosed_goes, test_goes, pair_goes, triple_goes}
use Rattle.fsl_grammar.proofs.BegunAssertions.{assertion_goes, clause_goes}

pub mode_goes : AllGo (one mode_token) read_mode
unfolding read_mode
mode_goes ts =
    when (is_next kind.Na ts) (and_then (take_goes kind.Na ts) (λ place. complete (modes.NonAtomic place) _ (λ after. refl)) (λ place l1.
    done (modes.NonAtomic place) (λ after. refl)))
    (when (is_next kind.Rlx ts) (and_then (take_goes kind.Rlx ts) (λ place. complete (modes.Relaxed place) _ (λ after. refl)) (λ place l1.
    done (modes.Relaxed place) (λ after. refl)))
    (when (is_next kind.Acq ts) (and_then (take_goes kind.Acq ts) (λ place. complete (modes.Acquire place) _ (λ after. refl)) (λ place l1.
    done (modes.Acquire place) (λ after. refl)))
    (when (is_next kind.Rel ts) (and_then (take_goes kind.Rel ts) (λ place. complete (modes.Release place) _ (λ after. refl)) (λ place l1.
    done (modes.Release place) (λ after. refl)))
    (and_then (take_goes kind.AcqRel ts) (λ place. complete (modes.AcquireRelease place) _ (λ after. refl)) (λ place l1.
    done (modes.AcquireRelease place) (λ after. refl))))))

pub shared_cell_goes : AllGo (one cell_token) read_shared_cell
unfolding read_shared_cell
shared_cell_goes ts =
    when (is_next kind.Acq ts) (and_then (take_goes kind.Acq ts) (λ place. complete (cells.Acq place) _ (λ after. refl)) (λ place l1.
    done (cells.Acq place) (λ after. refl)))
    (and_then (take_goes kind.Rmw ts) (λ place. complete (cells.Rmw place) _ (λ after. refl)) (λ place l1.
    done (cells.Rmw place) (λ after. refl)))

pub shared_goes : (room : ℕ) → AllGo allocation (read_shared room)
unfolding read_shared
shared_goes room ts =
    and_then (shared_cell_goes ts) (λ cell. complete (allocations.Shared cell some_use) _ (λ after. refl)) (λ cell l1.
    and_then (usage_goes room l1) (λ invariant. complete (allocations.Shared cell invariant) _ (λ after. refl)) (λ invariant l2.
    done (allocations.Shared cell invariant) (λ after. refl)))

pub allocation_goes : (room : ℕ) → AllGo allocation (read_allocation room)
unfolding read_allocation
allocation_goes room ts =
    when (is_next kind.Na ts) (and_then (take_goes kind.Na ts) (λ word. complete (allocations.NonAtomic word) _ (λ after. refl)) (λ word l1.
    done (allocations.NonAtomic word) (λ after. refl)))
    (shared_goes room ts)

pub update_word_goes : AllGo (one update_word_token) read_update_word
unfolding read_update_word
update_word_goes ts =
    when (is_next kind.FetchAdd ts) (and_then (take_goes kind.FetchAdd ts) (λ place. complete (update_words.FetchAdd place) _ (λ after. refl))
    (λ place l1.
    done (update_words.FetchAdd place) (λ after. refl)))
    (and_then (take_goes kind.Exchange ts) (λ place. complete (update_words.Exchange place) _ (λ after. refl)) (λ place l1.
    done (update_words.Exchange place) (λ after. refl)))

pub step_word_goes : AllGo (one step_word_token) read_step_word
unfolding read_step_word
step_word_goes ts =
    when (is_next kind.Mint ts) (and_then (take_goes kind.Mint ts) (λ place. complete (step_words.Mint place) _ (λ after. refl)) (λ place l1.
    done (step_words.Mint place) (λ after. refl)))
    (and_then (take_goes kind.Burn ts) (λ place. complete (step_words.Burn place) _ (λ after. refl)) (λ place l1.
    done (step_words.Burn place) (λ after. refl)))

abbrev step_made : StepWord → Span → Span → Span → Expression → Span → Step
step_made word start bank comma amount end =
    record { word = word; «open» = start; bank = bank; comma = comma; amount = amount; close = end }

pub step_goes : (room : ℕ) → AllGo step (read_step room)
unfolding read_step
step_goes room ts =
    and_then (step_word_goes ts) (λ word. complete (step_made word nowhere nowhere nowhere some_expression nowhere) _ (λ after. refl)) (λ word l1.
    and_then (open_goes kind.OpenParen room l1) (λ start. complete (step_made word start nowhere nowhere some_expression nowhere) _
    (λ after. refl)) (λ start l2.
    and_then (take_goes kind.Name l2) (λ bank. complete (step_made word start bank nowhere some_expression nowhere) _ (λ after. refl)) (λ bank l3.
    and_then (take_goes kind.Comma l3) (λ comma. complete (step_made word start bank comma some_expression nowhere) _ (λ after. refl))
    (λ comma l4.
    and_then (expression_goes (room - 1) l4) (λ amount. complete (step_made word start bank comma amount nowhere) _ (λ after. refl)) (λ amount l5.
    and_then (take_goes kind.CloseParen l5) (λ end. complete (step_made word start bank comma amount end) _ (λ after. refl)) (λ end l6.
    done (step_made word start bank comma amount end) (λ after. refl)))))))

pub step_line_goes : (room : ℕ) → AllGo step_line (read_step_line room)
unfolding read_step_line
step_line_goes room ts =
    and_then (step_goes room ts) (λ step. complete (record { step = step; semicolon = nowhere }) _ (λ after. refl)) (λ step l1.
    and_then (take_goes kind.Semicolon l1) (λ semicolon. complete (record { step = step; semicolon = semicolon }) _ (λ after. refl))
    (λ semicolon l2.
    done (record { step = step; semicolon = semicolon }) (λ after. refl)))

abbrev with_made : Span → Span → List StepLine → Span → With
with_made word start steps end =
    record { word = word; «open» = start; steps = steps; close = end }

pub with_goes : (room : ℕ) → AllGo some_with (read_with room)
unfolding read_with
with_goes room ts =
    and_then (take_goes kind.With ts) (λ word. complete (with_made word nowhere [] nowhere) _ (λ after. refl)) (λ word l1.
    and_then (open_goes kind.OpenBrace room l1) (λ start. complete (with_made word start [] nowhere) _ (λ after. refl)) (λ start l2.
    and_then (many_of_goes is_step_next (step_line_goes (room - 1)) l2) (λ steps. complete (with_made word start steps nowhere) _
    (λ after. refl)) (λ steps l3.
    and_then (take_goes kind.CloseBrace l3) (λ end. complete (with_made word start steps end) _ (λ after. refl)) (λ end l4.
    done (with_made word start steps end) (λ after. refl)))))

pub optional_with_goes : (room : ℕ) → AllGo optional_with (read_optional_with room)
unfolding read_optional_with
optional_with_goes room ts =
    when (is_next kind.With ts) (and_then (with_goes room ts) (λ w. complete (Some w) _ (λ after. refl)) (λ w l1.
    done (Some w) (λ after. refl)))
    (done None (λ after. refl))

pub load_goes : (room : ℕ) → AllGo right_side (read_load room)
unfolding read_load
load_goes room ts =
    and_then (take_goes kind.Load ts) (λ word. complete (right_sides.Load word (modes.NonAtomic nowhere) nowhere some_expression nowhere) _
    (λ after. refl)) (λ word l1.
    and_then (mode_goes l1) (λ mode. complete (right_sides.Load word mode nowhere some_expression nowhere) _ (λ after. refl)) (λ mode l2.
    and_then (open_goes kind.OpenParen room l2) (λ start. complete (right_sides.Load word mode start some_expression nowhere) _
    (λ after. refl)) (λ start l3.
    and_then (expression_goes (room - 1) l3) (λ location. complete (right_sides.Load word mode start location nowhere) _ (λ after. refl))
    (λ location l4.
    and_then (take_goes kind.CloseParen l4) (λ end. complete (right_sides.Load word mode start location end) _ (λ after. refl)) (λ end l5.
    done (right_sides.Load word mode start location end) (λ after. refl))))))

abbrev compare_and_swap_made : Span → Mode → Mode → Triple → Option With → RightSide
compare_and_swap_made word success failure t timed =
    right_sides.CompareAndSwap word success failure t.open t.location t.expected.comma t.expected.value t.new.comma t.new.value t.close timed

pub compare_and_swap_goes : (room : ℕ) → AllGo right_side (read_compare_and_swap room)
unfolding read_compare_and_swap
compare_and_swap_goes room ts =
    and_then (take_goes kind.Cas ts)
    (λ word. complete (compare_and_swap_made word (modes.NonAtomic nowhere) (modes.NonAtomic nowhere) some_triple None) _ (λ after. refl))
    (λ word l1.
    and_then (mode_goes l1) (λ success. complete (compare_and_swap_made word success (modes.NonAtomic nowhere) some_triple None) _
    (λ after. refl)) (λ success l2.
    and_then (mode_goes l2) (λ failure. complete (compare_and_swap_made word success failure some_triple None) _ (λ after. refl)) (λ failure l3.
    and_then (triple_goes room l3) (λ t. complete (compare_and_swap_made word success failure t None) _ (λ after. refl)) (λ t l4.
    and_then (optional_with_goes room l4) (λ timed. complete (compare_and_swap_made word success failure t timed) _ (λ after. refl)) (λ timed l5.
    done (compare_and_swap_made word success failure t timed) (λ after. refl))))))

abbrev update_made : UpdateWord → Mode → Pair → Option With → RightSide
update_made word mode p timed =
    right_sides.Update word mode p.open p.location p.value.comma p.value.value p.close timed

pub update_goes : (room : ℕ) → AllGo right_side (read_update room)
unfolding read_update
update_goes room ts =
    and_then (update_word_goes ts) (λ word. complete (update_made word (modes.NonAtomic nowhere) some_pair None) _ (λ after. refl)) (λ word l1.
    and_then (mode_goes l1) (λ mode. complete (update_made word mode some_pair None) _ (λ after. refl)) (λ mode l2.
    and_then (pair_goes room l2) (λ p. complete (update_made word mode p None) _ (λ after. refl)) (λ p l3.
    and_then (optional_with_goes room l3) (λ timed. complete (update_made word mode p timed) _ (λ after. refl)) (λ timed l4.
    done (update_made word mode p timed) (λ after. refl)))))

pub called_goes : (room : ℕ) → AllGo right_side (read_called room)
unfolding read_called
called_goes room ts =
    and_then (take_goes kind.Call ts) (λ word. complete (right_sides.Call word some_use) _ (λ after. refl)) (λ word l1.
    and_then (usage_goes room l1) (λ callee. complete (right_sides.Call word callee) _ (λ after. refl)) (λ callee l2.
    done (right_sides.Call word callee) (λ after. refl)))

pub allocate_goes : (room : ℕ) → AllGo right_side (read_allocate room)
unfolding read_allocate
allocate_goes room ts =
    and_then (take_goes kind.Alloc ts) (λ word. complete (right_sides.Allocate word some_allocation) _ (λ after. refl)) (λ word l1.
    and_then (allocation_goes room l1) (λ what. complete (right_sides.Allocate word what) _ (λ after. refl)) (λ what l2.
    done (right_sides.Allocate word what) (λ after. refl)))

pub right_side_goes : (room : ℕ) → AllGo right_side (read_right_side room)
unfolding read_right_side
right_side_goes room ts =
    when (is_next kind.Call ts) (called_goes room ts)
    (when (is_next kind.Alloc ts) (allocate_goes room ts)
    (when (is_next kind.Load ts) (load_goes room ts)
    (when (is_next kind.Cas ts) (compare_and_swap_goes room ts)
    (when (is_next kind.FetchAdd ts || is_next kind.Exchange ts) (update_goes room ts)
    (and_then (expression_goes room ts) (λ value. complete (right_sides.Value value) _ (λ after. refl)) (λ value l1.
    done (right_sides.Value value) (λ after. refl)))))))

abbrev let_made : Span → Span → Span → RightSide → Span → StatementLayer
let_made word name equals right semicolon =
    Statement-F.Let word name equals right semicolon

pub let_goes : (room : ℕ) → AllGo statement (read_let room)
unfolding read_let
let_goes room ts =
    and_then (take_goes kind.Let ts)
    (λ word. complete_by roll-Statement statement_spells (let_made word nowhere nowhere some_right_side nowhere) _ (λ after. refl)) (λ word l1.
    and_then (take_goes kind.Name l1)
    (λ name. complete_by roll-Statement statement_spells (let_made word name nowhere some_right_side nowhere) _ (λ after. refl)) (λ name l2.
    and_then (take_goes kind.Assign l2)
    (λ equals. complete_by roll-Statement statement_spells (let_made word name equals some_right_side nowhere) _ (λ after. refl))
    (λ equals l3.
    and_then (right_side_goes room l3) (λ right. complete_by roll-Statement statement_spells (let_made word name equals right nowhere) _
    (λ after. refl)) (λ right l4.
    and_then (take_goes kind.Semicolon l4)
    (λ semicolon. complete_by roll-Statement statement_spells (let_made word name equals right semicolon) _ (λ after. refl)) (λ semicolon l5.
    done_by roll-Statement statement_spells (let_made word name equals right semicolon) (λ after. refl))))))

abbrev assign_made : Span → Span → RightSide → Span → StatementLayer
assign_made name equals right semicolon =
    Statement-F.Assign name equals right semicolon

pub assign_goes : (room : ℕ) → AllGo statement (read_assign room)
unfolding read_assign
assign_goes room ts =
    and_then (take_goes kind.Name ts) (λ name. complete_by roll-Statement statement_spells (assign_made name nowhere some_right_side nowhere) _
    (λ after. refl)) (λ name l1.
    and_then (take_goes kind.Assign l1)
    (λ equals. complete_by roll-Statement statement_spells (assign_made name equals some_right_side nowhere) _ (λ after. refl)) (λ equals l2.
    and_then (right_side_goes room l2) (λ right. complete_by roll-Statement statement_spells (assign_made name equals right nowhere) _
    (λ after. refl)) (λ right l3.
    and_then (take_goes kind.Semicolon l3)
    (λ semicolon. complete_by roll-Statement statement_spells (assign_made name equals right semicolon) _ (λ after. refl)) (λ semicolon l4.
    done_by roll-Statement statement_spells (assign_made name equals right semicolon) (λ after. refl)))))

abbrev store_made : Span → Mode → Pair → Span → StatementLayer
store_made word mode p semicolon =
    Statement-F.Store word mode p.open p.location p.value.comma p.value.value p.close semicolon

pub store_goes : (room : ℕ) → AllGo statement (read_store room)
unfolding read_store
store_goes room ts =
    and_then (take_goes kind.Store ts)
    (λ word. complete_by roll-Statement statement_spells (store_made word (modes.NonAtomic nowhere) some_pair nowhere) _ (λ after. refl))
    (λ word l1.
    and_then (mode_goes l1) (λ mode. complete_by roll-Statement statement_spells (store_made word mode some_pair nowhere) _ (λ after. refl))
    (λ mode l2.
    and_then (pair_goes room l2) (λ p. complete_by roll-Statement statement_spells (store_made word mode p nowhere) _ (λ after. refl)) (λ p l3.
    and_then (take_goes kind.Semicolon l3) (λ semicolon. complete_by roll-Statement statement_spells (store_made word mode p semicolon) _
    (λ after. refl)) (λ semicolon l4.
    done_by roll-Statement statement_spells (store_made word mode p semicolon) (λ after. refl)))))

abbrev call_made : Span → Use → Span → StatementLayer
call_made word callee semicolon =
    Statement-F.Call word callee semicolon

pub call_goes : (room : ℕ) → AllGo statement (read_call room)
unfolding read_call
call_goes room ts =
    and_then (take_goes kind.Call ts) (λ word. complete_by roll-Statement statement_spells (call_made word some_use nowhere) _ (λ after. refl))
    (λ word l1.
    and_then (usage_goes room l1) (λ callee. complete_by roll-Statement statement_spells (call_made word callee nowhere) _ (λ after. refl))
    (λ callee l2.
    and_then (take_goes kind.Semicolon l2) (λ semicolon. complete_by roll-Statement statement_spells (call_made word callee semicolon) _
    (λ after. refl)) (λ semicolon l3.
    done_by roll-Statement statement_spells (call_made word callee semicolon) (λ after. refl))))

abbrev parallel_call_made : Use → Span → ParallelCall
parallel_call_made callee semicolon =
    record { callee = callee; semicolon = semicolon }

pub parallel_call_goes : (room : ℕ) → AllGo parallel_call (read_parallel_call room)
unfolding read_parallel_call
parallel_call_goes room ts =
    and_then (usage_goes room ts) (λ callee. complete (parallel_call_made callee nowhere) _ (λ after. refl)) (λ callee l1.
    and_then (take_goes kind.Semicolon l1) (λ semicolon. complete (parallel_call_made callee semicolon) _ (λ after. refl)) (λ semicolon l2.
    done (parallel_call_made callee semicolon) (λ after. refl)))

abbrev parallel_made : Span → Span → List ParallelCall → Span → StatementLayer
parallel_made word start calls end =
    Statement-F.Parallel word start calls end

pub parallel_goes : (room : ℕ) → AllGo statement (read_parallel room)
unfolding read_parallel
parallel_goes room ts =
    and_then (take_goes kind.Par ts) (λ word. complete_by roll-Statement statement_spells (parallel_made word nowhere [] nowhere) _
    (λ after. refl)) (λ word l1.
    and_then (open_goes kind.OpenBrace room l1) (λ start. complete_by roll-Statement statement_spells (parallel_made word start [] nowhere) _
    (λ after. refl)) (λ start l2.
    and_then (many_of_goes (is_next kind.Name) (parallel_call_goes (room - 1)) l2)
    (λ calls. complete_by roll-Statement statement_spells (parallel_made word start calls nowhere) _ (λ after. refl)) (λ calls l3.
    and_then (take_goes kind.CloseBrace l3) (λ end. complete_by roll-Statement statement_spells (parallel_made word start calls end) _
    (λ after. refl)) (λ end l4.
    done_by roll-Statement statement_spells (parallel_made word start calls end) (λ after. refl)))))

pub release_word_goes : AllGo (one release_word_token) read_release_word
unfolding read_release_word
release_word_goes ts =
    when (is_next kind.Rel ts) (and_then (take_goes kind.Rel ts) (λ place. complete (release_words.Release place) _ (λ after. refl)) (λ place l1.
    done (release_words.Release place) (λ after. refl)))
    (and_then (take_goes kind.AcqRel ts) (λ place. complete (release_words.AcquireRelease place) _ (λ after. refl)) (λ place l1.
    done (release_words.AcquireRelease place) (λ after. refl)))

pub release_goes : (room : ℕ) → AllGo fence (read_release room)
unfolding read_release
release_goes room ts =
    and_then (release_word_goes ts) (λ word. complete (fences.Release word nowhere some_assertion nowhere) _ (λ after. refl)) (λ word l1.
    and_then (open_goes kind.OpenParen room l1) (λ start. complete (fences.Release word start some_assertion nowhere) _ (λ after. refl))
    (λ start l2.
    and_then (assertion_goes (room - 1) l2) (λ given. complete (fences.Release word start given nowhere) _ (λ after. refl)) (λ given l3.
    and_then (take_goes kind.CloseParen l3) (λ end. complete (fences.Release word start given end) _ (λ after. refl)) (λ end l4.
    done (fences.Release word start given end) (λ after. refl)))))

pub fence_kind_goes : (room : ℕ) → AllGo fence (read_fence_kind room)
unfolding read_fence_kind
fence_kind_goes room ts =
    when (is_next kind.Acq ts) (and_then (take_goes kind.Acq ts) (λ word. complete (fences.Acquire word) _ (λ after. refl)) (λ word l1.
    done (fences.Acquire word) (λ after. refl)))
    (release_goes room ts)

abbrev fence_made : Span → FenceKind → Span → StatementLayer
fence_made word what semicolon =
    Statement-F.Fence word what semicolon

pub fence_goes : (room : ℕ) → AllGo statement (read_fence room)
unfolding read_fence
fence_goes room ts =
    and_then (take_goes kind.Fence ts) (λ word. complete_by roll-Statement statement_spells (fence_made word some_fence_kind nowhere) _
    (λ after. refl)) (λ word l1.
    and_then (fence_kind_goes room l1) (λ what. complete_by roll-Statement statement_spells (fence_made word what nowhere) _ (λ after. refl))
    (λ what l2.
    and_then (take_goes kind.Semicolon l2) (λ semicolon. complete_by roll-Statement statement_spells (fence_made word what semicolon) _
    (λ after. refl)) (λ semicolon l3.
    done_by roll-Statement statement_spells (fence_made word what semicolon) (λ after. refl))))

abbrev assert_made : Test → Span → StatementLayer
assert_made t semicolon =
    Statement-F.Assert t.word t.open t.condition t.close semicolon

pub assert_goes : (room : ℕ) → AllGo statement (read_assert room)
unfolding read_assert
assert_goes room ts =
    and_then (test_goes kind.Assert room ts) (λ t. complete_by roll-Statement statement_spells (assert_made t nowhere) _ (λ after. refl)) (λ t l1.
    and_then (take_goes kind.Semicolon l1) (λ semicolon. complete_by roll-Statement statement_spells (assert_made t semicolon) _
    (λ after. refl)) (λ semicolon l2.
    done_by roll-Statement statement_spells (assert_made t semicolon) (λ after. refl)))

abbrev print_made : Enclosed → Span → StatementLayer
print_made e semicolon =
    Statement-F.Print e.word e.open e.expression e.close semicolon

pub print_goes : (room : ℕ) → AllGo statement (read_print room)
unfolding read_print
print_goes room ts =
    and_then (enclosed_goes kind.Print room ts) (λ e. complete_by roll-Statement statement_spells (print_made e nowhere) _ (λ after. refl)) (λ e l1.
    and_then (take_goes kind.Semicolon l1) (λ semicolon. complete_by roll-Statement statement_spells (print_made e semicolon) _
    (λ after. refl)) (λ semicolon l2.
    done_by roll-Statement statement_spells (print_made e semicolon) (λ after. refl)))

abbrev free_made : Enclosed → Span → StatementLayer
free_made e semicolon =
    Statement-F.Free e.word e.open e.expression e.close semicolon

pub free_goes : (room : ℕ) → AllGo statement (read_free room)
unfolding read_free
free_goes room ts =
    and_then (enclosed_goes kind.Free room ts) (λ e. complete_by roll-Statement statement_spells (free_made e nowhere) _ (λ after. refl)) (λ e l1.
    and_then (take_goes kind.Semicolon l1) (λ semicolon. complete_by roll-Statement statement_spells (free_made e semicolon) _
    (λ after. refl)) (λ semicolon l2.
    done_by roll-Statement statement_spells (free_made e semicolon) (λ after. refl)))

pub optional_expression_goes : (room : ℕ) → AllGo optional_expression (read_optional_expression room)
unfolding read_optional_expression
optional_expression_goes room ts =
    when (is_next kind.Semicolon ts) (done None (λ after. refl))
    (and_then (expression_goes room ts) (λ value. complete (Some value) _ (λ after. refl)) (λ value l1.
    done (Some value) (λ after. refl)))

abbrev return_made : Span → Option Expression → Span → StatementLayer
return_made word value semicolon =
    Statement-F.Return word value semicolon

pub return_goes : (room : ℕ) → AllGo statement (read_return room)
unfolding read_return
return_goes room ts =
    and_then (take_goes kind.Return ts) (λ word. complete_by roll-Statement statement_spells (return_made word None nowhere) _ (λ after. refl))
    (λ word l1.
    and_then (optional_expression_goes room l1) (λ value. complete_by roll-Statement statement_spells (return_made word value nowhere) _
    (λ after. refl)) (λ value l2.
    and_then (take_goes kind.Semicolon l2) (λ semicolon. complete_by roll-Statement statement_spells (return_made word value semicolon) _
    (λ after. refl)) (λ semicolon l3.
    done_by roll-Statement statement_spells (return_made word value semicolon) (λ after. refl))))

abbrev bank_made : Span → Span → Span → StatementLayer
bank_made word name semicolon =
    Statement-F.Bank word name semicolon

pub bank_goes : AllGo statement read_bank
unfolding read_bank
bank_goes ts =
    and_then (take_goes kind.Bank ts) (λ word. complete_by roll-Statement statement_spells (bank_made word nowhere nowhere) _ (λ after. refl))
    (λ word l1.
    and_then (take_goes kind.Name l1) (λ name. complete_by roll-Statement statement_spells (bank_made word name nowhere) _ (λ after. refl))
    (λ name l2.
    and_then (take_goes kind.Semicolon l2) (λ semicolon. complete_by roll-Statement statement_spells (bank_made word name semicolon) _
    (λ after. refl)) (λ semicolon l3.
    done_by roll-Statement statement_spells (bank_made word name semicolon) (λ after. refl))))

abbrev step_statement_made : Step → Span → StatementLayer
step_statement_made step semicolon =
    Statement-F.Step step semicolon

pub step_statement_goes : (room : ℕ) → AllGo statement (read_step_statement room)
unfolding read_step_statement
step_statement_goes room ts =
    and_then (step_goes room ts) (λ step. complete_by roll-Statement statement_spells (step_statement_made step nowhere) _ (λ after. refl))
    (λ step l1.
    and_then (take_goes kind.Semicolon l1) (λ semicolon. complete_by roll-Statement statement_spells (step_statement_made step semicolon) _
    (λ after. refl)) (λ semicolon l2.
    done_by roll-Statement statement_spells (step_statement_made step semicolon) (λ after. refl)))

pub simple_statement_goes : (room : ℕ) → AllGo statement (read_simple_statement room)
unfolding read_simple_statement
simple_statement_goes room ts =
    when (is_next kind.Let ts) (let_goes room ts)
    (when (is_next kind.Store ts) (store_goes room ts)
    (when (is_next kind.Call ts) (call_goes room ts)
    (when (is_next kind.Par ts) (parallel_goes room ts)
    (when (is_next kind.Fence ts) (fence_goes room ts)
    (when (is_next kind.Assert ts) (assert_goes room ts)
    (when (is_next kind.Print ts) (print_goes room ts)
    (when (is_next kind.Free ts) (free_goes room ts)
    (when (is_next kind.Return ts) (return_goes room ts)
    (when (is_next kind.Bank ts) (bank_goes ts)
    (when (is_next kind.Mint ts || is_next kind.Burn ts) (step_statement_goes room ts)
    (assign_goes room ts)))))))))))

abbrev block_of_made : Span → List Statement → Span → BlockLayer
block_of_made start all end =
    record { «open» = start; statements = all; close = end }

pub block_of_goes : (room : ℕ) (inner : Reader Statement) → AllGo statement inner → AllGo block (read_block_of room inner)
unfolding read_block_of
block_of_goes room inner each ts =
    and_then (open_goes kind.OpenBrace room ts) (λ start. complete_by roll-Block block_spells (block_of_made start [] nowhere) _ (λ after. refl))
    (λ start l1.
    and_then (many_of_goes goes_on each l1) (λ all. complete_by roll-Block block_spells (block_of_made start all nowhere) _ (λ after. refl))
    (λ all l2.
    and_then (take_goes kind.CloseBrace l2) (λ end. complete_by roll-Block block_spells (block_of_made start all end) _ (λ after. refl))
    (λ end l3.
    done_by roll-Block block_spells (block_of_made start all end) (λ after. refl))))

abbrev otherwise_made : Span → Block → OtherwiseLayer
otherwise_made word block =
    record { word = word; block = block }

pub otherwise_goes : (room : ℕ) (inner : Reader Statement) → AllGo statement inner → AllGo otherwise (read_otherwise room inner)
unfolding read_otherwise
otherwise_goes room inner each ts =
    and_then (take_goes kind.Else ts) (λ word. complete_by roll-Otherwise otherwise_spells (otherwise_made word some_block) _ (λ after. refl))
    (λ word l1.
    and_then (block_of_goes room inner each l1) (λ block. complete_by roll-Otherwise otherwise_spells (otherwise_made word block) _
    (λ after. refl)) (λ block l2.
    done_by roll-Otherwise otherwise_spells (otherwise_made word block) (λ after. refl)))

pub optional_otherwise_goes : (room : ℕ) (inner : Reader Statement) → AllGo statement inner
    → AllGo optional_otherwise (read_optional_otherwise room inner)
unfolding read_optional_otherwise
optional_otherwise_goes room inner each ts =
    when (is_next kind.Else ts) (and_then (otherwise_goes room inner each ts) (λ o. complete (Some o) _ (λ after. refl)) (λ o l1.
    done (Some o) (λ after. refl)))
    (done None (λ after. refl))

pub if_goes : (room : ℕ) (inner : Reader Statement) → AllGo statement inner → AllGo statement (read_if room inner)
unfolding read_if
if_goes room inner each ts =
    and_then (test_goes kind.If room ts)
    (λ t. complete (roll-Statement (Statement-F.If t.word t.open t.condition t.close some_block None)) _
    (if_spells t.word t.open t.condition t.close some_block None)) (λ t l1.
    and_then (block_of_goes room inner each l1)
    (λ block. complete (roll-Statement (Statement-F.If t.word t.open t.condition t.close block None)) _
    (if_spells t.word t.open t.condition t.close block None)) (λ block l2.
    and_then (optional_otherwise_goes room inner each l2)
    (λ otherwise. complete (roll-Statement (Statement-F.If t.word t.open t.condition t.close block otherwise)) _
    (if_spells t.word t.open t.condition t.close block otherwise)) (λ otherwise l3.
    done (roll-Statement (Statement-F.If t.word t.open t.condition t.close block otherwise))
    (if_spells t.word t.open t.condition t.close block otherwise))))

pub optional_clause_goes : (word : TokenKind) (room : ℕ) → AllGo (optional_clause word) (read_optional_clause word room)
unfolding read_optional_clause
optional_clause_goes word room ts =
    when (is_next word ts) (and_then (clause_goes word room ts) (λ c. complete (Some c) _ (λ after. refl)) (λ c l1.
    done (Some c) (λ after. refl)))
    (done None (λ after. refl))

abbrev while_made : Test → Option Clause → Block → StatementLayer
while_made t invariant body =
    Statement-F.While t.word t.open t.condition t.close invariant body

pub while_goes : (room : ℕ) (inner : Reader Statement) → AllGo statement inner → AllGo statement (read_while room inner)
unfolding read_while
while_goes room inner each ts =
    and_then (test_goes kind.While room ts) (λ t. complete_by roll-Statement statement_spells (while_made t None some_block) _ (λ after. refl))
    (λ t l1.
    and_then (optional_clause_goes kind.Inv room l1)
    (λ invariant. complete_by roll-Statement statement_spells (while_made t invariant some_block) _ (λ after. refl)) (λ invariant l2.
    and_then (block_of_goes room inner each l2) (λ body. complete_by roll-Statement statement_spells (while_made t invariant body) _
    (λ after. refl)) (λ body l3.
    done_by roll-Statement statement_spells (while_made t invariant body) (λ after. refl))))

pub statement_of_goes : (room : ℕ) (inner : Reader Statement) → AllGo statement inner → AllGo statement (read_statement_of room inner)
statement_of_goes room inner each ts =
    when (is_next kind.If ts) (if_goes room inner each ts)
    (when (is_next kind.While ts) (while_goes room inner each ts)
    (simple_statement_goes room ts))

pub statement_goes : (room : ℕ) → AllGo statement (read_statement room)
statement_goes zero = statement_of_goes 0 (λ tokens. Wrong tokens) (fails some_statement)
statement_goes (suc room) = statement_of_goes (suc room) (read_statement room) (statement_goes room)

pub block_goes : (room : ℕ) → AllGo block (read_block room)
block_goes room = block_of_goes room (read_statement (room - 1)) (statement_goes (room - 1))
