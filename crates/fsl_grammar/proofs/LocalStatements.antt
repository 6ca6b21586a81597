-- The same of right sides, statements and blocks.
use Rattle.std.proofs.Common.{ℕ, zero, suc, ◌≡◌, refl, subst, arith}
use Rattle.std.proofs.Math.Path.{fun_ext}
use Rattle.fsl_token.specs.declared.kind.TokenKind.{TokenKind}
use Rattle.fsl_tree.specs.SpelledExpressions.{Tokens}
use Rattle.fsl_tree.specs.declared.statement.Statement.{Statement}
use Rattle.fsl_grammar.specs.Heads.{is_next}
use Rattle.fsl_grammar.specs.Readers.{Wrong, Reader}
use Rattle.fsl_grammar.specs.ReadStatements.{read_mode, read_shared_cell, read_shared, read_allocation, read_update_word, read_step_word, read_step, read_step_line, read_with, read_optional_with, read_load, read_compare_and_swap, read_update, read_called, read_allocate, read_right_side, read_let, read_assign, read_store, read_call, read_parallel_call, read_parallel, read_release_word, read_release, read_fence_kind, read_fence, read_assert, read_print, read_free, read_optional_expression, read_return, read_bank, read_step_statement, read_simple_statement, read_block_of, read_otherwise, read_optional_otherwise, read_if, read_optional_clause, read_while, read_statement_of, read_statement, read_block}
use Rattle.fsl_token.specs.declared.kind.TokenKind.TheVariants as kind
use Rattle.fsl_grammar.proofs.Local.{Rooms, inner, Local, loose, found_local, wrong_local, and_then, when, next_by_head, or_by_head, and_by_head, more_by_head, not_by_head, take_local, open_local, many_local}
use Rattle.fsl_grammar.proofs.LocalExpressions.{expression_local, usage_local}
use Rattle.fsl_grammar.proofs.LocalGroups.{enclosed_local, test_local, pair_local, triple_local}
use Rattle.fsl_grammar.proofs.LocalAssertions.{assertion_local, clause_local}
use Rattle.fsl_grammar.proofs.LocalExpressions.{same_both}
use Rattle.fsl_grammar.proofs.LocalAssertions.{test_shut}
use Rattle.fsl_grammar.specs.ReadGroups.{read_test}

pub mode_local : {P : Type 0} → Local P 1 read_mode read_mode
unfolding read_mode
mode_local =
    when (next_by_head kind.Na) (and_then (take_local kind.Na) (λ place. found_local _))
    (when (next_by_head kind.Rlx) (and_then (take_local kind.Rlx) (λ place. found_local _))
    (when (next_by_head kind.Acq) (and_then (take_local kind.Acq) (λ place. found_local _))
    (when (next_by_head kind.Rel) (and_then (take_local kind.Rel) (λ place. found_local _))
    (and_then (take_local kind.AcqRel) (λ place. found_local _)))))

pub shared_cell_local : {P : Type 0} → Local P 1 read_shared_cell read_shared_cell
unfolding read_shared_cell
shared_cell_local =
    when (next_by_head kind.Acq) (and_then (take_local kind.Acq) (λ place. found_local _))
    (and_then (take_local kind.Rmw) (λ place. found_local _))

pub shared_local : {P : Type 0} {n m : ℕ} → Rooms P n m → Local P 1 (read_shared n) (read_shared m)
unfolding read_shared
shared_local rooms =
    and_then shared_cell_local (λ cell. and_then (usage_local rooms) (λ invariant. found_local _))

pub allocation_local : {P : Type 0} {n m : ℕ} → Rooms P n m → Local P 1 (read_allocation n) (read_allocation m)
unfolding read_allocation
allocation_local rooms =
    when (next_by_head kind.Na) (and_then (take_local kind.Na) (λ word. found_local _))
    (shared_local rooms)

pub update_word_local : {P : Type 0} → Local P 1 read_update_word read_update_word
unfolding read_update_word
update_word_local =
    when (next_by_head kind.FetchAdd) (and_then (take_local kind.FetchAdd) (λ place. found_local _))
    (and_then (take_local kind.Exchange) (λ place. found_local _))

pub step_word_local : {P : Type 0} → Local P 1 read_step_word read_step_word
unfolding read_step_word
step_word_local =
    when (next_by_head kind.Mint) (and_then (take_local kind.Mint) (λ place. found_local _))
    (and_then (take_local kind.Burn) (λ place. found_local _))

pub step_local : {P : Type 0} {n m : ℕ} → Rooms P n m → Local P 1 (read_step n) (read_step m)
unfolding read_step
step_local rooms =
    and_then step_word_local (λ word. and_then (open_local kind.OpenParen rooms) (λ start. and_then (take_local kind.Name) (λ bank.
    and_then (take_local kind.Comma) (λ comma. and_then (expression_local (inner rooms)) (λ amount.
    and_then (take_local kind.CloseParen) (λ end. found_local _))))))

pub step_line_local : {P : Type 0} {n m : ℕ} → Rooms P n m → Local P 1 (read_step_line n) (read_step_line m)
unfolding read_step_line
step_line_local rooms =
    and_then (step_local rooms) (λ step. and_then (take_local kind.Semicolon) (λ semicolon. found_local _))

pub with_local : {P : Type 0} {n m : ℕ} → Rooms P n m → Local P 1 (read_with n) (read_with m)
unfolding read_with
with_local rooms =
    and_then (take_local kind.With) (λ word. and_then (open_local kind.OpenBrace rooms) (λ start.
    and_then (many_local (or_by_head (next_by_head kind.Mint) (next_by_head kind.Burn)) (step_line_local (inner rooms))) (λ steps.
    and_then (take_local kind.CloseBrace) (λ end. found_local _))))

pub optional_with_local : {P : Type 0} {n m : ℕ} → Rooms P n m → Local P 0 (read_optional_with n) (read_optional_with m)
unfolding read_optional_with
optional_with_local rooms =
    when (next_by_head kind.With) (loose (and_then (with_local rooms) (λ w. found_local _)))
    (found_local _)

pub load_local : {P : Type 0} {n m : ℕ} → Rooms P n m → Local P 1 (read_load n) (read_load m)
unfolding read_load
load_local rooms =
    and_then (take_local kind.Load) (λ word. and_then mode_local (λ mode. and_then (open_local kind.OpenParen rooms) (λ start.
    and_then (expression_local (inner rooms)) (λ location. and_then (take_local kind.CloseParen) (λ end. found_local _)))))

pub compare_and_swap_local : {P : Type 0} {n m : ℕ} → Rooms P n m → Local P 1 (read_compare_and_swap n) (read_compare_and_swap m)
unfolding read_compare_and_swap
compare_and_swap_local rooms =
    and_then (take_local kind.Cas) (λ word. and_then mode_local (λ success. and_then mode_local (λ failure. and_then (triple_local rooms) (λ t.
    and_then (optional_with_local rooms) (λ timed. found_local _)))))

pub update_local : {P : Type 0} {n m : ℕ} → Rooms P n m → Local P 1 (read_update n) (read_update m)
unfolding read_update
update_local rooms =
    and_then update_word_local (λ word. and_then mode_local (λ mode. and_then (pair_local rooms) (λ p.
    and_then (optional_with_local rooms) (λ timed. found_local _))))

pub called_local : {P : Type 0} {n m : ℕ} → Rooms P n m → Local P 1 (read_called n) (read_called m)
unfolding read_called
called_local rooms =
    and_then (take_local kind.Call) (λ word. and_then (usage_local rooms) (λ callee. found_local _))

pub allocate_local : {P : Type 0} {n m : ℕ} → Rooms P n m → Local P 1 (read_allocate n) (read_allocate m)
unfolding read_allocate
allocate_local rooms =
    and_then (take_local kind.Alloc) (λ word. and_then (allocation_local rooms) (λ what. found_local _))

pub right_side_local : {P : Type 0} {n m : ℕ} → Rooms P n m → Local P 1 (read_right_side n) (read_right_side m)
unfolding read_right_side
right_side_local rooms =
    when (next_by_head kind.Call) (called_local rooms)
    (when (next_by_head kind.Alloc) (allocate_local rooms)
    (when (next_by_head kind.Load) (load_local rooms)
    (when (next_by_head kind.Cas) (compare_and_swap_local rooms)
    (when (or_by_head (next_by_head kind.FetchAdd) (next_by_head kind.Exchange)) (update_local rooms)
    (and_then (expression_local rooms) (λ value. found_local _))))))

pub let_local : {P : Type 0} {n m : ℕ} → Rooms P n m → Local P 1 (read_let n) (read_let m)
unfolding read_let
let_local rooms =
    and_then (take_local kind.Let) (λ word. and_then (take_local kind.Name) (λ name. and_then (take_local kind.Assign) (λ equals.
    and_then (right_side_local rooms) (λ right. and_then (take_local kind.Semicolon) (λ semicolon. found_local _)))))

pub assign_local : {P : Type 0} {n m : ℕ} → Rooms P n m → Local P 1 (read_assign n) (read_assign m)
unfolding read_assign
assign_local rooms =
    and_then (take_local kind.Name) (λ name. and_then (take_local kind.Assign) (λ equals. and_then (right_side_local rooms) (λ right.
    and_then (take_local kind.Semicolon) (λ semicolon. found_local _))))

pub store_local : {P : Type 0} {n m : ℕ} → Rooms P n m → Local P 1 (read_store n) (read_store m)
unfolding read_store
store_local rooms =
    and_then (take_local kind.Store) (λ word. and_then mode_local (λ mode. and_then (pair_local rooms) (λ p.
    and_then (take_local kind.Semicolon) (λ semicolon. found_local _))))

pub call_local : {P : Type 0} {n m : ℕ} → Rooms P n m → Local P 1 (read_call n) (read_call m)
unfolding read_call
call_local rooms =
    and_then (take_local kind.Call) (λ word. and_then (usage_local rooms) (λ callee.
    and_then (take_local kind.Semicolon) (λ semicolon. found_local _)))

pub parallel_call_local : {P : Type 0} {n m : ℕ} → Rooms P n m → Local P 1 (read_parallel_call n) (read_parallel_call m)
unfolding read_parallel_call
parallel_call_local rooms =
    and_then (usage_local rooms) (λ callee. and_then (take_local kind.Semicolon) (λ semicolon. found_local _))

pub parallel_local : {P : Type 0} {n m : ℕ} → Rooms P n m → Local P 1 (read_parallel n) (read_parallel m)
unfolding read_parallel
parallel_local rooms =
    and_then (take_local kind.Par) (λ word. and_then (open_local kind.OpenBrace rooms) (λ start.
    and_then (many_local (next_by_head kind.Name) (parallel_call_local (inner rooms))) (λ calls.
    and_then (take_local kind.CloseBrace) (λ end. found_local _))))

pub release_word_local : {P : Type 0} → Local P 1 read_release_word read_release_word
unfolding read_release_word
release_word_local =
    when (next_by_head kind.Rel) (and_then (take_local kind.Rel) (λ place. found_local _))
    (and_then (take_local kind.AcqRel) (λ place. found_local _))

pub release_local : {P : Type 0} {n m : ℕ} → Rooms P n m → Local P 1 (read_release n) (read_release m)
unfolding read_release
release_local rooms =
    and_then release_word_local (λ word. and_then (open_local kind.OpenParen rooms) (λ start. and_then (assertion_local (inner rooms)) (λ given.
    and_then (take_local kind.CloseParen) (λ end. found_local _))))

pub fence_kind_local : {P : Type 0} {n m : ℕ} → Rooms P n m → Local P 1 (read_fence_kind n) (read_fence_kind m)
unfolding read_fence_kind
fence_kind_local rooms =
    when (next_by_head kind.Acq) (and_then (take_local kind.Acq) (λ word. found_local _))
    (release_local rooms)

pub fence_local : {P : Type 0} {n m : ℕ} → Rooms P n m → Local P 1 (read_fence n) (read_fence m)
unfolding read_fence
fence_local rooms =
    and_then (take_local kind.Fence) (λ word. and_then (fence_kind_local rooms) (λ what.
    and_then (take_local kind.Semicolon) (λ semicolon. found_local _)))

pub assert_local : {P : Type 0} {n m : ℕ} → Rooms P n m → Local P 1 (read_assert n) (read_assert m)
unfolding read_assert
assert_local rooms =
    and_then (test_local kind.Assert rooms) (λ t. and_then (take_local kind.Semicolon) (λ semicolon. found_local _))

pub print_local : {P : Type 0} {n m : ℕ} → Rooms P n m → Local P 1 (read_print n) (read_print m)
unfolding read_print
print_local rooms =
    and_then (enclosed_local kind.Print rooms) (λ e. and_then (take_local kind.Semicolon) (λ semicolon. found_local _))

pub free_local : {P : Type 0} {n m : ℕ} → Rooms P n m → Local P 1 (read_free n) (read_free m)
unfolding read_free
free_local rooms =
    and_then (enclosed_local kind.Free rooms) (λ e. and_then (take_local kind.Semicolon) (λ semicolon. found_local _))

pub optional_expression_local : {P : Type 0} {n m : ℕ} → Rooms P n m → Local P 0 (read_optional_expression n) (read_optional_expression m)
unfolding read_optional_expression
optional_expression_local rooms =
    when (next_by_head kind.Semicolon) (found_local _)
    (loose (and_then (expression_local rooms) (λ value. found_local _)))

pub return_local : {P : Type 0} {n m : ℕ} → Rooms P n m → Local P 1 (read_return n) (read_return m)
unfolding read_return
return_local rooms =
    and_then (take_local kind.Return) (λ word. and_then (optional_expression_local rooms) (λ value.
    and_then (take_local kind.Semicolon) (λ semicolon. found_local _)))

pub bank_local : {P : Type 0} → Local P 1 read_bank read_bank
unfolding read_bank
bank_local =
    and_then (take_local kind.Bank) (λ word. and_then (take_local kind.Name) (λ name.
    and_then (take_local kind.Semicolon) (λ semicolon. found_local _)))

pub step_statement_local : {P : Type 0} {n m : ℕ} → Rooms P n m → Local P 1 (read_step_statement n) (read_step_statement m)
unfolding read_step_statement
step_statement_local rooms =
    and_then (step_local rooms) (λ step. and_then (take_local kind.Semicolon) (λ semicolon. found_local _))

pub simple_statement_local : {P : Type 0} {n m : ℕ} → Rooms P n m → Local P 1 (read_simple_statement n) (read_simple_statement m)
unfolding read_simple_statement
simple_statement_local rooms =
    when (next_by_head kind.Let) (let_local rooms)
    (when (next_by_head kind.Store) (store_local rooms)
    (when (next_by_head kind.Call) (call_local rooms)
    (when (next_by_head kind.Par) (parallel_local rooms)
    (when (next_by_head kind.Fence) (fence_local rooms)
    (when (next_by_head kind.Assert) (assert_local rooms)
    (when (next_by_head kind.Print) (print_local rooms)
    (when (next_by_head kind.Free) (free_local rooms)
    (when (next_by_head kind.Return) (return_local rooms)
    (when (next_by_head kind.Bank) bank_local
    (when (or_by_head (next_by_head kind.Mint) (next_by_head kind.Burn)) (step_statement_local rooms)
    (assign_local rooms)))))))))))

pub block_of_local : {P : Type 0} {n m : ℕ} {reader also : Reader Statement} → Rooms P n m → Local P 1 reader also
    → Local P 1 (read_block_of n reader) (read_block_of m also)
unfolding read_block_of
block_of_local rooms each =
    and_then (open_local kind.OpenBrace rooms) (λ start. and_then (many_local (and_by_head more_by_head (not_by_head (next_by_head kind.CloseBrace))) each) (λ all.
    and_then (take_local kind.CloseBrace) (λ end. found_local _)))

pub otherwise_local : {P : Type 0} {n m : ℕ} {reader also : Reader Statement} → Rooms P n m → Local P 1 reader also
    → Local P 1 (read_otherwise n reader) (read_otherwise m also)
unfolding read_otherwise
otherwise_local rooms each =
    and_then (take_local kind.Else) (λ word. and_then (block_of_local rooms each) (λ block. found_local _))

pub optional_otherwise_local : {P : Type 0} {n m : ℕ} {reader also : Reader Statement} → Rooms P n m → Local P 1 reader also
    → Local P 0 (read_optional_otherwise n reader) (read_optional_otherwise m also)
unfolding read_optional_otherwise
optional_otherwise_local rooms each =
    when (next_by_head kind.Else) (loose (and_then (otherwise_local rooms each) (λ o. found_local _)))
    (found_local _)

pub if_local : {P : Type 0} {n m : ℕ} {reader also : Reader Statement} → Rooms P n m → Local P 1 reader also
    → Local P 1 (read_if n reader) (read_if m also)
unfolding read_if
if_local rooms each =
    and_then (test_local kind.If rooms) (λ t. and_then (block_of_local rooms each) (λ block.
    and_then (optional_otherwise_local rooms each) (λ otherwise. found_local _)))

pub optional_clause_local : {P : Type 0} {n m : ℕ} (word : TokenKind) → Rooms P n m
    → Local P 0 (read_optional_clause word n) (read_optional_clause word m)
unfolding read_optional_clause
optional_clause_local word rooms =
    when (next_by_head word) (loose (and_then (clause_local word rooms) (λ c. found_local _)))
    (found_local _)

pub while_local : {P : Type 0} {n m : ℕ} {reader also : Reader Statement} → Rooms P n m → Local P 1 reader also
    → Local P 1 (read_while n reader) (read_while m also)
unfolding read_while
while_local rooms each =
    and_then (test_local kind.While rooms) (λ t. and_then (optional_clause_local kind.Inv rooms) (λ invariant.
    and_then (block_of_local rooms each) (λ body. found_local _)))

pub statement_of_local : {P : Type 0} {n m : ℕ} {reader also : Reader Statement} → Rooms P n m → Local P 1 reader also
    → Local P 1 (read_statement_of n reader) (read_statement_of m also)
statement_of_local rooms each =
    when (next_by_head kind.If) (if_local rooms each)
    (when (next_by_head kind.While) (while_local rooms each)
    (simple_statement_local rooms))

-- with no room nothing is read inside
no_statement_inside : (i j : Reader Statement) (ts : Tokens) → read_statement_of 0 i ts ≡ read_statement_of 0 j ts
unfolding read_if read_while read_test
no_statement_inside i j ts = same_both (is_next kind.If ts) _ _ _ _ (test_shut kind.If ts _ _) (same_both (is_next kind.While ts) _ _ _ _
    (test_shut kind.While ts _ _) refl)

pub statement_local : {P : Type 0} {n m : ℕ} → Rooms P n m → Local P 1 (read_statement n) (read_statement m)
statement_local {n = zero} {m = zero} rooms = statement_of_local rooms wrong_local
statement_local {P = P} {n = zero} {m = suc m} rooms =
    subst (λ (r : Reader Statement). Local P 1 r (read_statement (suc m))) (fun_ext (λ ts. no_statement_inside (read_statement m)
    (λ tokens. Wrong tokens) ts))
    (statement_of_local rooms (statement_local {P = P} {n = m} {m = m} (record { more = omega arith; same = λ p. refl })))
statement_local {n = suc n} {m = zero} rooms = let h = rooms.more in absurd (omega arith)
statement_local {P = P} {n = suc n} {m = suc m} rooms = statement_of_local rooms (statement_local {P = P} {n = n} {m = m}
    (let h = rooms.more in record { more = omega arith; same = λ p. let e = rooms.same p in omega arith }))

pub block_local : {P : Type 0} {n m : ℕ} → Rooms P n m → Local P 1 (read_block n) (read_block m)
block_local rooms = block_of_local rooms (statement_local (inner rooms))
