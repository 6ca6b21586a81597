-- The same of right sides, statements and blocks.
use Rattle.std.proofs.Common.{ℕ, zero, suc, ◌-◌, ◌||◌, List, refl, subst, arith}
use Rattle.fsl_token.specs.declared.kind.TokenKind.{TokenKind}
use Rattle.fsl_tree.specs.declared.statement.Statement.{Statement}
use Rattle.fsl_grammar.specs.Heads.{is_next}
use Rattle.fsl_grammar.specs.Readers.{Wrong, Reader}
use Rattle.fsl_grammar.specs.ReadStatements.{read_mode, read_shared_cell, read_shared, read_allocation, read_update_word, read_step_word, read_step, read_step_line, is_step_next, read_with, read_optional_with, read_load, read_compare_and_swap, read_update, read_called, read_allocate, read_right_side, read_let, read_assign, read_store, read_call, read_parallel_call, read_parallel, read_release_word, read_release, read_fence_kind, read_fence, read_assert, read_print, read_free, read_optional_expression, read_return, read_bank, read_step_statement, read_simple_statement, goes_on, read_block_of, read_otherwise, read_optional_otherwise, read_if, read_optional_clause, read_while, read_statement_of, read_statement, read_block}
use Rattle.fsl_grammar.specs.Levels.{Opened}
use Rattle.fsl_token.specs.declared.kind.TokenKind.TheVariants as kind
use Rattle.fsl_grammar.proofs.Level.{LevelOf, Fits, inside, IsPlain, Any, NotEnded, done, off, and_then, when, take_plain, take_name, close_paren, close_brace, open_level, many_of_level}
use Rattle.fsl_grammar.proofs.LevelExpressions.{expression_level, usage_level}
use Rattle.fsl_grammar.proofs.LevelGroups.{enclosed_level, test_level, pair_level, triple_level}
use Rattle.fsl_grammar.proofs.LevelAssertions.{assertion_level, clause_level}

pub mode_level : {n room : ℕ} {F : List Opened} → Fits n room F → LevelOf n F Any Any read_mode
unfolding read_mode
mode_level fits flag ts q =
    when (is_next kind.Na ts) (and_then (take_plain kind.Na (λ F b. refl) fits flag ts) (λ place l1 f1 q1. done f1 tt))
    (when (is_next kind.Rlx ts) (and_then (take_plain kind.Rlx (λ F b. refl) fits flag ts) (λ place l1 f1 q1. done f1 tt))
    (when (is_next kind.Acq ts) (and_then (take_plain kind.Acq (λ F b. refl) fits flag ts) (λ place l1 f1 q1. done f1 tt))
    (when (is_next kind.Rel ts) (and_then (take_plain kind.Rel (λ F b. refl) fits flag ts) (λ place l1 f1 q1. done f1 tt))
    (and_then (take_plain kind.AcqRel (λ F b. refl) fits flag ts) (λ place l1 f1 q1. done f1 tt)))))

pub shared_cell_level : {n room : ℕ} {F : List Opened} → Fits n room F → LevelOf n F Any Any read_shared_cell
unfolding read_shared_cell
shared_cell_level fits flag ts q =
    when (is_next kind.Acq ts) (and_then (take_plain kind.Acq (λ F b. refl) fits flag ts) (λ place l1 f1 q1. done f1 tt))
    (and_then (take_plain kind.Rmw (λ F b. refl) fits flag ts) (λ place l1 f1 q1. done f1 tt))

pub shared_level : {n room : ℕ} {F : List Opened} → Fits n room F → LevelOf n F Any Any (read_shared room)
unfolding read_shared
shared_level fits flag ts q =
    and_then (shared_cell_level fits flag ts tt) (λ cell l1 f1 q1. and_then (usage_level fits f1 l1 tt) (λ invariant l2 f2 q2. done f2 tt))

pub allocation_level : {n room : ℕ} {F : List Opened} → Fits n room F → LevelOf n F Any Any (read_allocation room)
unfolding read_allocation
allocation_level fits flag ts q =
    when (is_next kind.Na ts) (and_then (take_plain kind.Na (λ F b. refl) fits flag ts) (λ word l1 f1 q1. done f1 tt))
    (shared_level fits flag ts tt)

pub update_word_level : {n room : ℕ} {F : List Opened} → Fits n room F → LevelOf n F Any Any read_update_word
unfolding read_update_word
update_word_level fits flag ts q =
    when (is_next kind.FetchAdd ts) (and_then (take_plain kind.FetchAdd (λ F b. refl) fits flag ts) (λ place l1 f1 q1. done f1 tt))
    (and_then (take_plain kind.Exchange (λ F b. refl) fits flag ts) (λ place l1 f1 q1. done f1 tt))

pub step_word_level : {n room : ℕ} {F : List Opened} → Fits n room F → LevelOf n F Any Any read_step_word
unfolding read_step_word
step_word_level fits flag ts q =
    when (is_next kind.Mint ts) (and_then (take_plain kind.Mint (λ F b. refl) fits flag ts) (λ place l1 f1 q1. done f1 tt))
    (and_then (take_plain kind.Burn (λ F b. refl) fits flag ts) (λ place l1 f1 q1. done f1 tt))

pub step_level : {n room : ℕ} {F : List Opened} → Fits n room F → LevelOf n F Any Any (read_step room)
unfolding read_step
step_level fits flag ts q =
    and_then (step_word_level fits flag ts tt) (λ word l1 f1 q1. and_then (open_level kind.OpenParen (λ b. refl) fits.fits f1 l1) (λ start l2 f2 q2.
    and_then (take_name (inside fits q2.roomy) f2 l2) (λ bank l3 f3 q3.
    and_then (take_plain kind.Comma (λ F b. refl) (inside fits q2.roomy) f3 l3) (λ comma l4 f4 q4.
    and_then (expression_level (inside fits q2.roomy) f4 l4 q4) (λ amount l5 f5 q5. and_then (close_paren fits f5 l5) (λ end l6 f6 q6.
    done f6 tt))))))

pub step_line_level : {n room : ℕ} {F : List Opened} → Fits n room F → LevelOf n F Any Any (read_step_line room)
unfolding read_step_line
step_line_level fits flag ts q =
    and_then (step_level fits flag ts tt) (λ step l1 f1 q1. and_then (take_plain kind.Semicolon (λ F b. refl) fits f1 l1) (λ semicolon l2 f2 q2.
    done f2 tt))

pub with_level : {n room : ℕ} {F : List Opened} → Fits n room F → LevelOf n F Any Any (read_with room)
unfolding read_with
with_level fits flag ts q =
    and_then (take_plain kind.With (λ F b. refl) fits flag ts) (λ word l1 f1 q1.
    and_then (open_level kind.OpenBrace (λ b. refl) fits.fits f1 l1) (λ start l2 f2 q2.
    and_then (many_of_level {Q = Any} is_step_next (step_line_level (inside fits q2.roomy)) f2 l2 tt) (λ steps l3 f3 q3.
    and_then (close_brace fits f3 l3) (λ end l4 f4 q4. done f4 tt))))

pub optional_with_level : {n room : ℕ} {F : List Opened} → Fits n room F → LevelOf n F Any Any (read_optional_with room)
unfolding read_optional_with
optional_with_level fits flag ts q =
    when (is_next kind.With ts) (and_then (with_level fits flag ts tt) (λ w l1 f1 q1. done f1 tt))
    (done flag tt)

pub load_level : {n room : ℕ} {F : List Opened} → Fits n room F → LevelOf n F Any Any (read_load room)
unfolding read_load
load_level fits flag ts q =
    and_then (take_plain kind.Load (λ F b. refl) fits flag ts) (λ word l1 f1 q1. and_then (mode_level fits f1 l1 tt) (λ mode l2 f2 q2.
    and_then (open_level kind.OpenParen (λ b. refl) fits.fits f2 l2) (λ start l3 f3 q3.
    and_then (expression_level (inside fits q3.roomy) f3 l3 q3.closed) (λ location l4 f4 q4. and_then (close_paren fits f4 l4) (λ end l5 f5 q5.
    done f5 tt)))))

pub compare_and_swap_level : {n room : ℕ} {F : List Opened} → Fits n room F → LevelOf n F Any Any (read_compare_and_swap room)
unfolding read_compare_and_swap
compare_and_swap_level fits flag ts q =
    and_then (take_plain kind.Cas (λ F b. refl) fits flag ts) (λ word l1 f1 q1. and_then (mode_level fits f1 l1 tt) (λ success l2 f2 q2.
    and_then (mode_level fits f2 l2 tt) (λ failure l3 f3 q3. and_then (triple_level fits f3 l3 tt) (λ t l4 f4 q4.
    and_then (optional_with_level fits f4 l4 tt) (λ timed l5 f5 q5. done f5 tt)))))

pub update_level : {n room : ℕ} {F : List Opened} → Fits n room F → LevelOf n F Any Any (read_update room)
unfolding read_update
update_level fits flag ts q =
    and_then (update_word_level fits flag ts tt) (λ word l1 f1 q1. and_then (mode_level fits f1 l1 tt) (λ mode l2 f2 q2.
    and_then (pair_level fits f2 l2 tt) (λ p l3 f3 q3. and_then (optional_with_level fits f3 l3 tt) (λ timed l4 f4 q4. done f4 tt))))

pub called_level : {n room : ℕ} {F : List Opened} → Fits n room F → LevelOf n F Any Any (read_called room)
unfolding read_called
called_level fits flag ts q =
    and_then (take_plain kind.Call (λ F b. refl) fits flag ts) (λ word l1 f1 q1. and_then (usage_level fits f1 l1 tt) (λ callee l2 f2 q2. done f2 tt))

pub allocate_level : {n room : ℕ} {F : List Opened} → Fits n room F → LevelOf n F Any Any (read_allocate room)
unfolding read_allocate
allocate_level fits flag ts q =
    and_then (take_plain kind.Alloc (λ F b. refl) fits flag ts) (λ word l1 f1 q1. and_then (allocation_level fits f1 l1 tt) (λ what l2 f2 q2.
    done f2 tt))

pub right_side_level : {n room : ℕ} {F : List Opened} → Fits n room F → LevelOf n F NotEnded Any (read_right_side room)
unfolding read_right_side
right_side_level fits flag ts q =
    when (is_next kind.Call ts) (called_level fits flag ts tt)
    (when (is_next kind.Alloc ts) (allocate_level fits flag ts tt)
    (when (is_next kind.Load ts) (load_level fits flag ts tt)
    (when (is_next kind.Cas ts) (compare_and_swap_level fits flag ts tt)
    (when (is_next kind.FetchAdd ts || is_next kind.Exchange ts) (update_level fits flag ts tt)
    (and_then (expression_level fits flag ts q) (λ value l1 f1 q1. done f1 tt))))))

pub let_level : {n room : ℕ} {F : List Opened} → Fits n room F → LevelOf n F Any Any (read_let room)
unfolding read_let
let_level fits flag ts q =
    and_then (take_plain kind.Let (λ F b. refl) fits flag ts) (λ word l1 f1 q1. and_then (take_name fits f1 l1) (λ name l2 f2 q2.
    and_then (take_plain kind.Assign (λ F b. refl) fits f2 l2) (λ equals l3 f3 q3. and_then (right_side_level fits f3 l3 q3) (λ right l4 f4 q4.
    and_then (take_plain kind.Semicolon (λ F b. refl) fits f4 l4) (λ semicolon l5 f5 q5. done f5 tt)))))

pub assign_level : {n room : ℕ} {F : List Opened} → Fits n room F → LevelOf n F Any Any (read_assign room)
unfolding read_assign
assign_level fits flag ts q =
    and_then (take_name fits flag ts) (λ name l1 f1 q1. and_then (take_plain kind.Assign (λ F b. refl) fits f1 l1) (λ equals l2 f2 q2.
    and_then (right_side_level fits f2 l2 q2) (λ right l3 f3 q3.
    and_then (take_plain kind.Semicolon (λ F b. refl) fits f3 l3) (λ semicolon l4 f4 q4. done f4 tt))))

pub store_level : {n room : ℕ} {F : List Opened} → Fits n room F → LevelOf n F Any Any (read_store room)
unfolding read_store
store_level fits flag ts q =
    and_then (take_plain kind.Store (λ F b. refl) fits flag ts) (λ word l1 f1 q1. and_then (mode_level fits f1 l1 tt) (λ mode l2 f2 q2.
    and_then (pair_level fits f2 l2 tt) (λ p l3 f3 q3. and_then (take_plain kind.Semicolon (λ F b. refl) fits f3 l3) (λ semicolon l4 f4 q4.
    done f4 tt))))

pub call_level : {n room : ℕ} {F : List Opened} → Fits n room F → LevelOf n F Any Any (read_call room)
unfolding read_call
call_level fits flag ts q =
    and_then (take_plain kind.Call (λ F b. refl) fits flag ts) (λ word l1 f1 q1. and_then (usage_level fits f1 l1 tt) (λ callee l2 f2 q2.
    and_then (take_plain kind.Semicolon (λ F b. refl) fits f2 l2) (λ semicolon l3 f3 q3. done f3 tt)))

pub parallel_call_level : {n room : ℕ} {F : List Opened} → Fits n room F → LevelOf n F Any Any (read_parallel_call room)
unfolding read_parallel_call
parallel_call_level fits flag ts q =
    and_then (usage_level fits flag ts tt) (λ callee l1 f1 q1. and_then (take_plain kind.Semicolon (λ F b. refl) fits f1 l1) (λ semicolon l2 f2 q2.
    done f2 tt))

pub parallel_level : {n room : ℕ} {F : List Opened} → Fits n room F → LevelOf n F Any Any (read_parallel room)
unfolding read_parallel
parallel_level fits flag ts q =
    and_then (take_plain kind.Par (λ F b. refl) fits flag ts) (λ word l1 f1 q1.
    and_then (open_level kind.OpenBrace (λ b. refl) fits.fits f1 l1) (λ start l2 f2 q2.
    and_then (many_of_level {Q = Any} (is_next kind.Name) (parallel_call_level (inside fits q2.roomy)) f2 l2 tt) (λ calls l3 f3 q3.
    and_then (close_brace fits f3 l3) (λ end l4 f4 q4. done f4 tt))))

pub release_word_level : {n room : ℕ} {F : List Opened} → Fits n room F → LevelOf n F Any Any read_release_word
unfolding read_release_word
release_word_level fits flag ts q =
    when (is_next kind.Rel ts) (and_then (take_plain kind.Rel (λ F b. refl) fits flag ts) (λ place l1 f1 q1. done f1 tt))
    (and_then (take_plain kind.AcqRel (λ F b. refl) fits flag ts) (λ place l1 f1 q1. done f1 tt))

pub release_level : {n room : ℕ} {F : List Opened} → Fits n room F → LevelOf n F Any Any (read_release room)
unfolding read_release
release_level fits flag ts q =
    and_then (release_word_level fits flag ts tt) (λ word l1 f1 q1.
    and_then (open_level kind.OpenParen (λ b. refl) fits.fits f1 l1) (λ start l2 f2 q2.
    and_then (assertion_level (inside fits q2.roomy) f2 l2 q2.closed) (λ given l3 f3 q3. and_then (close_paren fits f3 l3) (λ end l4 f4 q4.
    done f4 tt))))

pub fence_kind_level : {n room : ℕ} {F : List Opened} → Fits n room F → LevelOf n F Any Any (read_fence_kind room)
unfolding read_fence_kind
fence_kind_level fits flag ts q =
    when (is_next kind.Acq ts) (and_then (take_plain kind.Acq (λ F b. refl) fits flag ts) (λ word l1 f1 q1. done f1 tt))
    (release_level fits flag ts tt)

pub fence_level : {n room : ℕ} {F : List Opened} → Fits n room F → LevelOf n F Any Any (read_fence room)
unfolding read_fence
fence_level fits flag ts q =
    and_then (take_plain kind.Fence (λ F b. refl) fits flag ts) (λ word l1 f1 q1. and_then (fence_kind_level fits f1 l1 tt) (λ what l2 f2 q2.
    and_then (take_plain kind.Semicolon (λ F b. refl) fits f2 l2) (λ semicolon l3 f3 q3. done f3 tt)))

pub assert_level : {n room : ℕ} {F : List Opened} → Fits n room F → LevelOf n F Any Any (read_assert room)
unfolding read_assert
assert_level fits flag ts q =
    and_then (test_level kind.Assert (λ F b. refl) fits flag ts tt) (λ t l1 f1 q1.
    and_then (take_plain kind.Semicolon (λ F b. refl) fits f1 l1) (λ semicolon l2 f2 q2. done f2 tt))

pub print_level : {n room : ℕ} {F : List Opened} → Fits n room F → LevelOf n F Any Any (read_print room)
unfolding read_print
print_level fits flag ts q =
    and_then (enclosed_level kind.Print (λ F b. refl) fits flag ts tt) (λ e l1 f1 q1.
    and_then (take_plain kind.Semicolon (λ F b. refl) fits f1 l1) (λ semicolon l2 f2 q2. done f2 tt))

pub free_level : {n room : ℕ} {F : List Opened} → Fits n room F → LevelOf n F Any Any (read_free room)
unfolding read_free
free_level fits flag ts q =
    and_then (enclosed_level kind.Free (λ F b. refl) fits flag ts tt) (λ e l1 f1 q1.
    and_then (take_plain kind.Semicolon (λ F b. refl) fits f1 l1) (λ semicolon l2 f2 q2. done f2 tt))

pub optional_expression_level : {n room : ℕ} {F : List Opened} → Fits n room F → LevelOf n F NotEnded Any (read_optional_expression room)
unfolding read_optional_expression
optional_expression_level fits flag ts q =
    when (is_next kind.Semicolon ts) (done flag tt)
    (and_then (expression_level fits flag ts q) (λ value l1 f1 q1. done f1 tt))

pub return_level : {n room : ℕ} {F : List Opened} → Fits n room F → LevelOf n F Any Any (read_return room)
unfolding read_return
return_level fits flag ts q =
    and_then (take_plain kind.Return (λ F b. refl) fits flag ts) (λ word l1 f1 q1.
    and_then (optional_expression_level fits f1 l1 q1) (λ value l2 f2 q2.
    and_then (take_plain kind.Semicolon (λ F b. refl) fits f2 l2) (λ semicolon l3 f3 q3. done f3 tt)))

pub bank_level : {n room : ℕ} {F : List Opened} → Fits n room F → LevelOf n F Any Any read_bank
unfolding read_bank
bank_level fits flag ts q =
    and_then (take_plain kind.Bank (λ F b. refl) fits flag ts) (λ word l1 f1 q1. and_then (take_name fits f1 l1) (λ name l2 f2 q2.
    and_then (take_plain kind.Semicolon (λ F b. refl) fits f2 l2) (λ semicolon l3 f3 q3. done f3 tt)))

pub step_statement_level : {n room : ℕ} {F : List Opened} → Fits n room F → LevelOf n F Any Any (read_step_statement room)
unfolding read_step_statement
step_statement_level fits flag ts q =
    and_then (step_level fits flag ts tt) (λ step l1 f1 q1. and_then (take_plain kind.Semicolon (λ F b. refl) fits f1 l1) (λ semicolon l2 f2 q2.
    done f2 tt))

pub simple_statement_level : {n room : ℕ} {F : List Opened} → Fits n room F → LevelOf n F Any Any (read_simple_statement room)
unfolding read_simple_statement
simple_statement_level fits flag ts q =
    when (is_next kind.Let ts) (let_level fits flag ts tt)
    (when (is_next kind.Store ts) (store_level fits flag ts tt)
    (when (is_next kind.Call ts) (call_level fits flag ts tt)
    (when (is_next kind.Par ts) (parallel_level fits flag ts tt)
    (when (is_next kind.Fence ts) (fence_level fits flag ts tt)
    (when (is_next kind.Assert ts) (assert_level fits flag ts tt)
    (when (is_next kind.Print ts) (print_level fits flag ts tt)
    (when (is_next kind.Free ts) (free_level fits flag ts tt)
    (when (is_next kind.Return ts) (return_level fits flag ts tt)
    (when (is_next kind.Bank ts) (bank_level fits flag ts tt)
    (when (is_next kind.Mint ts || is_next kind.Burn ts) (step_statement_level fits flag ts tt)
    (assign_level fits flag ts tt)))))))))))

abbrev pub StatementLevel : ℕ → ℕ → Reader Statement → Type 0
StatementLevel n room reader = (F : List Opened) → Fits n room F → LevelOf n F Any Any reader

pub block_of_level : {n room : ℕ} {F : List Opened} {inner : Reader Statement} → StatementLevel n (room - 1) inner → Fits n room F
    → LevelOf n F Any Any (read_block_of room inner)
unfolding read_block_of
block_of_level each fits flag ts q =
    and_then (open_level kind.OpenBrace (λ b. refl) fits.fits flag ts) (λ start l1 f1 q1.
    and_then (many_of_level {Q = Any} goes_on (each _ (inside fits q1.roomy)) f1 l1 tt) (λ all l2 f2 q2.
    and_then (close_brace fits f2 l2) (λ end l3 f3 q3. done f3 tt)))

pub otherwise_level : {n room : ℕ} {F : List Opened} {inner : Reader Statement} → StatementLevel n (room - 1) inner → Fits n room F
    → LevelOf n F Any Any (read_otherwise room inner)
unfolding read_otherwise
otherwise_level each fits flag ts q =
    and_then (take_plain kind.Else (λ F b. refl) fits flag ts) (λ word l1 f1 q1. and_then (block_of_level each fits f1 l1 tt) (λ block l2 f2 q2.
    done f2 tt))

pub optional_otherwise_level : {n room : ℕ} {F : List Opened} {inner : Reader Statement} → StatementLevel n (room - 1) inner → Fits n room F
    → LevelOf n F Any Any (read_optional_otherwise room inner)
unfolding read_optional_otherwise
optional_otherwise_level each fits flag ts q =
    when (is_next kind.Else ts) (and_then (otherwise_level each fits flag ts tt) (λ o l1 f1 q1. done f1 tt))
    (done flag tt)

pub if_level : {n room : ℕ} {F : List Opened} {inner : Reader Statement} → StatementLevel n (room - 1) inner → Fits n room F
    → LevelOf n F Any Any (read_if room inner)
unfolding read_if
if_level each fits flag ts q =
    and_then (test_level kind.If (λ F b. refl) fits flag ts tt) (λ t l1 f1 q1. and_then (block_of_level each fits f1 l1 tt) (λ block l2 f2 q2.
    and_then (optional_otherwise_level each fits f2 l2 tt) (λ otherwise l3 f3 q3. done f3 tt)))

pub optional_clause_level : {n room : ℕ} {F : List Opened} (word : TokenKind) → IsPlain word → Fits n room F
    → LevelOf n F Any Any (read_optional_clause word room)
unfolding read_optional_clause
optional_clause_level word plain fits flag ts q =
    when (is_next word ts) (and_then (clause_level word plain fits flag ts tt) (λ c l1 f1 q1. done f1 tt))
    (done flag tt)

pub while_level : {n room : ℕ} {F : List Opened} {inner : Reader Statement} → StatementLevel n (room - 1) inner → Fits n room F
    → LevelOf n F Any Any (read_while room inner)
unfolding read_while
while_level each fits flag ts q =
    and_then (test_level kind.While (λ F b. refl) fits flag ts tt) (λ t l1 f1 q1.
    and_then (optional_clause_level kind.Inv (λ F b. refl) fits f1 l1 tt) (λ invariant l2 f2 q2.
    and_then (block_of_level each fits f2 l2 tt) (λ body l3 f3 q3. done f3 tt)))

pub statement_of_level : {n room : ℕ} {F : List Opened} {inner : Reader Statement} → StatementLevel n (room - 1) inner → Fits n room F
    → LevelOf n F Any Any (read_statement_of room inner)
statement_of_level each fits flag ts q =
    when (is_next kind.If ts) (if_level each fits flag ts tt)
    (when (is_next kind.While ts) (while_level each fits flag ts tt)
    (simple_statement_level fits flag ts tt))

pub statement_level : (n room : ℕ) → StatementLevel n room (read_statement room)
statement_level n zero F fits = statement_of_level {inner = λ tokens. Wrong tokens} (λ G h flag ts q. off) fits
statement_level n (suc room) F fits = statement_of_level {inner = read_statement room}
    (subst (λ (k : ℕ). StatementLevel n k (read_statement room)) (omega arith) (statement_level n room)) fits

pub block_level : {n room : ℕ} {F : List Opened} → Fits n room F → LevelOf n F Any Any (read_block room)
block_level {n = n} {room = room} fits = block_of_level (statement_level n (room - 1)) fits
