-- What is read as a right side, a statement or a block has its tokens, and nests no deeper than there was room for.
use Rattle.std.proofs.Common.{ℕ, zero, suc, ◌-◌, ◌||◌, refl, subst, arith}
use Rattle.fsl_token.specs.declared.kind.TokenKind.{TokenKind}
use Rattle.fsl_tree.specs.declared.statement.Statement.{Statement}
use Rattle.fsl_tree.specs.declared.statement.Statement.TheOpen.{Statement-F}
use Rattle.fsl_grammar.specs.Heads.{is_next}
use Rattle.fsl_grammar.specs.Readers.{Wrong, Reader}
use Rattle.fsl_tree.specs.SpelledStatements.{mode_token, cell_token, update_word_token, step_word_token, step, step_line, optional_with, allocation, right_side, optional_clause, optional_expression, parallel_call, release_word_token, fence, statement, block, otherwise, optional_otherwise}
use Rattle.fsl_tree.specs.Nesting.{in_step, in_step_line, in_with, in_allocation, in_right_side, in_optional_clause, in_optional_expression, in_parallel_call, in_fence, in_statement, in_block, in_otherwise, in_optional_otherwise}
use Rattle.fsl_grammar.specs.ReadStatements.{read_mode, read_shared_cell, read_shared, read_allocation, read_update_word, read_step_word, read_step, read_step_line, is_step_next, read_with, read_optional_with, read_load, read_compare_and_swap, read_update, read_called, read_allocate, read_right_side, read_let, read_assign, read_store, read_call, read_parallel_call, read_parallel, read_release_word, read_release, read_fence_kind, read_fence, read_assert, read_print, read_free, read_optional_expression, read_return, read_bank, read_step_statement, read_simple_statement, goes_on, read_block_of, read_otherwise, read_optional_otherwise, read_if, read_optional_clause, read_while, read_statement_of, read_statement, read_block}
use Rattle.fsl_token.specs.declared.kind.TokenKind.TheVariants as kind
use Rattle.fsl_grammar.proofs.Layers.{if_spells, if_nests, statement_spells, statement_nests, block_spells, block_nests, otherwise_spells, otherwise_nests}
use Rattle.fsl_grammar.proofs.Sound.{is_read, maybe_read, found, wrong, and_then, when, Sound, SoundIfThere, one, none, take_sound, open_sound, many_of_sound, some_with, in_some_with}
use Rattle.fsl_grammar.proofs.SoundExpressions.{expression_sound, usage_sound}
use Rattle.fsl_grammar.proofs.SoundGroups.{enclosed_sound, test_sound, pair_sound, triple_sound}
use Rattle.fsl_grammar.proofs.SoundAssertions.{assertion_sound, clause_sound}

pub mode_sound : (room : ℕ) → Sound (one mode_token) none room read_mode
unfolding read_mode
mode_sound room ts =
    when (is_next kind.Na ts) (λ h. and_then (take_sound kind.Na ts) (λ place l1 e1. found _ _ (is_read (cc) (omega arith) (omega arith))))
    (λ h. when (is_next kind.Rlx ts) (λ h. and_then (take_sound kind.Rlx ts) (λ place l1 e1. found _ _ (is_read (cc) (omega arith) (omega arith))))
    (λ h. when (is_next kind.Acq ts) (λ h. and_then (take_sound kind.Acq ts) (λ place l1 e1. found _ _ (is_read (cc) (omega arith) (omega arith))))
    (λ h. when (is_next kind.Rel ts) (λ h. and_then (take_sound kind.Rel ts) (λ place l1 e1. found _ _ (is_read (cc) (omega arith) (omega arith))))
    (λ h. and_then (take_sound kind.AcqRel ts) (λ place l1 e1. found _ _ (is_read (cc) (omega arith) (omega arith)))))))

pub shared_cell_sound : (room : ℕ) → Sound (one cell_token) none room read_shared_cell
unfolding read_shared_cell
shared_cell_sound room ts =
    when (is_next kind.Acq ts) (λ h. and_then (take_sound kind.Acq ts) (λ place l1 e1. found _ _ (is_read (cc) (omega arith) (omega arith))))
    (λ h. and_then (take_sound kind.Rmw ts) (λ place l1 e1. found _ _ (is_read (cc) (omega arith) (omega arith))))

pub shared_sound : (room : ℕ) → Sound allocation in_allocation room (read_shared room)
unfolding read_shared
shared_sound room ts =
    and_then (shared_cell_sound room ts) (λ cell l1 e1. and_then (usage_sound room l1) (λ invariant l2 e2.
    found _ _ (is_read (cc) (omega arith) (omega arith))))

pub allocation_sound : (room : ℕ) → Sound allocation in_allocation room (read_allocation room)
unfolding read_allocation
allocation_sound room ts =
    when (is_next kind.Na ts) (λ h. and_then (take_sound kind.Na ts) (λ word l1 e1. found _ _ (is_read (cc) (omega arith) (omega arith))))
    (λ h. shared_sound room ts)

pub update_word_sound : (room : ℕ) → Sound (one update_word_token) none room read_update_word
unfolding read_update_word
update_word_sound room ts =
    when (is_next kind.FetchAdd ts) (λ h. and_then (take_sound kind.FetchAdd ts) (λ place l1 e1.
    found _ _ (is_read (cc) (omega arith) (omega arith))))
    (λ h. and_then (take_sound kind.Exchange ts) (λ place l1 e1. found _ _ (is_read (cc) (omega arith) (omega arith))))

pub step_word_sound : (room : ℕ) → Sound (one step_word_token) none room read_step_word
unfolding read_step_word
step_word_sound room ts =
    when (is_next kind.Mint ts) (λ h. and_then (take_sound kind.Mint ts) (λ place l1 e1. found _ _ (is_read (cc) (omega arith) (omega arith))))
    (λ h. and_then (take_sound kind.Burn ts) (λ place l1 e1. found _ _ (is_read (cc) (omega arith) (omega arith))))

pub step_sound : (room : ℕ) → Sound step in_step room (read_step room)
unfolding read_step
step_sound room ts =
    and_then (step_word_sound room ts) (λ word l1 e1. and_then (open_sound kind.OpenParen room l1) (λ start l2 e2.
    and_then (take_sound kind.Name l2) (λ bank l3 e3. and_then (take_sound kind.Comma l3) (λ comma l4 e4.
    and_then (expression_sound (room - 1) l4) (λ amount l5 e5. and_then (take_sound kind.CloseParen l5) (λ end l6 e6.
    found _ _ (is_read (cc) (omega arith) (omega arith))))))))

pub step_line_sound : (room : ℕ) → Sound step_line in_step_line room (read_step_line room)
unfolding read_step_line
step_line_sound room ts =
    and_then (step_sound room ts) (λ step l1 e1. and_then (take_sound kind.Semicolon l1) (λ semicolon l2 e2.
    found _ _ (is_read (cc) (omega arith) (omega arith))))

pub with_sound : (room : ℕ) → Sound some_with in_some_with room (read_with room)
unfolding read_with
with_sound room ts =
    and_then (take_sound kind.With ts) (λ word l1 e1. and_then (open_sound kind.OpenBrace room l1) (λ start l2 e2.
    and_then (many_of_sound is_step_next (step_line_sound (room - 1)) l2) (λ steps l3 e3. and_then (take_sound kind.CloseBrace l3) (λ end l4 e4.
    found _ _ (is_read (cc) (omega arith) (omega arith))))))

pub optional_with_sound : (room : ℕ) → SoundIfThere optional_with in_with room (read_optional_with room)
unfolding read_optional_with
optional_with_sound room ts =
    when (is_next kind.With ts) (λ h. and_then (with_sound room ts) (λ w l1 e1. found _ _ (maybe_read (cc) (omega arith) (omega arith))))
    (λ h. found _ _ (maybe_read refl (omega arith) (omega arith)))

pub load_sound : (room : ℕ) → Sound right_side in_right_side room (read_load room)
unfolding read_load
load_sound room ts =
    and_then (take_sound kind.Load ts) (λ word l1 e1. and_then (mode_sound room l1) (λ mode l2 e2.
    and_then (open_sound kind.OpenParen room l2) (λ start l3 e3. and_then (expression_sound (room - 1) l3) (λ location l4 e4.
    and_then (take_sound kind.CloseParen l4) (λ end l5 e5. found _ _ (is_read (cc) (omega arith) (omega arith)))))))

pub compare_and_swap_sound : (room : ℕ) → Sound right_side in_right_side room (read_compare_and_swap room)
unfolding read_compare_and_swap
compare_and_swap_sound room ts =
    and_then (take_sound kind.Cas ts) (λ word l1 e1. and_then (mode_sound room l1) (λ success l2 e2. and_then (mode_sound room l2) (λ failure l3 e3.
    and_then (triple_sound room l3) (λ t l4 e4. and_then (optional_with_sound room l4) (λ timed l5 e5.
    found _ _ (is_read (cc) (omega arith) (omega arith)))))))

pub update_sound : (room : ℕ) → Sound right_side in_right_side room (read_update room)
unfolding read_update
update_sound room ts =
    and_then (update_word_sound room ts) (λ word l1 e1. and_then (mode_sound room l1) (λ mode l2 e2. and_then (pair_sound room l2) (λ p l3 e3.
    and_then (optional_with_sound room l3) (λ timed l4 e4. found _ _ (is_read (cc) (omega arith) (omega arith))))))

pub called_sound : (room : ℕ) → Sound right_side in_right_side room (read_called room)
unfolding read_called
called_sound room ts =
    and_then (take_sound kind.Call ts) (λ word l1 e1. and_then (usage_sound room l1) (λ callee l2 e2.
    found _ _ (is_read (cc) (omega arith) (omega arith))))

pub allocate_sound : (room : ℕ) → Sound right_side in_right_side room (read_allocate room)
unfolding read_allocate
allocate_sound room ts =
    and_then (take_sound kind.Alloc ts) (λ word l1 e1. and_then (allocation_sound room l1) (λ what l2 e2.
    found _ _ (is_read (cc) (omega arith) (omega arith))))

pub right_side_sound : (room : ℕ) → Sound right_side in_right_side room (read_right_side room)
unfolding read_right_side
right_side_sound room ts =
    when (is_next kind.Call ts) (λ h. called_sound room ts)
    (λ h. when (is_next kind.Alloc ts) (λ h. allocate_sound room ts)
    (λ h. when (is_next kind.Load ts) (λ h. load_sound room ts)
    (λ h. when (is_next kind.Cas ts) (λ h. compare_and_swap_sound room ts)
    (λ h. when (is_next kind.FetchAdd ts || is_next kind.Exchange ts) (λ h. update_sound room ts)
    (λ h. and_then (expression_sound room ts) (λ value l1 e1. found _ _ (is_read (cc) (omega arith) (omega arith))))))))

pub let_sound : (room : ℕ) → Sound statement in_statement room (read_let room)
unfolding read_let
let_sound room ts =
    and_then (take_sound kind.Let ts) (λ word l1 e1. and_then (take_sound kind.Name l1) (λ name l2 e2.
    and_then (take_sound kind.Assign l2) (λ equals l3 e3. and_then (right_side_sound room l3) (λ right l4 e4.
    and_then (take_sound kind.Semicolon l4) (λ semicolon l5 e5.
    let spells = statement_spells (Statement-F.Let word name equals right semicolon) l5 in
    let nests = statement_nests (Statement-F.Let word name equals right semicolon) in found _ _ (is_read (cc) (omega arith) (omega arith)))))))

pub assign_sound : (room : ℕ) → Sound statement in_statement room (read_assign room)
unfolding read_assign
assign_sound room ts =
    and_then (take_sound kind.Name ts) (λ name l1 e1. and_then (take_sound kind.Assign l1) (λ equals l2 e2.
    and_then (right_side_sound room l2) (λ right l3 e3. and_then (take_sound kind.Semicolon l3) (λ semicolon l4 e4.
    let spells = statement_spells (Statement-F.Assign name equals right semicolon) l4 in
    let nests = statement_nests (Statement-F.Assign name equals right semicolon) in found _ _ (is_read (cc) (omega arith) (omega arith))))))

pub store_sound : (room : ℕ) → Sound statement in_statement room (read_store room)
unfolding read_store
store_sound room ts =
    and_then (take_sound kind.Store ts) (λ word l1 e1. and_then (mode_sound room l1) (λ mode l2 e2. and_then (pair_sound room l2) (λ p l3 e3.
    and_then (take_sound kind.Semicolon l3) (λ semicolon l4 e4.
    let spells = statement_spells (Statement-F.Store word mode p.open p.location p.value.comma p.value.value p.close semicolon) l4 in
    let nests = statement_nests (Statement-F.Store word mode p.open p.location p.value.comma p.value.value p.close semicolon) in
    found _ _ (is_read (cc) (omega arith) (omega arith))))))

pub call_sound : (room : ℕ) → Sound statement in_statement room (read_call room)
unfolding read_call
call_sound room ts =
    and_then (take_sound kind.Call ts) (λ word l1 e1. and_then (usage_sound room l1) (λ callee l2 e2.
    and_then (take_sound kind.Semicolon l2) (λ semicolon l3 e3. let spells = statement_spells (Statement-F.Call word callee semicolon) l3 in
    let nests = statement_nests (Statement-F.Call word callee semicolon) in found _ _ (is_read (cc) (omega arith) (omega arith)))))

pub parallel_call_sound : (room : ℕ) → Sound parallel_call in_parallel_call room (read_parallel_call room)
unfolding read_parallel_call
parallel_call_sound room ts =
    and_then (usage_sound room ts) (λ callee l1 e1. and_then (take_sound kind.Semicolon l1) (λ semicolon l2 e2.
    found _ _ (is_read (cc) (omega arith) (omega arith))))

pub parallel_sound : (room : ℕ) → Sound statement in_statement room (read_parallel room)
unfolding read_parallel
parallel_sound room ts =
    and_then (take_sound kind.Par ts) (λ word l1 e1. and_then (open_sound kind.OpenBrace room l1) (λ start l2 e2.
    and_then (many_of_sound (is_next kind.Name) (parallel_call_sound (room - 1)) l2) (λ calls l3 e3.
    and_then (take_sound kind.CloseBrace l3) (λ end l4 e4. let spells = statement_spells (Statement-F.Parallel word start calls end) l4 in
    let nests = statement_nests (Statement-F.Parallel word start calls end) in found _ _ (is_read (cc) (omega arith) (omega arith))))))

pub release_word_sound : (room : ℕ) → Sound (one release_word_token) none room read_release_word
unfolding read_release_word
release_word_sound room ts =
    when (is_next kind.Rel ts) (λ h. and_then (take_sound kind.Rel ts) (λ place l1 e1. found _ _ (is_read (cc) (omega arith) (omega arith))))
    (λ h. and_then (take_sound kind.AcqRel ts) (λ place l1 e1. found _ _ (is_read (cc) (omega arith) (omega arith))))

pub release_sound : (room : ℕ) → Sound fence in_fence room (read_release room)
unfolding read_release
release_sound room ts =
    and_then (release_word_sound room ts) (λ word l1 e1. and_then (open_sound kind.OpenParen room l1) (λ start l2 e2.
    and_then (assertion_sound (room - 1) l2) (λ given l3 e3. and_then (take_sound kind.CloseParen l3) (λ end l4 e4.
    found _ _ (is_read (cc) (omega arith) (omega arith))))))

pub fence_kind_sound : (room : ℕ) → Sound fence in_fence room (read_fence_kind room)
unfolding read_fence_kind
fence_kind_sound room ts =
    when (is_next kind.Acq ts) (λ h. and_then (take_sound kind.Acq ts) (λ word l1 e1. found _ _ (is_read (cc) (omega arith) (omega arith))))
    (λ h. release_sound room ts)

pub fence_sound : (room : ℕ) → Sound statement in_statement room (read_fence room)
unfolding read_fence
fence_sound room ts =
    and_then (take_sound kind.Fence ts) (λ word l1 e1. and_then (fence_kind_sound room l1) (λ what l2 e2.
    and_then (take_sound kind.Semicolon l2) (λ semicolon l3 e3. let spells = statement_spells (Statement-F.Fence word what semicolon) l3 in
    let nests = statement_nests (Statement-F.Fence word what semicolon) in found _ _ (is_read (cc) (omega arith) (omega arith)))))

pub assert_sound : (room : ℕ) → Sound statement in_statement room (read_assert room)
unfolding read_assert
assert_sound room ts =
    and_then (test_sound kind.Assert room ts) (λ t l1 e1. and_then (take_sound kind.Semicolon l1) (λ semicolon l2 e2.
    let spells = statement_spells (Statement-F.Assert t.word t.open t.condition t.close semicolon) l2 in
    let nests = statement_nests (Statement-F.Assert t.word t.open t.condition t.close semicolon) in
    found _ _ (is_read (cc) (omega arith) (omega arith))))

pub print_sound : (room : ℕ) → Sound statement in_statement room (read_print room)
unfolding read_print
print_sound room ts =
    and_then (enclosed_sound kind.Print room ts) (λ e l1 e1. and_then (take_sound kind.Semicolon l1) (λ semicolon l2 e2.
    let spells = statement_spells (Statement-F.Print e.word e.open e.expression e.close semicolon) l2 in
    let nests = statement_nests (Statement-F.Print e.word e.open e.expression e.close semicolon) in
    found _ _ (is_read (cc) (omega arith) (omega arith))))

pub free_sound : (room : ℕ) → Sound statement in_statement room (read_free room)
unfolding read_free
free_sound room ts =
    and_then (enclosed_sound kind.Free room ts) (λ e l1 e1. and_then (take_sound kind.Semicolon l1) (λ semicolon l2 e2.
    let spells = statement_spells (Statement-F.Free e.word e.open e.expression e.close semicolon) l2 in
    let nests = statement_nests (Statement-F.Free e.word e.open e.expression e.close semicolon) in
    found _ _ (is_read (cc) (omega arith) (omega arith))))

pub optional_expression_sound : (room : ℕ) → SoundIfThere optional_expression in_optional_expression room (read_optional_expression room)
unfolding read_optional_expression
optional_expression_sound room ts =
    when (is_next kind.Semicolon ts) (λ h. found _ _ (maybe_read refl (omega arith) (omega arith)))
    (λ h. and_then (expression_sound room ts) (λ value l1 e1. found _ _ (maybe_read (cc) (omega arith) (omega arith))))

pub return_sound : (room : ℕ) → Sound statement in_statement room (read_return room)
unfolding read_return
return_sound room ts =
    and_then (take_sound kind.Return ts) (λ word l1 e1. and_then (optional_expression_sound room l1) (λ value l2 e2.
    and_then (take_sound kind.Semicolon l2) (λ semicolon l3 e3. let spells = statement_spells (Statement-F.Return word value semicolon) l3 in
    let nests = statement_nests (Statement-F.Return word value semicolon) in found _ _ (is_read (cc) (omega arith) (omega arith)))))

pub bank_sound : (room : ℕ) → Sound statement in_statement room read_bank
unfolding read_bank
bank_sound room ts =
    and_then (take_sound kind.Bank ts) (λ word l1 e1. and_then (take_sound kind.Name l1) (λ name l2 e2.
    and_then (take_sound kind.Semicolon l2) (λ semicolon l3 e3. let spells = statement_spells (Statement-F.Bank word name semicolon) l3 in
    let nests = statement_nests (Statement-F.Bank word name semicolon) in found _ _ (is_read (cc) (omega arith) (omega arith)))))

pub step_statement_sound : (room : ℕ) → Sound statement in_statement room (read_step_statement room)
unfolding read_step_statement
step_statement_sound room ts =
    and_then (step_sound room ts) (λ step l1 e1. and_then (take_sound kind.Semicolon l1) (λ semicolon l2 e2.
    let spells = statement_spells (Statement-F.Step step semicolon) l2 in let nests = statement_nests (Statement-F.Step step semicolon) in
    found _ _ (is_read (cc) (omega arith) (omega arith))))

pub simple_statement_sound : (room : ℕ) → Sound statement in_statement room (read_simple_statement room)
unfolding read_simple_statement
simple_statement_sound room ts =
    when (is_next kind.Let ts) (λ h. let_sound room ts)
    (λ h. when (is_next kind.Store ts) (λ h. store_sound room ts)
    (λ h. when (is_next kind.Call ts) (λ h. call_sound room ts)
    (λ h. when (is_next kind.Par ts) (λ h. parallel_sound room ts)
    (λ h. when (is_next kind.Fence ts) (λ h. fence_sound room ts)
    (λ h. when (is_next kind.Assert ts) (λ h. assert_sound room ts)
    (λ h. when (is_next kind.Print ts) (λ h. print_sound room ts)
    (λ h. when (is_next kind.Free ts) (λ h. free_sound room ts)
    (λ h. when (is_next kind.Return ts) (λ h. return_sound room ts)
    (λ h. when (is_next kind.Bank ts) (λ h. bank_sound room ts)
    (λ h. when (is_next kind.Mint ts || is_next kind.Burn ts) (λ h. step_statement_sound room ts)
    (λ h. assign_sound room ts)))))))))))

pub block_of_sound : (room : ℕ) (inner : Reader Statement) → Sound statement in_statement (room - 1) inner
    → Sound block in_block room (read_block_of room inner)
unfolding read_block_of
block_of_sound room inner each ts =
    and_then (open_sound kind.OpenBrace room ts) (λ start l1 e1. and_then (many_of_sound goes_on each l1) (λ all l2 e2.
    and_then (take_sound kind.CloseBrace l2) (λ end l3 e3.
    let spells = block_spells (record { «open» = start; statements = all; close = end }) l3 in
    let nests = block_nests (record { «open» = start; statements = all; close = end }) in found _ _ (is_read (cc) (omega arith) (omega arith)))))

pub otherwise_sound : (room : ℕ) (inner : Reader Statement) → Sound statement in_statement (room - 1) inner
    → Sound otherwise in_otherwise room (read_otherwise room inner)
unfolding read_otherwise
otherwise_sound room inner each ts =
    and_then (take_sound kind.Else ts) (λ word l1 e1. and_then (block_of_sound room inner each l1) (λ block l2 e2.
    let spells = otherwise_spells (record { word = word; block = block }) l2 in
    let nests = otherwise_nests (record { word = word; block = block }) in found _ _ (is_read (cc) (omega arith) (omega arith))))

pub optional_otherwise_sound : (room : ℕ) (inner : Reader Statement) → Sound statement in_statement (room - 1) inner
    → SoundIfThere optional_otherwise in_optional_otherwise room (read_optional_otherwise room inner)
unfolding read_optional_otherwise
optional_otherwise_sound room inner each ts =
    when (is_next kind.Else ts) (λ h. and_then (otherwise_sound room inner each ts) (λ o l1 e1.
    found _ _ (maybe_read (cc) (omega arith) (omega arith))))
    (λ h. found _ _ (maybe_read refl (omega arith) (omega arith)))

pub if_sound : (room : ℕ) (inner : Reader Statement) → Sound statement in_statement (room - 1) inner
    → Sound statement in_statement room (read_if room inner)
unfolding read_if
if_sound room inner each ts =
    and_then (test_sound kind.If room ts) (λ t l1 e1. and_then (block_of_sound room inner each l1) (λ block l2 e2.
    and_then (optional_otherwise_sound room inner each l2) (λ otherwise l3 e3.
    let spells = if_spells t.word t.open t.condition t.close block otherwise l3 in
    let nests = if_nests t.word t.open t.condition t.close block otherwise in found _ _ (is_read (cc) (omega arith) (omega arith)))))

pub optional_clause_sound : (word : TokenKind) (room : ℕ)
    → SoundIfThere (optional_clause word) in_optional_clause room (read_optional_clause word room)
unfolding read_optional_clause
optional_clause_sound word room ts =
    when (is_next word ts) (λ h. and_then (clause_sound word room ts) (λ c l1 e1. found _ _ (maybe_read (cc) (omega arith) (omega arith))))
    (λ h. found _ _ (maybe_read refl (omega arith) (omega arith)))

pub while_sound : (room : ℕ) (inner : Reader Statement) → Sound statement in_statement (room - 1) inner
    → Sound statement in_statement room (read_while room inner)
unfolding read_while
while_sound room inner each ts =
    and_then (test_sound kind.While room ts) (λ t l1 e1. and_then (optional_clause_sound kind.Inv room l1) (λ invariant l2 e2.
    and_then (block_of_sound room inner each l2) (λ body l3 e3.
    let spells = statement_spells (Statement-F.While t.word t.open t.condition t.close invariant body) l3 in
    let nests = statement_nests (Statement-F.While t.word t.open t.condition t.close invariant body) in
    found _ _ (is_read (cc) (omega arith) (omega arith)))))

pub statement_of_sound : (room : ℕ) (inner : Reader Statement) → Sound statement in_statement (room - 1) inner
    → Sound statement in_statement room (read_statement_of room inner)
statement_of_sound room inner each ts =
    when (is_next kind.If ts) (λ h. if_sound room inner each ts)
    (λ h. when (is_next kind.While ts) (λ h. while_sound room inner each ts)
    (λ h. simple_statement_sound room ts))

pub statement_sound : (room : ℕ) → Sound statement in_statement room (read_statement room)
statement_sound zero = statement_of_sound 0 (λ tokens. Wrong tokens) (λ tokens. wrong tokens)
statement_sound (suc room) = statement_of_sound (suc room) (read_statement room)
    (subst (λ (k : ℕ). Sound statement in_statement k (read_statement room)) (omega arith) (statement_sound room))

pub block_sound : (room : ℕ) → Sound block in_block room (read_block room)
block_sound room = block_of_sound room (read_statement (room - 1)) (statement_sound (room - 1))
