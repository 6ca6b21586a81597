-- How right sides, statements and blocks are read.
use Rattle.std.specs.Prelude.{ℕ, zero, suc, ◌-◌, Bool, not, if◌then◌else◌, ◌||◌, ◌&&◌, List, Option, Some, None, length}
use Rattle.fsl_token.specs.declared.kind.TokenKind.{TokenKind}
use Rattle.fsl_token.specs.declared.kind.TokenKind.TheVariants as kind
use Rattle.fsl_tree.specs.SpelledExpressions.{Tokens}
use Rattle.fsl_tree.specs.declared.declaration.Clause.{Clause}
use Rattle.fsl_tree.specs.declared.expression.Expression.{Expression}
use Rattle.fsl_tree.specs.declared.right_side.RightSide.{RightSide}
use Rattle.fsl_tree.specs.declared.right_side.RightSide.TheVariants as right_sides
use Rattle.fsl_tree.specs.declared.right_side.Allocation.{Allocation}
use Rattle.fsl_tree.specs.declared.right_side.Allocation.TheVariants as allocations
use Rattle.fsl_tree.specs.declared.right_side.SharedCell.{SharedCell}
use Rattle.fsl_tree.specs.declared.right_side.SharedCell.TheVariants as cells
use Rattle.fsl_tree.specs.declared.right_side.UpdateWord.{UpdateWord}
use Rattle.fsl_tree.specs.declared.right_side.UpdateWord.TheVariants as update_words
use Rattle.fsl_tree.specs.declared.right_side.Mode.{Mode}
use Rattle.fsl_tree.specs.declared.right_side.Mode.TheVariants as modes
use Rattle.fsl_tree.specs.declared.right_side.With.{With}
use Rattle.fsl_tree.specs.declared.right_side.StepLine.{StepLine}
use Rattle.fsl_tree.specs.declared.right_side.Step.{Step}
use Rattle.fsl_tree.specs.declared.right_side.StepWord.{StepWord}
use Rattle.fsl_tree.specs.declared.right_side.StepWord.TheVariants as step_words
use Rattle.fsl_tree.specs.declared.statement.ParallelCall.{ParallelCall}
use Rattle.fsl_tree.specs.declared.statement.FenceKind.{FenceKind}
use Rattle.fsl_tree.specs.declared.statement.FenceKind.TheVariants as fences
use Rattle.fsl_tree.specs.declared.statement.ReleaseWord.{ReleaseWord}
use Rattle.fsl_tree.specs.declared.statement.ReleaseWord.TheVariants as release_words
use Rattle.fsl_tree.specs.declared.statement.Statement.{Statement}
use Rattle.fsl_tree.specs.declared.statement.Statement.TheOpen.{Statement-F}
use Rattle.fsl_tree.specs.declared.statement.Statement.TheViews.{roll-Statement, roll-Block, roll-Otherwise}
use Rattle.fsl_tree.specs.declared.statement.Block.{Block}
use Rattle.fsl_tree.specs.declared.statement.Otherwise.{Otherwise}
use Rattle.fsl_grammar.specs.declared.groups.Guarded.{Guarded}
use Rattle.fsl_grammar.specs.Heads.{is_more, is_next}
use Rattle.fsl_grammar.specs.Readers.{Outcome, Found, Wrong, Reader, bind, take, open_at, number, many_of}
use Rattle.fsl_grammar.specs.ReadExpressions.{read_expression, read_usage}
use Rattle.fsl_grammar.specs.ReadGroups.{read_enclosed, read_test, read_pair, read_triple}
use Rattle.fsl_grammar.specs.ReadAssertions.{read_assertion, read_clause}

-- ---- right sides

unfoldable pub read_mode : Reader Mode
read_mode tokens =
    if is_next kind.Na tokens then bind (take kind.Na tokens) (λ place left. Found (modes.NonAtomic place) left)
    else (if is_next kind.Rlx tokens then bind (take kind.Rlx tokens) (λ place left. Found (modes.Relaxed place) left)
    else (if is_next kind.Acq tokens then bind (take kind.Acq tokens) (λ place left. Found (modes.Acquire place) left)
    else (if is_next kind.Rel tokens then bind (take kind.Rel tokens) (λ place left. Found (modes.Release place) left)
    else bind (take kind.AcqRel tokens) (λ place left. Found (modes.AcquireRelease place) left))))

unfoldable pub read_shared_cell : Reader SharedCell
read_shared_cell tokens =
    if is_next kind.Acq tokens then bind (take kind.Acq tokens) (λ place left. Found (cells.Acq place) left)
    else bind (take kind.Rmw tokens) (λ place left. Found (cells.Rmw place) left)

unfoldable pub read_shared : ℕ → Reader Allocation
read_shared room tokens =
    bind (read_shared_cell tokens) (λ cell left. bind (read_usage room left) (λ invariant left. Found (allocations.Shared cell invariant) left))

unfoldable pub read_allocation : ℕ → Reader Allocation
read_allocation room tokens =
    if is_next kind.Na tokens then bind (take kind.Na tokens) (λ word left. Found (allocations.NonAtomic word) left)
    else read_shared room tokens

unfoldable pub read_update_word : Reader UpdateWord
read_update_word tokens =
    if is_next kind.FetchAdd tokens then bind (take kind.FetchAdd tokens) (λ place left. Found (update_words.FetchAdd place) left)
    else bind (take kind.Exchange tokens) (λ place left. Found (update_words.Exchange place) left)

unfoldable pub read_step_word : Reader StepWord
read_step_word tokens =
    if is_next kind.Mint tokens then bind (take kind.Mint tokens) (λ place left. Found (step_words.Mint place) left)
    else bind (take kind.Burn tokens) (λ place left. Found (step_words.Burn place) left)

unfoldable pub read_step : ℕ → Reader Step
read_step room tokens =
    bind (read_step_word tokens) (λ word left. bind (open_at kind.OpenParen room left) (λ start left.
    bind (take kind.Name left) (λ bank left. bind (take kind.Comma left) (λ comma left.
    bind (read_expression (room - 1) left) (λ amount left. bind (take kind.CloseParen left) (λ end left.
    Found (record { word = word; «open» = start; bank = bank; comma = comma; amount = amount; close = end }) left))))))

unfoldable pub read_step_line : ℕ → Reader StepLine
read_step_line room tokens =
    bind (read_step room tokens) (λ step left. bind (take kind.Semicolon left) (λ semicolon left.
    Found (record { step = step; semicolon = semicolon }) left))

abbrev pub is_step_next : Tokens → Bool
is_step_next tokens = is_next kind.Mint tokens || is_next kind.Burn tokens

unfoldable pub read_with : ℕ → Reader With
read_with room tokens =
    bind (take kind.With tokens) (λ word left. bind (open_at kind.OpenBrace room left) (λ start left.
    bind (many_of is_step_next (read_step_line (room - 1)) left) (λ steps left.
    bind (take kind.CloseBrace left) (λ end left.
    Found (record { word = word; «open» = start; steps = steps; close = end }) left))))

unfoldable pub read_optional_with : ℕ → Reader (Option With)
read_optional_with room tokens =
    if is_next kind.With tokens then bind (read_with room tokens) (λ w left. Found (Some w) left) else Found None tokens

unfoldable pub read_load : ℕ → Reader RightSide
read_load room tokens =
    bind (take kind.Load tokens) (λ word left. bind (read_mode left) (λ mode left.
    bind (open_at kind.OpenParen room left) (λ start left. bind (read_expression (room - 1) left) (λ location left.
    bind (take kind.CloseParen left) (λ end left. Found (right_sides.Load word mode start location end) left)))))

unfoldable pub read_compare_and_swap : ℕ → Reader RightSide
read_compare_and_swap room tokens =
    bind (take kind.Cas tokens) (λ word left. bind (read_mode left) (λ success left. bind (read_mode left) (λ failure left.
    bind (read_triple room left) (λ t left. bind (read_optional_with room left) (λ timed left.
    Found (right_sides.CompareAndSwap word success failure t.open t.location t.expected.comma t.expected.value t.new.comma t.new.value t.close timed) left)))))

unfoldable pub read_update : ℕ → Reader RightSide
read_update room tokens =
    bind (read_update_word tokens) (λ word left. bind (read_mode left) (λ mode left. bind (read_pair room left) (λ p left.
    bind (read_optional_with room left) (λ timed left.
    Found (right_sides.Update word mode p.open p.location p.value.comma p.value.value p.close timed) left))))

unfoldable pub read_called : ℕ → Reader RightSide
read_called room tokens =
    bind (take kind.Call tokens) (λ word left. bind (read_usage room left) (λ callee left. Found (right_sides.Call word callee) left))

unfoldable pub read_allocate : ℕ → Reader RightSide
read_allocate room tokens =
    bind (take kind.Alloc tokens) (λ word left. bind (read_allocation room left) (λ what left. Found (right_sides.Allocate word what) left))

unfoldable pub read_right_side : ℕ → Reader RightSide
read_right_side room tokens =
    if is_next kind.Call tokens then read_called room tokens
    else (if is_next kind.Alloc tokens then read_allocate room tokens
    else (if is_next kind.Load tokens then read_load room tokens
    else (if is_next kind.Cas tokens then read_compare_and_swap room tokens
    else (if is_next kind.FetchAdd tokens || is_next kind.Exchange tokens then read_update room tokens
    else bind (read_expression room tokens) (λ value left. Found (right_sides.Value value) left)))))

-- ---- statements without blocks

unfoldable pub read_let : ℕ → Reader Statement
read_let room tokens =
    bind (take kind.Let tokens) (λ word left. bind (take kind.Name left) (λ name left. bind (take kind.Assign left) (λ equals left.
    bind (read_right_side room left) (λ right left. bind (take kind.Semicolon left) (λ semicolon left.
    Found (roll-Statement (Statement-F.Let word name equals right semicolon)) left)))))

unfoldable pub read_assign : ℕ → Reader Statement
read_assign room tokens =
    bind (take kind.Name tokens) (λ name left. bind (take kind.Assign left) (λ equals left.
    bind (read_right_side room left) (λ right left. bind (take kind.Semicolon left) (λ semicolon left.
    Found (roll-Statement (Statement-F.Assign name equals right semicolon)) left))))

unfoldable pub read_store : ℕ → Reader Statement
read_store room tokens =
    bind (take kind.Store tokens) (λ word left. bind (read_mode left) (λ mode left. bind (read_pair room left) (λ p left.
    bind (take kind.Semicolon left) (λ semicolon left.
    Found (roll-Statement (Statement-F.Store word mode p.open p.location p.value.comma p.value.value p.close semicolon)) left))))

unfoldable pub read_call : ℕ → Reader Statement
read_call room tokens =
    bind (take kind.Call tokens) (λ word left. bind (read_usage room left) (λ callee left. bind (take kind.Semicolon left) (λ semicolon left.
    Found (roll-Statement (Statement-F.Call word callee semicolon)) left)))

unfoldable pub read_parallel_call : ℕ → Reader ParallelCall
read_parallel_call room tokens =
    bind (read_usage room tokens) (λ callee left. bind (take kind.Semicolon left) (λ semicolon left.
    Found (record { callee = callee; semicolon = semicolon }) left))

unfoldable pub read_parallel : ℕ → Reader Statement
read_parallel room tokens =
    bind (take kind.Par tokens) (λ word left. bind (open_at kind.OpenBrace room left) (λ start left.
    bind (many_of (is_next kind.Name) (read_parallel_call (room - 1)) left) (λ calls left.
    bind (take kind.CloseBrace left) (λ end left. Found (roll-Statement (Statement-F.Parallel word start calls end)) left))))

unfoldable pub read_release_word : Reader ReleaseWord
read_release_word tokens =
    if is_next kind.Rel tokens then bind (take kind.Rel tokens) (λ place left. Found (release_words.Release place) left)
    else bind (take kind.AcqRel tokens) (λ place left. Found (release_words.AcquireRelease place) left)

unfoldable pub read_release : ℕ → Reader FenceKind
read_release room tokens =
    bind (read_release_word tokens) (λ word left. bind (open_at kind.OpenParen room left) (λ start left.
    bind (read_assertion (room - 1) left) (λ given left. bind (take kind.CloseParen left) (λ end left.
    Found (fences.Release word start given end) left))))

unfoldable pub read_fence_kind : ℕ → Reader FenceKind
read_fence_kind room tokens =
    if is_next kind.Acq tokens then bind (take kind.Acq tokens) (λ word left. Found (fences.Acquire word) left)
    else read_release room tokens

unfoldable pub read_fence : ℕ → Reader Statement
read_fence room tokens =
    bind (take kind.Fence tokens) (λ word left. bind (read_fence_kind room left) (λ what left. bind (take kind.Semicolon left) (λ semicolon left.
    Found (roll-Statement (Statement-F.Fence word what semicolon)) left)))

unfoldable pub read_assert : ℕ → Reader Statement
read_assert room tokens =
    bind (read_test kind.Assert room tokens) (λ t left. bind (take kind.Semicolon left) (λ semicolon left.
    Found (roll-Statement (Statement-F.Assert t.word t.open t.condition t.close semicolon)) left))

unfoldable pub read_print : ℕ → Reader Statement
read_print room tokens =
    bind (read_enclosed kind.Print room tokens) (λ e left. bind (take kind.Semicolon left) (λ semicolon left.
    Found (roll-Statement (Statement-F.Print e.word e.open e.expression e.close semicolon)) left))

unfoldable pub read_free : ℕ → Reader Statement
read_free room tokens =
    bind (read_enclosed kind.Free room tokens) (λ e left. bind (take kind.Semicolon left) (λ semicolon left.
    Found (roll-Statement (Statement-F.Free e.word e.open e.expression e.close semicolon)) left))

unfoldable pub read_optional_expression : ℕ → Reader (Option Expression)
read_optional_expression room tokens =
    if is_next kind.Semicolon tokens then Found None tokens
    else bind (read_expression room tokens) (λ value left. Found (Some value) left)

unfoldable pub read_return : ℕ → Reader Statement
read_return room tokens =
    bind (take kind.Return tokens) (λ word left. bind (read_optional_expression room left) (λ value left.
    bind (take kind.Semicolon left) (λ semicolon left. Found (roll-Statement (Statement-F.Return word value semicolon)) left)))

unfoldable pub read_bank : Reader Statement
read_bank tokens =
    bind (take kind.Bank tokens) (λ word left. bind (take kind.Name left) (λ name left. bind (take kind.Semicolon left) (λ semicolon left.
    Found (roll-Statement (Statement-F.Bank word name semicolon)) left)))

unfoldable pub read_step_statement : ℕ → Reader Statement
read_step_statement room tokens =
    bind (read_step room tokens) (λ step left. bind (take kind.Semicolon left) (λ semicolon left. Found (roll-Statement (Statement-F.Step step semicolon)) left))

unfoldable pub read_simple_statement : ℕ → Reader Statement
read_simple_statement room tokens =
    if is_next kind.Let tokens then read_let room tokens
    else (if is_next kind.Store tokens then read_store room tokens
    else (if is_next kind.Call tokens then read_call room tokens
    else (if is_next kind.Par tokens then read_parallel room tokens
    else (if is_next kind.Fence tokens then read_fence room tokens
    else (if is_next kind.Assert tokens then read_assert room tokens
    else (if is_next kind.Print tokens then read_print room tokens
    else (if is_next kind.Free tokens then read_free room tokens
    else (if is_next kind.Return tokens then read_return room tokens
    else (if is_next kind.Bank tokens then read_bank tokens
    else (if is_next kind.Mint tokens || is_next kind.Burn tokens then read_step_statement room tokens
    else read_assign room tokens))))))))))

-- ---- blocks, given how statements are read

abbrev pub goes_on : Tokens → Bool
goes_on tokens = is_more tokens && not (is_next kind.CloseBrace tokens)

unfoldable pub read_block_of : ℕ → Reader Statement → Reader Block
read_block_of room inner tokens =
    bind (open_at kind.OpenBrace room tokens) (λ start left. bind (many_of goes_on inner left) (λ all left.
    bind (take kind.CloseBrace left) (λ end left. Found (roll-Block (record { «open» = start; statements = all; close = end })) left)))

-- ---- statements, given how those with one level less room are read

unfoldable pub read_otherwise : ℕ → Reader Statement → Reader Otherwise
read_otherwise room inner tokens =
    bind (take kind.Else tokens) (λ word left. bind (read_block_of room inner left) (λ block left. Found (roll-Otherwise (record { word = word; block = block })) left))

unfoldable pub read_optional_otherwise : ℕ → Reader Statement → Reader (Option Otherwise)
read_optional_otherwise room inner tokens =
    if is_next kind.Else tokens then bind (read_otherwise room inner tokens) (λ o left. Found (Some o) left) else Found None tokens

unfoldable pub read_if : ℕ → Reader Statement → Reader Statement
read_if room inner tokens =
    bind (read_test kind.If room tokens) (λ t left. bind (read_block_of room inner left) (λ block left.
    bind (read_optional_otherwise room inner left) (λ otherwise left.
    Found (roll-Statement (Statement-F.If t.word t.open t.condition t.close block otherwise)) left)))

unfoldable pub read_optional_clause : TokenKind → ℕ → Reader (Option Clause)
read_optional_clause word room tokens =
    if is_next word tokens then bind (read_clause word room tokens) (λ c left. Found (Some c) left) else Found None tokens

unfoldable pub read_while : ℕ → Reader Statement → Reader Statement
read_while room inner tokens =
    bind (read_test kind.While room tokens) (λ t left. bind (read_optional_clause kind.Inv room left) (λ invariant left.
    bind (read_block_of room inner left) (λ body left.
    Found (roll-Statement (Statement-F.While t.word t.open t.condition t.close invariant body)) left)))

-- the same with the invariant and the body together
unfoldable pub read_guarded : ℕ → Reader Statement → Reader Guarded
read_guarded room inner tokens =
    bind (read_optional_clause kind.Inv room tokens) (λ invariant left. bind (read_block_of room inner left) (λ body left.
    Found (record { invariant = invariant; body = body }) left))

unfoldable pub read_guarded_while : ℕ → Reader Statement → Reader Statement
read_guarded_while room inner tokens =
    bind (read_test kind.While room tokens) (λ t left. bind (read_guarded room inner left) (λ g left.
    Found (roll-Statement (Statement-F.While t.word t.open t.condition t.close g.invariant g.body)) left))

abbrev pub read_statement_of : ℕ → Reader Statement → Reader Statement
read_statement_of room inner tokens =
    if is_next kind.If tokens then read_if room inner tokens
    else (if is_next kind.While tokens then read_while room inner tokens
    else read_simple_statement room tokens)

abbrev pub read_statement : ℕ → Reader Statement
read_statement zero = read_statement_of 0 (λ tokens. Wrong tokens)
read_statement (suc room) = read_statement_of (suc room) (read_statement room)

abbrev pub read_block : ℕ → Reader Block
read_block room = read_block_of room (read_statement (room - 1))
