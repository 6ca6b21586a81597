-- The same of right sides, statements and blocks.
use Rattle.std.proofs.Common.{◌≡◌, ◌∷◌, Option, Some, None, refl, subst}
use Rattle.fsl_token.specs.declared.kind.TokenKind.{TokenKind}
use Rattle.fsl_token.specs.declared.kind.TokenKind.TheVariants as kind
use Rattle.fsl_tree.specs.declared.declaration.Clause.{Clause}
use Rattle.fsl_tree.specs.declared.expression.Expression.{Expression}
use Rattle.fsl_tree.specs.declared.right_side.RightSide.{RightSide}
use Rattle.fsl_tree.specs.declared.right_side.RightSide.TheVariants as right_sides
use Rattle.fsl_tree.specs.declared.right_side.Allocation.{Allocation}
use Rattle.fsl_tree.specs.declared.right_side.Allocation.TheVariants as allocations
use Rattle.fsl_tree.specs.declared.right_side.SharedCell.{SharedCell}
use Rattle.fsl_tree.specs.declared.right_side.SharedCell.TheVariants as cells
use Rattle.fsl_tree.specs.declared.right_side.UpdateWord.{UpdateWord}
use Rattle.fsl_tree.specs.declared.right_side.UpdateWord.TheVariants as update_words
use Rattle.fsl_tree.specs.declared.right_side.Mode.{Mode}
use Rattle.fsl_tree.specs.declared.right_side.Mode.TheVariants as modes
use Rattle.fsl_tree.specs.declared.right_side.With as withs
use Rattle.fsl_tree.specs.declared.right_side.StepLine.{StepLine}
use Rattle.fsl_tree.specs.declared.right_side.Step.{Step}
use Rattle.fsl_tree.specs.declared.right_side.StepWord.{StepWord}
use Rattle.fsl_tree.specs.declared.right_side.StepWord.TheVariants as step_words
use Rattle.fsl_tree.specs.declared.statement.ParallelCall.{ParallelCall}
use Rattle.fsl_tree.specs.declared.statement.FenceKind.{FenceKind}
use Rattle.fsl_tree.specs.declared.statement.FenceKind.TheVariants as fences
use Rattle.fsl_tree.specs.declared.statement.ReleaseWord.{ReleaseWord}
use Rattle.fsl_tree.specs.declared.statement.ReleaseWord.TheVariants as release_words
use Rattle.fsl_tree.specs.declared.statement.Statement.{Statement, map-Statement}
use Rattle.fsl_tree.specs.declared.statement.Block.{Block, map-Block}
use Rattle.fsl_tree.specs.declared.statement.Otherwise.{Otherwise, map-Otherwise}
use Rattle.fsl_tree.specs.declared.statement.Statement.TheOpen.{Statement-F, Block-F, Otherwise-F}
use Rattle.fsl_tree.specs.declared.statement.Statement.TheViews.{roll-Statement, roll-Block, roll-Otherwise}
use Rattle.fsl_tree.specs.declared.statement.Statement.TheFolds.{ind-Block}
use Rattle.fsl_tree.specs.SpelledStatements.{mode_token, cell_token, update_word_token, step_word_token, step, step_line, optional_with, allocation, right_side, clause, optional_clause, optional_expression, parallel_call, release_word_token, fence, statement, block, otherwise}
use Rattle.fsl_tree.proofs.Layers.{StatementLayer, statement_layer, statement_spells, BlockLayer, block_layer, block_spells, OtherwiseLayer, otherwise_layer, otherwise_spells}
use Rattle.fsl_tree.proofs.Again.{Again, With, token, and_then, made, nothing, many, each}
use Rattle.fsl_tree.proofs.AgainExpressions.{expression_again, condition_again, usage_again}
use Rattle.fsl_tree.proofs.AgainAssertions.{assertion_again}

-- ---- right sides

pub mode_again : (w : Mode) → Again (λ (x : Mode) after. mode_token x ∷ after) w
mode_again (modes.NonAtomic place) = made (token kind.Na place) (λ t. modes.NonAtomic t) (λ t after. refl)
mode_again (modes.Relaxed place) = made (token kind.Rlx place) (λ t. modes.Relaxed t) (λ t after. refl)
mode_again (modes.Acquire place) = made (token kind.Acq place) (λ t. modes.Acquire t) (λ t after. refl)
mode_again (modes.Release place) = made (token kind.Rel place) (λ t. modes.Release t) (λ t after. refl)
mode_again (modes.AcquireRelease place) = made (token kind.AcqRel place) (λ t. modes.AcquireRelease t) (λ t after. refl)

pub cell_again : (w : SharedCell) → Again (λ (x : SharedCell) after. cell_token x ∷ after) w
cell_again (cells.Acq place) = made (token kind.Acq place) (λ t. cells.Acq t) (λ t after. refl)
cell_again (cells.Rmw place) = made (token kind.Rmw place) (λ t. cells.Rmw t) (λ t after. refl)

pub update_word_again : (w : UpdateWord) → Again (λ (x : UpdateWord) after. update_word_token x ∷ after) w
update_word_again (update_words.FetchAdd place) = made (token kind.FetchAdd place) (λ t. update_words.FetchAdd t) (λ t after. refl)
update_word_again (update_words.Exchange place) = made (token kind.Exchange place) (λ t. update_words.Exchange t) (λ t after. refl)

pub step_word_again : (w : StepWord) → Again (λ (x : StepWord) after. step_word_token x ∷ after) w
step_word_again (step_words.Mint place) = made (token kind.Mint place) (λ t. step_words.Mint t) (λ t after. refl)
step_word_again (step_words.Burn place) = made (token kind.Burn place) (λ t. step_words.Burn t) (λ t after. refl)

step_again : (s : Step) → Again step s
step_again s = made (and_then (step_word_again s.word) (and_then (token kind.OpenParen s.open) (and_then (token kind.Name s.bank) (and_then (token kind.Comma s.comma) (and_then (expression_again s.amount) (token kind.CloseParen s.close)))))) (λ t. record { word = t.0; «open» = t.1.0; bank = t.1.1.0; comma = t.1.1.1.0; amount = t.1.1.1.1.0; close = t.1.1.1.1.1 }) (λ t after. refl)

step_line_again : (l : StepLine) → Again step_line l
step_line_again l = made (and_then (step_again l.step) (token kind.Semicolon l.semicolon)) (λ t. record { step = t.0; semicolon = t.1 }) (λ t after. refl)

optional_with_again : (w : Option withs.With) → Again optional_with w
optional_with_again None = nothing None (λ after. refl)
optional_with_again (Some w) = made (and_then (token kind.With w.word) (and_then (token kind.OpenBrace w.open) (and_then (each step_line_again w.steps) (token kind.CloseBrace w.close)))) (λ t. Some (record { word = t.0; «open» = t.1.0; steps = t.1.1.0; close = t.1.1.1 })) (λ t after. refl)

allocation_again : (a : Allocation) → Again allocation a
allocation_again (allocations.NonAtomic word) = made (token kind.Na word) (λ t. allocations.NonAtomic t) (λ t after. refl)
allocation_again (allocations.Shared cell invariant) = made (and_then (cell_again cell) (usage_again invariant)) (λ t. allocations.Shared t.0 t.1) (λ t after. refl)

right_side_again : (r : RightSide) → Again right_side r
right_side_again (right_sides.Value value) = made (expression_again value) (λ t. right_sides.Value t) (λ t after. refl)
right_side_again (right_sides.Call word callee) = made (and_then (token kind.Call word) (usage_again callee)) (λ t. right_sides.Call t.0 t.1) (λ t after. refl)
right_side_again (right_sides.Allocate word what) = made (and_then (token kind.Alloc word) (allocation_again what)) (λ t. right_sides.Allocate t.0 t.1) (λ t after. refl)
right_side_again (right_sides.Load word mode start location end) = made (and_then (token kind.Load word) (and_then (mode_again mode) (and_then (token kind.OpenParen start) (and_then (expression_again location) (token kind.CloseParen end))))) (λ t. right_sides.Load t.0 t.1.0 t.1.1.0 t.1.1.1.0 t.1.1.1.1) (λ t after. refl)
right_side_again (right_sides.CompareAndSwap word success failure start location expected_comma expected new_comma new end timed) = made (and_then (token kind.Cas word) (and_then (mode_again success) (and_then (mode_again failure) (and_then (token kind.OpenParen start) (and_then (expression_again location) (and_then (token kind.Comma expected_comma) (and_then (expression_again expected) (and_then (token kind.Comma new_comma) (and_then (expression_again new) (and_then (token kind.CloseParen end) (optional_with_again timed))))))))))) (λ t. right_sides.CompareAndSwap t.0 t.1.0 t.1.1.0 t.1.1.1.0 t.1.1.1.1.0 t.1.1.1.1.1.0 t.1.1.1.1.1.1.0 t.1.1.1.1.1.1.1.0 t.1.1.1.1.1.1.1.1.0 t.1.1.1.1.1.1.1.1.1.0 t.1.1.1.1.1.1.1.1.1.1) (λ t after. refl)
right_side_again (right_sides.Update word mode start location comma operand end timed) = made (and_then (update_word_again word) (and_then (mode_again mode) (and_then (token kind.OpenParen start) (and_then (expression_again location) (and_then (token kind.Comma comma) (and_then (expression_again operand) (and_then (token kind.CloseParen end) (optional_with_again timed)))))))) (λ t. right_sides.Update t.0 t.1.0 t.1.1.0 t.1.1.1.0 t.1.1.1.1.0 t.1.1.1.1.1.0 t.1.1.1.1.1.1.0 t.1.1.1.1.1.1.1) (λ t after. refl)

-- ---- parts of statements

clause_again : (word : TokenKind) (c : Clause) → Again (clause word) c
clause_again word c = made (and_then (token word c.word) (and_then (token kind.OpenParen c.open) (and_then (assertion_again c.assertion) (token kind.CloseParen c.close)))) (λ t. record { word = t.0; «open» = t.1.0; assertion = t.1.1.0; close = t.1.1.1 }) (λ t after. refl)

pub optional_clause_again : (word : TokenKind) (c : Option Clause) → Again (optional_clause word) c
optional_clause_again word None = nothing None (λ after. refl)
optional_clause_again word (Some c) = made (clause_again word c) (λ t. Some t) (λ t after. refl)

optional_expression_again : (e : Option Expression) → Again optional_expression e
optional_expression_again None = nothing None (λ after. refl)
optional_expression_again (Some e) = made (expression_again e) (λ t. Some t) (λ t after. refl)

parallel_call_again : (c : ParallelCall) → Again parallel_call c
parallel_call_again c = made (and_then (usage_again c.callee) (token kind.Semicolon c.semicolon)) (λ t. record { callee = t.0; semicolon = t.1 }) (λ t after. refl)

pub release_word_again : (w : ReleaseWord) → Again (λ (x : ReleaseWord) after. release_word_token x ∷ after) w
release_word_again (release_words.Release place) = made (token kind.Rel place) (λ t. release_words.Release t) (λ t after. refl)
release_word_again (release_words.AcquireRelease place) = made (token kind.AcqRel place) (λ t. release_words.AcquireRelease t) (λ t after. refl)

fence_again : (f : FenceKind) → Again fence f
fence_again (fences.Acquire word) = made (token kind.Acq word) (λ t. fences.Acquire t) (λ t after. refl)
fence_again (fences.Release word start given end) = made (and_then (release_word_again word) (and_then (token kind.OpenParen start) (and_then (assertion_again given) (token kind.CloseParen end)))) (λ t. fences.Release t.0 t.1.0 t.1.1.0 t.1.1.1) (λ t after. refl)

-- ---- one level of a statement

abbrev StatementParts : Type 0
StatementParts = Statement-F (With Statement statement) (With Block block) (With Otherwise otherwise)

abbrev bare_statement : StatementParts → StatementLayer
bare_statement y = map-Statement (With Statement statement) (With Block block) (With Otherwise otherwise) Statement Block Otherwise (λ p. p.0) (λ p. p.0) (λ p. p.0) y

statement_parts : (y : StatementParts) → Again statement_layer (bare_statement y)
statement_parts (Statement-F.Let word name equals right semicolon) = made (and_then (token kind.Let word) (and_then (token kind.Name name) (and_then (token kind.Assign equals) (and_then (right_side_again right) (token kind.Semicolon semicolon))))) (λ t. Statement-F.Let t.0 t.1.0 t.1.1.0 t.1.1.1.0 t.1.1.1.1) (λ t after. refl)
statement_parts (Statement-F.Assign name equals right semicolon) = made (and_then (token kind.Name name) (and_then (token kind.Assign equals) (and_then (right_side_again right) (token kind.Semicolon semicolon)))) (λ t. Statement-F.Assign t.0 t.1.0 t.1.1.0 t.1.1.1) (λ t after. refl)
statement_parts (Statement-F.Store word mode start location comma value end semicolon) = made (and_then (token kind.Store word) (and_then (mode_again mode) (and_then (token kind.OpenParen start) (and_then (expression_again location) (and_then (token kind.Comma comma) (and_then (expression_again value) (and_then (token kind.CloseParen end) (token kind.Semicolon semicolon)))))))) (λ t. Statement-F.Store t.0 t.1.0 t.1.1.0 t.1.1.1.0 t.1.1.1.1.0 t.1.1.1.1.1.0 t.1.1.1.1.1.1.0 t.1.1.1.1.1.1.1) (λ t after. refl)
statement_parts (Statement-F.Call word callee semicolon) = made (and_then (token kind.Call word) (and_then (usage_again callee) (token kind.Semicolon semicolon))) (λ t. Statement-F.Call t.0 t.1.0 t.1.1) (λ t after. refl)
statement_parts (Statement-F.Parallel word start calls end) = made (and_then (token kind.Par word) (and_then (token kind.OpenBrace start) (and_then (each parallel_call_again calls) (token kind.CloseBrace end)))) (λ t. Statement-F.Parallel t.0 t.1.0 t.1.1.0 t.1.1.1) (λ t after. refl)
statement_parts (Statement-F.Fence word what semicolon) = made (and_then (token kind.Fence word) (and_then (fence_again what) (token kind.Semicolon semicolon))) (λ t. Statement-F.Fence t.0 t.1.0 t.1.1) (λ t after. refl)
statement_parts (Statement-F.If word start holds end body None) = made (and_then (token kind.If word) (and_then (token kind.OpenParen start) (and_then (condition_again holds) (and_then (token kind.CloseParen end) body.1)))) (λ t. Statement-F.If t.0 t.1.0 t.1.1.0 t.1.1.1.0 t.1.1.1.1 None) (λ t after. refl)
statement_parts (Statement-F.If word start holds end body (Some other)) = made (and_then (token kind.If word) (and_then (token kind.OpenParen start) (and_then (condition_again holds) (and_then (token kind.CloseParen end) (and_then body.1 other.1))))) (λ t. Statement-F.If t.0 t.1.0 t.1.1.0 t.1.1.1.0 t.1.1.1.1.0 (Some t.1.1.1.1.1)) (λ t after. refl)
statement_parts (Statement-F.While word start holds end invariant body) = made (and_then (token kind.While word) (and_then (token kind.OpenParen start) (and_then (condition_again holds) (and_then (token kind.CloseParen end) (and_then (optional_clause_again kind.Inv invariant) body.1))))) (λ t. Statement-F.While t.0 t.1.0 t.1.1.0 t.1.1.1.0 t.1.1.1.1.0 t.1.1.1.1.1) (λ t after. refl)
statement_parts (Statement-F.Assert word start holds end semicolon) = made (and_then (token kind.Assert word) (and_then (token kind.OpenParen start) (and_then (condition_again holds) (and_then (token kind.CloseParen end) (token kind.Semicolon semicolon))))) (λ t. Statement-F.Assert t.0 t.1.0 t.1.1.0 t.1.1.1.0 t.1.1.1.1) (λ t after. refl)
statement_parts (Statement-F.Print word start value end semicolon) = made (and_then (token kind.Print word) (and_then (token kind.OpenParen start) (and_then (expression_again value) (and_then (token kind.CloseParen end) (token kind.Semicolon semicolon))))) (λ t. Statement-F.Print t.0 t.1.0 t.1.1.0 t.1.1.1.0 t.1.1.1.1) (λ t after. refl)
statement_parts (Statement-F.Free word start location end semicolon) = made (and_then (token kind.Free word) (and_then (token kind.OpenParen start) (and_then (expression_again location) (and_then (token kind.CloseParen end) (token kind.Semicolon semicolon))))) (λ t. Statement-F.Free t.0 t.1.0 t.1.1.0 t.1.1.1.0 t.1.1.1.1) (λ t after. refl)
statement_parts (Statement-F.Return word value semicolon) = made (and_then (token kind.Return word) (and_then (optional_expression_again value) (token kind.Semicolon semicolon))) (λ t. Statement-F.Return t.0 t.1.0 t.1.1) (λ t after. refl)
statement_parts (Statement-F.Bank word name semicolon) = made (and_then (token kind.Bank word) (and_then (token kind.Name name) (token kind.Semicolon semicolon))) (λ t. Statement-F.Bank t.0 t.1.0 t.1.1) (λ t after. refl)
statement_parts (Statement-F.Step timed semicolon) = made (and_then (step_again timed) (token kind.Semicolon semicolon)) (λ t. Statement-F.Step t.0 t.1) (λ t after. refl)

statement_rolled : (x : StatementLayer) (y : StatementParts) → bare_statement y ≡ x → Again statement (roll-Statement x)
statement_rolled x y is = made (subst (Again statement_layer) is (statement_parts y)) roll-Statement statement_spells

abbrev BlockParts : Type 0
BlockParts = Block-F (With Statement statement) (With Block block) (With Otherwise otherwise)

abbrev bare_block : BlockParts → BlockLayer
bare_block y = map-Block (With Statement statement) (With Block block) (With Otherwise otherwise) Statement Block Otherwise (λ p. p.0) (λ p. p.0) (λ p. p.0) y

block_parts : (y : BlockParts) → Again block_layer (bare_block y)
block_parts y = made (and_then (token kind.OpenBrace y.open) (and_then (many y.statements) (token kind.CloseBrace y.close))) (λ t. record { «open» = t.0; statements = t.1.0; close = t.1.1 }) (λ t after. refl)

block_rolled : (x : BlockLayer) (y : BlockParts) → bare_block y ≡ x → Again block (roll-Block x)
block_rolled x y is = made (subst (Again block_layer) is (block_parts y)) roll-Block block_spells

abbrev OtherwiseParts : Type 0
OtherwiseParts = Otherwise-F (With Statement statement) (With Block block) (With Otherwise otherwise)

abbrev bare_otherwise : OtherwiseParts → OtherwiseLayer
bare_otherwise y = map-Otherwise (With Statement statement) (With Block block) (With Otherwise otherwise) Statement Block Otherwise (λ p. p.0) (λ p. p.0) (λ p. p.0) y

otherwise_parts : (y : OtherwiseParts) → Again otherwise_layer (bare_otherwise y)
otherwise_parts y = made (and_then (token kind.Else y.word) y.block.1) (λ t. record { word = t.0; block = t.1 }) (λ t after. refl)

otherwise_rolled : (x : OtherwiseLayer) (y : OtherwiseParts) → bare_otherwise y ≡ x → Again otherwise (roll-Otherwise x)
otherwise_rolled x y is = made (subst (Again otherwise_layer) is (otherwise_parts y)) roll-Otherwise otherwise_spells

pub block_again : (b : Block) → Again block b
block_again = ind-Block (Again statement) (Again block) (Again otherwise) statement_rolled block_rolled otherwise_rolled
