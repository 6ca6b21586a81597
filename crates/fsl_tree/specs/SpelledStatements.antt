-- The tokens of statements and blocks, in front of those that follow them.
use Rattle.std.specs.Prelude.{◌∷◌, Option, Some, None, map}
use Rattle.fsl_base.specs.declared.span.Span.{Span}
use Rattle.fsl_token.specs.declared.kind.Token.{Token}
use Rattle.fsl_token.specs.declared.kind.TokenKind.{TokenKind}
use Rattle.fsl_token.specs.declared.kind.TokenKind.TheVariants as kind
use Rattle.fsl_tree.specs.declared.declaration.Clause.{Clause}
use Rattle.fsl_tree.specs.declared.expression.Expression.{Expression}
use Rattle.fsl_tree.specs.declared.right_side.RightSide.{RightSide}
use Rattle.fsl_tree.specs.declared.right_side.RightSide.TheVariants as right_sides
use Rattle.fsl_tree.specs.declared.right_side.Allocation.{Allocation}
use Rattle.fsl_tree.specs.declared.right_side.Allocation.TheVariants as allocations
use Rattle.fsl_tree.specs.declared.right_side.SharedCell.{SharedCell}
use Rattle.fsl_tree.specs.declared.right_side.SharedCell.TheVariants as cells
use Rattle.fsl_tree.specs.declared.right_side.UpdateWord.{UpdateWord}
use Rattle.fsl_tree.specs.declared.right_side.UpdateWord.TheVariants as update_words
use Rattle.fsl_tree.specs.declared.right_side.Mode.{Mode}
use Rattle.fsl_tree.specs.declared.right_side.Mode.TheVariants as modes
use Rattle.fsl_tree.specs.declared.right_side.With.{With}
use Rattle.fsl_tree.specs.declared.right_side.StepLine.{StepLine}
use Rattle.fsl_tree.specs.declared.right_side.Step.{Step}
use Rattle.fsl_tree.specs.declared.right_side.StepWord.{StepWord}
use Rattle.fsl_tree.specs.declared.right_side.StepWord.TheVariants as step_words
use Rattle.fsl_tree.specs.declared.statement.ParallelCall.{ParallelCall}
use Rattle.fsl_tree.specs.declared.statement.FenceKind.{FenceKind}
use Rattle.fsl_tree.specs.declared.statement.FenceKind.TheVariants as fences
use Rattle.fsl_tree.specs.declared.statement.ReleaseWord.{ReleaseWord}
use Rattle.fsl_tree.specs.declared.statement.ReleaseWord.TheVariants as release_words
use Rattle.fsl_tree.specs.declared.statement.Statement.{Statement}
use Rattle.fsl_tree.specs.declared.statement.Block.{Block}
use Rattle.fsl_tree.specs.declared.statement.Otherwise.{Otherwise}
use Rattle.fsl_tree.specs.declared.statement.Statement.TheOpen.{Statement-F, Block-F, Otherwise-F}
use Rattle.fsl_tree.specs.declared.statement.Statement.TheFolds.{fold-Statement, fold-Block, fold-Otherwise}
use Rattle.fsl_tree.specs.SpelledExpressions.{Spelled, fixed, all, expression, usage, grouped, tested, pair}
use Rattle.fsl_tree.specs.SpelledAssertions.{assertion}

-- ---- right sides

abbrev pub mode_token : Mode → Token
mode_token (modes.NonAtomic place) = fixed kind.Na place
mode_token (modes.Relaxed place) = fixed kind.Rlx place
mode_token (modes.Acquire place) = fixed kind.Acq place
mode_token (modes.Release place) = fixed kind.Rel place
mode_token (modes.AcquireRelease place) = fixed kind.AcqRel place

abbrev pub cell_token : SharedCell → Token
cell_token (cells.Acq place) = fixed kind.Acq place
cell_token (cells.Rmw place) = fixed kind.Rmw place

abbrev pub update_word_token : UpdateWord → Token
update_word_token (update_words.FetchAdd place) = fixed kind.FetchAdd place
update_word_token (update_words.Exchange place) = fixed kind.Exchange place

abbrev pub step_word_token : StepWord → Token
step_word_token (step_words.Mint place) = fixed kind.Mint place
step_word_token (step_words.Burn place) = fixed kind.Burn place

abbrev pub step : Step → Spelled
step s after =
    step_word_token s.word ∷ fixed kind.OpenParen s.open ∷ fixed kind.Name s.bank ∷ fixed kind.Comma s.comma ∷ expression s.amount (
    fixed kind.CloseParen s.close ∷ after)

abbrev pub step_line : StepLine → Spelled
step_line l after = step l.step (fixed kind.Semicolon l.semicolon ∷ after)

abbrev pub optional_with : Option With → Spelled
optional_with None after = after
optional_with (Some w) after =
    fixed kind.With w.word ∷ fixed kind.OpenBrace w.open ∷ all (map step_line w.steps) (fixed kind.CloseBrace w.close ∷ after)

abbrev pub allocation : Allocation → Spelled
allocation (allocations.NonAtomic word) after = fixed kind.Na word ∷ after
allocation (allocations.Shared cell invariant) after = cell_token cell ∷ usage invariant after

abbrev pub right_side : RightSide → Spelled
right_side (right_sides.Value value) after = expression value after
right_side (right_sides.Call word callee) after = fixed kind.Call word ∷ usage callee after
right_side (right_sides.Allocate word what) after = fixed kind.Alloc word ∷ allocation what after
right_side (right_sides.Load word mode start location end) after =
    fixed kind.Load word ∷ mode_token mode ∷ grouped start location end after
right_side (right_sides.CompareAndSwap word success failure start location expected_comma expected new_comma new end timed) after =
    fixed kind.Cas word ∷ mode_token success ∷ mode_token failure ∷ fixed kind.OpenParen start ∷ expression location (
    fixed kind.Comma expected_comma ∷ expression expected (
    fixed kind.Comma new_comma ∷ expression new (
    fixed kind.CloseParen end ∷ optional_with timed after)))
right_side (right_sides.Update word mode start location comma operand end timed) after =
    update_word_token word ∷ mode_token mode ∷ pair start location comma operand end (optional_with timed after)

-- ---- parts of statements

-- a clause whose word is given
abbrev pub clause : TokenKind → Clause → Spelled
clause word c after = fixed word c.word ∷ fixed kind.OpenParen c.open ∷ assertion c.assertion (fixed kind.CloseParen c.close ∷ after)

abbrev pub optional_clause : TokenKind → Option Clause → Spelled
optional_clause word None after = after
optional_clause word (Some c) after = clause word c after

abbrev pub optional_expression : Option Expression → Spelled
optional_expression None after = after
optional_expression (Some e) after = expression e after

abbrev pub parallel_call : ParallelCall → Spelled
parallel_call c after = usage c.callee (fixed kind.Semicolon c.semicolon ∷ after)

abbrev pub release_word_token : ReleaseWord → Token
release_word_token (release_words.Release place) = fixed kind.Rel place
release_word_token (release_words.AcquireRelease place) = fixed kind.AcqRel place

abbrev pub fence : FenceKind → Spelled
fence (fences.Acquire word) after = fixed kind.Acq word ∷ after
fence (fences.Release word start given end) after =
    release_word_token word ∷ fixed kind.OpenParen start ∷ assertion given (fixed kind.CloseParen end ∷ after)

-- `NAME "=" right_side ";"`
abbrev pub assigned : Span → Span → RightSide → Span → Spelled
assigned name equals right semicolon after =
    fixed kind.Name name ∷ fixed kind.Assign equals ∷ right_side right (fixed kind.Semicolon semicolon ∷ after)

-- ---- one level of a statement, with the tokens of each block in its place

abbrev pub optional_part : Option Spelled → Spelled
optional_part None after = after
optional_part (Some part) after = part after

abbrev pub statement_step : Statement-F Spelled Spelled Spelled → Spelled
statement_step (Statement-F.Let word name equals right semicolon) after = fixed kind.Let word ∷ assigned name equals right semicolon after
statement_step (Statement-F.Assign name equals right semicolon) after = assigned name equals right semicolon after
statement_step (Statement-F.Store word mode start location comma value end semicolon) after =
    fixed kind.Store word ∷ mode_token mode ∷ pair start location comma value end (fixed kind.Semicolon semicolon ∷ after)
statement_step (Statement-F.Call word callee semicolon) after =
    fixed kind.Call word ∷ usage callee (fixed kind.Semicolon semicolon ∷ after)
statement_step (Statement-F.Parallel word start calls end) after =
    fixed kind.Par word ∷ fixed kind.OpenBrace start ∷ all (map parallel_call calls) (fixed kind.CloseBrace end ∷ after)
statement_step (Statement-F.Fence word what semicolon) after =
    fixed kind.Fence word ∷ fence what (fixed kind.Semicolon semicolon ∷ after)
statement_step (Statement-F.If word start holds end then_block otherwise) after =
    fixed kind.If word ∷ tested start holds end (then_block (optional_part otherwise after))
statement_step (Statement-F.While word start holds end invariant body) after =
    fixed kind.While word ∷ tested start holds end (optional_clause kind.Inv invariant (body after))
statement_step (Statement-F.Assert word start holds end semicolon) after =
    fixed kind.Assert word ∷ tested start holds end (fixed kind.Semicolon semicolon ∷ after)
statement_step (Statement-F.Print word start value end semicolon) after =
    fixed kind.Print word ∷ grouped start value end (fixed kind.Semicolon semicolon ∷ after)
statement_step (Statement-F.Free word start location end semicolon) after =
    fixed kind.Free word ∷ grouped start location end (fixed kind.Semicolon semicolon ∷ after)
statement_step (Statement-F.Return word value semicolon) after =
    fixed kind.Return word ∷ optional_expression value (fixed kind.Semicolon semicolon ∷ after)
statement_step (Statement-F.Bank word name semicolon) after =
    fixed kind.Bank word ∷ fixed kind.Name name ∷ fixed kind.Semicolon semicolon ∷ after
statement_step (Statement-F.Step timed semicolon) after = step timed (fixed kind.Semicolon semicolon ∷ after)

abbrev pub block_step : Block-F Spelled Spelled Spelled → Spelled
block_step b after = fixed kind.OpenBrace b.open ∷ all b.statements (fixed kind.CloseBrace b.close ∷ after)

abbrev pub otherwise_step : Otherwise-F Spelled Spelled Spelled → Spelled
otherwise_step o after = fixed kind.Else o.word ∷ o.block after

-- ---- statements

unfoldable pub statement : Statement → Spelled
statement = fold-Statement Spelled Spelled Spelled statement_step block_step otherwise_step

unfoldable pub block : Block → Spelled
block = fold-Block Spelled Spelled Spelled statement_step block_step otherwise_step

unfoldable pub otherwise : Otherwise → Spelled
otherwise = fold-Otherwise Spelled Spelled Spelled statement_step block_step otherwise_step

abbrev pub optional_otherwise : Option Otherwise → Spelled
optional_otherwise None after = after
optional_otherwise (Some o) after = otherwise o after
