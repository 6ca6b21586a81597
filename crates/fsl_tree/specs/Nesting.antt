-- How deep a tree nests. The nesting at a token is the number of `(`, `{` and `[` that are open there and of
-- unary minus signs whose factor isn't ended, the token itself included; `nesting` is the greatest of a file.
-- Each definition gives the greatest nesting inside a part of the tree, counted from that part.
use Rattle.std.specs.Prelude.{ℕ, ◌+◌, List, [], ◌∷◌, Option, Some, None, map, max}
use Rattle.fsl_tree.specs.declared.expression.Expression.{Expression}
use Rattle.fsl_tree.specs.declared.expression.Addend.{Addend}
use Rattle.fsl_tree.specs.declared.expression.Term.{Term}
use Rattle.fsl_tree.specs.declared.expression.Multiplier.{Multiplier}
use Rattle.fsl_tree.specs.declared.expression.Factor.{Factor}
use Rattle.fsl_tree.specs.declared.expression.Factor.TheOpen.{Factor-F, Addend-F, Expression-F, Multiplier-F, Term-F}
use Rattle.fsl_tree.specs.declared.expression.Factor.TheFolds.{fold-Factor, fold-Addend, fold-Expression, fold-Multiplier, fold-Term}
use Rattle.fsl_tree.specs.declared.expression.Condition.{Condition}
use Rattle.fsl_tree.specs.declared.expression.Condition.TheVariants as conditions
use Rattle.fsl_tree.specs.declared.expression.Arguments.{Arguments}
use Rattle.fsl_tree.specs.declared.expression.NextArgument.{NextArgument}
use Rattle.fsl_tree.specs.declared.expression.Use.{Use}
use Rattle.fsl_tree.specs.declared.assertion.Assertion.{Assertion}
use Rattle.fsl_tree.specs.declared.assertion.Atom.{Atom}
use Rattle.fsl_tree.specs.declared.assertion.Conjunct.{Conjunct}
use Rattle.fsl_tree.specs.declared.assertion.Atom.TheOpen.{Atom-F, Assertion-F, Conjunct-F}
use Rattle.fsl_tree.specs.declared.assertion.Atom.TheFolds.{fold-Atom, fold-Assertion, fold-Conjunct}
use Rattle.fsl_tree.specs.declared.assertion.Relation.{Relation}
use Rattle.fsl_tree.specs.declared.assertion.Relation.TheVariants as relations
use Rattle.fsl_tree.specs.declared.assertion.Share.{Share}
use Rattle.fsl_tree.specs.declared.assertion.Pattern.{Pattern}
use Rattle.fsl_tree.specs.declared.assertion.Pattern.TheVariants as patterns
use Rattle.fsl_tree.specs.declared.right_side.RightSide.{RightSide}
use Rattle.fsl_tree.specs.declared.right_side.RightSide.TheVariants as right_sides
use Rattle.fsl_tree.specs.declared.right_side.Allocation.{Allocation}
use Rattle.fsl_tree.specs.declared.right_side.Allocation.TheVariants as allocations
use Rattle.fsl_tree.specs.declared.right_side.With.{With}
use Rattle.fsl_tree.specs.declared.right_side.StepLine.{StepLine}
use Rattle.fsl_tree.specs.declared.right_side.Step.{Step}
use Rattle.fsl_tree.specs.declared.statement.ParallelCall.{ParallelCall}
use Rattle.fsl_tree.specs.declared.statement.FenceKind.{FenceKind}
use Rattle.fsl_tree.specs.declared.statement.FenceKind.TheVariants as fences
use Rattle.fsl_tree.specs.declared.statement.Statement.{Statement}
use Rattle.fsl_tree.specs.declared.statement.Block.{Block}
use Rattle.fsl_tree.specs.declared.statement.Otherwise.{Otherwise}
use Rattle.fsl_tree.specs.declared.statement.Statement.TheOpen.{Statement-F, Block-F, Otherwise-F}
use Rattle.fsl_tree.specs.declared.statement.Statement.TheFolds.{fold-Statement, fold-Block, fold-Otherwise}
use Rattle.fsl_tree.specs.declared.declaration.Declaration.{Declaration}
use Rattle.fsl_tree.specs.declared.declaration.Declaration.TheVariants as declarations
use Rattle.fsl_tree.specs.declared.declaration.Part.{Part}
use Rattle.fsl_tree.specs.declared.declaration.Clause.{Clause}
use Rattle.fsl_tree.specs.declared.file.File.{File}

-- the greatest of several, 0 of none
abbrev pub greatest : List ℕ → ℕ
greatest [] = 0
greatest (n ∷ ns) = max n (greatest ns)

-- ---- expressions

abbrev pub factor_depth : Factor-F ℕ ℕ ℕ ℕ ℕ → ℕ
factor_depth (Factor-F.Number place value) = 0
factor_depth (Factor-F.Name place) = 0
factor_depth (Factor-F.Outcome place) = 0
factor_depth (Factor-F.Negative minus factor) = 1 + factor
factor_depth (Factor-F.Group start inside end) = 1 + inside

abbrev pub addend_depth : Addend-F ℕ ℕ ℕ ℕ ℕ → ℕ
addend_depth a = a.term

abbrev pub expression_depth : Expression-F ℕ ℕ ℕ ℕ ℕ → ℕ
expression_depth e = max e.first (greatest e.more)

abbrev pub multiplier_depth : Multiplier-F ℕ ℕ ℕ ℕ ℕ → ℕ
multiplier_depth m = m.factor

abbrev pub term_depth : Term-F ℕ ℕ ℕ ℕ ℕ → ℕ
term_depth t = max t.first (greatest t.more)

unfoldable pub in_factor : Factor → ℕ
in_factor = fold-Factor ℕ ℕ ℕ ℕ ℕ factor_depth addend_depth expression_depth multiplier_depth term_depth

unfoldable pub in_addend : Addend → ℕ
in_addend = fold-Addend ℕ ℕ ℕ ℕ ℕ factor_depth addend_depth expression_depth multiplier_depth term_depth

unfoldable pub in_expression : Expression → ℕ
in_expression = fold-Expression ℕ ℕ ℕ ℕ ℕ factor_depth addend_depth expression_depth multiplier_depth term_depth

unfoldable pub in_multiplier : Multiplier → ℕ
in_multiplier = fold-Multiplier ℕ ℕ ℕ ℕ ℕ factor_depth addend_depth expression_depth multiplier_depth term_depth

unfoldable pub in_term : Term → ℕ
in_term = fold-Term ℕ ℕ ℕ ℕ ℕ factor_depth addend_depth expression_depth multiplier_depth term_depth

abbrev pub in_condition : Condition → ℕ
in_condition (conditions.Always place) = 0
in_condition (conditions.Never place) = 0
in_condition (conditions.Compared left comparison right) = max (in_expression left) (in_expression right)

abbrev pub in_next_argument : NextArgument → ℕ
in_next_argument a = in_expression a.value

abbrev pub in_arguments : Option Arguments → ℕ
in_arguments None = 0
in_arguments (Some a) = max (in_expression a.first) (greatest (map in_next_argument a.more))

abbrev pub in_use : Use → ℕ
in_use u = 1 + in_arguments u.arguments

-- ---- assertions

abbrev pub in_pattern : Pattern → ℕ
in_pattern (patterns.Any place) = 0
in_pattern (patterns.Binder mark name) = 0
in_pattern (patterns.Value value) = in_expression value

abbrev pub in_share : Option Share → ℕ
in_share None = 0
in_share (Some s) = 1 + in_expression s.amount

abbrev pub in_relation : Relation → ℕ
in_relation (relations.Compared comparison right) = in_expression right
in_relation (relations.PointsTo arrow share value) = max (in_share share) (in_pattern value)

abbrev pub atom_depth : Atom-F ℕ ℕ ℕ → ℕ
atom_depth (Atom-F.Empty word) = 0
atom_depth (Atom-F.Choice word start holds end first_start first first_end otherwise second_start second second_end) =
    1 + max (in_condition holds) (max first second)
atom_depth (Atom-F.Up word start inside end) = 1 + inside
atom_depth (Atom-F.Down word start inside end) = 1 + inside
atom_depth (Atom-F.Init word start location end) = 1 + in_expression location
atom_depth (Atom-F.Rel word start location comma invariant end) = 1 + max (in_expression location) (in_use invariant)
atom_depth (Atom-F.RmwAcq word start location comma invariant end) = 1 + max (in_expression location) (in_use invariant)
atom_depth (Atom-F.Acq word start location use_comma invariant part_comma part value set_comma set_start excluded set_end end) =
    1 + max (in_expression location) (max (in_use invariant) (1 + in_arguments excluded))
atom_depth (Atom-F.Bank word start bank comma amount end) = 1 + in_expression amount
atom_depth (Atom-F.Related left how) = max (in_expression left) (in_relation how)
atom_depth (Atom-F.Predicate predicate) = in_use predicate

abbrev pub assertion_depth : Assertion-F ℕ ℕ ℕ → ℕ
assertion_depth a = max a.first (greatest a.more)

abbrev pub conjunct_depth : Conjunct-F ℕ ℕ ℕ → ℕ
conjunct_depth c = c.atom

unfoldable pub in_atom : Atom → ℕ
in_atom = fold-Atom ℕ ℕ ℕ atom_depth assertion_depth conjunct_depth

unfoldable pub in_assertion : Assertion → ℕ
in_assertion = fold-Assertion ℕ ℕ ℕ atom_depth assertion_depth conjunct_depth

unfoldable pub in_conjunct : Conjunct → ℕ
in_conjunct = fold-Conjunct ℕ ℕ ℕ atom_depth assertion_depth conjunct_depth

-- ---- statements

abbrev pub in_step : Step → ℕ
in_step s = 1 + in_expression s.amount

abbrev pub in_step_line : StepLine → ℕ
in_step_line l = in_step l.step

abbrev pub in_with : Option With → ℕ
in_with None = 0
in_with (Some w) = 1 + greatest (map in_step_line w.steps)

abbrev pub in_allocation : Allocation → ℕ
in_allocation (allocations.NonAtomic word) = 0
in_allocation (allocations.Shared cell invariant) = in_use invariant

abbrev pub in_right_side : RightSide → ℕ
in_right_side (right_sides.Value value) = in_expression value
in_right_side (right_sides.Call word callee) = in_use callee
in_right_side (right_sides.Allocate word what) = in_allocation what
in_right_side (right_sides.Load word mode start location end) = 1 + in_expression location
in_right_side (right_sides.CompareAndSwap word success failure start location expected_comma expected new_comma new end timed) =
    max (1 + max (in_expression location) (max (in_expression expected) (in_expression new))) (in_with timed)
in_right_side (right_sides.Update word mode start location comma operand end timed) =
    max (1 + max (in_expression location) (in_expression operand)) (in_with timed)

abbrev pub in_clause : Clause → ℕ
in_clause c = 1 + in_assertion c.assertion

abbrev pub in_optional_clause : Option Clause → ℕ
in_optional_clause None = 0
in_optional_clause (Some c) = in_clause c

abbrev pub in_optional_expression : Option Expression → ℕ
in_optional_expression None = 0
in_optional_expression (Some e) = in_expression e

abbrev pub in_parallel_call : ParallelCall → ℕ
in_parallel_call c = in_use c.callee

abbrev pub in_fence : FenceKind → ℕ
in_fence (fences.Acquire word) = 0
in_fence (fences.Release word start given end) = 1 + in_assertion given

abbrev pub part_depth : Option ℕ → ℕ
part_depth None = 0
part_depth (Some n) = n

abbrev pub statement_depth : Statement-F ℕ ℕ ℕ → ℕ
statement_depth (Statement-F.Let word name equals right semicolon) = in_right_side right
statement_depth (Statement-F.Assign name equals right semicolon) = in_right_side right
statement_depth (Statement-F.Store word mode start location comma value end semicolon) =
    1 + max (in_expression location) (in_expression value)
statement_depth (Statement-F.Call word callee semicolon) = in_use callee
statement_depth (Statement-F.Parallel word start calls end) = 1 + greatest (map in_parallel_call calls)
statement_depth (Statement-F.Fence word what semicolon) = in_fence what
statement_depth (Statement-F.If word start holds end then_block otherwise) =
    max (1 + in_condition holds) (max then_block (part_depth otherwise))
statement_depth (Statement-F.While word start holds end invariant body) =
    max (1 + in_condition holds) (max (in_optional_clause invariant) body)
statement_depth (Statement-F.Assert word start holds end semicolon) = 1 + in_condition holds
statement_depth (Statement-F.Print word start value end semicolon) = 1 + in_expression value
statement_depth (Statement-F.Free word start location end semicolon) = 1 + in_expression location
statement_depth (Statement-F.Return word value semicolon) = in_optional_expression value
statement_depth (Statement-F.Bank word name semicolon) = 0
statement_depth (Statement-F.Step timed semicolon) = in_step timed

abbrev pub block_depth : Block-F ℕ ℕ ℕ → ℕ
block_depth b = 1 + greatest b.statements

abbrev pub otherwise_depth : Otherwise-F ℕ ℕ ℕ → ℕ
otherwise_depth o = o.block

unfoldable pub in_statement : Statement → ℕ
in_statement = fold-Statement ℕ ℕ ℕ statement_depth block_depth otherwise_depth

unfoldable pub in_block : Block → ℕ
in_block = fold-Block ℕ ℕ ℕ statement_depth block_depth otherwise_depth

unfoldable pub in_otherwise : Otherwise → ℕ
in_otherwise = fold-Otherwise ℕ ℕ ℕ statement_depth block_depth otherwise_depth

abbrev pub in_optional_otherwise : Option Otherwise → ℕ
in_optional_otherwise None = 0
in_optional_otherwise (Some o) = in_otherwise o

-- ---- declarations

abbrev pub in_part : Part → ℕ
in_part p = 1 + in_assertion p.assertion

-- parameters have parentheses around them and nothing that nests inside
abbrev pub in_declaration : Declaration → ℕ
in_declaration (declarations.Invariant i) = max 1 (max (in_part i.first) (greatest (map in_part i.more)))
in_declaration (declarations.Predicate p) = max 1 (in_part p.body)
in_declaration (declarations.Procedure p) =
    max 1 (max (in_optional_clause p.requires_clause) (max (in_optional_clause p.ensures_clause) (in_block p.body)))

-- the greatest nesting at a token of the file
abbrev pub nesting : File → ℕ
nesting file = greatest (map in_declaration file.declarations)
