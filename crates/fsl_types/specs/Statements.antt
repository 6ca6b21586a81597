-- Statements over numbered variables, with the variables that they declare and their faults. A variable is visible from
-- the end of its declaration to the end of its block.
use Rattle.std.specs.Prelude.{ℕ, Bool, true, false, List, [], ◌∷◌, Option, Some, None, pos, length, map}
use Rattle.fsl_base.specs.declared.span.Span.{Span}
use Rattle.fsl_core.specs.declared.act.Act.{Act}
use Rattle.fsl_core.specs.declared.act.Act.TheVariants as act
use Rattle.fsl_core.specs.declared.act.Called.{Called}
use Rattle.fsl_core.specs.declared.act.Step.{Step as TokenStep}
use Rattle.fsl_core.specs.declared.act.Stmt.{Stmt}
use Rattle.fsl_core.specs.declared.assertion.Asrt.TheVariants as asrt
use Rattle.fsl_core.specs.declared.expr.Expr.{Expr}
use Rattle.fsl_core.specs.declared.expr.Expr.TheVariants as expr
use Rattle.fsl_core.specs.declared.mode.Mode.{Mode as CoreMode}
use Rattle.fsl_core.specs.declared.mode.Mode.TheVariants as mode
use Rattle.fsl_tree.specs.declared.declaration.Clause.{Clause}
use Rattle.fsl_tree.specs.declared.expression.Condition.{Condition}
use Rattle.fsl_tree.specs.declared.expression.Expression.{Expression}
use Rattle.fsl_tree.specs.declared.expression.Use.{Use}
use Rattle.fsl_tree.specs.declared.right_side.Allocation.{Allocation}
use Rattle.fsl_tree.specs.declared.right_side.Allocation.TheVariants as allocations
use Rattle.fsl_tree.specs.declared.right_side.Mode.{Mode}
use Rattle.fsl_tree.specs.declared.right_side.Mode.TheVariants as modes
use Rattle.fsl_tree.specs.declared.right_side.RightSide.{RightSide}
use Rattle.fsl_tree.specs.declared.right_side.RightSide.TheVariants as right_sides
use Rattle.fsl_tree.specs.declared.right_side.SharedCell.{SharedCell}
use Rattle.fsl_tree.specs.declared.right_side.SharedCell.TheVariants as cells
use Rattle.fsl_tree.specs.declared.right_side.Step.{Step}
use Rattle.fsl_tree.specs.declared.right_side.StepLine.{StepLine}
use Rattle.fsl_tree.specs.declared.right_side.StepWord.{StepWord}
use Rattle.fsl_tree.specs.declared.right_side.StepWord.TheVariants as step_words
use Rattle.fsl_tree.specs.declared.right_side.UpdateWord.{UpdateWord}
use Rattle.fsl_tree.specs.declared.right_side.UpdateWord.TheVariants as update_words
use Rattle.fsl_tree.specs.declared.right_side.With.{With}
use Rattle.fsl_tree.specs.declared.statement.Block.{Block}
use Rattle.fsl_tree.specs.declared.statement.FenceKind.{FenceKind}
use Rattle.fsl_tree.specs.declared.statement.FenceKind.TheVariants as fences
use Rattle.fsl_tree.specs.declared.statement.Otherwise.{Otherwise}
use Rattle.fsl_tree.specs.declared.statement.ParallelCall.{ParallelCall}
use Rattle.fsl_tree.specs.declared.statement.ReleaseWord.{ReleaseWord}
use Rattle.fsl_tree.specs.declared.statement.ReleaseWord.TheVariants as release_words
use Rattle.fsl_tree.specs.declared.statement.Statement.{Statement}
use Rattle.fsl_tree.specs.declared.statement.Statement.TheFolds.{fold-Statement, fold-Block, fold-Otherwise}
use Rattle.fsl_tree.specs.declared.statement.Statement.TheOpen.{Statement-F, Block-F, Otherwise-F}
use Rattle.fsl_tree.specs.declared.statement.Statement.TheViews.{out-Statement}
use Rattle.fsl_types.specs.declared.given.Setting.{Setting}
use Rattle.fsl_types.specs.declared.occurrence.Access.{Access}
use Rattle.fsl_types.specs.declared.occurrence.Access.TheVariants as accesses
use Rattle.fsl_types.specs.declared.occurrence.Due.TheVariants as due
use Rattle.fsl_types.specs.declared.occurrence.Occurrence.TheVariants as occurrence
use Rattle.fsl_types.specs.declared.variable.Signature.{Signature}
use Rattle.fsl_types.specs.declared.variable.Sort.TheVariants as sorts
use Rattle.fsl_types.specs.declared.resolver.Resolver.{Resolver}
use Rattle.fsl_types.specs.Assertions.{apart, assertion, clause, sight}
use Rattle.fsl_types.specs.Expressions.{Judged, Sight, condition_of, expression_of, in_turn, instance_of, judged_condition, judged_name, judged_number, judged_use, number_of, numbered_arguments, signature_at}
use Rattle.fsl_types.specs.Given.{Given}
use Rattle.fsl_types.specs.Names.{Names, slot_at}
use Rattle.fsl_types.specs.Resolvers.{Made, declared, judging, leaving, noted}

-- ---- modes

abbrev pub mode_of : Mode → CoreMode
mode_of (modes.NonAtomic place) = mode.Na
mode_of (modes.Relaxed place) = mode.Rlx
mode_of (modes.Acquire place) = mode.Acq
mode_of (modes.Release place) = mode.Rel
mode_of (modes.AcquireRelease place) = mode.AcqRel

abbrev pub judged_mode : Access → Mode → Judged
judged_mode access how = noted (occurrence.Moded access how)

-- ---- token steps

abbrev pub is_mint : StepWord → Bool
is_mint (step_words.Mint place) = true
is_mint (step_words.Burn place) = false

abbrev pub step_place : StepWord → Span
step_place (step_words.Mint place) = place
step_place (step_words.Burn place) = place

abbrev pub step_of : List ℕ → Names → Step → TokenStep
step_of bytes names s = record { mint = is_mint s.word; bank = slot_at bytes names s.bank; n = expression_of bytes names s.amount }

abbrev pub step_line_of : List ℕ → Names → StepLine → TokenStep
step_line_of bytes names line = step_of bytes names line.step

abbrev pub steps_of : List ℕ → Names → Option With → List TokenStep
steps_of bytes names None = []
steps_of bytes names (Some along) = map (step_line_of bytes names) along.steps

abbrev pub judged_step : Sight → Step → Judged
judged_step seen s faults = judged_number seen s.amount (judged_name seen due.Bank s.bank faults)

abbrev pub judged_step_line : Sight → StepLine → Judged
judged_step_line seen line = judged_step seen line.step

abbrev pub judged_steps : Sight → Option With → Judged
judged_steps seen None faults = faults
judged_steps seen (Some along) faults = in_turn (map (judged_step_line seen) along.steps) faults

-- ---- right sides

abbrev pub is_rmw : SharedCell → Bool
is_rmw (cells.Acq place) = false
is_rmw (cells.Rmw place) = true

abbrev pub allocation_of : Given → Names → ℕ → Allocation → Act
allocation_of given names slot (allocations.NonAtomic word) = act.AllocNa slot
allocation_of given names slot (allocations.Shared cell invariant) =
    act.AllocAt slot (is_rmw cell) (instance_of given.bytes given.invariants names invariant)

abbrev pub updated : UpdateWord → ℕ → CoreMode → Expr → Expr → List TokenStep → Act
updated (update_words.FetchAdd place) slot how at e steps = act.Add slot how at e steps
updated (update_words.Exchange place) slot how at e steps = act.Swap slot how at e steps

-- what sets the variable of a slot
abbrev pub right_side_of : Given → Names → ℕ → RightSide → Act
right_side_of given names slot (right_sides.Value e) = act.Set slot (expression_of given.bytes names e)
right_side_of given names slot (right_sides.Call word callee) =
    act.Call (Some slot) (number_of (signature_at given.bytes given.procedures callee.name)) (numbered_arguments given.bytes names callee.arguments)
right_side_of given names slot (right_sides.Allocate word what) = allocation_of given names slot what
right_side_of given names slot (right_sides.Load word how start location end) =
    act.Load slot (mode_of how) (expression_of given.bytes names location)
right_side_of given names slot (right_sides.CompareAndSwap word success failure start location expected_comma expected new_comma new end along) =
    act.Cas slot (mode_of success) (mode_of failure) (expression_of given.bytes names location) (expression_of given.bytes names expected)
    (expression_of given.bytes names new) (steps_of given.bytes names along)
right_side_of given names slot (right_sides.Update word how start location comma operand end along) =
    updated word slot (mode_of how) (expression_of given.bytes names location) (expression_of given.bytes names operand) (steps_of given.bytes names along)

abbrev pub judged_allocation : Given → Sight → Allocation → Judged
judged_allocation given seen (allocations.NonAtomic word) faults = faults
judged_allocation given seen (allocations.Shared cell invariant) faults =
    judged_use seen (signature_at given.bytes given.invariants invariant.name) invariant faults

abbrev pub judged_right_side : Given → Sight → RightSide → Judged
judged_right_side given seen (right_sides.Value e) faults = judged_number seen e faults
judged_right_side given seen (right_sides.Call word callee) faults =
    judged_use seen (signature_at given.bytes given.procedures callee.name) callee faults
judged_right_side given seen (right_sides.Allocate word what) faults = judged_allocation given seen what faults
judged_right_side given seen (right_sides.Load word how start location end) faults =
    judged_number seen location (judged_mode accesses.Load how faults)
judged_right_side given seen (right_sides.CompareAndSwap word success failure start location expected_comma expected new_comma new end along) faults =
    judged_steps seen along (judged_number seen new (judged_number seen expected (judged_number seen location (
    judged_mode accesses.Failure failure (judged_mode accesses.Update success faults)))))
judged_right_side given seen (right_sides.Update word how start location comma operand end along) faults =
    judged_steps seen along (judged_number seen operand (judged_number seen location (judged_mode accesses.Update how faults)))

-- ---- parts of statements

abbrev pub from_to : Span → Span → Span
from_to first last = record { from = first.from; to = last.to }

abbrev pub stmt : Span → Span → Act → Stmt
stmt first last what = record { span = from_to first last; act = what }

-- statements see no `result`
abbrev pub seen : Given → Resolver → Sight
seen given resolver = sight given false resolver

-- a statement that declares nothing
abbrev pub plainly : Stmt → Judged → Resolver → Made Stmt
plainly made judged resolver = record { made = made; resolver = judging judged resolver }

abbrev pub called : Given → Names → ParallelCall → Called
called given names call = record {
  proc = number_of (signature_at given.bytes given.procedures call.callee.name);
  args = numbered_arguments given.bytes names call.callee.arguments;
}

abbrev pub is_modal : Option Signature → Bool
is_modal None = false
is_modal (Some signature) = signature.modal

abbrev pub judged_call : Given → Sight → ParallelCall → Judged
judged_call given sight call faults =
    judged_use sight (signature_at given.bytes given.procedures call.callee.name) call.callee (
    noted (occurrence.Child call.callee.name (is_modal (signature_at given.bytes given.procedures call.callee.name))) faults)

abbrev pub judged_parallel : Given → Sight → Span → List ParallelCall → Judged
judged_parallel given sight word calls faults =
    in_turn (map (judged_call given sight) calls) (noted (occurrence.Parallel word (length calls)) faults)

abbrev pub in_fence : Setting
in_fence = record { in_ensures = false; modal = false }

abbrev pub in_loop_invariant : Setting
in_loop_invariant = record { in_ensures = false; modal = true }

abbrev pub release_mode : ReleaseWord → CoreMode
release_mode (release_words.Release place) = mode.Rel
release_mode (release_words.AcquireRelease place) = mode.AcqRel

abbrev pub fence : Given → FenceKind → Resolver → Made Act
fence given (fences.Acquire word) resolver = record { made = act.Fence mode.Acq asrt.Emp; resolver = resolver }
fence given (fences.Release word start held end) resolver =
    let read = apart (assertion given held) in_fence resolver in
    record { made = act.Fence (release_mode word) read.made; resolver = read.resolver }

abbrev pub returned : Given → Names → Option Expression → Expr
returned given names None = expr.Const (pos 0)
returned given names (Some e) = expression_of given.bytes names e

abbrev pub judged_return : Sight → Bool → Span → Option Expression → Judged
judged_return sight in_loop word None faults = noted (occurrence.Return word in_loop) faults
judged_return sight in_loop word (Some e) faults = judged_number sight e (noted (occurrence.Return word in_loop) faults)

-- ---- statements

-- what a statement makes, inside a loop or not
abbrev pub Runs : Type 0
Runs = Bool → Resolver → Made Stmt

-- what the statements of a block make, and its closing brace
pub record Inside : Type 0 where
  pub last : Span
  pub runs : Bool → Resolver → Made (List Stmt)

abbrev pub run_each : List Runs → Bool → Resolver → Made (List Stmt)
run_each [] in_loop resolver = record { made = []; resolver = resolver }
run_each (r ∷ rs) in_loop resolver =
    let first = r in_loop resolver in
    let others = run_each rs in_loop first.resolver in
    record { made = first.made ∷ others.made; resolver = others.resolver }

abbrev pub block_step : Block-F Runs Inside Inside → Inside
block_step b = record {
  last = b.close;
  runs = λ in_loop resolver. let read = run_each b.statements in_loop resolver in record { made = read.made; resolver = leaving (length resolver.names) read.resolver };
}

abbrev pub otherwise_step : Otherwise-F Runs Inside Inside → Inside
otherwise_step o = o.block

-- an absent `else` makes nothing, and the statement ends where its first block does
abbrev pub run_otherwise : Option Inside → Bool → Resolver → Made (List Stmt)
run_otherwise None in_loop resolver = record { made = []; resolver = resolver }
run_otherwise (Some o) in_loop resolver = o.runs in_loop resolver

abbrev pub last_of : Span → Option Inside → Span
last_of last None = last
last_of last (Some o) = o.last

-- a variable is declared behind its right side
abbrev pub letting : Given → Span → Span → Span → RightSide → Runs
letting given word name semicolon right in_loop resolver = record {
  made = stmt word semicolon (right_side_of given resolver.names resolver.slots right);
  resolver = declared 256 given.bytes name sorts.Local (judging (judged_right_side given (seen given resolver) right) resolver);
}

abbrev pub assigning : Given → Span → Span → RightSide → Runs
assigning given name semicolon right in_loop resolver =
    plainly (stmt name semicolon (right_side_of given resolver.names (slot_at given.bytes resolver.names name) right))
    (λ faults. judged_right_side given (seen given resolver) right (judged_name (seen given resolver) due.Target name faults)) resolver

abbrev pub storing : Given → Span → Span → Mode → Expression → Expression → Runs
storing given word semicolon how location stored in_loop resolver =
    plainly (stmt word semicolon (act.Store (mode_of how) (expression_of given.bytes resolver.names location) (expression_of given.bytes resolver.names stored)))
    (λ faults. judged_number (seen given resolver) stored (judged_number (seen given resolver) location (judged_mode accesses.Store how faults))) resolver

abbrev pub calling : Given → Span → Span → Use → Runs
calling given word semicolon callee in_loop resolver =
    plainly (stmt word semicolon
    (act.Call None (number_of (signature_at given.bytes given.procedures callee.name)) (numbered_arguments given.bytes resolver.names callee.arguments)))
    (judged_use (seen given resolver) (signature_at given.bytes given.procedures callee.name) callee) resolver

abbrev pub forking : Given → Span → Span → List ParallelCall → Runs
forking given word end calls in_loop resolver =
    plainly (stmt word end (act.Par (map (called given resolver.names) calls))) (judged_parallel given (seen given resolver) word calls) resolver

abbrev pub fencing : Given → Span → Span → FenceKind → Runs
fencing given word semicolon what in_loop resolver =
    let read = fence given what resolver in record { made = stmt word semicolon read.made; resolver = read.resolver }

abbrev pub choosing : Given → Span → Condition → Inside → Option Inside → Runs
choosing given word condition then_block otherwise in_loop resolver =
    let one = then_block.runs in_loop (judging (judged_condition (seen given resolver) condition) resolver) in
    let other = run_otherwise otherwise in_loop one.resolver in
    record {
      made = stmt word (last_of then_block.last otherwise) (act.If (condition_of given.bytes resolver.names condition) one.made other.made);
      resolver = other.resolver;
    }

-- the binders of a loop's invariant end with it
abbrev pub looping : Given → Span → Condition → Option Clause → Inside → Runs
looping given word condition invariant body in_loop resolver =
    let held = apart (clause given invariant) in_loop_invariant (judging (judged_condition (seen given resolver) condition) resolver) in
    let inside = body.runs true held.resolver in
    record {
      made = stmt word body.last (act.While (condition_of given.bytes resolver.names condition) held.made inside.made);
      resolver = inside.resolver;
    }

abbrev pub asserting : Given → Span → Span → Condition → Runs
asserting given word semicolon condition in_loop resolver =
    plainly (stmt word semicolon (act.Assert (condition_of given.bytes resolver.names condition))) (judged_condition (seen given resolver) condition) resolver

abbrev pub printing : Given → Span → Span → Expression → Runs
printing given word semicolon printed in_loop resolver =
    plainly (stmt word semicolon (act.Print (expression_of given.bytes resolver.names printed))) (judged_number (seen given resolver) printed) resolver

abbrev pub freeing : Given → Span → Span → Expression → Runs
freeing given word semicolon location in_loop resolver =
    plainly (stmt word semicolon (act.Free (expression_of given.bytes resolver.names location))) (judged_number (seen given resolver) location) resolver

abbrev pub returning : Given → Span → Span → Option Expression → Runs
returning given word semicolon e in_loop resolver =
    plainly (stmt word semicolon (act.Return (returned given resolver.names e))) (judged_return (seen given resolver) in_loop word e) resolver

abbrev pub declaring_bank : Given → Span → Span → Span → Runs
declaring_bank given word name semicolon in_loop resolver =
    record { made = stmt word semicolon (act.Bank resolver.slots); resolver = declared 256 given.bytes name sorts.Bank resolver }

abbrev pub stepping : Given → Step → Span → Runs
stepping given timed semicolon in_loop resolver =
    plainly (stmt (step_place timed.word) semicolon (act.Step (step_of given.bytes resolver.names timed))) (judged_step (seen given resolver) timed) resolver

abbrev pub statement_step : Given → Statement-F Runs Inside Inside → Runs
statement_step given (Statement-F.Let word name equals right semicolon) = letting given word name semicolon right
statement_step given (Statement-F.Assign name equals right semicolon) = assigning given name semicolon right
statement_step given (Statement-F.Store word how start location comma stored end semicolon) = storing given word semicolon how location stored
statement_step given (Statement-F.Call word callee semicolon) = calling given word semicolon callee
statement_step given (Statement-F.Parallel word start calls end) = forking given word end calls
statement_step given (Statement-F.Fence word what semicolon) = fencing given word semicolon what
statement_step given (Statement-F.If word start condition end then_block otherwise) = choosing given word condition then_block otherwise
statement_step given (Statement-F.While word start condition end invariant body) = looping given word condition invariant body
statement_step given (Statement-F.Assert word start condition end semicolon) = asserting given word semicolon condition
statement_step given (Statement-F.Print word start printed end semicolon) = printing given word semicolon printed
statement_step given (Statement-F.Free word start location end semicolon) = freeing given word semicolon location
statement_step given (Statement-F.Return word e semicolon) = returning given word semicolon e
statement_step given (Statement-F.Bank word name semicolon) = declaring_bank given word name semicolon
statement_step given (Statement-F.Step timed semicolon) = stepping given timed semicolon

abbrev pub statement : Given → Statement → Runs
statement given = fold-Statement Runs Inside Inside (statement_step given) block_step otherwise_step

abbrev pub block : Given → Block → Inside
block given = fold-Block Runs Inside Inside (statement_step given) block_step otherwise_step

abbrev pub otherwise : Given → Otherwise → Inside
otherwise given = fold-Otherwise Runs Inside Inside (statement_step given) block_step otherwise_step

-- whether a statement holds no other
abbrev pub is_simple_step : Statement-F Statement Block Otherwise → Bool
is_simple_step (Statement-F.If word start condition end then_block otherwise) = false
is_simple_step (Statement-F.While word start condition end invariant body) = false
is_simple_step _ = true

abbrev pub is_simple : Statement → Bool
is_simple s = is_simple_step (out-Statement s)

-- whether it declares and sets no variable either
abbrev pub is_unnamed_step : Statement-F Statement Block Otherwise → Bool
is_unnamed_step (Statement-F.Let word name equals right semicolon) = false
is_unnamed_step (Statement-F.Assign name equals right semicolon) = false
is_unnamed_step (Statement-F.Bank word name semicolon) = false
is_unnamed_step s = is_simple_step s

abbrev pub is_unnamed : Statement → Bool
is_unnamed s = is_unnamed_step (out-Statement s)

-- whether it only reads, writes, frees, checks, prints, or steps tokens
abbrev pub is_effect_step : Statement-F Statement Block Otherwise → Bool
is_effect_step (Statement-F.Store word how start location comma stored end semicolon) = true
is_effect_step (Statement-F.Free word start location end semicolon) = true
is_effect_step (Statement-F.Assert word start condition end semicolon) = true
is_effect_step (Statement-F.Print word start printed end semicolon) = true
is_effect_step (Statement-F.Step timed semicolon) = true
is_effect_step _ = false

abbrev pub is_effect : Statement → Bool
is_effect s = is_effect_step (out-Statement s)
