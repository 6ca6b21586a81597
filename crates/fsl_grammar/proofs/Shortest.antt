-- A shortest tree of each kind.
use Rattle.std.proofs.Common.{[], None}
use Rattle.fsl_grammar.specs.declared.groups.Arm.{Arm}
use Rattle.fsl_grammar.specs.ReadDeclarations.{Contract}
use Rattle.fsl_grammar.specs.declared.groups.Enclosed.{Enclosed}
use Rattle.fsl_grammar.specs.declared.groups.ExcludedSet.{ExcludedSet}
use Rattle.fsl_grammar.specs.declared.groups.Held.{Held}
use Rattle.fsl_grammar.specs.declared.groups.Pair.{Pair}
use Rattle.fsl_grammar.specs.declared.groups.Test.{Test}
use Rattle.fsl_grammar.specs.declared.groups.Triple.{Triple}
use Rattle.fsl_tree.specs.declared.assertion.Assertion.{Assertion}
use Rattle.fsl_tree.specs.declared.assertion.Atom.TheOpen.{Atom-F}
use Rattle.fsl_tree.specs.declared.assertion.Atom.TheViews.{roll-Atom, roll-Assertion}
use Rattle.fsl_tree.specs.declared.assertion.Atom.{Atom}
use Rattle.fsl_tree.specs.declared.assertion.Pattern.{Pattern}
use Rattle.fsl_tree.specs.declared.assertion.Relation.{Relation}
use Rattle.fsl_tree.specs.declared.declaration.Parameter.{Parameter}
use Rattle.fsl_tree.specs.declared.declaration.Part.{Part}
use Rattle.fsl_tree.specs.declared.expression.Arguments.{Arguments}
use Rattle.fsl_tree.specs.declared.expression.Condition.{Condition}
use Rattle.fsl_tree.specs.declared.expression.Expression.{Expression}
use Rattle.fsl_tree.specs.declared.expression.Factor.TheOpen.{Factor-F}
use Rattle.fsl_tree.specs.declared.expression.Factor.TheViews.{roll-Factor, roll-Multiplier, roll-Term, roll-Expression}
use Rattle.fsl_tree.specs.declared.expression.Factor.{Factor}
use Rattle.fsl_tree.specs.declared.expression.Multiplier.{Multiplier}
use Rattle.fsl_tree.specs.declared.expression.NextArgument.{NextArgument}
use Rattle.fsl_tree.specs.declared.expression.Term.{Term}
use Rattle.fsl_tree.specs.declared.expression.Use.{Use}
use Rattle.fsl_tree.specs.declared.right_side.Allocation.{Allocation}
use Rattle.fsl_tree.specs.declared.right_side.RightSide.{RightSide}
use Rattle.fsl_tree.specs.declared.right_side.Step.{Step}
use Rattle.fsl_tree.specs.declared.statement.Block.{Block}
use Rattle.fsl_tree.specs.declared.statement.FenceKind.{FenceKind}
use Rattle.fsl_tree.specs.declared.statement.Statement.TheOpen.{Statement-F}
use Rattle.fsl_tree.specs.declared.statement.Statement.TheViews.{roll-Statement, roll-Block}
use Rattle.fsl_tree.specs.declared.statement.Statement.{Statement}
use Rattle.fsl_tree.specs.declared.assertion.Pattern.TheVariants as patterns
use Rattle.fsl_tree.specs.declared.assertion.Relation.TheVariants as relations
use Rattle.fsl_tree.specs.declared.expression.Comparison.TheVariants as comparisons
use Rattle.fsl_tree.specs.declared.expression.Condition.TheVariants as conditions
use Rattle.fsl_tree.specs.declared.right_side.Allocation.TheVariants as allocations
use Rattle.fsl_tree.specs.declared.right_side.RightSide.TheVariants as right_sides
use Rattle.fsl_tree.specs.declared.right_side.StepWord.TheVariants as step_words
use Rattle.fsl_tree.specs.declared.statement.FenceKind.TheVariants as fences
use Rattle.fsl_grammar.proofs.Begun.{nowhere}

pub some_factor : Factor
some_factor = roll-Factor (Factor-F.Name nowhere)

pub some_multiplier : Multiplier
some_multiplier = roll-Multiplier (record { star = nowhere; factor = some_factor })

pub some_term : Term
some_term = roll-Term (record { first = some_factor; more = [] })

pub some_expression : Expression
some_expression = roll-Expression (record { first = some_term; more = [] })

pub some_condition : Condition
some_condition = conditions.Always nowhere

abbrev pub some_next_argument : NextArgument
some_next_argument = record { comma = nowhere; value = some_expression }

abbrev pub some_arguments : Arguments
some_arguments = record { first = some_expression; more = [] }

abbrev pub some_use : Use
some_use = record { name = nowhere; «open» = nowhere; arguments = None; close = nowhere }

abbrev pub some_test : Test
some_test = record { word = nowhere; «open» = nowhere; condition = some_condition; close = nowhere }

abbrev pub some_enclosed : Enclosed
some_enclosed = record { word = nowhere; «open» = nowhere; expression = some_expression; close = nowhere }

abbrev pub some_held : Held
some_held = record { location = some_expression; comma = nowhere; invariant = some_use }

abbrev pub some_excluded_set : ExcludedSet
some_excluded_set = record { «open» = nowhere; excluded = None; close = nowhere }

abbrev pub some_pair : Pair
some_pair = record { «open» = nowhere; location = some_expression; value = some_next_argument; close = nowhere }

abbrev pub some_triple : Triple
some_triple = record { «open» = nowhere; location = some_expression; expected = some_next_argument; new = some_next_argument; close = nowhere }

pub some_pattern : Pattern
some_pattern = patterns.Any nowhere

pub some_relation : Relation
some_relation = relations.Compared (comparisons.Equal nowhere) some_expression

pub some_atom : Atom
some_atom = roll-Atom (Atom-F.Empty nowhere)

pub some_assertion : Assertion
some_assertion = roll-Assertion (record { first = some_atom; more = [] })

abbrev pub some_arm : Arm
some_arm = record { «open» = nowhere; assertion = some_assertion; close = nowhere }

abbrev pub some_part : Part
some_part = record { «open» = nowhere; assertion = some_assertion; close = nowhere }

pub some_allocation : Allocation
some_allocation = allocations.NonAtomic nowhere

abbrev pub some_step : Step
some_step = record { word = step_words.Mint nowhere; «open» = nowhere; bank = nowhere; comma = nowhere; amount = some_expression; close = nowhere }

pub some_right_side : RightSide
some_right_side = right_sides.Value some_expression

pub some_fence_kind : FenceKind
some_fence_kind = fences.Acquire nowhere

pub some_block : Block
some_block = roll-Block (record { «open» = nowhere; statements = []; close = nowhere })

pub some_statement : Statement
some_statement = roll-Statement (Statement-F.Bank nowhere nowhere nowhere)

abbrev pub some_parameter : Parameter
some_parameter = record { bank = None; name = nowhere }

abbrev pub some_contract : Contract
some_contract = record { requires_clause = None; ensures_clause = None }
