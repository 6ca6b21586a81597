-- Branches of the code as those of the rules.
use Rattle.std.specs.Prelude.{Bool, List, map}
use Rattle.fsl_asrt.specs.declared.branch.Branch.{Branch}
use Rattle.fsl_asrt.specs.declared.branch.Branch.TheVariants as branching
use Rattle.fsl_asrt.specs.declared.branch.Bound.{Bound}
use Rattle.fsl_asrt.specs.declared.branch.Bound.TheVariants as binding
use Rattle.fsl_asrt.specs.declared.branch.Decided.{Decided}
use Rattle.fsl_asrt.specs.declared.branch.Decided.TheVariants as answer
use Rattle.fsl_core.specs.logic.States.{Env, Branches, goes, fails}
use Rattle.fsl_core.specs.logic.States as logic

abbrev pub branch_of : Branch → logic.Branch (Unit {0})
branch_of (branching.Goes state) = goes tt state
branch_of (branching.Fails kind) = fails kind

abbrev pub decided_of : Decided → logic.Branch Bool
decided_of (answer.Goes state holds) = goes holds state
decided_of (answer.Fails kind) = fails kind

abbrev pub bound_of : Bound → logic.Branch Env
bound_of (binding.Goes state env) = goes env state
bound_of (binding.Fails kind) = fails kind

-- the branches in order
abbrev pub branches : List Branch → Branches (Unit {0})
branches = map branch_of

abbrev pub decided : List Decided → Branches Bool
decided = map decided_of

abbrev pub bounds : List Bound → Branches Env
bounds = map bound_of
