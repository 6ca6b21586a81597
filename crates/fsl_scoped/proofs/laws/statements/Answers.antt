use Rattle.fsl_scoped.proofs.Setting.{blocks_set_their_own, locals_are_declared}
use Rattle.fsl_scoped.proofs.Statements.{statements_scoped, branches_fit, loops_fit, sights_stay, flags_stay}
use Rattle.fsl_scoped.proofs.laws.statements.Goals as goal

pub returns : goal.returns
returns c = record {
  level = statements_scoped;
  branches = branches_fit;
  loops = loops_fit;
  own = blocks_set_their_own;
  declared = locals_are_declared;
  sights = sights_stay;
  flags = flags_stay;
}
