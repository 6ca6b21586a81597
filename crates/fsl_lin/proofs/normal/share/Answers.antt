use Rattle.fsl_lin.proofs.Sizes.{share_sized}
use Rattle.fsl_lin.proofs.normal.share.Goals as goal

pub returns-clause-size : goal.returns-clause-size
returns-clause-size c = share_sized c.args.k.now c.part.result c.requires c.part.ensures.narrow
