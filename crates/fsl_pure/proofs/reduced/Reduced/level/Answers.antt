use Rattle.std.proofs.lemmas.Bool.{eqb-true}
use Rattle.fsl_lin.specs.Equations.{rows_of}
use Rattle.fsl_pure.proofs.Between.{same_level, all_level}
use Rattle.fsl_pure.proofs.reduced.Reduced.level.Goals as goal

pub returns-then-x-y : goal.returns-then-x-y
returns-then-x-y c h = same_level c.args.self.now c.args.x c.args.y (eqb-true c.args.x c.args.y h)

pub returns-then-is_free : goal.returns-then-is_free
returns-then-is_free c h =
    all_level c.args.x c.args.y (rows_of c.args.self.now) (c.is_free.ensures c.if-is_free.true) (c.is_free-then-is_free.ensures h)
