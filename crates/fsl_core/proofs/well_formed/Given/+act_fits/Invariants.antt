use Rattle.std.proofs.Common.{◌≡◌, drop}
use Rattle.std.specs.List.{list_all}
use Rattle.fsl_core.specs.WellFormed.{stmt_fits}
use Rattle.fsl_core.proofs.well_formed.Given.+act_fits.Given as goal

abbrev pub invariant-block_fits-loop-stmt : goal.invariant-block_fits-loop-stmt
invariant-block_fits-loop-stmt l =
    list_all (stmt_fits l.self) (drop l.stmt-index l.stmts) ≡ list_all (stmt_fits l.self) l.stmts
