use Rattle.std.proofs.Common.{◌≡◌, drop, map}
use Rattle.fsl_core.specs.Scopes.{stmt_scoped, all_fit}
use Rattle.fsl_core.proofs.scoping.+act_fits.Given as goal

abbrev pub invariant-block_fits-loop-stmt : goal.invariant-block_fits-loop-stmt
invariant-block_fits-loop-stmt l =
    all_fit (map (stmt_scoped l.procs) (drop l.stmt-index l.stmts)) l.scope ≡ all_fit (map (stmt_scoped l.procs) l.stmts) l.initial.scope
