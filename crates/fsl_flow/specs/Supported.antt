-- Programs whose paths are followed so far: all statements but read-modify-writes, and those of banks of tokens.
use Rattle.std.specs.Prelude.{Bool, true, false, ◌&&◌, List, map}
use Rattle.std.specs.List.{list_all}
use Rattle.fsl_core.specs.declared.act.Act.{Act}
use Rattle.fsl_core.specs.declared.act.Stmt.{Stmt}
use Rattle.fsl_core.specs.declared.act.Act.TheOpen.{Act-F}
use Rattle.fsl_core.specs.declared.act.Act.TheFolds.{fold-Act, fold-Stmt}
use Rattle.fsl_core.specs.declared.declaration.Proc.{Proc}
use Rattle.fsl_core.specs.Programs.{Program}

abbrev pub all : List Bool → Bool
all tests = list_all (λ test. test) tests

abbrev pub supported_step : Act-F Bool Bool → Bool
supported_step (Act-F.Cas slot mode fail at old new steps) = false
supported_step (Act-F.Add slot mode at e steps) = false
supported_step (Act-F.Swap slot mode at e steps) = false
supported_step (Act-F.Bank slot) = false
supported_step (Act-F.Step step) = false
supported_step (Act-F.If cond a b) = all a && all b
supported_step (Act-F.While cond inv body) = all body
supported_step _ = true

abbrev pub is_supported_act : Act → Bool
is_supported_act = fold-Act Bool Bool supported_step (λ stmt. stmt.act)

abbrev pub is_supported_stmt : Stmt → Bool
is_supported_stmt = fold-Stmt Bool Bool supported_step (λ stmt. stmt.act)

abbrev pub are_supported : List Stmt → Bool
are_supported stmts = all (map is_supported_stmt stmts)

abbrev pub is_supported_proc : Proc → Bool
is_supported_proc q = are_supported q.body

abbrev pub is_supported : Program → Bool
is_supported p = list_all is_supported_proc p.procs
