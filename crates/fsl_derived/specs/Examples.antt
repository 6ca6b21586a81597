-- Programs that the rules accept, and that are safe with nothing supposed.
use Rattle.std.specs.Prelude.{◌≡◌, List, [], ◌∷◌, codes}
use Rattle.fsl_core.specs.declared.act.Act.TheOpen.{Act-F}
use Rattle.fsl_core.specs.declared.act.Called.{Called}
use Rattle.fsl_core.specs.declared.act.Stmt.{Stmt}
use Rattle.fsl_core.specs.declared.mode.Mode.TheVariants.{Na}
use Rattle.fsl_core.specs.declared.verdict.Verdict.TheVariants.{Accepted}
use Rattle.fsl_core.specs.Programs.{Program}
use Rattle.fsl_core.specs.logic.Verdicts.{verdict_of}
use Rattle.fsl_judged.specs.Words.{num, var, nothing, thread, span, at, proc, program}
use Rattle.fsl_derived.specs.Laws.{IsSafeAlways}

-- a cell is made, stored and loaded
abbrev pub cell_body : List Stmt
cell_body =
    at 14 31 (Act-F.AllocNa 0) ∷
    at 32 47 (Act-F.Store Na (var 0) (num 7)) ∷
    at 48 67 (Act-F.Load 1 Na (var 0)) ∷ []

--   proc main() { let d = alloc na; store na(d, 7); let x = load na(d); }
abbrev pub one_cell : Program
one_cell = program [] (
    proc (codes "main") 0 2 [] nothing nothing cell_body (span 68 69) ∷
    [])

-- two threads do so side by side
abbrev pub two_calls : List Called
two_calls = thread 0 [] ∷ thread 0 [] ∷ []

--   proc cell() { let d = alloc na; store na(d, 7); let x = load na(d); }
--   proc main() { par { cell(); cell(); } }
abbrev pub two_threads : Program
two_threads = program [] (
    proc (codes "cell") 0 2 [] nothing nothing cell_body (span 68 69) ∷
    proc (codes "main") 0 0 [] nothing nothing (at 84 107 (Act-F.Par two_calls) ∷ []) (span 108 109) ∷
    [])

pub record ExamplesAreSafe : Type 0 where
  pub one_cell_is : verdict_of one_cell ≡ Accepted 1
  pub one_cell_is_safe : IsSafeAlways one_cell
  pub two_threads_are : verdict_of two_threads ≡ Accepted 2
  pub two_threads_are_safe : IsSafeAlways two_threads
