-- Programs: invariants and procedures, each named by its place in its list.
use Rattle.std.specs.Prelude.{ℕ, suc, List, [], ◌∷◌, Option, Some, None, codes, if◌then◌else◌}
use Rattle.std.specs.Str.{bytes_eq}
use Rattle.fsl_core.specs.declared.declaration.Inv.{Inv}
use Rattle.fsl_core.specs.declared.declaration.Proc.{Proc}

pub record Program : Type 0 where
  pub invs : List Inv
  pub procs : List Proc

-- the number of the first procedure that is named `main`, where the first of these has the number n
abbrev pub named_from : ℕ → List Proc → Option ℕ
named_from n [] = None
named_from n (proc ∷ procs) = if bytes_eq proc.name (codes "main") then Some n else named_from (suc n) procs

-- the procedure that a run starts
abbrev pub main_of : Program → Option ℕ
main_of p = named_from 0 p.procs
