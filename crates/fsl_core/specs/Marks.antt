-- What the check of a program keeps: which of the first procedures have contracts without modalities.
use Rattle.std.specs.Prelude.{ℕ, Bool, false, ◌≡◌, ◌<◌, List, length, slice_get, slice_index_or}
use Rattle.fsl_core.specs.declared.declaration.Inv.{Inv}
use Rattle.fsl_core.specs.declared.declaration.Proc.{Proc}
use Rattle.fsl_core.specs.WellFormed.{proc_is_plain}

pub record AreMarked (invs : List Inv) (procs : List Proc) (marks : List Bool) : Type 0 where
  pub size : length marks ≡ 4096
  pub marked : (k : ℕ) → k < length procs → k < 4096 → slice_index_or marks k false ≡ proc_is_plain invs (slice_get procs k)
