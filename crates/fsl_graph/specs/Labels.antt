-- The labels of an execution of a well-formed program: the order of each is one that its action may have.
use Rattle.std.specs.Prelude.{ℕ, ◌≡◌, Bool, true}
use Rattle.fsl_core.specs.declared.label.Label.{Label}
use Rattle.fsl_core.specs.declared.label.Label.TheVariants as label
use Rattle.fsl_core.specs.Programs.{Program}
use Rattle.fsl_core.specs.Moves.{Config}
use Rattle.fsl_core.specs.WellFormed.{is_well_formed, is_load_mode, is_store_mode, is_update_mode, is_fence_mode}
use Rattle.fsl_graph.specs.declared.event.Event.{Event}
use Rattle.fsl_graph.specs.declared.graph.Graph.{Graph}
use Rattle.fsl_graph.specs.Events.{Is}
use Rattle.fsl_graph.specs.Execution.{IsExecution}

abbrev pub has_mode : Label → Bool
has_mode (label.Load m l v) = is_load_mode m
has_mode (label.Store m l v) = is_store_mode m
has_mode (label.Rmw m l old new) = is_update_mode m
has_mode (label.Fence m) = is_fence_mode m
has_mode (label.Alloc k l) = true
has_mode (label.Free l) = true
has_mode (label.Fork ts) = true
has_mode (label.Join rs) = true
has_mode (label.Print v) = true
has_mode (label.End v) = true

abbrev pub LabelsHaveModes : Type 0
LabelsHaveModes = (p : Program) (g : Graph) (last : ℕ → Config) → is_well_formed p ≡ true → IsExecution p g last
    → (e : ℕ) (x : Event) → Is g e x → has_mode x.label ≡ true
