-- What the order of a location keeps: its slots, and for how many it has room.
use Rattle.std.specs.Prelude.{ℕ, List}
use Rattle.fsl_mem.specs.declared.slots.Slot.{Slot}

pub record Filed : Type 0 where
  pub slots : List Slot
  pub room : ℕ
