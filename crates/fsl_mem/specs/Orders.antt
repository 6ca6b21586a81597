-- The orders of all locations, as a function of the location.
use Rattle.std.specs.Prelude.{ℕ, ℤ, nat_lt, ◌≡◌, Bool, false, true, List, [], length, Option, IsTrue}
use Rattle.std.specs.Ordering.{int_cmp}
use Rattle.std.specs.BTreeMap.{BTreeMap}
use Rattle.std.specs.BTreeMap as tree
use Rattle.std.specs.declared.option.Option.TheVariants.{Some, None}
use Rattle.fsl_mem.specs.declared.slots.Slot.{Slot}
use Rattle.fsl_mem.specs.declared.message.Message.{Message}
use Rattle.fsl_mem.specs.Order.{Filed}
use Rattle.fsl_mem.specs.Slots.{slots}

abbrev pub slots_in : Option Filed → List Slot
slots_in None = []
slots_in (Some filed) = filed.slots

abbrev pub slots_at : BTreeMap ℤ Filed → ℤ → List Slot
slots_at orders l = slots_in (tree.get int_cmp orders l)

abbrev pub has_room : Option Filed → Bool
has_room None = false
has_room (Some filed) = nat_lt (length filed.slots) filed.room

-- there is room for one more slot of a location
pub record HasRoomAt (orders : BTreeMap ℤ Filed) (l : ℤ) : Type 0 where
  pub room : has_room (tree.get int_cmp orders l) ≡ true

-- each location's order has the slots of its messages
pub record IsFiled (orders : BTreeMap ℤ Filed) (ms : List Message) : Type 0 where
  pub at : (l : ℤ) → slots_at orders l ≡ slots ms l
