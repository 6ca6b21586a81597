-- What a memory keeps: its messages, the newest first, and the location for whose next message room was
-- made.
use Rattle.std.specs.Prelude.{ℕ, ℤ, ◌<◌, ◌≡◌, List, length, Option}
use Rattle.std.specs.BTreeMap.{BTreeMap}
use Rattle.std.specs.declared.option.Option.TheVariants.{Some}
use Rattle.fsl_mem.specs.declared.message.Message.{Message}
use Rattle.fsl_mem.specs.Order.{Filed}
use Rattle.fsl_mem.specs.Orders.{IsFiled, HasRoomAt}

pub record Stored : Type 0 where
  pub messages : List Message
  pub ready : Option ℤ

-- there is room for one more message of a location
pub record HasRoom (count capacity : ℕ) (orders : BTreeMap ℤ Filed) (l : ℤ) : Type 0 where
  pub message : count < capacity
  pub slot : HasRoomAt orders l

pub record IsKept (ms : List Message) (capacity : ℕ) (orders : BTreeMap ℤ Filed) (ready : Option ℤ) : Type 0 where
  pub filed : IsFiled orders ms
  pub reserved : (l : ℤ) → ready ≡ Some l → HasRoom (length ms) capacity orders l
