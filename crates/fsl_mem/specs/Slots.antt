-- The messages of a memory, the newest first, and those of one location by ascending ends.
use Rattle.std.specs.Prelude.{ℕ, ℤ, ◌==◌, nat_lt, List, [], ◌∷◌, length, Option, if◌then◌else◌}
use Rattle.std.specs.Ordering.{int_eq}
use Rattle.std.specs.declared.option.Option.TheVariants.{Some, None}
use Rattle.fsl_mem.specs.declared.slots.Slot.{Slot}
use Rattle.fsl_mem.specs.declared.message.Message.{Message}

-- the message of a number: they are numbered from 0, in the order in which they were put
abbrev pub message : List Message → ℕ → Option Message
message [] number = None
message (m ∷ ms) number = if number == length ms then Some m else message ms number

-- before the first slot that ends later
abbrev pub insert_slot : Slot → List Slot → List Slot
insert_slot slot [] = slot ∷ []
insert_slot slot (s ∷ ss) = if nat_lt slot.gap.to s.gap.to then slot ∷ (s ∷ ss) else s ∷ insert_slot slot ss

-- the intervals of a location's messages, by ascending ends, with the messages' numbers
abbrev pub slots : List Message → ℤ → List Slot
slots [] l = []
slots (m ∷ ms) l = if int_eq m.loc l then insert_slot (record { gap = m.gap; number = length ms }) (slots ms l) else slots ms l
