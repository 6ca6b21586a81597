-- What a read may read and where a write may stand, of a location's slots and of up to where a thread
-- sees the location.
use Rattle.std.specs.Prelude.{ℕ, ℤ, ◌≡◌, ◌+◌, ◌-◌, ◌/◌, ◌^◌, ◌≤◌, ◌==◌, nat_lt, nat_le, Bool, ◌&&◌, ◌||◌, List, [], ◌∷◌, ◌++◌, Option, if◌then◌else◌}
use Rattle.std.specs.List.{All, list_any}
use Rattle.std.specs.Option.{option_map}
use Rattle.std.specs.declared.option.Option.TheVariants.{Some, None}
use Rattle.fsl_mem.specs.declared.slots.Gap.{Gap}
use Rattle.fsl_mem.specs.declared.slots.Slot.{Slot}
use Rattle.fsl_mem.specs.declared.slots.Source.{Source}
use Rattle.fsl_mem.specs.declared.slots.Source.TheVariants as source
use Rattle.fsl_mem.specs.declared.message.Message.{Message}
use Rattle.fsl_mem.specs.Slots.{message}

-- the messages that end no earlier than what is seen
abbrev pub readable_messages : ℕ → List Slot → List Source
readable_messages seen [] = []
readable_messages seen (s ∷ ss) = if nat_le seen s.gap.to then source.Message s.number ∷ readable_messages seen ss else readable_messages seen ss

-- the read without a source, where nothing is seen
abbrev pub nothing : ℕ → List Source
nothing seen = if seen == 0 then source.Nothing ∷ [] else []

-- the sources of a read, the oldest first
abbrev pub readable : ℕ → List Slot → List Source
readable seen ss = nothing seen ++ readable_messages seen ss

-- the interval of length 1 that ends at `to`
abbrev pub gap_to : ℕ → Gap
gap_to to = record { from = to - 1; to = to }

-- the places of a write above `low`: in each gap that is not empty and begins no earlier than what is
-- seen, halfway up, and 2^40 above all
abbrev pub places_above : ℕ → ℕ → List Slot → List Gap
places_above low seen [] = if nat_le seen low then gap_to (low + 2 ^ 40) ∷ [] else []
places_above low seen (s ∷ ss) = if nat_le seen low && nat_lt low s.gap.from then gap_to (low + (s.gap.from - low + 1) / 2) ∷ places_above s.gap.to seen ss else places_above s.gap.to seen ss

-- the places of a write, the oldest first
abbrev pub places : ℕ → List Slot → List Gap
places seen ss = places_above 0 seen ss

-- the interval of length 1 right after `low`, where the next slot leaves room for it
abbrev pub room_after : ℕ → List Slot → Option Gap
room_after low [] = Some (record { from = low; to = low + 1 })
room_after low (s ∷ ss) = if nat_lt low s.gap.to then (if nat_lt low s.gap.from then Some (record { from = low; to = low + 1 }) else None) else room_after low ss

-- whether two intervals (from, to] have a number in common
abbrev pub overlaps : Gap → Slot → Bool
overlaps gap s = nat_lt gap.from s.gap.to && nat_lt s.gap.from gap.to

-- whether an interval is empty or overlaps one that is there
abbrev pub is_taken : Gap → List Slot → Bool
is_taken gap ss = nat_le gap.to gap.from || list_any (overlaps gap) ss

-- each end leaves room above it
abbrev pub IsBounded : List Slot → Type 0
IsBounded ss = All (λ (s : Slot). s.gap.to ≤ 2 ^ 63) ss

-- where a source ends: 0 for none
abbrev pub end_in : Option Message → ℕ
end_in None = 0
end_in (Some m) = m.gap.to

abbrev pub end_of : List Message → Source → ℕ
end_of ms source.Nothing = 0
end_of ms (source.Message number) = end_in (message ms number)

-- no message, or one of a location
abbrev pub IsSourceAt : List Message → ℤ → Source → Type 0
IsSourceAt ms l source.Nothing = Unit {0}
IsSourceAt ms l (source.Message number) = option_map (λ (m : Message). m.loc) (message ms number) ≡ Some l
