-- What a shelf in memory holds, and which of its calls fail.
use Rattle.std.specs.Prelude.{ℕ, Bool, true, false, cond, List, [], ◌∷◌, Option, None, Some, length, drop, nat_eq, nat_le, slice_get}
use Rattle.std.specs.Option.{option_map}
use Rattle.std.specs.List.{list_any}
use Rattle.std.specs.Str.{bytes_eq}
use Rattle.fsl_base.specs.Outside.{raised}
use Rattle.fsl_base.specs.declared.mem_shelf.Named.{Named}
use Rattle.fsl_base.specs.declared.mem_shelf.Bookmark.{Bookmark}

-- the bytes of the first file of a name
abbrev pub held : List Named → List ℕ → Option (List ℕ)
held [] name = None
held (file ∷ files) name = cond (bytes_eq file.name name) (Some file.bytes) (held files name)

-- a place is within a file, which is there
abbrev pub is_within : Option Named → ℕ → Bool
is_within None byte = false
is_within (Some file) byte = nat_le byte (length file.bytes)

-- a bookmark is within one of the files
abbrev pub is_mark : List Named → Option Bookmark → Bool
is_mark files None = true
is_mark files (Some mark) = is_within (slice_get files mark.file) mark.byte

-- the bytes behind a bookmark
abbrev pub left_at : List Named → Option Bookmark → Option (List ℕ)
left_at files None = None
left_at files (Some mark) = option_map (λ file. drop mark.byte file.bytes) (slice_get files mark.file)

-- a number is among those listed
abbrev pub is_listed : List ℕ → ℕ → Bool
is_listed numbers number = list_any (λ listed. nat_eq listed number) numbers

-- the call after `calls` calls is among those that fail
abbrev pub next_fails : List ℕ → ℕ → Bool
next_fails failing calls = is_listed failing (raised calls 1)

-- how many faults there are after the next call
abbrev pub faults_after : List ℕ → ℕ → ℕ → ℕ
faults_after failing calls faults = cond (next_fails failing calls) (raised faults 1) faults
