-- What a shelf in memory holds and has left, where the file at a number is known.
use Rattle.std.proofs.Common.{◌≡◌, ℕ, zero, suc, ◌+◌, ◌≤◌, true, IsTrue, List, [], ◌∷◌, ◌++◌, length, take, drop, Option, Some, sym, ◌∙◌, arith, length-drop, take-append-drop, drop-drop, slice_get, nat_le}
use Rattle.std.specs.Io.KnownBytes.{Consumes, IsAtEnd}
use Rattle.std.specs.Str.{bytes_eq}
use Rattle.std.specs.Option.{option_map}
use Rattle.std.proofs.lemmas.Bool.Decides.{nat_tests}
use Rattle.std.proofs.lemmas.List.{nil_from_length}
use Rattle.fsl_base.specs.declared.mem_shelf.Named.{Named}
use Rattle.fsl_base.specs.Stock.{held, left_at, is_within}

-- the file at a number is the first of its name from there on
held_at : (files : List Named) (number : ℕ) (file : Named) (name : List ℕ) → slice_get files number ≡ Some file → bytes_eq file.name name ≡ true → held (drop number files) name ≡ Some file.bytes
held_at [] number file name is same = absurd (cc is)
held_at (f ∷ files) zero file name is same = grind (arith, is, same)
held_at (f ∷ files) (suc number) file name is same = held_at files number file name is same

-- if the files before it have other names, what is held is left from the first byte on
pub found : (files : List Named) (number : ℕ) (file : Named) (name : List ℕ) → slice_get files number ≡ Some file → bytes_eq file.name name ≡ true → held (drop number files) name ≡ held files name → held files name ≡ left_at files (Some (record { file = number; byte = 0 }))
found files number file name is same others = rw is (sym others ∙ held_at files number file name is same)

-- the bytes behind a place begin with any number of them, and go on behind those
pub moved : (there : Option Named) (file : Named) (byte count : ℕ) (front : List ℕ) → there ≡ Some file → front ≡ take count (drop byte file.bytes)
    → Consumes (option_map (λ f. drop byte f.bytes) there) (option_map (λ f. drop (byte + count) f.bytes) there) front
moved there file byte count front is first = rw is (sym (take-append-drop count (drop byte file.bytes)) ∙ (λ i. sym first i ++ drop-drop count byte file.bytes i))

-- nothing is left where no byte could be given
pub ended : (there : Option Named) (file : Named) (byte : ℕ) → there ≡ Some file → length (drop byte file.bytes) ≡ 0 → IsAtEnd (option_map (λ f. drop byte f.bytes) there)
ended there file byte is none = rw is (nil_from_length (drop byte file.bytes) none)

-- a place within a file stays so, as far as there are bytes
pub goes_on : (there : Option Named) (file : Named) (byte count : ℕ) → there ≡ Some file → IsTrue (is_within there byte) → count ≤ length (drop byte file.bytes) → IsTrue (is_within there (byte + count))
goes_on there file byte count is within few =
    let inside : IsTrue (nat_le byte (length file.bytes)) = rw is at within in
    rw is (grind (arith, nat_tests, length-drop byte file.bytes, inside))

-- the first byte of a file is a place in it
pub at_start : (files : List Named) (number : ℕ) (file : Named) → slice_get files number ≡ Some file → IsTrue (is_within (slice_get files number) 0)
at_start files number file is = rw is (grind (arith, nat_tests))
