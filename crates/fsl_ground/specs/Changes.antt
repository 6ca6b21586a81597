-- How what is known changes: a value, a part that was gained, a new location, a bank and its count.
use Rattle.std.specs.Prelude.{ℕ, ◌+◌, ◌==◌, ◌&&◌, zero, suc, List, [], ◌∷◌, Option, Some, None, ℤ, if◌then◌else◌}
use Rattle.std.specs.Ordering.{int_eq}
use Rattle.fsl_own.specs.Owning.{Permission, Heap, Deal, Known, only}

-- the value of cell c becomes o
abbrev pub with_value : Known → ℤ → Option ℤ → Known
with_value k c o = record k { values = λ d. if int_eq d c then o else k.values d }

-- the part at l was gained at v
abbrev pub with_out : Known → ℤ → ℕ → ℤ → Known
with_out k l part v = record k { out = λ j q. if int_eq j l && q == part then v ∷ k.out j q else k.out j q }

-- l was made, and nothing of it was gained
abbrev pub with_deal : Known → ℤ → Deal → Known
with_deal k l d = record k { deals = λ j. if int_eq j l then Some d else k.deals j; out = λ j q. if int_eq j l then [] else k.out j q }

-- bank b may have n tokens
abbrev pub with_count : Known → ℕ → ℕ → Known
with_count k b n = record k { counts = λ c. if c == b then n else k.counts c }

-- one more bank, without tokens
abbrev pub with_bank : Known → Known
with_bank k = record (with_count k k.banks 0) { banks = suc k.banks }

-- leave to acquire each of the first n parts at l
abbrev pub permissions : ℤ → ℕ → Heap
permissions l zero r = 0
permissions l (suc n) r = only (Permission l n) 1 r + permissions l n r
