-- What changes at an event: of what is so, and of what is owned.
use Rattle.std.specs.Prelude.{ℕ, ◌+◌, Some, ℤ, if◌then◌else◌}
use Rattle.std.specs.Ordering.{int_eq}
use Rattle.fsl_core.specs.declared.mode.Rung.{Rung}
use Rattle.fsl_core.specs.declared.mode.Rung.TheVariants.{Plain, Down}
use Rattle.fsl_core.specs.logic.Chunks.{same_rung}
use Rattle.fsl_meaning.specs.Heaps.{Key, Cell, Permission, Tokens, Bank, Heap, some_of, Truth, Ground}

-- the ground with another truth
abbrev pub grounded : Ground → Truth → Ground
grounded g t = record { knows = g.knows; truth = t }

-- the cell has the value x
abbrev pub storing : ℤ → ℤ → Truth → Truth
storing loc x t = record { value = λ l. if int_eq l loc then Some x else t.value l; out = t.out; bank = t.bank }

-- there may be n tokens of the bank
abbrev pub allowing : ℤ → ℤ → Truth → Truth
allowing number n t = record { value = t.value; out = t.out; bank = λ b. if int_eq b number then n else t.bank b }

-- h with n of a key more
abbrev pub with_more : Heap → Key → ℕ → Heap
with_more h k n = λ q. some_of k n q + h q

-- the cells of one rung alone, at another one
abbrev pub lifted : Rung → Rung → Heap → Heap
lifted from to h (Cell r l) = if same_rung to r then h (Cell from l) else 0
lifted from to h (Permission l p) = 0
lifted from to h (Tokens b) = 0
lifted from to h (Bank b) = 0

-- all but the cells of a rung
abbrev pub without : Rung → Heap → Heap
without rung h (Cell r l) = if same_rung rung r then 0 else h (Cell r l)
without rung h (Permission l p) = h (Permission l p)
without rung h (Tokens b) = h (Tokens b)
without rung h (Bank b) = h (Bank b)

-- what was gained by relaxed reads may be used
abbrev pub acquired : Heap → Heap
acquired h = λ k. lifted Down Plain h k + without Down h k
