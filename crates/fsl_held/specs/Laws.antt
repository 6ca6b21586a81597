-- The laws of what a thread has, read as a heap.
use Rattle.std.specs.Prelude.{◌≡◌, ◌≤◌, ◌^◌, List, ◌++◌, Some, ℤ}
use Rattle.fsl_core.specs.declared.assertion.Asrt.{Asrt}
use Rattle.fsl_core.specs.declared.declaration.Inv.{Inv}
use Rattle.fsl_core.specs.declared.mode.Rung.TheVariants.{Plain}
use Rattle.fsl_meaning.specs.Heaps.{Key, Cell, Heap, Holds, IsBounded}
use Rattle.fsl_asserted.specs.Needs.{Need}
use Rattle.fsl_asserted.specs.Carried.{IsPlain}
use Rattle.fsl_own.specs.Atoms.{Atom}
use Rattle.fsl_good.specs.Pieces.{Level, AtPlain, Piece, all_placed, IsPossible}
use Rattle.fsl_held.specs.Heaps.{heap_of, truth_of, value_in, Kept}
use Rattle.fsl_held.specs.Parts.{rung_of, HasCellsAt, Cut, TakesCell, ReadsCell, IsInFront}
use Rattle.fsl_held.specs.Asked.{Asked, Satisfies, Parted}

-- nobody has more than there is
abbrev pub HeapIsBounded : Type 0
HeapIsBounded = (xs : List Piece) → IsPossible xs → IsBounded (truth_of xs) (heap_of xs)

-- any part can be taken out
abbrev pub HeapIsCut : Type 0
HeapIsCut = (level : Level) (d : Heap) (xs : List Piece) → IsPossible xs → HasCellsAt (rung_of level) d → ((k : Key) → d k ≤ heap_of xs k) → Cut level d xs

abbrev pub CellIsTaken : Type 0
CellIsTaken = (c : ℤ) (xs : List Piece) → IsPossible xs → 2 ^ 63 ≤ heap_of xs (Cell Plain c) → TakesCell c xs

abbrev pub CellIsRead : Type 0
CellIsRead = (c v : ℤ) (xs : List Piece) → IsPossible xs → 1 ≤ heap_of xs (Cell Plain c) → value_in xs c ≡ Some v → ReadsCell c v xs

abbrev pub FrontIsKept : Type 0
FrontIsKept = (ys xs : List Piece) → IsPossible (ys ++ xs) → IsInFront ys xs

-- ---- assertions

-- what is asked for stays where it is kept
abbrev pub AskedIsKept : Type 0
AskedIsKept = (base xs : List Piece) (h : Heap) (a : Asrt) (env : List ℤ) (n : Need) → Kept base h xs → ((k : Key) → n.heap k ≤ h k) → Asked base a env n → Asked xs a env n

-- what an assertion without modalities asks for can be taken out, and then satisfies it by itself
abbrev pub NeedIsParted : Type 0
NeedIsParted = (invs : List Inv) (xs : List Piece) (a : Asrt) (env : List ℤ) (n : Need) → IsPossible xs → IsPlain invs a → Asked xs a env n → ((k : Key) → n.heap k ≤ heap_of xs k) → Parted a env n xs

-- atoms that satisfy an assertion, in front of others, are what it asks for
abbrev pub FrontSatisfies : Type 0
FrontSatisfies = (ys : List Atom) (xs : List Piece) (a : Asrt) (env : List ℤ) (n : Need) → Satisfies a env n ys → IsPossible (all_placed AtPlain ys ++ xs)
    → Asked (all_placed AtPlain ys ++ xs) a env n × Holds n.heap (heap_of xs) (heap_of (all_placed AtPlain ys ++ xs))
