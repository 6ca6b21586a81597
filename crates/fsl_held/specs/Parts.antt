-- A list of pieces taken apart: a part for each resource, all of a cell, and what stands in front of others.
use Rattle.std.specs.Prelude.{ℕ, ◌≡◌, ◌+◌, Bool, true, false, List, [], ◌∷◌, ◌++◌, Option, Some, ℤ}
use Rattle.fsl_core.specs.declared.mode.Rung.{Rung}
use Rattle.fsl_core.specs.declared.mode.Rung.TheVariants.{Plain, Up, Down}
use Rattle.fsl_core.specs.logic.Chunks.{same_rung}
use Rattle.fsl_meaning.specs.Heaps.{Key, Cell, Heap, some_of, Claim, IsInit, MayWrite, MayRead, MayUpdate, Knows, Needs, Agrees}
use Rattle.fsl_own.specs.Owning.{full}
use Rattle.fsl_own.specs.Atoms.{Atom, Points}
use Rattle.fsl_good.specs.Pieces.{Level, AtPlain, AtUp, AtDown, Piece, all_placed, plain, Entails, Yields, IsPossible}
use Rattle.fsl_held.specs.Heaps.{heap_of, truth_of, ground_of, Kept}

abbrev pub rung_of : Level → Rung
rung_of AtPlain = Plain
rung_of AtUp = Up
rung_of AtDown = Down

-- d has cells at one rung alone
abbrev pub HasCellsAt : Rung → Heap → Type 0
HasCellsAt rung d = (r : Rung) (l : ℤ) → same_rung r rung ≡ false → d (Cell r l) ≡ 0

-- what is known of atomic locations stands at a rung, and leave to use them at each
abbrev pub is_claim_at : Rung → Claim → Bool
is_claim_at rung (IsInit r l) = same_rung r rung
is_claim_at rung (MayWrite l i xs) = true
is_claim_at rung (MayRead l i xs) = true
is_claim_at rung (MayUpdate l i xs) = true

abbrev pub atoms_of : List Piece → List Atom
atoms_of [] = []
atoms_of (x ∷ xs) = x.atom ∷ atoms_of xs

-- d was taken out of the pieces `xs`, as atoms at a level; both sides say what was said of what they have, and what was
-- known beside it. Whoever has the atoms of the pieces, be it a message, has those of both sides
pub record IsCut (level : Level) (d : Heap) (xs : List Piece) (ys : List Atom) (rest : List Piece) : Type 0 where
  pub gives : Entails xs (all_placed level ys ++ rest)
  pub yields : Yields (atoms_of xs) (ys ++ atoms_of rest)
  pub taken : (k : Key) → heap_of (all_placed level ys) k ≡ d k
  pub left : (k : Key) → heap_of xs k ≡ heap_of rest k + d k
  pub agrees : Agrees (truth_of xs) (truth_of (all_placed level ys)) d
  pub knows : (c : Claim) → is_claim_at (rung_of level) c ≡ true → Needs d c → Knows (ground_of xs) c → Knows (ground_of (all_placed level ys)) c
  pub kept : Kept xs (heap_of rest) rest
  pub possible : IsPossible rest

pub record Cut (level : Level) (d : Heap) (xs : List Piece) : Type 0 where
  pub atoms : List Atom
  pub rest : List Piece
  pub is : IsCut level d xs atoms rest

-- all shares of a cell were taken out
pub record TakesCell (c : ℤ) (xs : List Piece) : Type 0 where
  pub old : Option ℤ
  pub rest : List Piece
  pub gives : Entails xs (plain (Points c full old) ∷ rest)
  pub left : (k : Key) → heap_of xs k ≡ heap_of rest k + some_of (Cell Plain c) full k
  pub kept : Kept xs (heap_of rest) rest

-- a share of a cell says its value
pub record ReadsCell (c v : ℤ) (xs : List Piece) : Type 0 where
  pub share : ℕ
  pub owns : Entails xs (plain (Points c share (Some v)) ∷ [])

-- pieces in front of others: together they have what both have, and each side says what it said of what it has
pub record IsInFront (ys xs : List Piece) : Type 0 where
  pub sum : (k : Key) → heap_of (ys ++ xs) k ≡ heap_of ys k + heap_of xs k
  pub front : Kept ys (heap_of ys) (ys ++ xs)
  pub behind : Kept xs (heap_of xs) (ys ++ xs)
  pub possible : IsPossible xs
