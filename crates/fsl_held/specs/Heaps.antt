-- What a thread has, read as what the laws of rules speak of: the pieces of a list as a heap, as what is so and as what
-- is known. What a list says of a cell, a part or a bank is what its first piece that speaks of it says.
use Rattle.std.specs.Prelude.{ℕ, ◌==◌, Bool, true, false, ◌&&◌, List, [], ◌∷◌, Option, Some, None, ℤ, pos, negsuc, if◌then◌else◌}
use Rattle.std.specs.Ordering.{int_eq}
use Rattle.fsl_core.specs.declared.mode.Rung.{Rung}
use Rattle.fsl_core.specs.declared.mode.Rung.TheVariants.{Plain, Up, Down, Msg}
use Rattle.fsl_meaning.specs.Heaps.{Cell, Permission, Tokens, Bank, Heap, Truth, Claim, IsInit, MayWrite, MayRead, MayUpdate, Ground, KnowsMore, Agrees}
use Rattle.fsl_own.specs.Owning.{Resource as resource}
use Rattle.fsl_own.specs.Atoms.{Atom, Points, Init, Rel, Acq, RmwAcq, Auth}
use Rattle.fsl_good.specs.Pieces.{Level, AtPlain, AtUp, AtDown, Piece, demand_at}

-- ---- a heap

-- banks have numbers from 0 on
abbrev pub tokens_at : List Piece → ℤ → ℕ
tokens_at xs (pos b) = demand_at AtPlain xs (resource.Tokens b)
tokens_at xs (negsuc b) = 0

abbrev pub banks_at : List Piece → ℤ → ℕ
banks_at xs (pos b) = demand_at AtPlain xs (resource.Bank b)
banks_at xs (negsuc b) = 0

-- nothing stands at msg
abbrev pub cells_at : List Piece → Rung → ℤ → ℕ
cells_at xs Plain l = demand_at AtPlain xs (resource.Cell l)
cells_at xs Up l = demand_at AtUp xs (resource.Cell l)
cells_at xs Down l = demand_at AtDown xs (resource.Cell l)
cells_at xs Msg l = 0

abbrev pub heap_of : List Piece → Heap
heap_of xs (Cell rung l) = cells_at xs rung l
heap_of xs (Permission l part) = demand_at AtPlain xs (resource.Permission l part)
heap_of xs (Tokens b) = tokens_at xs b
heap_of xs (Bank b) = banks_at xs b

-- ---- what is so

abbrev pub or_else : {A : Type 0} → Option A → Option A → Option A
or_else None o = o
or_else (Some x) o = Some x

abbrev pub or_this : {A : Type 0} → Option A → A → A
or_this None x = x
or_this (Some x) y = x

abbrev pub value_by : Atom → ℤ → Option ℤ
value_by (Points c n v) l = if int_eq l c then v else None
value_by _ l = None

abbrev pub value_in : List Piece → ℤ → Option ℤ
value_in [] l = None
value_in (x ∷ xs) l = or_else (value_by x.atom l) (value_in xs l)

abbrev pub out_by : Atom → ℤ → ℕ → Option (List ℤ)
out_by (Acq c inv args q out) l part = if int_eq l c && part == q then Some out else None
out_by _ l part = None

abbrev pub out_in : List Piece → ℤ → ℕ → Option (List ℤ)
out_in [] l part = None
out_in (x ∷ xs) l part = or_else (out_by x.atom l part) (out_in xs l part)

abbrev pub count_by : Atom → ℕ → Option ℕ
count_by (Auth c n) b = if b == c then Some n else None
count_by _ b = None

abbrev pub count_in : List Piece → ℕ → Option ℕ
count_in [] b = None
count_in (x ∷ xs) b = or_else (count_by x.atom b) (count_in xs b)

-- where no authority is here, there may be the tokens that are here
abbrev pub bank_in : List Piece → ℤ → ℤ
bank_in xs (pos b) = pos (or_this (count_in xs b) (tokens_at xs (pos b)))
bank_in xs (negsuc b) = pos 0

abbrev pub truth_of : List Piece → Truth
truth_of xs = record { value = value_in xs; out = λ l part. or_this (out_in xs l part) []; bank = bank_in xs }

-- ---- what is known

-- what a message that is read says is known at msg, wherever it is put
abbrev pub is_at : Level → Rung → Bool
is_at _ Msg = true
is_at AtPlain Plain = true
is_at AtUp Up = true
is_at AtDown Down = true
is_at _ _ = false

abbrev pub same_numbers : List ℤ → List ℤ → Bool
same_numbers [] [] = true
same_numbers (x ∷ xs) (y ∷ ys) = int_eq x y && same_numbers xs ys
same_numbers _ _ = false

abbrev pub same_leave : ℤ → ℕ → List ℤ → ℤ → ℕ → List ℤ → Bool
same_leave c i xs l j ys = int_eq c l && (i == j && same_numbers xs ys)

-- a piece says a claim; leave is leave at plain alone
abbrev pub says : Level → Atom → Claim → Bool
says a (Init c) (IsInit rung l) = is_at a rung && int_eq c l
says a (Rel c i xs) (MayWrite l j ys) = is_at a Plain && same_leave c i xs l j ys
says a (Acq c i xs part out) (MayRead l j ys) = is_at a Plain && same_leave c i xs l j ys
says a (RmwAcq c i xs) (MayUpdate l j ys) = is_at a Plain && same_leave c i xs l j ys
says _ _ _ = false

abbrev pub knows_in : List Piece → Claim → Bool
knows_in [] c = false
knows_in (x ∷ xs) c = if says x.level x.atom c then true else knows_in xs c

abbrev pub ground_of : List Piece → Ground
ground_of xs = record { knows = knows_in xs; truth = truth_of xs }

-- ---- what stays

-- since `base`, nothing changed of what h has a part of, and what was known beside it is known
pub record Kept (base : List Piece) (h : Heap) (xs : List Piece) : Type 0 where
  pub knows : KnowsMore (ground_of base) (ground_of xs) h
  pub agrees : Agrees (truth_of base) (truth_of xs) h
