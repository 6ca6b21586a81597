-- What stays of a state while frames above it run: it fits on where nothing changed of what it owns.
use Rattle.std.proofs.Common.{◌≡◌, ℕ, ◌+◌, ◌≤◌, List, ℤ, refl, ◌∙◌, arith}
use Rattle.fsl_core.specs.logic.States.{State}
use Rattle.fsl_lin.specs.Numbers.{Numbers}
use Rattle.fsl_meaning.specs.Heaps.{Key, Heap, Holds, IsBounded}
use Rattle.fsl_meaning.specs.States.{All, Fits}
use Rattle.fsl_meaning.proofs.Kept.{agrees_less, knows_less, fits_kept}
use Rattle.fsl_meaning.proofs.Joining.{bounded_less}
use Rattle.fsl_good.specs.Pieces.{Piece, IsPossible}
use Rattle.fsl_held.specs.Heaps.{heap_of, truth_of, ground_of, Kept}
use Rattle.fsl_held.proofs.Bounded.{heap_is_bounded}

-- ---- what is kept

pub kept_self : (xs : List Piece) (h : Heap) → Kept xs h xs
kept_self xs h = record { knows = record { more = λ c needs known. known }; agrees = record { value = λ r l x some is. is; out = λ l p some. refl; bank = λ b some. refl } }

pub kept_less : {xs ys : List Piece} (h more : Heap) → ((k : Key) → h k ≤ more k) → Kept xs more ys → Kept xs h ys
kept_less h more less kept = record { knows = knows_less h more less kept.knows; agrees = agrees_less h more less kept.agrees }

pub kept_then : {xs ys zs : List Piece} {h : Heap} → Kept xs h ys → Kept ys h zs → Kept xs h zs
kept_then a b = record {
  knows = record { more = λ c needs known. b.knows.more c needs (a.knows.more c needs known) };
  agrees = record {
    value = λ r l x some is. b.agrees.value r l x some (a.agrees.value r l x some is);
    out = λ l p some. b.agrees.out l p some ∙ a.agrees.out l p some;
    bank = λ c some. b.agrees.bank c some ∙ a.agrees.bank c some;
  };
}

-- a state that fitted before fits now
pub frame_fits : {xs ys : List Piece} {slots : List ℤ} {v : Numbers} {s : State} (h : Heap) → Kept xs h ys → Fits slots (All (ground_of xs) h) v s → Fits slots (All (ground_of ys) h) v s
frame_fits {ys = ys} h kept fits = fits_kept (ground_of ys) kept.knows kept.agrees fits

-- ---- parts of what a thread has

pub bounded : (xs : List Piece) (h : Heap) → IsPossible xs → ((k : Key) → h k ≤ heap_of xs k) → IsBounded (truth_of xs) h
bounded xs h possible less = bounded_less h less (heap_is_bounded xs possible)

pub line_left : (a b c : ℕ) → a + b ≤ c → a ≤ c
line_left a b c h = omega arith

pub line_right : (a b c : ℕ) → a + b ≤ c → b ≤ c
line_right a b c h = omega arith

pub left_within : (a b h : Heap) → Holds a b h → (k : Key) → a k ≤ h k
left_within a b h holds k = line_left (a k) (b k) (h k) (holds k)

pub right_within : (a b h : Heap) → Holds a b h → (k : Key) → b k ≤ h k
right_within a b h holds k = line_right (a k) (b k) (h k) (holds k)

pub line_plus_left : (a b : ℕ) → a ≤ a + b
line_plus_left a b = omega arith

pub line_plus_right : (a b : ℕ) → b ≤ a + b
line_plus_right a b = omega arith

-- both together
abbrev pub plus : Heap → Heap → Heap
plus a b = λ k. a k + b k

line_parts : (m l n u h : ℕ) → m ≡ l + n → m + u ≤ h → n + (l + u) ≤ h
line_parts m l n u h e le = omega arith

-- what was given goes out of what the state had, and what is left goes under
pub give_parts : (mine left need under h : Heap) → ((k : Key) → mine k ≡ left k + need k) → Holds mine under h → Holds need (plus left under) h
give_parts mine left need under h parts holds k = line_parts (mine k) (left k) (need k) (under k) (h k) (parts k) (holds k)

line_back : (n l u h : ℕ) → n + (l + u) ≤ h → (l + n) + u ≤ h
line_back n l u h le = omega arith

-- and back
pub take_parts : (left need under h : Heap) → Holds need (plus left under) h → Holds (plus left need) under h
take_parts left need under h holds k = line_back (need k) (left k) (under k) (h k) (holds k)

line_drop : (n l u h : ℕ) → n + (l + u) ≤ h → n + u ≤ h
line_drop n l u h le = omega arith

-- what a frame has besides
pub under_less : (mine left under h : Heap) → Holds mine (plus left under) h → Holds mine under h
under_less mine left under h holds k = line_drop (mine k) (left k) (under k) (h k) (holds k)
