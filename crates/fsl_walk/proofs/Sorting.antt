-- The atoms of a message, apart: shares and what was written stay with it, all else is the thread's at once. Each side
-- says what all said of what it has.
use Rattle.std.proofs.Common.{◌≡◌, ℕ, ◌+◌, ◌≤◌, ◌&&◌, Bool, true, false, if◌then◌else◌, List, [], ◌∷◌, ◌++◌, Option, ℤ, pos, negsuc, refl, ap, ◌∙◌, arith}
use Rattle.std.specs.List.{filter}
use Rattle.std.specs.Ordering.{int_eq}
use Rattle.fsl_core.specs.declared.mode.Rung.TheVariants.{Plain, Msg}
use Rattle.fsl_meaning.specs.Heaps.{Key, Key as key, Claim, Claim as claim}
use Rattle.fsl_own.specs.Owning.{Resource, Resource as resource, Known, limit}
use Rattle.fsl_own.specs.Atoms.{Atom, Points, Init, Rel, Acq, RmwAcq, Tok, Auth, asked, demand}
use Rattle.fsl_good.specs.Pieces.{Level, AtPlain, AtUp, AtDown, Piece, plain, all_placed, demand_at, asked_at, AllSay, IsPossible}
use Rattle.fsl_good.specs.Good.{of_message, of_thread}
use Rattle.fsl_good.proofs.Pieces.{demand_more}
use Rattle.fsl_held.specs.Heaps.{heap_of, or_else, or_this, value_by, value_in, out_by, out_in, count_by, count_in, tokens_at, bank_in, says, knows_in}
use Rattle.fsl_walk.proofs.Placing.{say_first, say_last}

-- of the message, and of the thread
abbrev pub pool_of : List Atom → List Piece
pool_of ys = all_placed AtPlain (filter of_message ys)

abbrev pub own_of : List Atom → List Piece
own_of ys = all_placed AtPlain (filter of_thread ys)

-- ---- what they say

pub value_pool : (ys : List Atom) (l : ℤ) → value_in (all_placed AtPlain ys) l ≡ value_in (pool_of ys) l
value_pool [] l = refl
value_pool (y ∷ ys) l = one y (value_pool ys l)
  where
    one : (y : Atom) → value_in (all_placed AtPlain ys) l ≡ value_in (pool_of ys) l → value_in (all_placed AtPlain (y ∷ ys)) l ≡ value_in (pool_of (y ∷ ys)) l
    one (Points c n v) e = ap (λ (o : Option ℤ). or_else (value_by (Points c n v) l) o) e
    one (Init c) e = e
    one (Rel c i xs) e = e
    one (Acq c i xs p o) e = e
    one (RmwAcq c i xs) e = e
    one (Tok b n) e = e
    one (Auth b n) e = e

pub out_own : (ys : List Atom) (l : ℤ) (p : ℕ) → out_in (all_placed AtPlain ys) l p ≡ out_in (own_of ys) l p
out_own [] l p = refl
out_own (y ∷ ys) l p = one y (out_own ys l p)
  where
    one : (y : Atom) → out_in (all_placed AtPlain ys) l p ≡ out_in (own_of ys) l p → out_in (all_placed AtPlain (y ∷ ys)) l p ≡ out_in (own_of (y ∷ ys)) l p
    one (Points c n v) e = e
    one (Init c) e = e
    one (Rel c i xs) e = e
    one (Acq c i xs q o) e = ap (λ (z : Option (List ℤ)). or_else (out_by (Acq c i xs q o) l p) z) e
    one (RmwAcq c i xs) e = e
    one (Tok b n) e = e
    one (Auth b n) e = e

count_own : (ys : List Atom) (b : ℕ) → count_in (all_placed AtPlain ys) b ≡ count_in (own_of ys) b
count_own [] b = refl
count_own (y ∷ ys) b = one y (count_own ys b)
  where
    one : (y : Atom) → count_in (all_placed AtPlain ys) b ≡ count_in (own_of ys) b → count_in (all_placed AtPlain (y ∷ ys)) b ≡ count_in (own_of (y ∷ ys)) b
    one (Points c n v) e = e
    one (Init c) e = e
    one (Rel c i xs) e = e
    one (Acq c i xs q o) e = e
    one (RmwAcq c i xs) e = e
    one (Tok d n) e = e
    one (Auth d n) e = ap (λ (z : Option ℕ). or_else (count_by (Auth d n) b) z) e

-- ---- what they own

line_none : (a b : ℕ) → a ≡ b → 0 + a ≡ b
line_none a b e = omega arith

-- what isn't a cell is the thread's
abbrev IsOwn : Resource → Type 0
IsOwn (resource.Cell c) = ⊥
IsOwn _ = Unit {0}

own_resource : (ys : List Atom) (r : Resource) → IsOwn r → demand_at AtPlain (all_placed AtPlain ys) r ≡ demand_at AtPlain (own_of ys) r
own_resource [] r own = refl
own_resource (y ∷ ys) r own = one y r own (own_resource ys r own)
  where
    one : (y : Atom) (r : Resource) → IsOwn r → demand_at AtPlain (all_placed AtPlain ys) r ≡ demand_at AtPlain (own_of ys) r
        → demand_at AtPlain (all_placed AtPlain (y ∷ ys)) r ≡ demand_at AtPlain (own_of (y ∷ ys)) r
    one y (resource.Cell c) own e = absurd own
    one (Points c n v) (resource.Permission l p) own e = line_none (demand_at AtPlain (all_placed AtPlain ys) (resource.Permission l p)) (demand_at AtPlain (own_of ys) (resource.Permission l p)) e
    one (Points c n v) (resource.Tokens b) own e = line_none (demand_at AtPlain (all_placed AtPlain ys) (resource.Tokens b)) (demand_at AtPlain (own_of ys) (resource.Tokens b)) e
    one (Points c n v) (resource.Bank b) own e = line_none (demand_at AtPlain (all_placed AtPlain ys) (resource.Bank b)) (demand_at AtPlain (own_of ys) (resource.Bank b)) e
    one (Init c) r own e = line_none (demand_at AtPlain (all_placed AtPlain ys) r) (demand_at AtPlain (own_of ys) r) e
    one (Rel c i xs) r own e = ap (λ (n : ℕ). asked_at AtPlain (plain (Rel c i xs)) r + n) e
    one (Acq c i xs q o) r own e = ap (λ (n : ℕ). asked_at AtPlain (plain (Acq c i xs q o)) r + n) e
    one (RmwAcq c i xs) r own e = ap (λ (n : ℕ). asked_at AtPlain (plain (RmwAcq c i xs)) r + n) e
    one (Tok b n) r own e = ap (λ (m : ℕ). asked_at AtPlain (plain (Tok b n)) r + m) e
    one (Auth b n) r own e = ap (λ (m : ℕ). asked_at AtPlain (plain (Auth b n)) r + m) e

-- all but cells
abbrev pub IsOwnKey : Key → Type 0
IsOwnKey (key.Cell r l) = ⊥
IsOwnKey _ = Unit {0}

pub heap_own : (ys : List Atom) (k : Key) → IsOwnKey k → heap_of (all_placed AtPlain ys) k ≡ heap_of (own_of ys) k
heap_own ys (key.Cell r l) own = absurd own
heap_own ys (key.Permission l p) own = own_resource ys (resource.Permission l p) tt
heap_own ys (key.Tokens (pos b)) own = own_resource ys (resource.Tokens b) tt
heap_own ys (key.Tokens (negsuc b)) own = refl
heap_own ys (key.Bank (pos b)) own = own_resource ys (resource.Bank b) tt
heap_own ys (key.Bank (negsuc b)) own = refl

pub bank_own : (ys : List Atom) (b : ℤ) → bank_in (all_placed AtPlain ys) b ≡ bank_in (own_of ys) b
bank_own ys (pos b) =
    ap (λ (o : Option ℕ). pos (or_this o (tokens_at (all_placed AtPlain ys) (pos b)))) (count_own ys b)
    ∙ ap (λ (n : ℕ). pos (or_this (count_in (own_of ys) b) n)) (heap_own ys (key.Tokens (pos b)) tt)
bank_own ys (negsuc b) = refl

-- cells are the message's
pub cells_pool : (ys : List Atom) (l : ℤ) → demand ys (resource.Cell l) ≡ demand (filter of_message ys) (resource.Cell l)
cells_pool [] l = refl
cells_pool (y ∷ ys) l = one y (cells_pool ys l)
  where
    one : (y : Atom) → demand ys (resource.Cell l) ≡ demand (filter of_message ys) (resource.Cell l) → demand (y ∷ ys) (resource.Cell l) ≡ demand (filter of_message (y ∷ ys)) (resource.Cell l)
    one (Points c n v) e = ap (λ (m : ℕ). asked (Points c n v) (resource.Cell l) + m) e
    one (Init c) e = ap (λ (m : ℕ). asked (Init c) (resource.Cell l) + m) e
    one (Rel c i xs) e = line_none (demand ys (resource.Cell l)) (demand (filter of_message ys) (resource.Cell l)) e
    one (Acq c i xs q o) e = line_none (demand ys (resource.Cell l)) (demand (filter of_message ys) (resource.Cell l)) e
    one (RmwAcq c i xs) e = line_none (demand ys (resource.Cell l)) (demand (filter of_message ys) (resource.Cell l)) e
    one (Tok b n) e = line_none (demand ys (resource.Cell l)) (demand (filter of_message ys) (resource.Cell l)) e
    one (Auth b n) e = line_none (demand ys (resource.Cell l)) (demand (filter of_message ys) (resource.Cell l)) e

-- ---- what is known by them

known_if : (b k m : Bool) → (k ≡ true → m ≡ true) → (if b then true else k) ≡ true → (if b then true else m) ≡ true
known_if true k m f h = h
known_if false k m f h = f h

-- that a location was written is known to the message
pub init_pool : (ys : List Atom) (l : ℤ) → knows_in (all_placed AtPlain ys) (claim.IsInit Plain l) ≡ true → knows_in (pool_of ys) (claim.IsInit Msg l) ≡ true
init_pool [] l h = h
init_pool (y ∷ ys) l h = one y h (init_pool ys l)
  where
    one : (y : Atom) → knows_in (all_placed AtPlain (y ∷ ys)) (claim.IsInit Plain l) ≡ true
        → (knows_in (all_placed AtPlain ys) (claim.IsInit Plain l) ≡ true → knows_in (pool_of ys) (claim.IsInit Msg l) ≡ true) → knows_in (pool_of (y ∷ ys)) (claim.IsInit Msg l) ≡ true
    one (Init c) h more = known_if (true && int_eq c l) (knows_in (all_placed AtPlain ys) (claim.IsInit Plain l)) (knows_in (pool_of ys) (claim.IsInit Msg l)) more h
    one (Points c n v) h more = more h
    one (Rel c i xs) h more = more h
    one (Acq c i xs q o) h more = more h
    one (RmwAcq c i xs) h more = more h
    one (Tok b n) h more = more h
    one (Auth b n) h more = more h

abbrev pub IsLeave : Claim → Type 0
IsLeave (claim.IsInit r l) = ⊥
IsLeave _ = Unit {0}

-- leave to use a location is the thread's
pub leave_own : (ys : List Atom) (c : Claim) → IsLeave c → knows_in (all_placed AtPlain ys) c ≡ true → knows_in (own_of ys) c ≡ true
leave_own [] c leave h = h
leave_own (y ∷ ys) c leave h = one y c leave h (leave_own ys c leave)
  where
    kept : (y : Atom) (c : Claim) → knows_in (all_placed AtPlain (y ∷ ys)) c ≡ true → (knows_in (all_placed AtPlain ys) c ≡ true → knows_in (own_of ys) c ≡ true)
        → knows_in (plain y ∷ own_of ys) c ≡ true
    kept y c h more = known_if (says (plain y).level y c) (knows_in (all_placed AtPlain ys) c) (knows_in (own_of ys) c) more h

    one : (y : Atom) (c : Claim) → IsLeave c → knows_in (all_placed AtPlain (y ∷ ys)) c ≡ true → (knows_in (all_placed AtPlain ys) c ≡ true → knows_in (own_of ys) c ≡ true)
        → knows_in (own_of (y ∷ ys)) c ≡ true
    one y (claim.IsInit r l) leave h more = absurd leave
    one (Init l) (claim.MayWrite m i xs) leave h more = more h
    one (Init l) (claim.MayRead m i xs) leave h more = more h
    one (Init l) (claim.MayUpdate m i xs) leave h more = more h
    one (Points l n v) c leave h more = more h
    one (Rel l i xs) c leave h more = kept (Rel l i xs) c h more
    one (Acq l i xs q o) c leave h more = kept (Acq l i xs q o) c h more
    one (RmwAcq l i xs) c leave h more = kept (RmwAcq l i xs) c h more
    one (Tok b n) c leave h more = kept (Tok b n) c h more
    one (Auth b n) c leave h more = kept (Auth b n) c h more

-- ---- they are possible as one

line_message : (q m t d : ℕ) → d ≡ m + t → q + d ≡ (q + m) + t
line_message q m t d e = omega arith

line_thread : (q m t d : ℕ) → d ≡ m + t → q + d ≡ m + (q + t)
line_thread q m t d e = omega arith

line_zero : 0 ≡ 0 + 0
line_zero = omega arith

sorted_demand : (a : Level) (ys : List Atom) (r : Resource) → demand_at a (all_placed AtPlain ys) r ≡ demand_at a (pool_of ys) r + demand_at a (own_of ys) r
sorted_demand a [] r = line_zero
sorted_demand a (y ∷ ys) r = one y (sorted_demand a ys r)
  where
    message : (y : Atom) → demand_at a (all_placed AtPlain ys) r ≡ demand_at a (pool_of ys) r + demand_at a (own_of ys) r
        → demand_at a (all_placed AtPlain (y ∷ ys)) r ≡ demand_at a (plain y ∷ pool_of ys) r + demand_at a (own_of ys) r
    message y e = line_message (asked_at a (plain y) r) (demand_at a (pool_of ys) r) (demand_at a (own_of ys) r) (demand_at a (all_placed AtPlain ys) r) e

    thread : (y : Atom) → demand_at a (all_placed AtPlain ys) r ≡ demand_at a (pool_of ys) r + demand_at a (own_of ys) r
        → demand_at a (all_placed AtPlain (y ∷ ys)) r ≡ demand_at a (pool_of ys) r + demand_at a (plain y ∷ own_of ys) r
    thread y e = line_thread (asked_at a (plain y) r) (demand_at a (pool_of ys) r) (demand_at a (own_of ys) r) (demand_at a (all_placed AtPlain ys) r) e

    one : (y : Atom) → demand_at a (all_placed AtPlain ys) r ≡ demand_at a (pool_of ys) r + demand_at a (own_of ys) r
        → demand_at a (all_placed AtPlain (y ∷ ys)) r ≡ demand_at a (pool_of (y ∷ ys)) r + demand_at a (own_of (y ∷ ys)) r
    one (Points c n v) e = message (Points c n v) e
    one (Init c) e = message (Init c) e
    one (Rel c i xs) e = thread (Rel c i xs) e
    one (Acq c i xs q o) e = thread (Acq c i xs q o) e
    one (RmwAcq c i xs) e = thread (RmwAcq c i xs) e
    one (Tok b n) e = thread (Tok b n) e
    one (Auth b n) e = thread (Auth b n) e

sorted_say : (k : Known) (ys : List Atom) → AllSay k (pool_of ys) → AllSay k (own_of ys) → AllSay k (all_placed AtPlain ys)
sorted_say k [] p q = tt
sorted_say k (y ∷ ys) p q = one y p q (λ a b. sorted_say k ys a b)
  where
    one : (y : Atom) → AllSay k (pool_of (y ∷ ys)) → AllSay k (own_of (y ∷ ys)) → (AllSay k (pool_of ys) → AllSay k (own_of ys) → AllSay k (all_placed AtPlain ys))
        → AllSay k (all_placed AtPlain (y ∷ ys))
    one (Points c n v) p q more = (p.0, more p.1 q)
    one (Init c) p q more = (p.0, more p.1 q)
    one (Rel c i xs) p q more = (q.0, more p q.1)
    one (Acq c i xs o out) p q more = (q.0, more p q.1)
    one (RmwAcq c i xs) p q more = (q.0, more p q.1)
    one (Tok b n) p q more = (q.0, more p q.1)
    one (Auth b n) p q more = (q.0, more p q.1)

line_within : (d m t x s w : ℕ) → d ≡ m + t → s ≡ t + x → w ≡ m + s → d ≤ w
line_within d m t x s w e f g = omega arith

line_levels : (a b c d e f n : ℕ) → a ≤ d → b ≤ e → c ≤ f → d + (e + f) ≤ n → a + (b + c) ≤ n
line_levels a b c d e f n p q r h = omega arith

pub sorted_possible : (ys : List Atom) (xs : List Piece) → IsPossible (pool_of ys ++ (own_of ys ++ xs)) → IsPossible (all_placed AtPlain ys)
sorted_possible ys xs p = record {
  known = p.known;
  within = λ r.
      line_levels (demand_at AtPlain (all_placed AtPlain ys) r) (demand_at AtUp (all_placed AtPlain ys) r) (demand_at AtDown (all_placed AtPlain ys) r)
      (demand_at AtPlain (pool_of ys ++ (own_of ys ++ xs)) r) (demand_at AtUp (pool_of ys ++ (own_of ys ++ xs)) r) (demand_at AtDown (pool_of ys ++ (own_of ys ++ xs)) r) (limit p.known r)
      (less AtPlain r) (less AtUp r) (less AtDown r) (p.within r);
  agree = sorted_say p.known ys (say_first p.known (pool_of ys) (own_of ys ++ xs) p.agree)
      (say_first p.known (own_of ys) xs (say_last p.known (pool_of ys) (own_of ys ++ xs) p.agree));
}
  where
    less : (a : Level) (r : Resource) → demand_at a (all_placed AtPlain ys) r ≤ demand_at a (pool_of ys ++ (own_of ys ++ xs)) r
    less a r =
        line_within (demand_at a (all_placed AtPlain ys) r) (demand_at a (pool_of ys) r) (demand_at a (own_of ys) r) (demand_at a xs r) (demand_at a (own_of ys ++ xs) r)
        (demand_at a (pool_of ys ++ (own_of ys ++ xs)) r) (sorted_demand a ys r) (demand_more a (own_of ys) xs r) (demand_more a (pool_of ys) (own_of ys ++ xs) r)
