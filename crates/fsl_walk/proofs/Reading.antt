-- A message that a read-modify-write reads: what it has and knows, beside what the thread has.
use Rattle.std.proofs.Common.{◌≡◌, ℕ, ◌+◌, ◌≤◌, ◌^◌, Bool, true, false, not, if◌then◌else◌, List, [], ◌++◌, Some, ℤ, pos, ◌≤ℤ◌, refl, sym, ap, subst, ◌∙◌, arith}
use Rattle.std.specs.List.{filter}
use Rattle.std.proofs.lemmas.Bool.{and_parts}
use Rattle.std.proofs.lemmas.Int.{ints}
use Rattle.fsl_core.specs.declared.mode.Rung.{Rung}
use Rattle.fsl_core.specs.declared.mode.Rung.TheVariants.{Plain, Up, Down, Msg}
use Rattle.fsl_meaning.specs.Heaps.{Key, Key as key, Heap, Holds, shares, IsBounded, Claim, Claim as claim, Ground, Knows, Agrees}
use Rattle.fsl_meaning.proofs.Kept.{agrees_less}
use Rattle.fsl_asserted.specs.Carried.{claim_at}
use Rattle.fsl_kept.specs.Changes.{without}
use Rattle.fsl_kept.specs.Parts.{Part, parts_in}
use Rattle.fsl_kept.specs.Threads.{all_needs}
use Rattle.fsl_updated.specs.Grounds.{of_message as is_of_message}
use Rattle.fsl_updated.specs.Updates.{Reads}
use Rattle.fsl_own.specs.Owning.{Resource as resource}
use Rattle.fsl_own.specs.Atoms.{Atom, demand}
use Rattle.fsl_good.specs.Pieces.{together, AtPlain, Piece, all_placed, IsPossible}
use Rattle.fsl_good.specs.Good.{deal, of_message, of_thread}
use Rattle.fsl_good.proofs.Pieces.{placed_cells}
use Rattle.fsl_held.specs.Heaps.{heap_of, truth_of, ground_of, or_this, value_by, value_in, knows_in, Kept}
use Rattle.fsl_held.specs.Parts.{is_claim_at}
use Rattle.fsl_held.specs.Asked.{InvariantAsks}
use Rattle.fsl_held.proofs.Heaps.{value_first, first_front, knows_front, knows_behind}
use Rattle.fsl_held.proofs.Bounded.{heap_is_bounded}
use Rattle.fsl_held.proofs.Fronts.{front_is_kept}
use Rattle.fsl_walk.specs.Stances.{Activation}
use Rattle.fsl_walk.proofs.Meeting.{Meets}
use Rattle.fsl_walk.proofs.Rounds.{kept_less, kept_then, left_within, right_within}
use Rattle.fsl_walk.proofs.Parting.{AreInvsWell, parts_plain}
use Rattle.fsl_walk.proofs.Gathering.{Gathered, gathered, joined_need, joined_is, asked_at}
use Rattle.fsl_walk.proofs.Sorting.{pool_of, own_of, value_pool, out_own, IsOwnKey, heap_own, bank_own, cells_pool, init_pool, leave_own, sorted_possible}

-- ---- what is known while the message is read

abbrev thread_of : List Atom → List Piece → List Piece
thread_of ys xs = own_of ys ++ xs

abbrev both_of : List Atom → List Piece → List Piece
both_of ys xs = pool_of ys ++ thread_of ys xs

-- the message knows what is known at msg, and the thread all else
abbrev read_ground : List Atom → List Piece → Ground
read_ground ys xs = record { knows = λ c. if is_of_message c then knows_in (pool_of ys) c else knows_in (thread_of ys xs) c; truth = truth_of (both_of ys xs) }

no_claim : false ≡ true → ⊥
no_claim e = cc

other_of : (b k m : Bool) → b ≡ false → m ≡ true → (if b then k else m) ≡ true
other_of true k m e h = absurd (cc)
other_of false k m e h = h

known_other : (b k m : Bool) → b ≡ false → (if b then k else m) ≡ true → m ≡ true
known_other true k m e h = absurd (cc)
known_other false k m e h = h

not_so : (b : Bool) → not b ≡ true → b ≡ false
not_so true h = absurd (no_claim h)
not_so false h = refl

-- what all atoms of the message say of a location is known at msg
atoms_told : (ys : List Atom) (xs : List Piece) (c : Claim) → is_claim_at Plain c ≡ true → knows_in (all_placed AtPlain ys) c ≡ true → Knows (read_ground ys xs) (claim_at Msg c)
atoms_told ys xs (claim.IsInit Plain l) at known = init_pool ys l known
atoms_told ys xs (claim.IsInit Up l) at known = absurd (no_claim at)
atoms_told ys xs (claim.IsInit Down l) at known = absurd (no_claim at)
atoms_told ys xs (claim.IsInit Msg l) at known = absurd (no_claim at)
atoms_told ys xs (claim.MayWrite l i zs) at known = knows_front (own_of ys) xs (claim.MayWrite l i zs) (leave_own ys (claim.MayWrite l i zs) tt known)
atoms_told ys xs (claim.MayRead l i zs) at known = knows_front (own_of ys) xs (claim.MayRead l i zs) (leave_own ys (claim.MayRead l i zs) tt known)
atoms_told ys xs (claim.MayUpdate l i zs) at known = knows_front (own_of ys) xs (claim.MayUpdate l i zs) (leave_own ys (claim.MayUpdate l i zs) tt known)

-- ---- what is so

line_front : (a b c : ℕ) → c ≡ a + b → a ≤ c
line_front a b c e = omega arith

line_behind : (a b c : ℕ) → c ≡ a + b → b ≤ c
line_behind a b c e = omega arith

line_some : (a b : ℕ) → 1 ≤ a → a ≡ b → 1 ≤ b
line_some a b h e = omega arith

value_front : (xs ys : List Piece) (l x : ℤ) → value_in xs l ≡ Some x → value_in (xs ++ ys) l ≡ Some x
value_front xs ys l x e = value_first l (xs ++ ys) ∙ first_front (λ y. value_by y l) xs ys x (sym (value_first l xs) ∙ e)

-- the message and the thread stand one behind the other
record Together (ys : List Atom) (xs : List Piece) : Type 0 where
  pub possible : IsPossible (both_of ys xs)
  pub thread_possible : IsPossible (thread_of ys xs)
  pub sum : (k : Key) → heap_of (both_of ys xs) k ≡ heap_of (pool_of ys) k + heap_of (thread_of ys xs) k
  pub thread_sum : (k : Key) → heap_of (thread_of ys xs) k ≡ heap_of (own_of ys) k + heap_of xs k
  pub own : Kept (own_of ys) (heap_of (own_of ys)) (both_of ys xs)
  pub before : Kept xs (heap_of xs) (both_of ys xs)
  pub thread : Kept xs (heap_of xs) (thread_of ys xs)

stand_together : (ys : List Atom) (xs : List Piece) → IsPossible (both_of ys xs) → Together ys xs
stand_together ys xs possible =
    let whole = front_is_kept (pool_of ys) (thread_of ys xs) possible in
    let inner = front_is_kept (own_of ys) xs whole.possible in
    let own = heap_of (own_of ys) in
    let thread = heap_of (thread_of ys xs) in
    record {
      possible = possible;
      thread_possible = whole.possible;
      sum = whole.sum;
      thread_sum = inner.sum;
      own = kept_then inner.front (kept_less own thread (λ k. line_front (own k) (heap_of xs k) (thread k) (inner.sum k)) whole.behind);
      before = kept_then inner.behind (kept_less (heap_of xs) thread (λ k. line_behind (own k) (heap_of xs k) (thread k) (inner.sum k)) whole.behind);
      thread = inner.behind;
    }

-- what all atoms of the message say is so
atoms_agree : (ys : List Atom) (xs : List Piece) → Together ys xs → Agrees (truth_of (all_placed AtPlain ys)) (truth_of (both_of ys xs)) (heap_of (all_placed AtPlain ys))
atoms_agree ys xs t = record {
  value = λ r l x some is. value_front (pool_of ys) (thread_of ys xs) l x (sym (value_pool ys l) ∙ is);
  out = λ l p some.
      let k = key.Permission l p in
      t.own.agrees.out l p (line_some (heap_of (all_placed AtPlain ys) k) (heap_of (own_of ys) k) some (heap_own ys k tt)) ∙ sym (ap (λ (o : _). or_this o []) (out_own ys l p));
  bank = λ b some.
      let k = key.Bank b in
      t.own.agrees.bank b (line_some (heap_of (all_placed AtPlain ys) k) (heap_of (own_of ys) k) some (heap_own ys k tt)) ∙ sym (bank_own ys b);
}

-- ---- what there is

line_own : (n o m u x z : ℕ) → n ≤ o → m + u ≤ x → z ≡ o + x → (n + m) + u ≤ z
line_own n o m u x z a b e = omega arith

line_cell : (n o m u x z : ℕ) → n ≡ 0 → m + u ≤ x → z ≡ o + x → (n + m) + u ≤ z
line_cell n o m u x z a b e = omega arith

line_under : (m u x : ℕ) → m + u ≤ x → 0 + u ≤ x
line_under m u x h = omega arith

line_is : (n o a : ℕ) → n ≡ o → o ≤ a → n ≤ a
line_is n o a e h = omega arith

line_message : (n m o u x a b : ℕ) → n ≡ o → o ≤ a → a ≡ b → m + u ≤ x → x ≡ 0 → n + m ≤ b
line_message n m o u x a b e h f g z = omega arith

line_shares : (a b c m p q r s x y z w n : ℕ) → a ≤ q → b ≤ r → c ≤ s → m ≤ p → x ≡ p + q → y ≡ w + r → z ≡ n + s → (lim : ℕ) → x + (y + (z + 0)) ≤ lim → a + (b + (c + m)) ≤ lim
line_shares a b c m p q r s x y z w n e f g h i j k lim l = omega arith

line_up : (a u t p b : ℕ) → a + u ≤ t → b ≡ p + t → a ≤ b
line_up a u t p b h e = omega arith

line_most : (a b c : ℕ) → a ≤ b → b ≤ c → a ≤ c
line_most a b c p q = omega arith

line_whole : (a b : ℕ) (x : ℤ) → a ≤ b → pos b ≤ℤ x → pos a ≤ℤ x
line_whole a b x h l = omega (arith, ints, h, l)

-- the needs of all parts, at msg, beside what the path has
record HasRoom (ys : List Atom) (xs : List Piece) (more under : Heap) : Type 0 where
  pub thread : Holds (without Msg more) under (heap_of (thread_of ys xs))
  pub message : (l : ℤ) → more (key.Cell Msg l) ≤ demand (filter of_message ys) (resource.Cell l)

has_room : (ys : List Atom) (xs : List Piece) (ps : List Part) (mine under : Heap) → Together ys xs → (g : Gathered ps (all_placed AtPlain ys)) → Holds mine under (heap_of xs)
    → HasRoom ys xs (λ k. (joined_need Msg g.needs).heap k + mine k) under
has_room ys xs ps mine under t g holds = record { thread = thread; message = message }
  where
    n : Heap
    n = (joined_need Msg g.needs).heap

    cell : (r : Rung) (l : ℤ) → n (key.Cell r l) ≡ 0 → (n (key.Cell r l) + mine (key.Cell r l)) + under (key.Cell r l) ≤ heap_of (thread_of ys xs) (key.Cell r l)
    cell r l none =
        let k = key.Cell r l in line_cell (n k) (heap_of (own_of ys) k) (mine k) (under k) (heap_of xs k) (heap_of (thread_of ys xs) k) none (holds k) (t.thread_sum k)

    own : (k : Key) → IsOwnKey k → n k ≡ all_needs g.needs k → (n k + mine k) + under k ≤ heap_of (thread_of ys xs) k
    own k other is =
        let within = subst (λ (m : ℕ). all_needs g.needs k ≤ m) (heap_own ys k other) (g.within k) in
        line_own (n k) (heap_of (own_of ys) k) (mine k) (under k) (heap_of xs k) (heap_of (thread_of ys xs) k) (line_is (n k) (all_needs g.needs k) (heap_of (own_of ys) k) is within) (holds k)
        (t.thread_sum k)

    thread : Holds (without Msg (λ k. n k + mine k)) under (heap_of (thread_of ys xs))
    thread (key.Cell Plain l) = cell Plain l (joined_is Msg g.needs (key.Cell Plain l))
    thread (key.Cell Up l) = cell Up l (joined_is Msg g.needs (key.Cell Up l))
    thread (key.Cell Down l) = cell Down l (joined_is Msg g.needs (key.Cell Down l))
    thread (key.Cell Msg l) = let k = key.Cell Msg l in line_under (mine k) (under k) (heap_of xs k) (holds k)
    thread (key.Permission l p) = own (key.Permission l p) tt (joined_is Msg g.needs (key.Permission l p))
    thread (key.Tokens b) = own (key.Tokens b) tt (joined_is Msg g.needs (key.Tokens b))
    thread (key.Bank b) = own (key.Bank b) tt (joined_is Msg g.needs (key.Bank b))

    message : (l : ℤ) → n (key.Cell Msg l) + mine (key.Cell Msg l) ≤ demand (filter of_message ys) (resource.Cell l)
    message l =
        let k = key.Cell Msg l in
        line_message (n k) (mine k) (all_needs g.needs (key.Cell Plain l)) (under k) (heap_of xs k) (heap_of (all_placed AtPlain ys) (key.Cell Plain l)) (demand (filter of_message ys) (resource.Cell l))
        (joined_is Msg g.needs k) (g.within (key.Cell Plain l)) (placed_cells AtPlain ys l ∙ cells_pool ys l) (holds k) refl

room_bounded : (ys : List Atom) (xs : List Piece) (more under : Heap) → Together ys xs → HasRoom ys xs more under → IsBounded (truth_of (both_of ys xs)) more
room_bounded ys xs more under t room =
    let all = heap_of (both_of ys xs) in
    let bounds = heap_is_bounded (both_of ys xs) t.possible in
    record {
      cells = cells bounds;
      tokens = λ b. line_whole (more (key.Tokens b)) (all (key.Tokens b)) ((truth_of (both_of ys xs)).bank b) (less (key.Tokens b) (room.thread (key.Tokens b))) (bounds.tokens b);
      alone = λ b. line_most (more (key.Bank b)) (all (key.Bank b)) 1 (less (key.Bank b) (room.thread (key.Bank b))) (bounds.alone b);
      once = λ l p. line_most (more (key.Permission l p)) (all (key.Permission l p)) 1 (less (key.Permission l p) (room.thread (key.Permission l p))) (bounds.once l p);
    }
  where
    less : (k : Key) → more k + under k ≤ heap_of (thread_of ys xs) k → more k ≤ heap_of (both_of ys xs) k
    less k within = line_up (more k) (under k) (heap_of (thread_of ys xs) k) (heap_of (pool_of ys) k) (heap_of (both_of ys xs) k) within (t.sum k)

    line_thread : (a u z : ℕ) → a + u ≤ z → a ≤ z
    line_thread a u z h = omega arith

    threads : (k : Key) → more k + under k ≤ heap_of (thread_of ys xs) k → more k ≤ heap_of (thread_of ys xs) k
    threads k within = line_thread (more k) (under k) (heap_of (thread_of ys xs) k) within

    cells : IsBounded (truth_of (both_of ys xs)) (heap_of (both_of ys xs)) → (l : ℤ) → shares more l ≤ 2 ^ 63
    cells bounds l =
        let p = key.Cell Plain l in
        let u = key.Cell Up l in
        let d = key.Cell Down l in
        let pool = heap_of (pool_of ys) in
        let thread = heap_of (thread_of ys xs) in
        let all = heap_of (both_of ys xs) in
        line_shares (more p) (more u) (more d) (more (key.Cell Msg l)) (pool p) (thread p) (thread u) (thread d) (all p) (all u) (all d) (pool u) (pool d)
        (threads p (room.thread p)) (threads u (room.thread u)) (threads d (room.thread d))
        (subst (λ (m : ℕ). more (key.Cell Msg l) ≤ m) (sym (placed_cells AtPlain (filter of_message ys) l)) (room.message l)) (t.sum p) (t.sum u) (t.sum d) (2 ^ 63) (bounds.cells l)

-- ---- the message is read

-- what the path reads, and what stays of the thread
pub record ReadsAre (u : Activation) (inv : ℕ) (args : List ℤ) (x : ℤ) (mine under : Heap) (xs : List Piece) (ys : List Atom) : Type 0 where
  pub read : Ground
  pub more : Heap
  pub reads : Reads (ground_of xs) read (parts_in u.program inv args x) mine more
  pub meets : Meets read more under (filter of_message ys) (all_placed AtPlain (filter of_thread ys) ++ xs)
  pub kept : Kept xs under (all_placed AtPlain (filter of_thread ys) ++ xs)

line_self : (n : ℕ) → n ≤ n
line_self n = omega arith

-- with the needs of all parts
reads_with : {mine under : Heap} {xs : List Piece} (u : Activation) (inv : ℕ) (args : List ℤ) (x : ℤ) (ys : List Atom) → AreInvsWell u.program → Holds mine under (heap_of xs)
    → Gathered (parts_in u.program inv args x) (all_placed AtPlain ys) → Together ys xs → ReadsAre u inv args x mine under xs ys
reads_with {mine = mine} {under = under} {xs = xs} u inv args x ys well holds g t =
    let ps = parts_in u.program inv args x in
    let read = read_ground ys xs in
    let need = joined_need Msg g.needs in
    let more : Heap = λ k. need.heap k + mine k in
    let asked = asked_at u.program.invs (all_placed AtPlain ys) read Msg (heap_of (all_placed AtPlain ys)) ps g.needs (parts_plain u.program inv args x well) g.each (atoms_agree ys xs t) g.within
    (λ c at needs known. atoms_told ys xs c at known) in
    let room = has_room ys xs ps mine under t g holds in
    record {
      read = read;
      more = more;
      reads = record {
        knows = record {
          more = λ c needs known.
              let both = and_parts (not (is_of_message c)) (knows_in xs c) known in
              other_of (is_of_message c) (knows_in (pool_of ys) c) (knows_in (thread_of ys xs) c) (not_so (is_of_message c) both.0) (knows_behind (own_of ys) xs c both.1);
        };
        agrees = agrees_less mine (heap_of xs) (left_within mine under (heap_of xs) holds) t.before.agrees;
        need = need;
        is = asked.is;
        known = asked.known;
        room = λ k. line_self (more k);
        bounded = room_bounded ys xs more under t room;
      };
      meets = record {
        possible = t.possible;
        agrees = record { value = λ r l z some is. is; out = λ l p some. refl; bank = λ b some. refl };
        message = room.message;
        thread = room.thread;
        given = λ l known. known;
        knows = λ c other needs known. known_other (is_of_message c) (knows_in (pool_of ys) c) (knows_in (thread_of ys xs) c) other known;
      };
      kept = kept_less under (heap_of xs) (right_within mine under (heap_of xs) holds) t.thread;
    }

-- the message that has all parts of an invariant at a value
pub reads_are : {mine under : Heap} {xs : List Piece} (u : Activation) (inv : ℕ) (args : List ℤ) (x : ℤ) (ys : List Atom) → AreInvsWell u.program → Holds mine under (heap_of xs)
    → InvariantAsks u.program (deal true inv args) 0 x ys
    → IsPossible (all_placed AtPlain (filter of_message ys) ++ (all_placed AtPlain (filter of_thread ys) ++ xs)) → ReadsAre u inv args x mine under xs ys
reads_are {mine = mine} {under = under} {xs = xs} u inv args x ys well holds asks possible =
    let ps = parts_in u.program inv args x in
    let placed : all_placed AtPlain ys ≡ all_placed AtPlain (together asks.atoms) = ap (λ (zs : List Atom). all_placed AtPlain zs) asks.are in
    let one = sorted_possible ys xs possible in
    let g = gathered ps asks.atoms asks.each (subst (λ (zs : List Piece). IsPossible zs) placed one) in
    reads_with u inv args x ys well holds (subst (λ (zs : List Piece). Gathered ps zs) (sym placed) g) (stand_together ys xs possible)
