-- What the thread keeps of a message, and what of it joins its own shares.
use Rattle.std.proofs.Common.{◌≡◌, ◌⊎◌, inl, inr, ℕ, zero, suc, ◌+◌, ◌≤◌, ◌^◌, Bool, true, false, ◌&&◌, is_some, List, [], ◌∷◌, Option, Some, None, ℤ, pos, ◌≤ℤ◌, if◌then◌else◌, refl, sym, subst, arith}
use Rattle.std.specs.Ordering.{int_eq}
use Rattle.std.proofs.lemmas.Bool.{and_parts}
use Rattle.fsl_core.specs.declared.chunk.Chunk.{Chunk}
use Rattle.fsl_core.specs.declared.chunk.Chunk.TheVariants as chunk
use Rattle.fsl_core.specs.declared.mode.Rung.{Rung}
use Rattle.fsl_core.specs.declared.mode.Rung.TheVariants.{Plain, Up, Down, Msg}
use Rattle.fsl_core.specs.logic.States.{State, followed}
use Rattle.fsl_core.specs.logic.Chunks.{Found, first, Cell, cell_at}
use Rattle.fsl_core.specs.logic.Fences.{is_at}
use Rattle.fsl_core.specs.logic.Joining.{at_rung, produce_chunk}
use Rattle.fsl_core.specs.logic.Messages.{Held}
use Rattle.fsl_core.specs.logic.Updates.{owns_cell, keeping, keep}
use Rattle.fsl_lin.specs.Combination.{Combination}
use Rattle.fsl_lin.specs.Numbers.{Numbers}
use Rattle.fsl_meaning.specs.Means.{Means, Grows}
use Rattle.fsl_meaning.specs.Heaps.{Key, Key as key, Heap, nothing, some_of, Holds, Truth, Claim as claim, Ground, Knows, shares, IsBounded}
use Rattle.fsl_meaning.specs.States.{OwnsCell, Stands, EachStands, Owns, All, Fits}
use Rattle.fsl_meaning.specs.Branches.{Lands}
use Rattle.fsl_meaning.proofs.Terms.{means_one}
use Rattle.fsl_meaning.proofs.Calculus.{lands_then, lands_give, lands_as, lands_end}
use Rattle.fsl_meaning.proofs.Facts.{proved_equal}
use Rattle.fsl_meaning.proofs.Deciding.{equal}
use Rattle.fsl_meaning.proofs.Heaps.{some_less}
use Rattle.fsl_meaning.proofs.Owned.{each_later, fits_less, out_of, line_less}
use Rattle.fsl_meaning.proofs.Readings.{cell_read}
use Rattle.fsl_meaning.proofs.Joining.{lands_chunk, bounded_less}
use Rattle.fsl_asserted.proofs.Asking.{some_there, part_within}
use Rattle.fsl_kept.specs.Changes.{lifted}
use Rattle.fsl_kept.proofs.Fences.{stands_lifted}
use Rattle.fsl_passed.specs.Passing.{chunks_of, Touched, IsHeld, EachHeld, AllHeld}
use Rattle.fsl_passed.specs.Keeping.{gained_at, Keeps}
use Rattle.fsl_passed.proofs.Holding.{held_more, lifted_both}

-- ---- room

-- what the message still holds of cells, and what the thread has, are no more than there is
abbrev pub HasRoom : Heap → Heap → Type 0
HasRoom message cur = (l : ℤ) → message (key.Cell Msg l) + shares cur l ≤ 2 ^ 63

line_plain : (p a b c d : ℕ) → (p + a) + ((0 + b) + ((0 + c) + (0 + d))) ≡ p + (a + (b + (c + d)))
line_plain p a b c d = omega arith

line_up : (p a b c d : ℕ) → (0 + a) + ((p + b) + ((0 + c) + (0 + d))) ≡ p + (a + (b + (c + d)))
line_up p a b c d = omega arith

line_down : (p a b c d : ℕ) → (0 + a) + ((0 + b) + ((p + c) + (0 + d))) ≡ p + (a + (b + (c + d)))
line_down p a b c d = omega arith

line_msg : (p a b c d : ℕ) → (0 + a) + ((0 + b) + ((0 + c) + (p + d))) ≡ p + (a + (b + (c + d)))
line_msg p a b c d = omega arith

-- what is lifted is counted once
lifted_shares : (rung : Rung) (part cur : Heap) (l : ℤ) → shares (λ k. lifted Msg rung part k + cur k) l ≡ part (key.Cell Msg l) + shares cur l
lifted_shares Plain part cur l = line_plain (part (key.Cell Msg l)) (cur (key.Cell Plain l)) (cur (key.Cell Up l)) (cur (key.Cell Down l)) (cur (key.Cell Msg l))
lifted_shares Up part cur l = line_up (part (key.Cell Msg l)) (cur (key.Cell Plain l)) (cur (key.Cell Up l)) (cur (key.Cell Down l)) (cur (key.Cell Msg l))
lifted_shares Down part cur l = line_down (part (key.Cell Msg l)) (cur (key.Cell Plain l)) (cur (key.Cell Up l)) (cur (key.Cell Down l)) (cur (key.Cell Msg l))
lifted_shares Msg part cur l = line_msg (part (key.Cell Msg l)) (cur (key.Cell Plain l)) (cur (key.Cell Up l)) (cur (key.Cell Down l)) (cur (key.Cell Msg l))

line_first : (s p r m c b : ℕ) → s ≡ p + c → p + r ≤ m → m + c ≤ b → s ≤ b
line_first s p r m c b e h k = omega arith

line_rest : (s p r m c b : ℕ) → s ≡ p + c → p + r ≤ m → m + c ≤ b → r + s ≤ b
line_rest s p r m c b e h k = omega arith

line_one : (a m : ℕ) → a ≤ m → 0 + a ≤ m
line_one a m h = omega arith

same_count : (n : ℕ) (b : ℤ) → pos n ≤ℤ b → pos (0 + n) ≤ℤ b
same_count n b h = let e : 0 + n ≡ n = omega arith in subst (λ (k : ℕ). pos k ≤ℤ b) (sym e) h

-- part of the message moves to the thread
moved_bounds : (t : Truth) (rung : Rung) (part rest message cur : Heap) → Holds part rest message → HasRoom message cur → IsBounded t cur → IsBounded t (λ k. lifted Msg rung part k + cur k)
moved_bounds t rung part rest message cur holds room b = record {
  cells = λ l. line_first (shares (λ k. lifted Msg rung part k + cur k) l) (part (key.Cell Msg l)) (rest (key.Cell Msg l)) (message (key.Cell Msg l)) (shares cur l) (2 ^ 63)
      (lifted_shares rung part cur l) (holds (key.Cell Msg l)) (room l);
  tokens = λ c. same_count (cur (key.Tokens c)) (t.bank c) (b.tokens c);
  alone = λ c. line_one (cur (key.Bank c)) 1 (b.alone c);
  once = λ l p. line_one (cur (key.Permission l p)) 1 (b.once l p);
}

moved_room : (rung : Rung) (part rest message cur : Heap) → Holds part rest message → HasRoom message cur → HasRoom rest (λ k. lifted Msg rung part k + cur k)
moved_room rung part rest message cur holds room l =
    line_rest (shares (λ k. lifted Msg rung part k + cur k) l) (part (key.Cell Msg l)) (rest (key.Cell Msg l)) (message (key.Cell Msg l)) (shares cur l) (2 ^ 63)
    (lifted_shares rung part cur l) (holds (key.Cell Msg l)) (room l)

-- ---- what the thread has at plain

-- a thread that doesn't acquire has at plain only of cells of which it had some
abbrev pub IsBacked : Bool → Heap → Heap → Type 0
IsBacked true base cur = Unit {0}
IsBacked false base cur = (l : ℤ) → 1 ≤ cur (key.Cell Plain l) → 1 ≤ base (key.Cell Plain l)

line_other : (a : ℕ) → 1 ≤ 0 + a → 1 ≤ a
line_other a h = omega arith

backed_kept : (acquiring : Bool) (base cur part : Heap) → IsBacked acquiring base cur → IsBacked acquiring base (λ k. lifted Msg (gained_at acquiring) part k + cur k)
backed_kept true base cur part b = tt
backed_kept false base cur part b = λ l h. b l (line_other (cur (key.Cell Plain l)) h)

backed_self : (acquiring : Bool) (base : Heap) → IsBacked acquiring base base
backed_self true base = tt
backed_self false base = λ l h. h

some_part : (a b : ℕ) → 1 ≤ a + b → (1 ≤ a) ⊎ (1 ≤ b)
some_part zero b h = inr (line_other b h)
some_part (suc a) b h = inl (omega arith)

-- ---- keeping on

-- what was kept and joined of a message, to what the thread has now; `base` is what it had before it kept anything
pub record KeepsOn (g : Ground) (slots : List ℤ) (acquiring : Bool) (base past message cur : Heap) (s : State) (w : Numbers) : Type 0 where
  pub kept : Heap
  pub joined : Heap
  pub within : (k : Key) → kept k + joined k ≤ message k
  pub shared : (l : ℤ) → 1 ≤ joined (key.Cell Msg l) → (1 ≤ base (key.Cell Plain l)) × (1 ≤ past (key.Cell Msg l))
  pub fits : Fits slots (All g (λ k. lifted Msg (gained_at acquiring) kept k + (lifted Msg Plain joined k + cur k))) w s

-- what comes after a chunk lands, whatever the thread then has
abbrev pub LandsOn : Ground → List ℤ → Bool → Heap → Heap → Heap → List Held → ℕ → Numbers → Type 0
LandsOn g slots acquiring base past rest hs n v = (cur : Heap) (w : Numbers) (t : State) → Grows n v t.next w → Fits slots (All g cur) w t → IsBounded g.truth cur → HasRoom rest cur
    → IsBacked acquiring base cur → Lands t.next w (λ u t2 w2. KeepsOn g slots acquiring base past rest cur t2 w2) (keep acquiring hs t)

line_self : (a : ℕ) → a ≤ a
line_self a = omega arith

line_kept : (m r h a b : ℕ) → m + r ≤ h → a + b ≤ r → (m + a) + b ≤ h
line_kept m r h a b j k = omega arith

line_joined : (p m r h a b : ℕ) → p ≤ m → m + r ≤ h → a + b ≤ r → a + (p + b) ≤ h
line_joined p m r h a b i j k = omega arith

line_part : (p m r h : ℕ) → p ≤ m → m + r ≤ h → p + r ≤ h
line_part p m r h i j = omega arith

line_keeps : (a s j m c : ℕ) → m + a ≡ s → a + (j + (m + c)) ≤ s + (j + c)
line_keeps a s j m c e = omega arith

line_joins : (a j s p c : ℕ) → p + j ≡ s → a + (j + (p + c)) ≤ a + (s + c)
line_joins a j s p c e = omega arith

-- a chunk is kept where the read puts what it gains
kept_lands : (g : Ground) {slots : List ℤ} {v : Numbers} {s : State} (acquiring : Bool) (base past cur : Heap) (c : Chunk) (hs : List Held) (message mine rest : Heap)
    → ((l : ℤ) → Knows g (claim.IsInit Msg l) → Knows g (claim.IsInit (gained_at acquiring) l)) → is_at Msg c ≡ true → Stands g s.next v c mine → Holds mine rest message
    → Fits slots (All g cur) v s → IsBounded g.truth cur → HasRoom message cur → IsBacked acquiring base cur → LandsOn g slots acquiring base past rest hs s.next v
    → Lands s.next v (λ u t w. KeepsOn g slots acquiring base past message cur t w) (followed (produce_chunk (at_rung (gained_at acquiring) c) s) (λ u. keep acquiring hs))
kept_lands g {v = v} {s = s} acquiring base past cur c hs message mine rest knows at_msg stands holds fit bounds room backed next =
    let rung = gained_at acquiring in
    let more : Heap = λ k. lifted Msg rung mine k + cur k in
    let bounds2 = moved_bounds g.truth rung mine rest message cur holds room bounds in
    lands_then (lands_chunk (at_rung rung c) (lifted Msg rung mine) more fit (stands_lifted g s.next v Msg rung c mine knows at_msg stands) (λ k. line_self (more k)) bounds2) (λ u t w r f.
    lands_as (next more w t r f bounds2 (moved_room rung mine rest message cur holds room) (backed_kept acquiring base cur mine backed)) (λ u2 t2 w2 r2 k. record {
      kept = λ q. mine q + k.kept q;
      joined = k.joined;
      within = λ q. line_kept (mine q) (rest q) (message q) (k.kept q) (k.joined q) (holds q) (k.within q);
      shared = k.shared;
      fits = fits_less (λ q. lifted Msg rung (λ j. mine j + k.kept j) q + (lifted Msg Plain k.joined q + cur q))
          (λ q. line_keeps (lifted Msg rung k.kept q) (lifted Msg rung (λ j. mine j + k.kept j) q) (lifted Msg Plain k.joined q) (lifted Msg rung mine q) (cur q)
          (lifted_both Msg rung mine k.kept q)) k.fits;
    }))

some_is_at : (loc l : ℤ) (n : ℕ) (b : Bool) → int_eq loc l ≡ b → 1 ≤ (if b then n else 0) → loc ≡ l
some_is_at loc l n true e h = equal loc l e
some_is_at loc l n false e h = absurd (omega arith)

-- a share joins those of the thread
joined_lands : (g : Ground) {slots : List ℤ} {v : Numbers} {s : State} (base past cur : Heap) (at share : Combination) (value : Option Combination) (hs : List Held) (message mine rest : Heap)
    → (own : OwnsCell g s.next v Msg at share value mine) → 1 ≤ cur (key.Cell Plain own.loc) → 1 ≤ past (key.Cell Msg own.loc) → Holds mine rest message
    → Fits slots (All g cur) v s → IsBounded g.truth cur → HasRoom message cur → IsBacked false base cur → LandsOn g slots false base past rest hs s.next v
    → Lands s.next v (λ u t w. KeepsOn g slots false base past message cur t w) (followed (produce_chunk (chunk.Points Plain at share value) s) (λ u. keep false hs))
joined_lands g {v = v} {s = s} base past cur at share value hs message mine rest own has got holds fit bounds room backed next =
    let piece = some_of (key.Cell Msg own.loc) own.amount in
    let less : (q : Key) → piece q ≤ mine q = some_less (key.Cell Msg own.loc) own.amount mine own.there in
    let apart : Holds piece rest message = λ q. line_part (piece q) (mine q) (rest q) (message q) (less q) (holds q) in
    let more : Heap = λ k. lifted Msg Plain piece k + cur k in
    let bounds2 = moved_bounds g.truth Plain piece rest message cur apart room bounds in
    let here : (l : ℤ) → 1 ≤ piece (key.Cell Msg l) → own.loc ≡ l = λ l h. some_is_at own.loc l own.amount (int_eq own.loc l) refl h in
    let based : (l : ℤ) → 1 ≤ piece (key.Cell Msg l) → 1 ≤ base (key.Cell Plain l) = λ l h. subst (λ (z : ℤ). 1 ≤ base (key.Cell Plain z)) (here l h) (backed own.loc has) in
    let backed2 : IsBacked false base more = λ l h. elim (some_part (piece (key.Cell Msg l)) (cur (key.Cell Plain l)) h) [ inl a ↦ based l a | inr a ↦ backed l a ] in
    let stands : OwnsCell g s.next v Plain at share value (lifted Msg Plain piece) = record {
      loc = own.loc;
      amount = own.amount;
      at_is = own.at_is;
      share_is = own.share_is;
      some = own.some;
      value_is = own.value_is;
      there = some_there (key.Cell Msg own.loc) own.amount;
    } in
    lands_then (lands_chunk (chunk.Points Plain at share value) (lifted Msg Plain piece) more fit stands (λ k. line_self (more k)) bounds2) (λ u t w r f.
    lands_as (next more w t r f bounds2 (moved_room Plain piece rest message cur apart room) backed2) (λ u2 t2 w2 r2 k. record {
      kept = k.kept;
      joined = λ q. piece q + k.joined q;
      within = λ q. line_joined (piece q) (mine q) (rest q) (message q) (k.kept q) (k.joined q) (less q) (holds q) (k.within q);
      shared = λ l h. elim (some_part (piece (key.Cell Msg l)) (k.joined (key.Cell Msg l)) h)
          [ inl a ↦ (based l a, subst (λ (z : ℤ). 1 ≤ past (key.Cell Msg z)) (here l a) got) | inr a ↦ k.shared l a ];
      fits = fits_less (λ q. lifted Msg Down k.kept q + (lifted Msg Plain (λ j. piece j + k.joined j) q + cur q))
          (λ q. line_joins (lifted Msg Down k.kept q) (lifted Msg Plain k.joined q) (lifted Msg Plain (λ j. piece j + k.joined j) q) (lifted Msg Plain piece q) (cur q)
          (lifted_both Msg Plain piece k.joined q)) k.fits;
    }))

-- ---- which of the two

owned_by : {g : Ground} {slots : List ℤ} {v : Numbers} {s : State} {cur : Heap} (at : Combination) (loc : ℤ) (o : Option (Found Chunk Cell)) → first (cell_at Plain at s.facts) s.chunks ≡ o
    → Fits slots (All g cur) v s → Means s.next v at loc → is_some o ≡ true → 1 ≤ cur (key.Cell Plain loc)
owned_by at loc None e fit at_is h = absurd (let d : false ≡ true = h in cc)
owned_by {g = g} {v = v} {s = s} {cur = cur} at loc (Some f) e fit at_is h =
    let out = out_of (cell_at Plain at) f fit e in
    let r = cell_read Plain at s.facts out.item f.is out.reads_as in
    let own : OwnsCell g s.next v Plain f.is.at f.is.share f.is.value out.mine = subst (λ (c : Chunk). Stands g s.next v c out.mine) r.0 out.fits.owns.stands in
    let same : own.loc ≡ loc = proved_equal fit.one fit.facts own.at_is at_is r.1 in
    let there : 1 ≤ out.mine (key.Cell Plain loc) = subst (λ (l : ℤ). 1 ≤ out.mine (key.Cell Plain l)) same (line_less 1 own.amount (out.mine (key.Cell Plain own.loc)) own.some own.there) in
    part_within out.mine out.rest cur (key.Cell Plain loc) 1 out.holds there

-- a share was taken for the new message, and the thread has one of the cell
joins_by : (g : Ground) {slots : List ℤ} {v : Numbers} {s : State} (base past cur : Heap) (c : Chunk) (hs : List Held) (message mine rest : Heap)
    → is_at Msg c ≡ true → Touched s.next v past c → owns_cell c s ≡ true → Stands g s.next v c mine → Holds mine rest message
    → Fits slots (All g cur) v s → IsBounded g.truth cur → HasRoom message cur → IsBacked false base cur → LandsOn g slots false base past rest hs s.next v
    → Lands s.next v (λ u t w. KeepsOn g slots false base past message cur t w) (followed (produce_chunk (at_rung Plain c) s) (λ u. keep false hs))
joins_by g {v = v} {s = s} base past cur (chunk.Points Msg at share value) hs message mine rest at_msg touched owned stands holds fit bounds room backed next =
    let own : OwnsCell g s.next v Msg at share value mine = stands in
    let same : touched.loc ≡ own.loc = means_one fit.one touched.at_is own.at_is in
    joined_lands g base past cur at share value hs message mine rest own (owned_by at own.loc (first (cell_at Plain at s.facts) s.chunks) refl fit own.at_is owned)
    (subst (λ (l : ℤ). 1 ≤ past (key.Cell Msg l)) same touched.some) holds fit bounds room backed next
joins_by g base past cur (chunk.Points r at share value) hs message mine rest at_msg touched owned stands holds fit bounds room backed next = absurd (let d : false ≡ true = at_msg in cc)
joins_by g base past cur c hs message mine rest at_msg touched owned stands holds fit bounds room backed next = absurd (let d : false ≡ true = owned in cc)

keep_by : (g : Ground) {slots : List ℤ} {v : Numbers} {s : State} (acquiring : Bool) (base past cur : Heap) (h : Held) (hs : List Held) (message mine rest : Heap)
    → ((l : ℤ) → Knows g (claim.IsInit Msg l) → Knows g (claim.IsInit (gained_at acquiring) l)) → IsHeld s.next v past h → Stands g s.next v h.chunk mine → Holds mine rest message
    → Fits slots (All g cur) v s → IsBounded g.truth cur → HasRoom message cur → IsBacked acquiring base cur → LandsOn g slots acquiring base past rest hs s.next v
    → (b : Bool) → (h.touched && owns_cell h.chunk s) ≡ b
    → Lands s.next v (λ u t w. KeepsOn g slots acquiring base past message cur t w)
    (followed (produce_chunk (at_rung (if acquiring then Plain else (if b then Plain else Down)) h.chunk) s) (λ u. keep acquiring hs))
keep_by g true base past cur h hs message mine rest knows held stands holds fit bounds room backed next b e =
    kept_lands g true base past cur h.chunk hs message mine rest knows held.at_msg stands holds fit bounds room backed next
keep_by g false base past cur h hs message mine rest knows held stands holds fit bounds room backed next false e =
    kept_lands g false base past cur h.chunk hs message mine rest knows held.at_msg stands holds fit bounds room backed next
keep_by g {s = s} false base past cur h hs message mine rest knows held stands holds fit bounds room backed next true e =
    let both = and_parts h.touched (owns_cell h.chunk s) e in
    joins_by g base past cur h.chunk hs message mine rest held.at_msg (held.touched both.0) both.1 stands holds fit bounds room backed next

is_keeping : (acquiring : Bool) (h : Held) (s : State) → (if acquiring then Plain else (if h.touched && owns_cell h.chunk s then Plain else Down)) ≡ keeping acquiring h s
is_keeping true h s = refl
is_keeping false h s = refl

-- ---- all of it

line_zero : (a : ℕ) → 0 + 0 ≤ a
line_zero a = omega arith

line_none : (a b c : ℕ) → c ≤ a + (b + c)
line_none a b c = omega arith

keep_lands : (g : Ground) {slots : List ℤ} {v : Numbers} {s : State} (acquiring : Bool) (base past cur : Heap) (held : List Held) (message : Heap)
    → ((l : ℤ) → Knows g (claim.IsInit Msg l) → Knows g (claim.IsInit (gained_at acquiring) l)) → EachHeld s.next v past held → EachStands g s.next v (chunks_of held) message
    → Fits slots (All g cur) v s → IsBounded g.truth cur → HasRoom message cur → IsBacked acquiring base cur
    → Lands s.next v (λ u t w. KeepsOn g slots acquiring base past message cur t w) (keep acquiring held s)
keep_lands g {s = s} acquiring base past cur [] message knows is_held each fit bounds room backed = lands_give tt s (record {
  kept = nothing;
  joined = nothing;
  within = λ q. line_zero (message q);
  shared = λ l h. absurd (omega arith);
  fits = fits_less (λ q. lifted Msg (gained_at acquiring) nothing q + (lifted Msg Plain nothing q + cur q))
      (λ q. line_none (lifted Msg (gained_at acquiring) nothing q) (lifted Msg Plain nothing q) (cur q)) fit;
})
keep_lands g {slots = slots} {v = v} {s = s} acquiring base past cur (h ∷ hs) message knows is_held each fit bounds room backed =
    let next : LandsOn g slots acquiring base past each.1 hs s.next v = λ cur2 w t r fit2 bounds2 room2 backed2.
    keep_lands g acquiring base past cur2 hs each.1 knows (held_more {held = hs} past r (λ q. line_self (past q)) (record { each = is_held.1 })).each
    (each_later g (chunks_of hs) each.1 r each.4) fit2 bounds2 room2 backed2 in
    lands_end _ (subst (λ (rung : Rung). Lands s.next v (λ u t w. KeepsOn g slots acquiring base past message cur t w)
    (followed (produce_chunk (at_rung rung h.chunk) s) (λ u. keep acquiring hs))) (is_keeping acquiring h s)
    (keep_by g acquiring base past cur h hs message each.0 each.1 knows is_held.0 each.3 each.2 fit bounds room backed next (h.touched && owns_cell h.chunk s) refl))

line_room : (m mp mu md tp tu td tm hp hu hd hm b : ℕ) → mp + tp ≤ hp → mu + tu ≤ hu → md + td ≤ hd → m + tm ≤ hm → hp + (hu + (hd + hm)) ≤ b → m + (tp + (tu + (td + tm))) ≤ b
line_room m mp mu md tp tu td tm hp hu hd hm b i j k l n = omega arith

room_of : (t : Truth) (message thread more : Heap) → Holds message thread more → IsBounded t more → HasRoom message thread
room_of t message thread more holds b l =
    line_room (message (key.Cell Msg l)) (message (key.Cell Plain l)) (message (key.Cell Up l)) (message (key.Cell Down l)) (thread (key.Cell Plain l)) (thread (key.Cell Up l))
    (thread (key.Cell Down l)) (thread (key.Cell Msg l))
    (more (key.Cell Plain l)) (more (key.Cell Up l)) (more (key.Cell Down l)) (more (key.Cell Msg l)) (2 ^ 63) (holds (key.Cell Plain l)) (holds (key.Cell Up l)) (holds (key.Cell Down l))
    (holds (key.Cell Msg l)) (b.cells l)

line_right : (a b h : ℕ) → a + b ≤ h → b ≤ h
line_right a b h l = omega arith

pub keep_fits : {g : Ground} {slots : List ℤ} {v : Numbers} {s : State} {thread : Heap} (acquiring : Bool) (past message more : Heap) (held : List Held)
    → ((l : ℤ) → Knows g (claim.IsInit Msg l) → Knows g (claim.IsInit (gained_at acquiring) l)) → Fits slots (All g thread) v s → Owns g s.next v (chunks_of held) message
    → AllHeld s.next v past held
    → Holds message thread more → IsBounded g.truth more → Lands s.next v (λ u t w. Keeps g slots acquiring past message thread t w) (keep acquiring held s)
keep_fits {g = g} {thread = thread} acquiring past message more held knows fit owns is_held holds bounds =
    lands_as (keep_lands g acquiring thread past thread held message knows is_held.each owns.each fit
    (bounded_less thread (λ q. line_right (message q) (thread q) (more q) (holds q)) bounds) (room_of g.truth message thread more holds bounds) (backed_self acquiring thread)) (λ u t w r k.
    record { kept = k.kept; joined = k.joined; within = k.within; shared = k.shared; fits = k.fits })
