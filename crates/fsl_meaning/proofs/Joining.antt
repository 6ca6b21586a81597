-- What joins the chunks of a state: the state then fits the heap with what came.
use Rattle.std.proofs.Common.{◌≡◌, ℕ, ◌+◌, ◌≤◌, ◌^◌, Bool, true, false, List, [], ◌∷◌, Option, Some, None, ℤ, pos, ◌+ℤ◌, ◌≤ℤ◌, refl, ap, sym, subst, arith}
use Rattle.std.proofs.lemmas.Int.{ints}
use Rattle.fsl_core.specs.declared.chunk.Chunk.{Chunk}
use Rattle.fsl_core.specs.declared.chunk.Chunk.TheVariants as chunk
use Rattle.fsl_core.specs.declared.mode.Rung.{Rung}
use Rattle.fsl_core.specs.declared.mode.Rung.TheVariants.{Plain, Up, Down, Msg}
use Rattle.fsl_core.specs.declared.verdict.Kind.TheVariants as kind
use Rattle.fsl_core.specs.logic.States.{State, ◌>>◌}
use Rattle.fsl_core.specs.logic.Terms.{narrow, fitting}
use Rattle.fsl_core.specs.logic.Chunks.{Found, first, Cell, Leave, Count, cell_chunk, cell_at, init_at, rel_of, rmw_of, tokens_of, authority_of}
use Rattle.fsl_core.specs.logic.Joining.{full, nought, assume_share, assume_same, known_of, join_cell, add_cell, produce_cell, add_once, produce_init, produce_rel, produce_rmw, assume_count, count_in, join_tokens, produce_tokens, assume_alone, counted, assume_counts, produce_authority, produce_chunk, produce_chunks}
use Rattle.fsl_lin.specs.Combination.{Combination, constant, is_narrow}
use Rattle.fsl_lin.specs.Numbers.{Numbers}
use Rattle.fsl_meaning.specs.Means.{Means, IsKnown}
use Rattle.fsl_meaning.specs.Heaps.{Key, Key as key, Heap, Holds, Truth, Ground, MayWrite, MayUpdate, IsBounded}
use Rattle.fsl_meaning.specs.States.{OwnsCell, OwnsTokens, OwnsBank, KnowsInit, KnowsLeave, Stands, EachStands, Owning, All, Fits}
use Rattle.fsl_meaning.specs.Branches.{Lands, Tells}
use Rattle.fsl_meaning.proofs.Terms.{grows_then, means_more, means_as, known_more, means_plus, means_constant}
use Rattle.fsl_meaning.proofs.Calculus.{lands_then, lands_give, lands_end, tells_then, tells_as, tells_look, tells_some}
use Rattle.fsl_meaning.proofs.Facts.{proved_equal, lands_at_most, lands_equal}
use Rattle.fsl_meaning.proofs.Deciding.{lands_done}
use Rattle.fsl_meaning.proofs.Heaps.{share_at}
use Rattle.fsl_meaning.proofs.Owned.{stands_more, each_later, fits_less, out_of, lands_put, lands_add, line_less}
use Rattle.fsl_meaning.proofs.Readings.{cell_read, tokens_read, authority_read}

pub narrow_is : (t u : Combination) (b : Bool) → is_narrow t ≡ b → narrow t ≡ Some u → t ≡ u
narrow_is t u true e h = let d : narrow t ≡ Some t = simp e in cc
narrow_is t u false e h = let d : narrow t ≡ None = simp e in absurd (cc)

-- a combination that fits its bounds is given as it is
pub tells_fitting : {n : ℕ} {v : Numbers} {s : State} {t : Combination} {x : ℤ} → Means n v t x → Tells s (λ u. Means n v u x) (fitting t s)
tells_fitting {n = n} {v = v} {t = t} {x = x} h =
    tells_as (tells_some kind.Term (narrow t)) (λ u e. subst (λ (z : Combination). Means n v z x) (narrow_is t u (is_narrow t) refl e) h)

-- ---- shares of cells

line_some : (k : ℕ) → 1 ≤ k → (pos 1 +ℤ pos 0) ≤ℤ pos k
line_some k h = omega (arith, ints)

pub line_at_most : (k m : ℕ) → k ≤ m → (pos k +ℤ pos 0) ≤ℤ pos m
line_at_most k m h = omega (arith, ints)

pub lands_assume_share : {slots : List ℤ} {own : Owning} {v : Numbers} {s : State} {k : ℕ} (share : Combination) → Fits slots own v s → Means s.next v share (pos k)
    → 1 ≤ k → k ≤ 2 ^ 63 → Lands s.next v (λ u t w. Fits slots own w t) (assume_share share s)
lands_assume_share {k = k} share f h some few =
    lands_then (lands_at_most (constant (pos 1)) (pos 0) share f (means_constant (pos 1)) h (line_some k some)) (λ u t w g fit.
    lands_at_most share (pos 0) full fit (means_more g h) (means_constant (pos (2 ^ 63))) (line_at_most k (2 ^ 63) few))

-- two values that are said of one cell
pub lands_same : {slots : List ℤ} {own : Owning} {v : Numbers} {s : State} (a b : Option Combination) (said : Option ℤ) → Fits slots own v s
    → IsKnown s.next v a said → IsKnown s.next v b said → Lands s.next v (λ u t w. Fits slots own w t) (assume_same a b s)
lands_same None None said f h k = lands_done f
lands_same None (Some b) said f h k = lands_done f
lands_same (Some a) None said f h k = lands_done f
lands_same (Some a) (Some b) said f h k =
    let x = h.is in
    let y = k.is in
    let e : h.number ≡ k.number = cc in
    lands_equal a b f h.means k.means e

known_either : (n : ℕ) (v : Numbers) (a b : Option Combination) (said : Option ℤ) → IsKnown n v a said → IsKnown n v b said → IsKnown n v (known_of a b) said
known_either n v None b said h k = k
known_either n v (Some a) b said h k = h

line_join : (a r h b m : ℕ) → a + r ≤ h → b + h ≤ m → (a + b) + r ≤ m
line_join a r h b m j k = omega arith

line_two : (x y a b r m : ℕ) → x ≤ a → y ≤ b → (a + b) + r ≤ m → x + y ≤ m
line_two x y a b r m j k l = omega arith

line_pieces : (x y a b : ℕ) → x ≤ a → y ≤ b → x + y ≤ a + b
line_pieces x y a b j k = omega arith

line_more : (a b : ℕ) → a ≤ a + b
line_more a b = omega arith

join_by : {g : Ground} {slots : List ℤ} {h mine more : Heap} {v : Numbers} {s : State} (rung : Rung) (c : Cell) (o : Option (Found Chunk Cell))
    → o ≡ first (cell_at rung c.at s.facts) s.chunks → Fits slots (All g h) v s → OwnsCell g s.next v rung c.at c.share c.value mine → Holds mine h more → IsBounded g.truth more
    → Lands s.next v (λ u t w. Fits slots (All g more) w t) (join_cell rung c o s)
join_by {mine = mine} {more = more} rung c None e f own holds bounds = lands_add (cell_chunk rung c) mine more f own holds
join_by {g = g} {h = h} {mine = mine} {more = more} {v = v} {s = s} rung c (Some f) e fit own holds bounds =
    let out = out_of (cell_at rung c.at) f fit (sym e) in
    let r = cell_read rung c.at s.facts out.item f.is out.reads_as in
    let had : OwnsCell g s.next v rung f.is.at f.is.share f.is.value out.mine = subst (λ (z : Chunk). Stands g s.next v z out.mine) r.0 out.fits.owns.stands in
    let loc : had.loc ≡ own.loc = proved_equal fit.one fit.facts had.at_is own.at_is r.1 in
    let there : own.amount ≤ mine (key.Cell rung had.loc) = subst (λ (l : ℤ). own.amount ≤ mine (key.Cell rung l)) (sym loc) own.there in
    let value_is : IsKnown s.next v c.value (g.truth.value had.loc) = subst (λ (l : ℤ). IsKnown s.next v c.value (g.truth.value l)) (sym loc) own.value_is in
    let both : Holds (λ k. out.mine k + mine k) out.rest more = λ k. line_join (out.mine k) (out.rest k) (h k) (mine k) (more k) (out.holds k) (holds k) in
    let cell = key.Cell rung had.loc in
    let room : had.amount + own.amount ≤ 2 ^ 63 =
    line_less (had.amount + own.amount) (more cell) (2 ^ 63) (line_two had.amount own.amount (out.mine cell) (mine cell) (out.rest cell) (more cell) had.there there (both cell))
    (line_less (more cell) _ (2 ^ 63) (share_at more rung had.loc) (bounds.cells had.loc)) in
    tells_then _ (tells_fitting (means_plus had.share_is own.share_is)) (λ sum sum_is.
    lands_then (lands_at_most sum (pos 0) full out.fits sum_is (means_constant (pos (2 ^ 63))) (line_at_most (had.amount + own.amount) (2 ^ 63) room)) (λ u1 s1 w1 g1 f1.
    lands_then (lands_same f.is.value c.value (g.truth.value had.loc) f1 (known_more f.is.value (g.truth.value had.loc) g1 had.value_is) (known_more c.value (g.truth.value had.loc) g1 value_is)) (λ u2 s2 w2 g2 f2.
    let later = grows_then g1 g2 in
    lands_put f (chunk.Points rung f.is.at sum (known_of f.is.value c.value)) (λ k. out.mine k + mine k) more f2
    (record {
      loc = had.loc;
      amount = had.amount + own.amount;
      at_is = means_more later had.at_is;
      share_is = means_more later sum_is;
      some = line_less 1 had.amount (had.amount + own.amount) had.some (line_more had.amount own.amount);
      value_is = known_more (known_of f.is.value c.value) (g.truth.value had.loc) later (known_either s.next v f.is.value c.value (g.truth.value had.loc) had.value_is value_is);
      there = line_pieces had.amount own.amount (out.mine cell) (mine cell) had.there there;
    }) both)))

-- a share joins the others of its cell
pub lands_add_cell : {g : Ground} {slots : List ℤ} {h mine : Heap} {v : Numbers} {s : State} (rung : Rung) (c : Cell) (more : Heap)
    → Fits slots (All g h) v s → OwnsCell g s.next v rung c.at c.share c.value mine → Holds mine h more → IsBounded g.truth more
    → Lands s.next v (λ u t w. Fits slots (All g more) w t) (add_cell rung c s)
lands_add_cell {s = s} rung c more fit own holds bounds =
    tells_then (join_cell rung c) (tells_look (λ (t : State). first (cell_at rung c.at t.facts) t.chunks)) (λ o e.
    join_by rung c o e fit own holds bounds)

pub line_mine : (x m h k : ℕ) → x ≤ m → m + h ≤ k → x ≤ k
line_mine x m h k i j = omega arith

pub lands_cell : {g : Ground} {slots : List ℤ} {h mine : Heap} {v : Numbers} {s : State} (rung : Rung) (c : Cell) (more : Heap)
    → Fits slots (All g h) v s → OwnsCell g s.next v rung c.at c.share c.value mine → Holds mine h more → IsBounded g.truth more
    → Lands s.next v (λ u t w. Fits slots (All g more) w t) (produce_cell rung c s)
lands_cell {g = g} {mine = mine} rung c more fit own holds bounds =
    let cell = key.Cell rung own.loc in
    let few : own.amount ≤ 2 ^ 63 = line_less own.amount (more cell) (2 ^ 63) (line_mine own.amount (mine cell) _ (more cell) own.there (holds cell))
    (line_less (more cell) _ (2 ^ 63) (share_at more rung own.loc) (bounds.cells own.loc)) in
    lands_then (lands_assume_share c.share fit own.share_is own.some few) (λ u t w r f. lands_add_cell rung c more f (stands_more g (cell_chunk rung c) mine r own) holds bounds)

-- ---- what needs no count

line_less_of : (m h k : ℕ) → m + h ≤ k → h ≤ k
line_less_of m h k l = omega arith

pub lands_once : {X : Type 0} {g : Ground} {slots : List ℤ} {h : Heap} {v : Numbers} {s : State} (c : Chunk) (mine more : Heap) (o : Option X)
    → Fits slots (All g h) v s → Stands g s.next v c mine → Holds mine h more → Lands s.next v (λ u t w. Fits slots (All g more) w t) (add_once c o s)
lands_once c mine more None fit stands holds = lands_add c mine more fit stands holds
lands_once {h = h} {s = s} c mine more (Some x) fit stands holds = lands_give tt s (fits_less more (λ k. line_less_of (mine k) (h k) (more k) (holds k)) fit)

pub lands_init : {g : Ground} {slots : List ℤ} {h : Heap} {v : Numbers} {s : State} (rung : Rung) (at : Combination) (mine more : Heap)
    → Fits slots (All g h) v s → KnowsInit g s.next v rung at → Holds mine h more → Lands s.next v (λ u t w. Fits slots (All g more) w t) (produce_init rung at s)
lands_init rung at mine more fit k holds =
    tells_then (add_once (chunk.Init rung at)) (tells_look (λ (t : State). first (init_at rung at t.facts) t.chunks)) (λ o e.
    lands_once (chunk.Init rung at) mine more o fit k holds)

pub lands_rel : {g : Ground} {slots : List ℤ} {h : Heap} {v : Numbers} {s : State} (l : Leave) (mine more : Heap)
    → Fits slots (All g h) v s → KnowsLeave g s.next v MayWrite l.at l.inv l.args → Holds mine h more → Lands s.next v (λ u t w. Fits slots (All g more) w t) (produce_rel l s)
lands_rel l mine more fit k holds =
    tells_then (add_once (chunk.Rel l.at l.inv l.args)) (tells_look (λ (t : State). first (rel_of l t.facts) t.chunks)) (λ o e.
    lands_once (chunk.Rel l.at l.inv l.args) mine more o fit k holds)

pub lands_rmw : {g : Ground} {slots : List ℤ} {h : Heap} {v : Numbers} {s : State} (l : Leave) (mine more : Heap)
    → Fits slots (All g h) v s → KnowsLeave g s.next v MayUpdate l.at l.inv l.args → Holds mine h more → Lands s.next v (λ u t w. Fits slots (All g more) w t) (produce_rmw l s)
lands_rmw l mine more fit k holds =
    tells_then (add_once (chunk.RmwAcq l.at l.inv l.args)) (tells_look (λ (t : State). first (rmw_of l t.facts) t.chunks)) (λ o e.
    lands_once (chunk.RmwAcq l.at l.inv l.args) mine more o fit k holds)

-- ---- tokens

-- how many tokens of a bank a chunk holds at the place that the path has come to
pub record Joined (slots : List ℤ) (g : Ground) (more : Heap) (number : ℤ) (sum : Combination) (s : State) (w : Numbers) : Type 0 where
  pub amount : ℕ
  pub sum_is : Means s.next w sum (pos amount)
  pub few : amount ≤ more (key.Tokens number)
  pub fits : Fits slots (All g more) w s

tokens_by : {g : Ground} {slots : List ℤ} {h mine more : Heap} {v : Numbers} {s : State} (bank k : Combination) (o : Option (Found Chunk Count))
    → o ≡ first (tokens_of bank s.facts) s.chunks → Fits slots (All g h) v s → (own : OwnsTokens s.next v bank k mine) → Holds mine h more
    → Lands s.next v (λ sum t w. Joined slots g more own.number sum t w) (join_tokens bank k o s)
tokens_by {g = g} {h = h} {mine = mine} {more = more} bank k None e fit own holds =
    let one = key.Tokens own.number in
    lands_then (lands_add (chunk.Tok bank k) mine more fit own holds) (λ u t w r f. lands_give k t (record {
      amount = own.amount;
      sum_is = means_more r own.count_is;
      few = line_mine own.amount (mine one) (h one) (more one) own.there (holds one);
      fits = f;
    }))
tokens_by {g = g} {slots = slots} {h = h} {mine = mine} {more = more} {v = v} {s = s} bank k (Some f) e fit own holds =
    let out = out_of (tokens_of bank) f fit (sym e) in
    let r = tokens_read bank s.facts out.item f.is out.reads_as in
    let had : OwnsTokens s.next v f.is.bank f.is.n out.mine = subst (λ (z : Chunk). Stands g s.next v z out.mine) r.0 out.fits.owns.stands in
    let same : had.number ≡ own.number = proved_equal fit.one fit.facts had.bank_is own.bank_is r.1 in
    let there : had.amount ≤ out.mine (key.Tokens own.number) = subst (λ (b : ℤ). had.amount ≤ out.mine (key.Tokens b)) same had.there in
    let both : Holds (λ q. out.mine q + mine q) out.rest more = λ q. line_join (out.mine q) (out.rest q) (h q) (mine q) (more q) (out.holds q) (holds q) in
    let one = key.Tokens own.number in
    tells_then _ (tells_fitting (means_plus had.count_is own.count_is)) (λ sum sum_is.
    lands_then (lands_put f (chunk.Tok f.is.bank sum) (λ q. out.mine q + mine q) more out.fits
    (record { number = own.number; amount = had.amount + own.amount; bank_is = means_as same had.bank_is; count_is = sum_is; there = line_pieces had.amount own.amount (out.mine one) (mine one) there own.there }) both)
    (λ u t w q fits. lands_give sum t (record {
      amount = had.amount + own.amount;
      sum_is = means_more q sum_is;
      few = line_two had.amount own.amount (out.mine one) (mine one) (out.rest one) (more one) there own.there (both one);
      fits = fits;
    })))

line_count : (k : ℕ) → (pos 0 +ℤ pos 0) ≤ℤ pos k
line_count k = omega (arith, ints)

line_bank : (k m : ℕ) (b : ℤ) → k ≤ m → pos m ≤ℤ b → (pos k +ℤ pos 0) ≤ℤ b
line_bank k m b h l = omega (arith, ints)

-- tokens that were counted are at most those that there may be
count_by : {g : Ground} {slots : List ℤ} {more : Heap} {v : Numbers} {s : State} (number : ℤ) (bank sum : Combination) (o : Option (Found Chunk Count))
    → o ≡ first (authority_of bank s.facts) s.chunks → Means s.next v bank number → Joined slots g more number sum s v → IsBounded g.truth more
    → Lands s.next v (λ u t w. Fits slots (All g more) w t) (assume_count (Some sum) (count_in o) s)
count_by number bank sum None e bank_is j bounds = lands_done j.fits
count_by {g = g} {more = more} {v = v} {s = s} number bank sum (Some f) e bank_is j bounds =
    let out = out_of (authority_of bank) f j.fits (sym e) in
    let r = authority_read bank s.facts out.item f.is out.reads_as in
    let had : OwnsBank g s.next v f.is.bank f.is.n out.mine = subst (λ (z : Chunk). Stands g s.next v z out.mine) r.0 out.fits.owns.stands in
    let same : had.number ≡ number = proved_equal j.fits.one j.fits.facts had.bank_is bank_is r.1 in
    lands_at_most sum (pos 0) f.is.n j.fits j.sum_is (means_as (ap g.truth.bank same) had.count_is)
    (line_bank j.amount (more (key.Tokens number)) (g.truth.bank number) j.few (bounds.tokens number))

pub lands_tokens : {g : Ground} {slots : List ℤ} {h mine : Heap} {v : Numbers} {s : State} (bank k : Combination) (more : Heap)
    → Fits slots (All g h) v s → OwnsTokens s.next v bank k mine → Holds mine h more → IsBounded g.truth more
    → Lands s.next v (λ u t w. Fits slots (All g more) w t) (produce_tokens bank k s)
lands_tokens {g = g} {mine = mine} bank k more fit own holds bounds =
    lands_then (lands_at_most nought (pos 0) k fit (means_constant (pos 0)) own.count_is (line_count own.amount)) (λ u1 s1 w1 g1 f1.
    let own1 = stands_more g (chunk.Tok bank k) mine g1 own in
    lands_end _ (lands_then (tokens_by bank k (first (tokens_of bank s1.facts) s1.chunks) refl f1 own1 holds) (λ sum s2 w2 g2 j.
    lands_end _ (count_by own1.number bank sum (first (authority_of bank s2.facts) s2.chunks) refl (means_more g2 own1.bank_is) j bounds))))

-- ---- the authority

line_owned : (m : ℕ) (b : ℤ) → pos m ≤ℤ b → (pos 0 +ℤ pos 0) ≤ℤ b
line_owned m b h = omega (arith, ints)

line_alone : (a r h b m : ℕ) → 1 ≤ a → a + r ≤ h → 1 ≤ b → b + h ≤ m → m ≤ 1 → ⊥
line_alone a r h b m i j k l n = omega arith

-- the other authority of the bank isn't there
alone_by : {g : Ground} {slots : List ℤ} {h mine more : Heap} {v : Numbers} {s : State} (bank n : Combination) (o : Option (Found Chunk Count))
    → o ≡ first (authority_of bank s.facts) s.chunks → Fits slots (All g h) v s → OwnsBank g s.next v bank n mine → Holds mine h more → IsBounded g.truth more
    → Lands s.next v (λ u t w. Fits slots (All g h) w t) (assume_alone o s)
alone_by bank n None e fit own holds bounds = lands_done fit
alone_by {g = g} {h = h} {mine = mine} {more = more} {v = v} {s = s} bank n (Some f) e fit own holds bounds =
    let out = out_of (authority_of bank) f fit (sym e) in
    let r = authority_read bank s.facts out.item f.is out.reads_as in
    let had : OwnsBank g s.next v f.is.bank f.is.n out.mine = subst (λ (z : Chunk). Stands g s.next v z out.mine) r.0 out.fits.owns.stands in
    let same : had.number ≡ own.number = proved_equal fit.one fit.facts had.bank_is own.bank_is r.1 in
    let there : 1 ≤ out.mine (key.Bank own.number) = subst (λ (b : ℤ). 1 ≤ out.mine (key.Bank b)) same had.there in
    let one = key.Bank own.number in
    absurd (line_alone (out.mine one) (out.rest one) (h one) (mine one) (more one) there (out.holds one) own.there (holds one) (bounds.alone own.number))

-- a chunk holds at most as many tokens of the bank as there may be
counted_by : (g : Ground) {slots : List ℤ} {own : Owning} {more : Heap} {v : Numbers} {s : State} (number : ℤ) (bank n : Combination) (c : Chunk) (part : Heap) (o : Option Count)
    → o ≡ tokens_of bank s.facts c → Fits slots own v s → Stands g s.next v c part → ((k : Key) → part k ≤ more k) → Means s.next v bank number
    → Means s.next v n (g.truth.bank number) → IsBounded g.truth more → Lands s.next v (λ u t w. Fits slots own w t) (assume_count (counted o) (Some n) s)
counted_by g number bank n c part None e fit stands l bank_is n_is bounds = lands_done fit
counted_by g {more = more} {v = v} {s = s} number bank n c part (Some x) e fit stands l bank_is n_is bounds =
    let r = tokens_read bank s.facts c x (sym e) in
    let had : OwnsTokens s.next v x.bank x.n part = subst (λ (z : Chunk). Stands g s.next v z part) r.0 stands in
    let same : had.number ≡ number = proved_equal fit.one fit.facts had.bank_is bank_is r.1 in
    let one = key.Tokens number in
    let there : had.amount ≤ part one = subst (λ (b : ℤ). had.amount ≤ part (key.Tokens b)) same had.there in
    lands_at_most x.n (pos 0) n fit had.count_is n_is (line_bank had.amount (more one) (g.truth.bank number) (line_less had.amount (part one) (more one) there (l one)) (bounds.tokens number))

line_left : (a b h m : ℕ) → a + b ≤ h → h ≤ m → a ≤ m
line_left a b h m j k = omega arith

line_right : (a b h m : ℕ) → a + b ≤ h → h ≤ m → b ≤ m
line_right a b h m j k = omega arith

lands_counts : (g : Ground) {slots : List ℤ} {own : Owning} {more : Heap} {v : Numbers} {s : State} (number : ℤ) (bank n : Combination) (cs : List Chunk) (h : Heap)
    → Fits slots own v s → EachStands g s.next v cs h → ((k : Key) → h k ≤ more k) → Means s.next v bank number → Means s.next v n (g.truth.bank number)
    → IsBounded g.truth more → Lands s.next v (λ u t w. Fits slots own w t) (assume_counts bank n cs s)
lands_counts g number bank n [] h fit each l bank_is n_is bounds = lands_done fit
lands_counts g {more = more} {s = s} number bank n (c ∷ cs) h fit each l bank_is n_is bounds =
    tells_then (λ k. assume_count (counted k) (Some n) >> assume_counts bank n cs) (tells_look (λ (t : State). tokens_of bank t.facts c)) (λ o e.
    lands_then (counted_by g {more = more} number bank n c each.0 o e fit each.3 (λ k. line_left (each.0 k) (each.1 k) (h k) (more k) (each.2 k) (l k)) bank_is n_is bounds) (λ u t w r f.
    lands_counts g number bank n cs each.1 f (each_later g cs each.1 r each.4) (λ k. line_right (each.0 k) (each.1 k) (h k) (more k) (each.2 k) (l k)) (means_more r bank_is) (means_more r n_is) bounds))

line_all : (a : ℕ) → a ≤ a
line_all a = omega arith

pub lands_authority : {g : Ground} {slots : List ℤ} {h mine : Heap} {v : Numbers} {s : State} (bank n : Combination) (more : Heap)
    → Fits slots (All g h) v s → OwnsBank g s.next v bank n mine → Holds mine h more → IsBounded g.truth more
    → Lands s.next v (λ u t w. Fits slots (All g more) w t) (produce_authority bank n s)
lands_authority {g = g} {h = h} {mine = mine} bank n more fit own holds bounds =
    lands_then (lands_at_most nought (pos 0) n fit (means_constant (pos 0)) own.count_is
    (line_owned (more (key.Tokens own.number)) (g.truth.bank own.number) (bounds.tokens own.number))) (λ u1 s1 w1 g1 f1.
    let own1 = stands_more g (chunk.Auth bank n) mine g1 own in
    lands_end _ (lands_then (alone_by bank n (first (authority_of bank s1.facts) s1.chunks) refl f1 own1 holds bounds) (λ u2 s2 w2 g2 f2.
    let own2 = stands_more g (chunk.Auth bank n) mine g2 own1 in
    lands_end _ (lands_then (lands_counts g {more = more} own2.number bank n s2.chunks h f2 f2.owns.each (λ k. line_less_of (mine k) (h k) (more k) (holds k)) own2.bank_is own2.count_is bounds) (λ u3 s3 w3 g3 f3.
    lands_add (chunk.Auth bank n) mine more f3 (stands_more g (chunk.Auth bank n) mine g3 own2) holds)))))

-- ---- chunks of any kind

pub lands_chunk : {g : Ground} {slots : List ℤ} {h : Heap} {v : Numbers} {s : State} (c : Chunk) (mine more : Heap)
    → Fits slots (All g h) v s → Stands g s.next v c mine → Holds mine h more → IsBounded g.truth more → Lands s.next v (λ u t w. Fits slots (All g more) w t) (produce_chunk c s)
lands_chunk (chunk.Points rung at share value) mine more fit stands holds bounds = lands_cell rung (record { at = at; share = share; value = value }) more fit stands holds bounds
lands_chunk (chunk.Init rung at) mine more fit stands holds bounds = lands_init rung at mine more fit stands holds
lands_chunk {h = h} {s = s} c mine more fit stands holds bounds = lands_give tt s (fits_less more (λ k. line_less_of (mine k) (h k) (more k) (holds k)) fit)

line_cells : (a b c d e f g h m : ℕ) → a ≤ e → b ≤ f → c ≤ g → d ≤ h → e + (f + (g + h)) ≤ m → a + (b + (c + d)) ≤ m
line_cells a b c d e f g h m i j k l n = omega arith

line_tokens : (a b : ℕ) (c : ℤ) → a ≤ b → pos b ≤ℤ c → pos a ≤ℤ c
line_tokens a b c h k = omega (arith, ints)

line_rest : (a b p h m : ℕ) → a + b ≤ p → p + h ≤ m → b + (a + h) ≤ m
line_rest a b p h m j k = omega arith

line_first : (a b p h m : ℕ) → a + b ≤ p → p + h ≤ m → a + h ≤ m
line_first a b p h m j k = omega arith

-- bounds of a part
pub bounded_less : {t : Truth} {more : Heap} (h : Heap) → ((k : Key) → h k ≤ more k) → IsBounded t more → IsBounded t h
bounded_less {t = t} {more = more} h l b = record {
  cells = λ c. line_cells (h (key.Cell Plain c)) (h (key.Cell Up c)) (h (key.Cell Down c)) (h (key.Cell Msg c)) (more (key.Cell Plain c)) (more (key.Cell Up c)) (more (key.Cell Down c)) (more (key.Cell Msg c)) (2 ^ 63)
      (l (key.Cell Plain c)) (l (key.Cell Up c)) (l (key.Cell Down c)) (l (key.Cell Msg c)) (b.cells c);
  tokens = λ c. line_tokens (h (key.Tokens c)) (more (key.Tokens c)) (t.bank c) (l (key.Tokens c)) (b.tokens c);
  alone = λ c. line_less (h (key.Bank c)) (more (key.Bank c)) 1 (l (key.Bank c)) (b.alone c);
  once = λ c p. line_less (h (key.Permission c p)) (more (key.Permission c p)) 1 (l (key.Permission c p)) (b.once c p);
}

pub lands_chunks : (g : Ground) {slots : List ℤ} {v : Numbers} {s : State} (cs : List Chunk) (part h more : Heap)
    → Fits slots (All g h) v s → EachStands g s.next v cs part → Holds part h more → IsBounded g.truth more → Lands s.next v (λ u t w. Fits slots (All g more) w t) (produce_chunks cs s)
lands_chunks g {s = s} [] part h more fit each holds bounds = lands_give tt s (fits_less more (λ k. line_less_of (part k) (h k) (more k) (holds k)) fit)
lands_chunks g (c ∷ cs) part h more fit each holds bounds =
    let mid : Heap = λ k. each.0 k + h k in
    lands_then (lands_chunk c each.0 mid fit each.3 (λ k. line_all (each.0 k + h k))
    (bounded_less mid (λ k. line_first (each.0 k) (each.1 k) (part k) (h k) (more k) (each.2 k) (holds k)) bounds)) (λ u t w r f.
    lands_chunks g cs each.1 mid more f (each_later g cs each.1 r each.4) (λ k. line_rest (each.0 k) (each.1 k) (part k) (h k) (more k) (each.2 k) (holds k)) bounds)
