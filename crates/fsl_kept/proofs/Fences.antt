-- Fences: what stands at down is there to be used, and what is given goes up.
use Rattle.std.proofs.Common.{◌≡◌, ℕ, ◌+◌, ◌≤◌, ◌^◌, Bool, true, false, not, cond, List, [], ◌∷◌, map, Some, ℤ, pos, ◌≤ℤ◌, if◌then◌else◌, refl, sym, subst, ◌∙◌, arith}
use Rattle.std.specs.List.{filter}
use Rattle.fsl_core.specs.declared.assertion.Asrt.{Asrt}
use Rattle.fsl_core.specs.declared.chunk.Chunk.{Chunk}
use Rattle.fsl_core.specs.declared.chunk.Chunk.TheVariants as chunk
use Rattle.fsl_core.specs.declared.declaration.Inv.{Inv}
use Rattle.fsl_core.specs.declared.mode.Mode.{Mode}
use Rattle.fsl_core.specs.declared.mode.Rung.{Rung}
use Rattle.fsl_core.specs.declared.mode.Rung.TheVariants.{Plain, Up, Down, Msg}
use Rattle.fsl_core.specs.declared.verdict.Mood.TheVariants as mood
use Rattle.fsl_core.specs.Modes.{acquires, releases}
use Rattle.fsl_core.specs.logic.States.{State}
use Rattle.fsl_core.specs.logic.Chunks.{same_rung}
use Rattle.fsl_core.specs.logic.Joining.{at_rung}
use Rattle.fsl_core.specs.logic.Assertions.{asrt_of}
use Rattle.fsl_core.specs.logic.Fences.{is_at, acquire, release, only, fence}
use Rattle.fsl_lin.specs.Numbers.{Numbers}
use Rattle.fsl_meaning.specs.Heaps.{Key, Key as key, Heap, Holds, Truth, Claim, Claim as claim, Ground, Knows, AllKnown, IsBounded}
use Rattle.fsl_meaning.specs.States.{Stands, EachStands, All, Fits}
use Rattle.fsl_meaning.specs.Branches.{Lands}
use Rattle.fsl_meaning.proofs.Terms.{all_more}
use Rattle.fsl_meaning.proofs.Calculus.{lands_then, lands_give, lands_end}
use Rattle.fsl_meaning.proofs.Heaps.{same_rung_is, same_rung_self}
use Rattle.fsl_meaning.proofs.Owned.{each_less}
use Rattle.fsl_meaning.proofs.Joining.{lands_chunks}
use Rattle.fsl_asserted.specs.Needs.{Need, asks}
use Rattle.fsl_asserted.specs.Carried.{moved, claim_at, carried, IsPlain}
use Rattle.fsl_asserted.proofs.Asking.{some_is}
use Rattle.fsl_asserted.proofs.Carried.{asks_carried}
use Rattle.fsl_asserted.proofs.Trees.{produce_fits, consume_fits}
use Rattle.fsl_kept.specs.Changes.{lifted, without, acquired}
use Rattle.fsl_kept.specs.Results.{SetsApart, FencedBy, Fenced}

-- ---- chunks of a rung, and the others

if_sum : (b : Bool) (x y z : ℕ) → x + y ≤ z → (if b then x else 0) + (if b then y else 0) ≤ (if b then z else 0)
if_sum true x y z h = h
if_sum false x y z h = omega arith

else_sum : (b : Bool) (x y z : ℕ) → x + y ≤ z → (if b then 0 else x) + (if b then 0 else y) ≤ (if b then 0 else z)
else_sum true x y z h = omega arith
else_sum false x y z h = h

line_none : 0 + 0 ≤ 0
line_none = omega arith

lifted_holds : (from to : Rung) (a b h : Heap) → Holds a b h → Holds (lifted from to a) (lifted from to b) (lifted from to h)
lifted_holds from to a b h holds (key.Cell r l) = if_sum (same_rung to r) (a (key.Cell from l)) (b (key.Cell from l)) (h (key.Cell from l)) (holds (key.Cell from l))
lifted_holds from to a b h holds (key.Permission l p) = line_none
lifted_holds from to a b h holds (key.Tokens c) = line_none
lifted_holds from to a b h holds (key.Bank c) = line_none

without_holds : (rung : Rung) (a b h : Heap) → Holds a b h → Holds (without rung a) (without rung b) (without rung h)
without_holds rung a b h holds (key.Cell r l) = else_sum (same_rung rung r) (a (key.Cell r l)) (b (key.Cell r l)) (h (key.Cell r l)) (holds (key.Cell r l))
without_holds rung a b h holds (key.Permission l p) = holds (key.Permission l p)
without_holds rung a b h holds (key.Tokens c) = holds (key.Tokens c)
without_holds rung a b h holds (key.Bank c) = holds (key.Bank c)

line_right : (a b h : ℕ) → a + b ≤ h → b ≤ h
line_right a b h l = omega arith

if_self : (b : Bool) (n m : ℕ) → b ≡ true → n ≤ m → n ≤ (if b then m else 0)
if_self true n m e l = l
if_self false n m e l = absurd (cc)

if_none : (b : Bool) (n m : ℕ) → b ≡ false → n ≤ m → n ≤ (if b then 0 else m)
if_none true n m e l = absurd (cc)
if_none false n m e l = l

-- a chunk of a rung stands for the same at another one
pub stands_lifted : (g : Ground) (n : ℕ) (v : Numbers) (from to : Rung) (c : Chunk) (h : Heap) → ((l : ℤ) → Knows g (claim.IsInit from l) → Knows g (claim.IsInit to l))
    → is_at from c ≡ true → Stands g n v c h → Stands g n v (at_rung to c) (lifted from to h)
stands_lifted g n v from to (chunk.Points r at share value) h knows e o =
    let same : r ≡ from = same_rung_is r from e in
    let there : o.amount ≤ h (key.Cell from o.loc) = subst (λ (q : Rung). o.amount ≤ h (key.Cell q o.loc)) same o.there in
    record {
      loc = o.loc;
      amount = o.amount;
      at_is = o.at_is;
      share_is = o.share_is;
      some = o.some;
      value_is = o.value_is;
      there = if_self (same_rung to to) o.amount (h (key.Cell from o.loc)) (same_rung_self to) there;
    }
stands_lifted g n v from to (chunk.Init r at) h knows e o =
    let same : r ≡ from = same_rung_is r from e in
    record { loc = o.loc; at_is = o.at_is; known = knows o.loc (subst (λ (q : Rung). g.knows (claim.IsInit q o.loc) ≡ true) same o.known) }
stands_lifted g n v from to (chunk.Rel at inv args) h knows e o = absurd (let d : false ≡ true = e in cc)
stands_lifted g n v from to (chunk.Acq at inv args part out) h knows e o = absurd (let d : false ≡ true = e in cc)
stands_lifted g n v from to (chunk.RmwAcq at inv args) h knows e o = absurd (let d : false ≡ true = e in cc)
stands_lifted g n v from to (chunk.Tok bank k) h knows e o = absurd (let d : false ≡ true = e in cc)
stands_lifted g n v from to (chunk.Auth bank k) h knows e o = absurd (let d : false ≡ true = e in cc)

other_rung : (rung r : Rung) → same_rung r rung ≡ false → same_rung rung r ≡ false
other_rung Plain Plain e = e
other_rung Plain Up e = e
other_rung Plain Down e = e
other_rung Plain Msg e = e
other_rung Up Plain e = e
other_rung Up Up e = e
other_rung Up Down e = e
other_rung Up Msg e = e
other_rung Down Plain e = e
other_rung Down Up e = e
other_rung Down Down e = e
other_rung Down Msg e = e
other_rung Msg Plain e = e
other_rung Msg Up e = e
other_rung Msg Down e = e
other_rung Msg Msg e = e

-- another chunk needs nothing of it
pub stands_without : (g : Ground) (n : ℕ) (v : Numbers) (rung : Rung) (c : Chunk) (h : Heap) → is_at rung c ≡ false → Stands g n v c h → Stands g n v c (without rung h)
stands_without g n v rung (chunk.Points r at share value) h e o = record {
  loc = o.loc;
  amount = o.amount;
  at_is = o.at_is;
  share_is = o.share_is;
  some = o.some;
  value_is = o.value_is;
  there = if_none (same_rung rung r) o.amount (h (key.Cell r o.loc)) (other_rung rung r e) o.there;
}
stands_without g n v rung (chunk.Init r at) h e o = o
stands_without g n v rung (chunk.Rel at inv args) h e o = o
stands_without g n v rung (chunk.Acq at inv args part out) h e o = record {
  loc = o.loc;
  numbers = o.numbers;
  excluded = o.excluded;
  at_is = o.at_is;
  args_are = o.args_are;
  out_are = o.out_are;
  known = o.known;
  within = o.within;
  there = o.there;
}
stands_without g n v rung (chunk.RmwAcq at inv args) h e o = o
stands_without g n v rung (chunk.Tok bank k) h e o = record { number = o.number; amount = o.amount; bank_is = o.bank_is; count_is = o.count_is; there = o.there }
stands_without g n v rung (chunk.Auth bank k) h e o = record { number = o.number; bank_is = o.bank_is; count_is = o.count_is; there = o.there }

lifted_by : (g : Ground) (n : ℕ) (v : Numbers) (from to : Rung) (c : Chunk) (cs : List Chunk) (mine rest h : Heap) → Holds mine rest h → (b : Bool)
    → (b ≡ true → Stands g n v (at_rung to c) (lifted from to mine)) → EachStands g n v (map (at_rung to) cs) (lifted from to rest) → EachStands g n v (map (at_rung to) (cond b (c ∷ cs) cs)) (lifted from to h)
lifted_by g n v from to c cs mine rest h holds true s o = (lifted from to mine, lifted from to rest, lifted_holds from to mine rest h holds, s refl, o)
lifted_by g n v from to c cs mine rest h holds false s o =
    each_less g n v (map (at_rung to) cs) (lifted from to rest) (lifted from to h)
    (λ k. line_right (lifted from to mine k) (lifted from to rest k) (lifted from to h k) (lifted_holds from to mine rest h holds k)) o

-- the chunks of the rung, lifted
pub each_lifted : (g : Ground) (n : ℕ) (v : Numbers) (from to : Rung) (cs : List Chunk) (h : Heap) → ((l : ℤ) → Knows g (claim.IsInit from l) → Knows g (claim.IsInit to l))
    → EachStands g n v cs h → EachStands g n v (map (at_rung to) (filter (is_at from) cs)) (lifted from to h)
each_lifted g n v from to [] h knows o = tt
each_lifted g n v from to (c ∷ cs) h knows o =
    lifted_by g n v from to c (filter (is_at from) cs) o.0 o.1 h o.2 (is_at from c) (λ e. stands_lifted g n v from to c o.0 knows e o.3) (each_lifted g n v from to cs o.1 knows o.4)

without_by : (g : Ground) (n : ℕ) (v : Numbers) (rung : Rung) (c : Chunk) (cs : List Chunk) (mine rest h : Heap) → Holds mine rest h → (b : Bool)
    → (b ≡ false → Stands g n v c (without rung mine)) → EachStands g n v cs (without rung rest) → EachStands g n v (cond (not b) (c ∷ cs) cs) (without rung h)
without_by g n v rung c cs mine rest h holds true s o =
    each_less g n v cs (without rung rest) (without rung h) (λ k. line_right (without rung mine k) (without rung rest k) (without rung h k) (without_holds rung mine rest h holds k)) o
without_by g n v rung c cs mine rest h holds false s o = (without rung mine, without rung rest, without_holds rung mine rest h holds, s refl, o)

-- and the others
pub each_without : (g : Ground) (n : ℕ) (v : Numbers) (rung : Rung) (cs : List Chunk) (h : Heap) → EachStands g n v cs h → EachStands g n v (filter (λ c. not (is_at rung c)) cs) (without rung h)
each_without g n v rung [] h o = tt
each_without g n v rung (c ∷ cs) h o =
    without_by g n v rung c (filter (λ c. not (is_at rung c)) cs) o.0 o.1 h o.2 (is_at rung c) (λ e. stands_without g n v rung c o.0 e o.3) (each_without g n v rung cs o.1 o.4)

-- ---- acquiring

line_cells : (a b c d m : ℕ) → a + (b + (c + d)) ≤ m → (c + a) + ((0 + b) + ((0 + 0) + (0 + d))) ≤ m
line_cells a b c d m h = omega arith

line_one : (a m : ℕ) → a ≤ m → 0 + a ≤ m
line_one a m h = omega arith

same_count : (n : ℕ) (b : ℤ) → pos n ≤ℤ b → pos (0 + n) ≤ℤ b
same_count n b h = let e : 0 + n ≡ n = omega arith in subst (λ (k : ℕ). pos k ≤ℤ b) (sym e) h

pub acquired_bounds : (t : Truth) (h : Heap) → IsBounded t h → IsBounded t (acquired h)
acquired_bounds t h b = record {
  cells = λ l. line_cells (h (key.Cell Plain l)) (h (key.Cell Up l)) (h (key.Cell Down l)) (h (key.Cell Msg l)) (2 ^ 63) (b.cells l);
  tokens = λ c. same_count (h (key.Tokens c)) (t.bank c) (b.tokens c);
  alone = λ c. line_one (h (key.Bank c)) 1 (b.alone c);
  once = λ l p. line_one (h (key.Permission l p)) 1 (b.once l p);
}

line_self : (a : ℕ) → a ≤ a
line_self a = omega arith

-- what was gained by relaxed reads may be used
pub acquire_fits : {g : Ground} {slots : List ℤ} {v : Numbers} {s : State} {h : Heap} → ((l : ℤ) → Knows g (claim.IsInit Down l) → Knows g (claim.IsInit Plain l)) → IsBounded g.truth h → Fits slots (All g h) v s
    → Lands s.next v (λ u t w. Fits slots (All g (acquired h)) w t) (acquire s)
acquire_fits {g = g} {slots = slots} {v = v} {s = s} {h = h} knows bounds fit =
    let taken : State = record s { chunks = filter (λ c. not (is_at Down c)) s.chunks } in
    let left : Fits slots (All g (without Down h)) v taken = record { one = fit.one; facts = fit.facts; env = fit.env; owns = record { each = each_without g s.next v Down s.chunks h fit.owns.each } } in
    lands_end _ (lands_chunks g {v = v} {s = taken} (map (at_rung Plain) (filter (is_at Down) s.chunks)) (lifted Down Plain h) (without Down h) (acquired h) left
    (each_lifted g s.next v Down Plain s.chunks h knows fit.owns.each) (λ k. line_self (acquired h k)) (acquired_bounds g.truth h bounds))

-- ---- releasing

-- what is asked for stands at plain alone
plain_need : (invs : List Inv) (t : Truth) (a : Asrt) (xs : List ℤ) (n : Need) → IsPlain invs a → asks t a Plain xs ≡ Some n → n ≡ carried Plain Plain n
plain_need invs t a xs n plain e = some_is (sym e ∙ asks_carried invs t a Plain Plain xs n plain e)

known_up : (g : Ground) (cs : List Claim) → ((l : ℤ) → Knows g (claim.IsInit Plain l) → Knows g (claim.IsInit Up l)) → AllKnown g (map (claim_at Plain) cs) → AllKnown g (map (claim_at Up) cs)
known_up g [] knows k = tt
known_up g (claim.IsInit r l ∷ cs) knows k = (knows l k.0, known_up g cs knows k.1)
known_up g (claim.MayWrite l i xs ∷ cs) knows k = (k.0, known_up g cs knows k.1)
known_up g (claim.MayRead l i xs ∷ cs) knows k = (k.0, known_up g cs knows k.1)
known_up g (claim.MayUpdate l i xs ∷ cs) knows k = (k.0, known_up g cs knows k.1)

line_apart : (hp hu hd hm lp lu ld lm n m : ℕ) → hp + (hu + (hd + hm)) ≤ m → hp ≡ lp + n → lu ≤ hu → ld ≤ hd → lm ≤ hm → (0 + lp) + ((n + lu) + ((0 + ld) + (0 + lm))) ≤ m
line_apart hp hu hd hm lp lu ld lm n m h e i j k = omega arith

line_left : (h l n : ℕ) → h ≡ l + n → l ≤ h
line_left h l n e = omega arith

line_same : (h l n m : ℕ) → h ≡ l + n → h ≤ m → n + l ≤ m
line_same h l n m e k = omega arith

same_tokens : (h l n : ℕ) (b : ℤ) → h ≡ l + n → pos h ≤ℤ b → pos (n + l) ≤ℤ b
same_tokens h l n b e k = let d : h ≡ n + l = omega arith in subst (λ (z : ℕ). pos z ≤ℤ b) d k

apart_bounds : (t : Truth) (h left need : Heap) → ((k : Key) → h k ≡ left k + need k) → IsBounded t h → IsBounded t (λ k. moved Plain Up need k + left k)
apart_bounds t h left need parts b = record {
  cells = λ l. line_apart (h (key.Cell Plain l)) (h (key.Cell Up l)) (h (key.Cell Down l)) (h (key.Cell Msg l)) (left (key.Cell Plain l)) (left (key.Cell Up l)) (left (key.Cell Down l)) (left (key.Cell Msg l))
      (need (key.Cell Plain l)) (2 ^ 63) (b.cells l) (parts (key.Cell Plain l)) (line_left (h (key.Cell Up l)) (left (key.Cell Up l)) (need (key.Cell Up l)) (parts (key.Cell Up l)))
      (line_left (h (key.Cell Down l)) (left (key.Cell Down l)) (need (key.Cell Down l)) (parts (key.Cell Down l))) (line_left (h (key.Cell Msg l)) (left (key.Cell Msg l)) (need (key.Cell Msg l)) (parts (key.Cell Msg l)));
  tokens = λ c. same_tokens (h (key.Tokens c)) (left (key.Tokens c)) (need (key.Tokens c)) (t.bank c) (parts (key.Tokens c)) (b.tokens c);
  alone = λ c. line_same (h (key.Bank c)) (left (key.Bank c)) (need (key.Bank c)) 1 (parts (key.Bank c)) (b.alone c);
  once = λ l p. line_same (h (key.Permission l p)) (left (key.Permission l p)) (need (key.Permission l p)) 1 (parts (key.Permission l p)) (b.once l p);
}

pub release_fits : {g : Ground} {slots : List ℤ} {v : Numbers} {s : State} {h : Heap} (invs : List Inv) (a : Asrt) → IsPlain invs a → ((l : ℤ) → Knows g (claim.IsInit Plain l) → Knows g (claim.IsInit Up l))
    → IsBounded g.truth h → Fits slots (All g h) v s → Lands s.next v (λ u t w. SetsApart g slots a h t w) (release (asrt_of a) s)
release_fits {g = g} {slots = slots} {v = v} {s = s} {h = h} invs a plain knows bounds fit =
    lands_end _ (lands_then (consume_fits g a mood.Cond Plain h slots v s s.env slots fit fit.env) (λ e t w r given.
    let n = given.need in
    let up = carried Plain Up n in
    let asked = asks_carried invs g.truth a Plain Up slots n plain given.is in
    let known_plain : AllKnown g (map (claim_at Plain) n.claims) = subst (λ (z : Need). AllKnown g z.claims) (plain_need invs g.truth a slots n plain given.is) given.known in
    let more : Heap = λ k. moved Plain Up n.heap k + given.left k in
    lands_then (produce_fits g a Up up given.left more slots w t s.env slots given.fits (all_more r fit.env) asked (known_up g n.claims knows known_plain) (λ k. line_self (more k)) (apart_bounds g.truth h given.left n.heap given.parts bounds)) (λ e2 t2 w2 r2 gains.
    lands_give tt t2 (record { need = n; is = given.is; known = given.known; left = given.left; parts = given.parts; fits = gains.fits }))))

-- ---- fences

acquire_by : {g : Ground} {slots : List ℤ} {v : Numbers} {s : State} {h : Heap} (b : Bool) → (b ≡ true → (l : ℤ) → Knows g (claim.IsInit Down l) → Knows g (claim.IsInit Plain l)) → IsBounded g.truth h → Fits slots (All g h) v s
    → Lands s.next v (λ u t w. Fits slots (All g (if b then acquired h else h)) w t) (only b acquire s)
acquire_by true knows bounds fit = acquire_fits (knows refl) bounds fit
acquire_by {s = s} false knows bounds fit = lands_give tt s fit

release_by : {g : Ground} {slots : List ℤ} {v : Numbers} {s : State} {h : Heap} (b : Bool) (invs : List Inv) (a : Asrt) → (b ≡ true → IsPlain invs a)
    → (b ≡ true → (l : ℤ) → Knows g (claim.IsInit Plain l) → Knows g (claim.IsInit Up l)) → IsBounded g.truth h → Fits slots (All g h) v s
    → Lands s.next v (λ u t w. FencedBy b g slots a h t w) (only b (release (asrt_of a)) s)
release_by true invs a plain knows bounds fit = release_fits invs a (plain refl) (knows refl) bounds fit
release_by {s = s} false invs a plain knows bounds fit = lands_give tt s fit

bounds_by : (t : Truth) (h : Heap) (b : Bool) → IsBounded t h → IsBounded t (if b then acquired h else h)
bounds_by t h true bounds = acquired_bounds t h bounds
bounds_by t h false bounds = bounds

pub fence_fits : {g : Ground} {slots : List ℤ} {v : Numbers} {s : State} {h : Heap} (m : Mode) (invs : List Inv) (a : Asrt)
    → (acquires m ≡ true → (l : ℤ) → Knows g (claim.IsInit Down l) → Knows g (claim.IsInit Plain l)) → (releases m ≡ true → IsPlain invs a)
    → (releases m ≡ true → (l : ℤ) → Knows g (claim.IsInit Plain l) → Knows g (claim.IsInit Up l)) → IsBounded g.truth h → Fits slots (All g h) v s
    → Lands s.next v (λ u t w. Fenced m g slots a h t w) (fence m (asrt_of a) s)
fence_fits {g = g} {h = h} m invs a down plain up bounds fit =
    lands_then (acquire_by (acquires m) down bounds fit) (λ u t w r f. release_by (releases m) invs a plain up (bounds_by g.truth h (acquires m) bounds) f)
