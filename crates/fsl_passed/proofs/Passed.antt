-- Each assertion passed on.
use Rattle.std.proofs.Common.{◌≡◌, ℕ, ◌+◌, ◌-◌, ◌<◌, ◌≤◌, true, false, List, ◌∷◌, ◌++◌, Option, Some, None, ℤ, pos, ◌-ℤ◌, refl, ap, sym, subst, ◌∙◌, arith}
use Rattle.std.proofs.lemmas.Int.{ints}
use Rattle.fsl_core.specs.declared.assertion.Pat.{Pat}
use Rattle.fsl_core.specs.declared.assertion.Pat.TheVariants as pat
use Rattle.fsl_core.specs.declared.chunk.Chunk.{Chunk}
use Rattle.fsl_core.specs.declared.chunk.Chunk.TheVariants as chunk
use Rattle.fsl_core.specs.declared.mode.Rung.{Rung}
use Rattle.fsl_core.specs.declared.mode.Rung.TheVariants.{Msg}
use Rattle.fsl_core.specs.declared.verdict.Mood.TheVariants as mood
use Rattle.fsl_core.specs.logic.States.{Env, State}
use Rattle.fsl_core.specs.logic.Chunks.{Found, Cell}
use Rattle.fsl_core.specs.logic.Producing.{Wanted, any}
use Rattle.fsl_core.specs.logic.Consuming.{Consume}
use Rattle.fsl_core.specs.logic.Messages.{Held, Taking, by_thread, left_in, pass_share}
use Rattle.fsl_lin.specs.Combination.{Combination}
use Rattle.fsl_lin.specs.Numbers.{Numbers}
use Rattle.fsl_meaning.specs.Means.{Means, AllMean, IsKnown}
use Rattle.fsl_meaning.specs.Heaps.{Key, Key as key, Heap, nothing, some_of, less, Holds, Ground}
use Rattle.fsl_meaning.specs.States.{OwnsCell, Stands, EachStands, Owns, All, Fits}
use Rattle.fsl_meaning.specs.Branches.{Lands}
use Rattle.fsl_meaning.proofs.Terms.{grows_here, means_more, means_as, means_minus, known_more, all_more}
use Rattle.fsl_meaning.proofs.Calculus.{lands_then, lands_give, tells_then}
use Rattle.fsl_meaning.proofs.Heaps.{some_self}
use Rattle.fsl_meaning.proofs.Owned.{IsFirst, pull, insert, each_less, each_later, owns_more}
use Rattle.fsl_meaning.proofs.Joining.{tells_fitting}
use Rattle.fsl_asserted.specs.Needs.{Asks, matched}
use Rattle.fsl_asserted.specs.Fitting.{ConsumeFits}
use Rattle.fsl_asserted.proofs.Asking.{some_is, some_there, value_is, HasShare, less_parts, rest_less, both_less, part_within}
use Rattle.fsl_asserted.proofs.Consuming.{tells_match, RestIs, lands_rest, lands_consume_cell}
use Rattle.fsl_asserted.proofs.Terms.{WantedMeans}
use Rattle.fsl_kept.specs.Changes.{lifted}
use Rattle.fsl_passed.specs.Passing.{chunks_of, EachHeld, AllHeld, PassFits}
use Rattle.fsl_passed.proofs.Holding.{held_more, chunks_between, chunks_without, held_without, held_with, lifted_nothing, lifted_some, some_both, passed_known}

line_none : (a : ℕ) → a ≡ a + 0
line_none a = omega arith

line_same : (n a : ℕ) → n ≡ 0 → a ≡ n + a
line_same n a e = omega arith

line_more : (a b : ℕ) → a ≤ a + b
line_more a b = omega arith

line_self : (a : ℕ) → a ≤ a
line_self a = omega arith

-- ---- by the thread alone

pub by_thread_fits : (g : Ground) (c : Consume) (asked : Asks) → ConsumeFits g c asked → PassFits g (by_thread c) asked
by_thread_fits g c asked consumes second past message thread slots v s env held xs fit owns is_held all =
    lands_then (consumes mood.Cond second thread slots v s env xs fit all) (λ e t w r a.
    lands_give (record { env = e; held = held }) t (record {
      need = a.need;
      is = a.is;
      known = passed_known g second a.need.claims a.known;
      given = nothing;
      kept = message;
      added = a.need.heap;
      left = a.left;
      message_is = λ k. line_none (message k);
      thread_is = a.parts;
      need_is = λ k. line_same (lifted Msg second nothing k) (a.need.heap k) (lifted_nothing Msg second k);
      fits = a.fits;
      owns = owns_more r owns;
      held = held_more (λ k. past k + nothing k) r (λ k. line_more (past k) (nothing k)) is_held;
      env = a.env;
    }))

-- ---- a chunk of the message

-- a chunk of the message was found, and stands for a part of it
pub record IsTaken (g : Ground) (n : ℕ) (v : Numbers) (past message : Heap) (before behind : List Held) (h : Held) : Type 0 where
  pub mine : Heap
  pub rest : Heap
  pub holds : Holds mine rest message
  pub stands : Stands g n v h.chunk mine
  pub others : EachStands g n v (chunks_of (before ++ behind)) rest
  pub held : EachHeld n v past (before ++ behind)

pub taken_of : {X : Type 0} {g : Ground} {n : ℕ} {v : Numbers} {past message : Heap} {held : List Held} (reads : Held → Option X) (f : Found Held X) → Owns g n v (chunks_of held) message
    → AllHeld n v past held
    → (i : IsFirst reads held f) → IsTaken g n v past message f.before f.behind i.item
taken_of {g = g} {n = n} {v = v} {past = past} {message = message} {held = held} reads f owns is_held i =
    let each : EachStands g n v (chunks_of f.before ++ i.item.chunk ∷ chunks_of f.behind) message =
    subst (λ (cs : List Chunk). EachStands g n v cs message) (ap (λ (hs : List Held). chunks_of hs) i.list ∙ chunks_between f.before i.item f.behind) owns.each in
    let p = pull (chunks_of f.before) i.item.chunk (chunks_of f.behind) message each in
    record {
      mine = p.mine;
      rest = p.rest;
      holds = p.holds;
      stands = p.stands;
      others = subst (λ (cs : List Chunk). EachStands g n v cs p.rest) (sym (chunks_without f.before f.behind)) p.each;
      held = held_without n v past f.before i.item f.behind (subst (λ (hs : List Held). EachHeld n v past hs) i.list is_held.each);
    }

-- ---- shares

line_trans : (a b c : ℕ) → a ≤ b → b ≤ c → a ≤ c
line_trans a b c h k = omega arith

line_zero : (a : ℕ) → a ≡ a + 0
line_zero a = omega arith

line_past : (p n m : ℕ) → 1 ≤ n → n ≤ m → 1 ≤ p + m
line_past p n m h k = omega arith

line_some : (a b : ℕ) → b < a → 1 ≤ a - b
line_some a b h = omega arith

line_less : (a b m : ℕ) → a ≤ m → a - b ≤ m - b
line_less a b m h = omega arith

-- what is left of the message's chunk
left_held : (g : Ground) (n : ℕ) (v : Numbers) (past message mine rest : Heap) (f : Found Held Cell) (loc : ℤ) (a b : ℕ) (o : Option Combination) → 1 ≤ b → Means n v f.is.at loc
    → IsKnown n v f.is.value (g.truth.value loc)
    → a ≤ mine (key.Cell Msg loc) → b ≤ a → RestIs n v a b o → Holds mine rest message → EachStands g n v (chunks_of (f.before ++ f.behind)) rest → EachHeld n v past (f.before ++ f.behind)
    → EachStands g n v (chunks_of (left_in f o)) (less message (key.Cell Msg loc) b) × EachHeld n v (λ k. past k + some_of (key.Cell Msg loc) b k) (left_in f o)
left_held g n v past message mine rest f loc a b None some at_is value_is there few r holds others held =
    let cell = key.Cell Msg loc in (
      each_less g n v (chunks_of (f.before ++ f.behind)) rest (less message cell b) (rest_less mine rest message cell b holds (line_trans b a (mine cell) few there)) others,
      (held_more {n = n} {m = n} {v = v} {w = v} {past = past} {held = f.before ++ f.behind} (λ k. past k + some_of cell b k) grows_here (λ k. line_more (past k) (some_of cell b k))
          (record { each = held })).each,
    )
left_held g n v past message mine rest f loc a b (Some r) some at_is value_is there few r_is holds others held =
    let cell = key.Cell Msg loc in
    let item : Held = record { chunk = chunk.Points Msg f.is.at r f.is.value; touched = true } in
    let stands : OwnsCell g n v Msg f.is.at r f.is.value (less mine cell b) = record {
      loc = loc;
      amount = a - b;
      at_is = at_is;
      share_is = r_is.1;
      some = line_some a b r_is.0;
      value_is = value_is;
      there = subst (λ (m : ℕ). a - b ≤ mine cell - m) (sym (some_self cell b)) (line_less a b (mine cell) there);
    } in
    let inner : EachStands g n v (chunks_of f.before ++ chunks_of f.behind) rest = subst (λ (cs : List Chunk). EachStands g n v cs rest) (chunks_without f.before f.behind) others in
    let all : EachStands g n v (chunks_of f.before ++ item.chunk ∷ chunks_of f.behind) (less message cell b) =
    insert g n v (chunks_of f.before) item.chunk (chunks_of f.behind) (less mine cell b) rest (less message cell b)
    (both_less mine rest message cell b holds (line_trans b a (mine cell) few there)) stands inner in
    let more : EachHeld n v (λ k. past k + some_of cell b k) (f.before ++ f.behind) =
    (held_more {n = n} {m = n} {v = v} {w = v} {past = past} {held = f.before ++ f.behind} (λ k. past k + some_of cell b k) grows_here (λ k. line_more (past k) (some_of cell b k))
    (record { each = held })).each in
    let got : 1 ≤ past cell + some_of cell b cell = line_past (past cell) b (some_of cell b cell) some (some_there cell b) in (
      subst (λ (cs : List Chunk). EachStands g n v cs (less message cell b)) (sym (chunks_between f.before item f.behind)) all,
      held_with n v (λ k. past k + some_of cell b k) f.before item f.behind (record { at_msg = refl; touched = λ e. record { loc = loc; at_is = at_is; some = got } }) more,
    )

line_give : (x y : ℕ) → x ≡ y → x ≡ y + 0
line_give x y e = omega arith

line_thread : (a : ℕ) → a ≡ a + 0
line_thread a = omega arith

-- a share of a cell was taken from the message and from the thread
pub record PassesCell (g : Ground) (slots : List ℤ) (second : Rung) (past : Heap) (p : Pat) (loc z : ℤ) (xs : List ℤ) (message thread : Heap) (t : Taking) (s : State) (w : Numbers) : Type 0 where
  pub share : HasShare z
  pub numbers : List ℤ
  pub matches : matched p (g.truth.value loc) xs ≡ Some numbers
  pub given : Heap
  pub kept : Heap
  pub added : Heap
  pub left : Heap
  pub message_is : (k : Key) → message k ≡ kept k + given k
  pub thread_is : (k : Key) → thread k ≡ left k + added k
  pub need_is : (k : Key) → some_of (key.Cell second loc) share.amount k ≡ lifted Msg second given k + added k
  pub fits : Fits slots (All g left) w s
  pub owns : Owns g s.next w (chunks_of t.held) kept
  pub held : AllHeld s.next w (λ k. past k + given k) t.held
  pub env : AllMean s.next w t.env numbers

-- the message has enough of it
pub enough_lands : (g : Ground) {slots : List ℤ} {v : Numbers} {s : State} (second : Rung) (past message thread : Heap) (env : Env) (held : List Held) (xs : List ℤ) (at k : Combination)
    (p : Pat) (x : Wanted Combination) (loc z : ℤ)
    (share : HasShare z) (f : Found Held Cell) (a : ℕ) (mine rest : Heap) → Fits slots (All g thread) v s → AllMean s.next v env xs → WantedMeans s.next v xs p x → Means s.next v k (pos share.amount)
    → Means s.next v f.is.at loc → Means s.next v f.is.share (pos a) → IsKnown s.next v f.is.value (g.truth.value loc) → a ≤ mine (key.Cell Msg loc) → share.amount ≤ a → Holds mine rest message
    → EachStands g s.next v (chunks_of (f.before ++ f.behind)) rest → EachHeld s.next v past (f.before ++ f.behind)
    → Lands s.next v (λ t u w. PassesCell g slots second past p loc z xs message thread t u w) (pass_share second at k x (record { env = env; held = held }) f true s)
enough_lands g {slots = slots} {v = v} {s = s} second past message thread env held xs at k p x loc z share f a mine rest fit all x_is k_is at_is share_is value_is there few holds others is_held =
    let cell = key.Cell Msg loc in
    let b = share.amount in
    tells_then _ (tells_match p x f.is.value (g.truth.value loc) fit x_is value_is all) (λ e m.
    lands_then (lands_rest f.is.share k fit share_is k_is few) (λ o t w r c.
    let here = left_held g t.next w past message mine rest f loc a b o share.some (means_more r at_is) (known_more f.is.value (g.truth.value loc) r value_is) there few c.rest holds
    (each_later g (chunks_of (f.before ++ f.behind)) rest r others) (held_more {held = f.before ++ f.behind} past r (λ q. line_self (past q)) (record { each = is_held })).each in
    lands_give (record { env = e; held = left_in f o }) t (record {
      share = share;
      numbers = m.numbers;
      matches = m.is;
      given = some_of cell b;
      kept = less message cell b;
      added = nothing;
      left = thread;
      message_is = less_parts message cell b (part_within mine rest message cell b holds (line_trans b a (mine cell) few there));
      thread_is = λ q. line_thread (thread q);
      need_is = λ q. line_give (some_of (key.Cell second loc) b q) (lifted Msg second (some_of cell b) q) (lifted_some Msg second loc b q);
      fits = c.fits;
      owns = record { each = here.0 };
      held = record { each = here.1 };
      env = all_more r m.env;
    })))

line_lacks : (a b : ℕ) → a < b → pos b -ℤ pos a ≡ pos (b - a)
line_lacks a b h = omega (arith, ints)

line_amount : (a b n : ℕ) → a < b → n ≡ b - a → a + n ≡ b
line_amount a b n h e = omega arith

line_pos : (a b : ℕ) → pos a ≡ pos b → b ≡ a
line_pos a b h = omega (arith, ints)

line_need : (x y u w m : ℕ) → u + w ≡ m → x ≡ m → y ≡ u → x ≡ y + w
line_need x y u w m e h k = omega arith

-- the message has some of it, and the thread adds what lacks
pub lacking_lands : (g : Ground) {slots : List ℤ} {v : Numbers} {s : State} (second : Rung) (past message thread : Heap) (env : Env) (held : List Held) (xs : List ℤ) (at k : Combination)
    (p : Pat) (x : Wanted Combination) (loc z : ℤ)
    (share : HasShare z) (f : Found Held Cell) (a : ℕ) (mine rest : Heap) → Fits slots (All g thread) v s → AllMean s.next v env xs → WantedMeans s.next v xs p x → Means s.next v at loc
    → Means s.next v k (pos share.amount)
    → Means s.next v f.is.share (pos a) → IsKnown s.next v f.is.value (g.truth.value loc) → a ≤ mine (key.Cell Msg loc) → a < share.amount → Holds mine rest message
    → EachStands g s.next v (chunks_of (f.before ++ f.behind)) rest → EachHeld s.next v past (f.before ++ f.behind)
    → Lands s.next v (λ t u w. PassesCell g slots second past p loc z xs message thread t u w) (pass_share second at k x (record { env = env; held = held }) f false s)
lacking_lands g {slots = slots} {v = v} {s = s} second past message thread env held xs at k p x loc z share f a mine rest fit all x_is at_is k_is share_is value_is there few holds others is_held =
    let cell = key.Cell Msg loc in
    let b = share.amount in
    tells_then _ (tells_match p x f.is.value (g.truth.value loc) fit x_is value_is all) (λ e m.
    tells_then _ (tells_fitting (means_as (line_lacks a b few) (means_minus k_is share_is))) (λ r r_is.
    lands_then (lands_consume_cell {xs = m.numbers} second at r pat.Any any fit at_is r_is refl m.env) (λ e2 t w q c.
    let n = c.share.amount in
    let same : n ≡ b - a = line_pos (b - a) n c.share.is in
    let whole : a + n ≡ b = line_amount a b n few same in
    let numbers_are : m.numbers ≡ c.numbers = some_is c.matches in
    lands_give (record { env = e; held = f.before ++ f.behind }) t (record {
      share = share;
      numbers = m.numbers;
      matches = m.is;
      given = some_of cell a;
      kept = less message cell a;
      added = some_of (key.Cell second loc) n;
      left = less thread (key.Cell second loc) n;
      message_is = less_parts message cell a (part_within mine rest message cell a holds there);
      thread_is = less_parts thread (key.Cell second loc) n c.enough;
      need_is = λ y. line_need (some_of (key.Cell second loc) b y) (lifted Msg second (some_of cell a) y) (some_of (key.Cell second loc) a y) (some_of (key.Cell second loc) n y)
          (some_of (key.Cell second loc) (a + n) y)
          (some_both (key.Cell second loc) a n y) (ap (λ (i : ℕ). some_of (key.Cell second loc) i y) (sym whole)) (sym (lifted_some Msg second loc a y));
      fits = c.fits;
      owns = record {
        each = each_less g t.next w (chunks_of (f.before ++ f.behind)) rest (less message cell a) (rest_less mine rest message cell a holds there)
            (each_later g (chunks_of (f.before ++ f.behind)) rest q others);
      };
      held = held_more (λ y. past y + some_of cell a y) q (λ y. line_more (past y) (some_of cell a y)) (record { each = is_held });
      env = all_more q m.env;
    }))))
