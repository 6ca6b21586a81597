-- Cells, claims and several assertions passed on, and then every assertion.
use Rattle.std.proofs.Common.{◌≡◌, inl, inr, ℕ, ◌+◌, ◌<◌, ◌≤◌, Bool, true, false, nat_le, List, [], ◌∷◌, ◌++◌, map, Option, Some, None, ℤ, pos, ◌+ℤ◌, ◌-ℤ◌, ◌≤ℤ◌, if◌then◌else◌, refl, sym, subst, ◌∙◌, arith}
use Rattle.std.proofs.lemmas.Int.{ints}
use Rattle.fsl_core.specs.declared.assertion.Asrt.{Asrt}
use Rattle.fsl_core.specs.declared.assertion.Asrt.TheOpen.{Asrt-F}
use Rattle.fsl_core.specs.declared.assertion.Asrt.TheViews.{roll-Asrt}
use Rattle.fsl_core.specs.declared.assertion.Asrt.TheFolds.{ind-Asrt, map-Asrt, fold-roll-Asrt}
use Rattle.fsl_core.specs.declared.assertion.Pat.{Pat}
use Rattle.fsl_core.specs.declared.chunk.Chunk.{Chunk}
use Rattle.fsl_core.specs.declared.expr.Cond.{Cond}
use Rattle.fsl_core.specs.declared.expr.Expr.{Expr}
use Rattle.fsl_core.specs.declared.mode.Rung.{Rung}
use Rattle.fsl_core.specs.declared.mode.Rung.TheVariants.{Msg}
use Rattle.fsl_core.specs.declared.mode.Rung.TheVariants as rung
use Rattle.fsl_core.specs.declared.verdict.Kind.TheVariants as kind
use Rattle.fsl_core.specs.logic.States.{Env, State}
use Rattle.fsl_core.specs.logic.Terms.{expr_of}
use Rattle.fsl_core.specs.logic.Deciding.{cond_of}
use Rattle.fsl_core.specs.logic.Assertions.{Assertion, asrt_step, asrt_of}
use Rattle.fsl_core.specs.logic.Chunks.{Found, first, Cell, cell_at, init_at}
use Rattle.fsl_core.specs.logic.Producing.{Wanted, pat_of, chosen}
use Rattle.fsl_core.specs.logic.Messages.{Held, Passing, pass_share, pass_cell, pass_init, points_passed, init_passed, choice_passed, all_passed}
use Rattle.fsl_lin.specs.Combination.{Combination}
use Rattle.fsl_lin.specs.Numbers.{Numbers}
use Rattle.fsl_meaning.specs.Means.{Means, AllMean, IsKnown}
use Rattle.fsl_meaning.specs.Heaps.{Key as key, Heap, nothing, some_of, less, Holds, Claim as claim, Ground}
use Rattle.fsl_meaning.specs.States.{OwnsCell, KnowsInit, Stands, EachStands, Owns, All, Fits}
use Rattle.fsl_meaning.specs.Branches.{Lands, Tells}
use Rattle.fsl_meaning.proofs.Terms.{grows_here, means_more, means_as, known_more, all_more}
use Rattle.fsl_meaning.proofs.Calculus.{lands_then, lands_give, lands_as, lands_end, tells_then, tells_on, tells_give}
use Rattle.fsl_meaning.proofs.Facts.{proved_equal}
use Rattle.fsl_meaning.proofs.Deciding.{picked_at_most, lands_sides, lands_decided}
use Rattle.fsl_meaning.proofs.Owned.{first_is, each_later, owns_more, tells_find_or}
use Rattle.fsl_meaning.proofs.Readings.{cell_read, init_read}
use Rattle.fsl_asserted.specs.Exact.{exact, exact_cond}
use Rattle.fsl_asserted.specs.Needs.{need, Asks, positive, matched, points_asked, claim_asked, both_asked, all_asked, asks_step, asks}
use Rattle.fsl_asserted.proofs.Asking.{value_is, HasShare, less_parts}
use Rattle.fsl_asserted.proofs.Consuming.{tells_share, lands_consume_cell}
use Rattle.fsl_asserted.proofs.Consumed.{emp_gives, fact_gives, rel_gives, acq_gives, rmw_gives, tok_gives, auth_gives}
use Rattle.fsl_asserted.proofs.Exprs.{judges_cond}
use Rattle.fsl_asserted.proofs.Terms.{reads_term, reads_wanted, WantedMeans, wanted_more}
use Rattle.fsl_asserted.proofs.Trees.{FitsBoth, asrt_fits}
use Rattle.fsl_kept.specs.Changes.{lifted}
use Rattle.fsl_passed.specs.Passing.{chunks_of, EachHeld, AllHeld, IsPassed, Passes, PassFits}
use Rattle.fsl_passed.proofs.Holding.{held_more, lifted_nothing, lifted_both, passed_both}
use Rattle.fsl_passed.proofs.Passed.{PassesCell, by_thread_fits, taken_of, enough_lands, lacking_lands}

line_none : (a : ℕ) → a ≡ a + 0
line_none a = omega arith

line_same : (n a : ℕ) → n ≡ 0 → a ≡ n + a
line_same n a e = omega arith

line_more : (a b : ℕ) → a ≤ a + b
line_more a b = omega arith

line_self : (a : ℕ) → a ≤ a
line_self a = omega arith

-- ---- shares of cells

line_enough : (a b : ℕ) → nat_le b a ≡ true → (pos b +ℤ pos 0) ≤ℤ pos a
line_enough a b h = let l : b ≤ a = grind arith in omega (arith, ints)

line_lacks : (a b : ℕ) → nat_le b a ≡ false → (pos a +ℤ (pos 1 -ℤ pos 0)) ≤ℤ pos b
line_lacks a b h = let l : a < b = grind arith in omega (arith, ints)

is_enough : (a b : ℕ) → nat_le b a ≡ true → b ≤ a
is_enough a b h = grind arith

is_lacking : (a b : ℕ) → nat_le b a ≡ false → a < b
is_lacking a b h = grind arith

share_by : (g : Ground) {slots : List ℤ} {v : Numbers} {s : State} (second : Rung) (past message thread : Heap) (env : Env) (held : List Held) (xs : List ℤ) (a k : Combination) (p : Pat)
    (x : Wanted Combination) (loc z : ℤ) (share : HasShare z)
    (f : Found Held Cell) (amount : ℕ) (mine rest : Heap) (b : Bool) → b ≡ nat_le share.amount amount → Fits slots (All g thread) v s → AllMean s.next v env xs
    → WantedMeans s.next v xs p x → Means s.next v a loc
    → Means s.next v k (pos share.amount) → Means s.next v f.is.at loc → Means s.next v f.is.share (pos amount) → IsKnown s.next v f.is.value (g.truth.value loc) → amount ≤ mine
    (key.Cell Msg loc) → Holds mine rest message
    → EachStands g s.next v (chunks_of (f.before ++ f.behind)) rest → EachHeld s.next v past (f.before ++ f.behind)
    → Lands s.next v (λ t u w. PassesCell g slots second past p loc z xs message thread t u w) (pass_share second a k x (record { env = env; held = held }) f b s)
share_by g second past message thread env held xs a k p x loc z share f amount mine rest true e fit all x_is a_is k_is at_is share_is value_is there holds others is_held =
    enough_lands g second past message thread env held xs a k p x loc z share f amount mine rest fit all x_is k_is at_is share_is value_is there
    (is_enough amount share.amount (sym e)) holds others is_held
share_by g second past message thread env held xs a k p x loc z share f amount mine rest false e fit all x_is a_is k_is at_is share_is value_is there holds others is_held =
    lacking_lands g second past message thread env held xs a k p x loc z share f amount mine rest fit all x_is a_is k_is share_is value_is there
    (is_lacking amount share.amount (sym e)) holds others is_held

cell_lands : (g : Ground) {slots : List ℤ} {v : Numbers} {s : State} (second : Rung) (past message thread : Heap) (env : Env) (held : List Held) (xs : List ℤ) (a k : Combination) (p : Pat)
    (x : Wanted Combination) (loc z : ℤ) (share : HasShare z)
    (o : Option (Found Held Cell)) → o ≡ first (λ h. cell_at Msg a s.facts h.chunk) held → Fits slots (All g thread) v s → Owns g s.next v (chunks_of held) message
    → AllHeld s.next v past held → AllMean s.next v env xs
    → WantedMeans s.next v xs p x → Means s.next v a loc → Means s.next v k z
    → Lands s.next v (λ t u w. PassesCell g slots second past p loc z xs message thread t u w) (pass_cell second a k x (record { env = env; held = held }) o s)
cell_lands g second past message thread env held xs a k p x loc z share None e fit owns is_held all x_is a_is k_is =
    lands_then (lands_consume_cell second a k p x fit a_is k_is x_is all) (λ d t w r c.
    lands_give (record { env = d; held = held }) t (record {
      share = c.share;
      numbers = c.numbers;
      matches = c.matches;
      given = nothing;
      kept = message;
      added = some_of (key.Cell second loc) c.share.amount;
      left = less thread (key.Cell second loc) c.share.amount;
      message_is = λ q. line_none (message q);
      thread_is = less_parts thread (key.Cell second loc) c.share.amount c.enough;
      need_is = λ q. line_same (lifted Msg second nothing q) (some_of (key.Cell second loc) c.share.amount q) (lifted_nothing Msg second q);
      fits = c.fits;
      owns = owns_more r owns;
      held = held_more (λ q. past q + nothing q) r (λ q. line_more (past q) (nothing q)) is_held;
      env = c.env;
    }))
cell_lands g {slots = slots} {v = v} {s = s} second past message thread env held xs a k p x loc z share (Some f) e fit owns is_held all x_is a_is k_is =
    let reads : Held → Option Cell = λ h. cell_at Msg a s.facts h.chunk in
    let i = first_is reads held f (sym e) in
    let taken = taken_of reads f owns is_held i in
    let r = cell_read Msg a s.facts i.item.chunk f.is i.reads_as in
    let own : OwnsCell g s.next v Msg f.is.at f.is.share f.is.value taken.mine = subst (λ (c : Chunk). Stands g s.next v c taken.mine) r.0 taken.stands in
    let same : own.loc ≡ loc = proved_equal fit.one fit.facts own.at_is a_is r.1 in
    let there : own.amount ≤ taken.mine (key.Cell Msg loc) = subst (λ (l : ℤ). own.amount ≤ taken.mine (key.Cell Msg l)) same own.there in
    let value_is = subst (λ (l : ℤ). IsKnown s.next v f.is.value (g.truth.value l)) same own.value_is in
    let b_is = means_as share.is k_is in
    let amount = own.amount in
    lands_end _ (lands_then (lands_sides (picked_at_most k (pos 0) f.is.share (nat_le share.amount amount) fit b_is own.share_is (line_enough amount share.amount)
    (line_lacks amount share.amount))) (λ b t w q c.
    share_by g second past message thread env held xs a k p x loc z share f amount taken.mine taken.rest b c.0 c.1 (all_more q all) (wanted_more xs p x q x_is) (means_more q a_is) (means_more q b_is)
    (means_more q (means_as same own.at_is)) (means_more q own.share_is) (known_more f.is.value (g.truth.value loc) q value_is) there taken.holds
    (each_later g (chunks_of (f.before ++ f.behind)) taken.rest q taken.others) (held_more {held = f.before ++ f.behind} past q (λ j. line_self (past j)) (record { each = taken.held })).each))

pub points_pass : (g : Ground) (at share : Expr) (p : Pat) → PassFits g (points_passed (expr_of at) (expr_of share) (pat_of expr_of p)) (points_asked g.truth at share p)
points_pass g at share p second past message thread slots v s env held xs fit owns is_held all =
    let loc = exact at xs in
    let z = exact share xs in
    tells_then _ (reads_term at fit all) (λ a a_is.
    tells_then _ (reads_term share fit all) (λ k k_is.
    tells_then _ (reads_wanted p fit all) (λ x x_is.
    tells_then _ (tells_share k fit k_is) (λ u amount.
    lands_end _ (lands_as (cell_lands g second past message thread env held xs a k p x loc z amount
    (first (λ h. cell_at Msg a s.facts h.chunk) held) refl fit owns is_held all x_is a_is k_is) (λ t u2 w r c. record {
      need = need (some_of (key.Cell second loc) c.share.amount) [] c.numbers;
      is = value_is (positive z) c.share.amount _ c.share.positive ∙ value_is (matched p (g.truth.value loc) xs) c.numbers _ c.matches;
      known = tt;
      given = c.given;
      kept = c.kept;
      added = c.added;
      left = c.left;
      message_is = c.message_is;
      thread_is = c.thread_is;
      need_is = c.need_is;
      fits = c.fits;
      owns = c.owns;
      held = c.held;
      env = c.env;
    }))))))

-- ---- that a location was written

init_tells : (g : Ground) {slots : List ℤ} {v : Numbers} {s : State} {thread : Heap} (second : Rung) (past message : Heap) (held : List Held) (a : Combination) (loc : ℤ)
    (o : Option (Found Held Combination))
    → o ≡ first (λ h. init_at Msg a s.facts h.chunk) held → Fits slots (All g thread) v s → Owns g s.next v (chunks_of held) message → AllHeld s.next v past held → Means s.next v a loc
    → Tells s (λ u. IsPassed g second (claim.IsInit second loc)) (pass_init second a o s)
init_tells g {v = v} {s = s} second past message held a loc (Some f) e fit owns is_held a_is =
    let reads : Held → Option Combination = λ h. init_at Msg a s.facts h.chunk in
    let i = first_is reads held f (sym e) in
    let taken = taken_of reads f owns is_held i in
    let r = init_read Msg a s.facts i.item.chunk f.is i.reads_as in
    let k : KnowsInit g s.next v Msg f.is = subst (λ (c : Chunk). Stands g s.next v c taken.mine) r.0 taken.stands in
    let same : k.loc ≡ loc = proved_equal fit.one fit.facts k.at_is a_is r.1 in
    tells_give tt s (inr (record { loc = loc; is = refl; known = subst (λ (l : ℤ). g.knows (claim.IsInit Msg l) ≡ true) same k.known }))
init_tells g {v = v} {s = s} second past message held a loc None e fit owns is_held a_is =
    tells_on _ (tells_find_or kind.Init (init_at second a) fit) (λ f out.
    let r = init_read second a s.facts out.item f.is out.reads_as in
    let k : KnowsInit g s.next v second f.is = subst (λ (c : Chunk). Stands g s.next v c out.mine) r.0 out.fits.owns.stands in
    let same : k.loc ≡ loc = proved_equal fit.one fit.facts k.at_is a_is r.1 in
    tells_give tt s (inl (subst (λ (l : ℤ). g.knows (claim.IsInit second l) ≡ true) same k.known)))

pub init_pass : (g : Ground) (at : Expr) → PassFits g (init_passed (expr_of at)) (λ rung xs. claim_asked (claim.IsInit rung (exact at xs)) rung xs)
init_pass g at second past message thread slots v s env held xs fit owns is_held all =
    tells_then _ (reads_term at fit all) (λ a a_is.
    lands_end _ (tells_then _ (init_tells g second past message held a (exact at xs) (first (λ h. init_at Msg a s.facts h.chunk) held) refl fit owns is_held a_is) (λ u known.
    lands_give (record { env = env; held = held }) s (record {
      need = need nothing (claim.IsInit second (exact at xs) ∷ []) xs;
      is = refl;
      known = (known, tt);
      given = nothing;
      kept = message;
      added = nothing;
      left = thread;
      message_is = λ q. line_none (message q);
      thread_is = λ q. line_none (thread q);
      need_is = λ q. line_same (lifted Msg second nothing q) (nothing q) (lifted_nothing Msg second q);
      fits = fit;
      owns = owns;
      held = held_more (λ q. past q + nothing q) grows_here (λ q. line_more (past q) (nothing q)) is_held;
      env = all;
    }))))

-- ---- several

chosen_pass : (g : Ground) (a b : Passing) (asked_a asked_b : Asks) (side : Bool) → PassFits g a asked_a → PassFits g b asked_b → PassFits g (chosen a b side)
    (λ rung xs. if side then asked_a rung xs else asked_b rung xs)
chosen_pass g a b asked_a asked_b true p q = p
chosen_pass g a b asked_a asked_b false p q = q

pub choice_pass : (g : Ground) (c : Cond) (a b : Passing) (asked_a asked_b : Asks) → PassFits g a asked_a → PassFits g b asked_b
    → PassFits g (choice_passed (cond_of expr_of c) a b) (λ rung xs. if exact_cond c xs then asked_a rung xs else asked_b rung xs)
choice_pass g c a b asked_a asked_b p q second past message thread slots v s env held xs fit owns is_held all =
    lands_then (lands_decided (cond_of expr_of c) (exact_cond c) (judges_cond c) fit all) (λ side t w r f.
    subst (λ (z : Bool). Lands t.next w (Passes g slots second past (if z then asked_a second xs else asked_b second xs) message thread)
    (chosen a b side second (record { env = env; held = held }) t)) f.0
    (chosen_pass g a b asked_a asked_b side p q second past message thread slots w t env held xs f.1 (owns_more r owns) (held_more past r (λ j. line_self (past j)) is_held) (all_more r all)))

abbrev pub AllPassFit : Ground → List Passing → List Asks → Type 0
AllPassFit g [] [] = Unit {0}
AllPassFit g [] (q ∷ qs) = ⊥
AllPassFit g (p ∷ ps) [] = ⊥
AllPassFit g (p ∷ ps) (q ∷ qs) = PassFits g p q × AllPassFit g ps qs

pub line_parts : (h l a m b : ℕ) → h ≡ l + a → l ≡ m + b → h ≡ m + (a + b)
line_parts h l a m b j k = omega arith

pub line_needs : (n m a b c d e : ℕ) → n ≡ a + b → m ≡ c + d → a + c ≡ e → n + m ≡ e + (b + d)
line_needs n m a b c d e h k l = omega arith

pub line_past : (p a b : ℕ) → (p + a) + b ≤ p + (a + b)
line_past p a b = omega arith

pub all_pass : (g : Ground) (ps : List Passing) (qs : List Asks) → AllPassFit g ps qs → PassFits g (all_passed ps) (all_asked qs)
all_pass g [] [] each second past message thread slots v s env held xs fit owns is_held all = lands_give (record { env = env; held = held }) s (record {
  need = need nothing [] xs;
  is = refl;
  known = tt;
  given = nothing;
  kept = message;
  added = nothing;
  left = thread;
  message_is = λ q. line_none (message q);
  thread_is = λ q. line_none (thread q);
  need_is = λ q. line_same (lifted Msg second nothing q) (nothing q) (lifted_nothing Msg second q);
  fits = fit;
  owns = owns;
  held = held_more (λ q. past q + nothing q) grows_here (λ q. line_more (past q) (nothing q)) is_held;
  env = all;
})
all_pass g [] (q ∷ qs) each second past message thread slots v s env held xs fit owns is_held all = absurd each
all_pass g (p ∷ ps) [] each second past message thread slots v s env held xs fit owns is_held all = absurd each
all_pass g (p ∷ ps) (q ∷ qs) each second past message thread slots v s env held xs fit owns is_held all =
    lands_then (each.0 second past message thread slots v s env held xs fit owns is_held all) (λ t u w r a.
    lands_as (all_pass g ps qs each.1 second (λ k. past k + a.given k) a.kept a.left slots w u t.env t.held a.need.env a.fits a.owns a.held a.env) (λ t2 u2 w2 r2 b. record {
      need = both_asked a.need b.need;
      is = value_is (q second xs) a.need _ a.is ∙ value_is (all_asked qs second a.need.env) b.need _ b.is;
      known = passed_both g second a.need.claims b.need.claims a.known b.known;
      given = λ k. a.given k + b.given k;
      kept = b.kept;
      added = λ k. a.added k + b.added k;
      left = b.left;
      message_is = λ k. line_parts (message k) (a.kept k) (a.given k) (b.kept k) (b.given k) (a.message_is k) (b.message_is k);
      thread_is = λ k. line_parts (thread k) (a.left k) (a.added k) (b.left k) (b.added k) (a.thread_is k) (b.thread_is k);
      need_is = λ k. line_needs (a.need.heap k) (b.need.heap k) (lifted Msg second a.given k) (a.added k) (lifted Msg second b.given k) (b.added k) (lifted Msg second (λ j. a.given j + b.given j) k)
          (a.need_is k) (b.need_is k) (lifted_both Msg second a.given b.given k);
      fits = b.fits;
      owns = b.owns;
      held = held_more (λ k. past k + (a.given k + b.given k)) grows_here (λ k. line_past (past k) (a.given k) (b.given k)) b.held;
      env = b.env;
    }))

-- ---- every assertion

each_pass : {X A : Type 0} (g : Ground) (a : X → A) (f : A → Assertion) (q : A → Asks) → ((x : X) → PassFits g (f (a x)).pass (q (a x))) → (xs : List X)
    → AllPassFit g (map (λ p. p.pass) (map f (map a xs))) (map q (map a xs))
each_pass g a f q each [] = tt
each_pass g a f q each (x ∷ xs) = (each x, each_pass g a f q each xs)

layer : {X A : Type 0} (g : Ground) (a : X → A) (f : A → Assertion) (q : A → Asks) → ((x : X) → FitsBoth g (f (a x)) (q (a x))) → ((x : X) → PassFits g (f (a x)).pass (q (a x))) → (l : Asrt-F X)
    → PassFits g (asrt_step expr_of (map-Asrt A Assertion f (map-Asrt X A a l))).pass (asks_step g.truth (map-Asrt A Asks q (map-Asrt X A a l)))
layer g a f q both each Asrt-F.Emp = by_thread_fits g _ _ (emp_gives g)
layer g a f q both each (Asrt-F.Fact c) = by_thread_fits g _ _ (fact_gives g c)
layer g a f q both each (Asrt-F.Points at share p) = points_pass g at share p
layer g a f q both each (Asrt-F.Init at) = init_pass g at
layer g a f q both each (Asrt-F.Rel at inst) = by_thread_fits g _ _ (rel_gives g at inst)
layer g a f q both each (Asrt-F.Acq at inst part out) = by_thread_fits g _ _ (acq_gives g at inst part out)
layer g a f q both each (Asrt-F.RmwAcq at inst) = by_thread_fits g _ _ (rmw_gives g at inst)
layer g a f q both each (Asrt-F.Tok bank n) = by_thread_fits g _ _ (tok_gives g bank n)
layer g a f q both each (Asrt-F.Auth bank n) = by_thread_fits g _ _ (auth_gives g bank n)
layer g a f q both each (Asrt-F.Choice c x y) = choice_pass g c (f (a x)).pass (f (a y)).pass (q (a x)) (q (a y)) (each x) (each y)
layer g a f q both each (Asrt-F.Up x) = by_thread_fits g (λ mood r. (f (a x)).consume mood rung.Up) (λ r xs. q (a x) rung.Up xs) (λ mood r. (both x).consumes mood rung.Up)
layer g a f q both each (Asrt-F.Down x) = by_thread_fits g (λ mood r. (f (a x)).consume mood rung.Down) (λ r xs. q (a x) rung.Down xs) (λ mood r. (both x).consumes mood rung.Down)
layer g a f q both each (Asrt-F.Both xs) = all_pass g (map (λ p. p.pass) (map f (map a xs))) (map q (map a xs)) (each_pass g a f q each xs)

pub pass_fits : (g : Ground) (a : Asrt) → PassFits g (asrt_of a).pass (asks g.truth a)
pass_fits g = ind-Asrt (λ a. PassFits g (asrt_of a).pass (asks g.truth a))
    (λ x y is.
    let p = fold-roll-Asrt Assertion (asrt_step expr_of) x in
    let q = fold-roll-Asrt Asks (asks_step g.truth) x in
    let l = subst (λ z. PassFits g (asrt_step expr_of (map-Asrt Asrt Assertion asrt_of z)).pass (asks_step g.truth (map-Asrt Asrt Asks (asks g.truth) z))) is
    (layer g (λ e. e.0) asrt_of (asks g.truth) (λ e. asrt_fits g e.0) (λ e. e.1) y) in
    subst (λ (z : Assertion). PassFits g z.pass (asks g.truth (roll-Asrt x))) (sym p)
    (subst (λ (z : Asks). PassFits g (asrt_step expr_of (map-Asrt Asrt Assertion asrt_of x)).pass z) (sym q) l))
