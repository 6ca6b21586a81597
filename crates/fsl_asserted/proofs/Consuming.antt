-- Shares of cells consumed: the state fits what is left.
use Rattle.std.proofs.Common.{◌≡◌, ◌⊎◌, inl, inr, ℕ, ◌-◌, ◌<◌, ◌≤◌, Bool, true, false, List, Option, Some, None, ℤ, pos, ◌+ℤ◌, ◌-ℤ◌, ◌≤ℤ◌, refl, sym, subst, arith}
use Rattle.std.specs.Ordering.{int_eq}
use Rattle.std.specs.Prelude.{slice_set}
use Rattle.std.proofs.lemmas.Int.{ints}
use Rattle.std.proofs.lemmas.Bool.{cases_eq}
use Rattle.fsl_core.specs.declared.assertion.Pat.{Pat}
use Rattle.fsl_core.specs.declared.assertion.Pat.TheVariants as pat
use Rattle.fsl_core.specs.declared.chunk.Chunk.{Chunk}
use Rattle.fsl_core.specs.declared.chunk.Chunk.TheVariants as chunk
use Rattle.fsl_core.specs.declared.mode.Rung.{Rung}
use Rattle.fsl_core.specs.declared.verdict.Kind.{Kind}
use Rattle.fsl_core.specs.declared.verdict.Kind.TheVariants as kind
use Rattle.fsl_core.specs.logic.States.{Env, State, Rule, ◌>>=◌, ◌>>◌, give, either}
use Rattle.fsl_core.specs.logic.Terms.{fitting}
use Rattle.fsl_core.specs.logic.Deciding.{proves_at_most, proves_equal, assume_at_most}
use Rattle.fsl_core.specs.logic.Chunks.{Found, first, Cell, cell_at, enough_at}
use Rattle.fsl_core.specs.logic.Producing.{Wanted}
use Rattle.fsl_core.specs.logic.Consuming.{demand_at_most, demand_equal, rest_of, leave_rest, lacking, enough_or, find_cell, match_value, demand_share, consume_cell}
use Rattle.fsl_lin.specs.Combination.{Combination, minus, constant}
use Rattle.fsl_lin.specs.Numbers.{Numbers}
use Rattle.fsl_meaning.specs.Means.{Means, AllMean, IsKnown}
use Rattle.fsl_meaning.specs.Heaps.{Key as key, Heap, Holds, Ground, less}
use Rattle.fsl_meaning.specs.States.{OwnsCell, Stands, Owning, All, Opened, Fits}
use Rattle.fsl_meaning.specs.Branches.{Lands, Tells, Tells as tell}
use Rattle.fsl_meaning.proofs.Terms.{means_more, means_as, means_minus, means_constant, known_more, all_more}
use Rattle.fsl_meaning.proofs.Calculus.{lands_then, lands_give, lands_as, lands_left, lands_right, lands_end, tells_then, tells_on, tells_as, tells_give, tells_demand, tells_some, tells_end}
use Rattle.fsl_meaning.proofs.Facts.{proved_at_most, proved_equal, lands_at_most}
use Rattle.fsl_meaning.proofs.Deciding.{is_equal}
use Rattle.fsl_meaning.proofs.Heaps.{some_self}
use Rattle.fsl_meaning.proofs.Owned.{fits_less, IsOut, out_of, lands_put, lands_take}
use Rattle.fsl_meaning.proofs.Readings.{enough_read}
use Rattle.fsl_meaning.proofs.Joining.{tells_fitting}
use Rattle.fsl_meaning.proofs.Slots.{all_set}
use Rattle.fsl_asserted.specs.Exact.{exact}
use Rattle.fsl_asserted.specs.Needs.{matched, only_if}
use Rattle.fsl_asserted.proofs.Asking.{HasShare, share_of, rest_less, both_less, part_within}
use Rattle.fsl_asserted.proofs.Terms.{WantedMeans}

-- ---- demands

pub tells_at_most : {slots : List ℤ} {own : Owning} {v : Numbers} {s : State} {x y : ℤ} (why : Kind) (a b : Combination) → Fits slots own v s
    → Means s.next v a x → Means s.next v b y → Tells s (λ u. (x +ℤ pos 0) ≤ℤ y) (demand_at_most why a b s)
tells_at_most {s = s} why a b fit h k = tells_end _ (tells_as (tells_demand why (proves_at_most s.facts a (pos 0) b)) (λ u p. proved_at_most (pos 0) fit.one fit.facts h k p))

pub tells_equal : {slots : List ℤ} {own : Owning} {v : Numbers} {s : State} {x y : ℤ} (why : Kind) (a b : Combination) → Fits slots own v s
    → Means s.next v a x → Means s.next v b y → Tells s (λ u. x ≡ y) (demand_equal why a b s)
tells_equal {s = s} why a b fit h k = tells_end _ (tells_as (tells_demand why (proves_equal s.facts a b)) (λ u p. proved_equal fit.one fit.facts h k p))

pub tells_share : {slots : List ℤ} {own : Owning} {v : Numbers} {s : State} {x : ℤ} (share : Combination) → Fits slots own v s
    → Means s.next v share x → Tells s (λ u. HasShare x) (demand_share share s)
tells_share {x = x} share fit h = tells_as (tells_at_most kind.Share (constant (pos 1)) share fit (means_constant (pos 1)) h) (λ u l. share_of x l)

-- ---- the chunk

tells_lacking : {C X Y : Type 0} {s : State} {P : Y → Type 0} (o : Option (Found C X)) → Tells s P (lacking o s)
tells_lacking None = tell.stops kind.Points (inl refl)
tells_lacking (Some f) = tell.stops kind.Share (inl refl)

enough_by : {g : Ground} {slots : List ℤ} {v : Numbers} {s : State} {h : Heap} (rung : Rung) (at k : Combination) (o : Option (Found Chunk Cell)) → o ≡ first (enough_at rung at k s.facts) s.chunks
    → Fits slots (All g h) v s → Tells s (λ f. IsOut g slots v s (enough_at rung at k) h f) (enough_or rung at o s)
enough_by {s = s} rung at k (Some f) e fit = tells_give f s (out_of (enough_at rung at k) f fit (sym e))
enough_by {s = s} rung at k None e fit = tells_end _ (tells_lacking (first (cell_at rung at s.facts) s.chunks))

pub tells_find_cell : {g : Ground} {slots : List ℤ} {v : Numbers} {s : State} {h : Heap} (rung : Rung) (at k : Combination) → Fits slots (All g h) v s
    → Tells s (λ f. IsOut g slots v s (enough_at rung at k) h f) (find_cell rung at k s)
tells_find_cell {s = s} rung at k fit = tells_end _ (enough_by rung at k (first (enough_at rung at k s.facts) s.chunks) refl fit)

-- ---- its value

pub record Matches (n : ℕ) (v : Numbers) (p : Pat) (said : Option ℤ) (xs : List ℤ) (e : Env) : Type 0 where
  pub numbers : List ℤ
  pub is : matched p said xs ≡ Some numbers
  pub env : AllMean n v e numbers

known_is : {n : ℕ} {v : Numbers} (value : Option Combination) (said : Option ℤ) (t : Combination) → IsKnown n v value said → value ≡ Some t → (x : ℤ) × (said ≡ Some x) × Means n v t x
known_is None said t h e = absurd (let d : None ≡ Some t = e in cc)
known_is {n = n} {v = v} (Some u) said t h e = let same : u ≡ t = cc in (h.number, h.is, subst (λ (z : Combination). Means n v z h.number) same h.means)

match_said : (p : Pat) (said : Option ℤ) (x : ℤ) → said ≡ Some x → (xs ys : List ℤ) → matched p (Some x) xs ≡ Some ys → matched p said xs ≡ Some ys
match_said p said x e xs ys h = subst (λ (o : Option ℤ). matched p o xs ≡ Some ys) (sym e) h

only_true : {X : Type 0} (b : Bool) (x : X) → b ≡ true → only_if b (Some x) ≡ Some x
only_true true x e = refl
only_true false x e = absurd (cc)

pub tells_match : {slots : List ℤ} {own : Owning} {v : Numbers} {s : State} {env : Env} {xs : List ℤ} (p : Pat) (w : Wanted Combination) (value : Option Combination) (said : Option ℤ)
    → Fits slots own v s → WantedMeans s.next v xs p w → IsKnown s.next v value said → AllMean s.next v env xs
    → Tells s (λ e. Matches s.next v p said xs e) (match_value w value env s)
tells_match {v = v} {s = s} {env = env} {xs = xs} pat.Any w value said fit w_is known all =
    subst (λ (z : Wanted Combination). Tells s (λ e. Matches s.next v pat.Any said xs e) (match_value z value env s)) (sym w_is)
    (tells_give env s (record { numbers = xs; is = refl; env = all }))
tells_match {v = v} {s = s} {env = env} {xs = xs} (pat.Bind slot) w value said fit w_is known all =
    subst (λ (z : Wanted Combination). Tells s (λ e. Matches s.next v (pat.Bind slot) said xs e) (match_value z value env s)) (sym w_is)
    (tells_on _ (tells_some kind.Uninit value) (λ t e.
    let k = known_is value said t known e in
    tells_give (slice_set env slot t) s (record { numbers = slice_set xs slot k.0; is = match_said (pat.Bind slot) said k.0 k.1 xs (slice_set xs slot k.0) refl; env = all_set slot all k.2 })))
tells_match {v = v} {s = s} {env = env} {xs = xs} (pat.Is c) w value said fit w_is known all =
    subst (λ (z : Wanted Combination). Tells s (λ e. Matches s.next v (pat.Is c) said xs e) (match_value z value env s)) (sym w_is.is)
    (tells_on _ (tells_some kind.Uninit value) (λ t e.
    let k = known_is value said t known e in
    tells_on _ (tells_equal kind.Value t w_is.term fit k.2 w_is.means) (λ u same.
    tells_give env s (record { numbers = xs; is = match_said (pat.Is c) said k.0 k.1 xs xs (only_true (int_eq k.0 (exact c xs)) xs (is_equal k.0 (exact c xs) same)); env = all }))))

-- ---- what is left of a share

-- nothing is left of a, or a rest of at least 1
abbrev pub RestIs : ℕ → Numbers → ℕ → ℕ → Option Combination → Type 0
RestIs n v a b None = a ≡ b
RestIs n v a b (Some r) = (b < a) × Means n v r (pos (a - b))

pub record Rests (slots : List ℤ) (own : Owning) (a b : ℕ) (o : Option Combination) (s : State) (w : Numbers) : Type 0 where
  pub rest : RestIs s.next w a b o
  pub fits : Fits slots own w s

-- the rest by what is proved
abbrev rest_by : Combination → Combination → Bool → Bool → Rule (Option Combination)
rest_by share k true stays = give None
rest_by share k false true = fitting (minus share k) >>= (λ r. give (Some r))
rest_by share k false false =
    either (assume_at_most share (pos 0) k >> give None) (assume_at_most k (pos 1) share >> (fitting (minus share k) >>= (λ r. give (Some r))))

line_gone : (a b : ℕ) → pos a ≡ pos b → a ≡ b
line_gone a b h = omega (arith, ints)

line_stays : (a b : ℕ) → (pos b +ℤ pos 1) ≤ℤ pos a → b < a
line_stays a b h = omega (arith, ints)

line_equal : (a b : ℕ) → a ≡ b → (pos a +ℤ pos 0) ≤ℤ pos b
line_equal a b h = omega (arith, ints)

line_more : (a b : ℕ) → b < a → (pos b +ℤ pos 1) ≤ℤ pos a
line_more a b h = omega (arith, ints)

line_minus : (a b : ℕ) → b < a → pos a -ℤ pos b ≡ pos (a - b)
line_minus a b h = omega (arith, ints)

line_either : (a b : ℕ) → b ≤ a → (a ≡ b → ⊥) → b < a
line_either a b h k = omega (arith, k)

something : {slots : List ℤ} {own : Owning} {v : Numbers} {s : State} {a b : ℕ} (share k : Combination) → Fits slots own v s → Means s.next v share (pos a) → Means s.next v k (pos b) → b < a
    → Lands s.next v (λ o t w. Rests slots own a b o t w) ((fitting (minus share k) >>= (λ r. give (Some r))) s)
something {s = s} {a = a} {b = b} share k fit h m l =
    tells_then _ (tells_fitting (means_as (line_minus a b l) (means_minus h m))) (λ r r_is. lands_give (Some r) s (record { rest = (l, r_is); fits = fit }))

line_split : (a b : ℕ) → b ≤ a → (a ≡ b) ⊎ (b < a)
line_split a b h = elim (cases_eq a b) [ inl e ↦ inl e | inr d ↦ inr (line_either a b h d) ]

rest_lands : {slots : List ℤ} {own : Owning} {v : Numbers} {s : State} {a b : ℕ} (share k : Combination) → Fits slots own v s → Means s.next v share (pos a) → Means s.next v k (pos b) → b ≤ a
    → (gone : Bool) → proves_equal s.facts share k ≡ gone → (stays : Bool) → proves_at_most s.facts k (pos 1) share ≡ stays
    → Lands s.next v (λ o t w. Rests slots own a b o t w) (rest_by share k gone stays s)
rest_lands {s = s} {a = a} {b = b} share k fit h m l true e stays d = lands_give None s (record { rest = line_gone a b (proved_equal fit.one fit.facts h m e); fits = fit })
rest_lands {a = a} {b = b} share k fit h m l false e true d = something share k fit h m (line_stays a b (proved_at_most (pos 1) fit.one fit.facts m h d))
rest_lands {s = s} {a = a} {b = b} share k fit h m l false e false d =
    elim (line_split a b l) [
      | inl i ↦ lands_left _ (lands_then (lands_at_most share (pos 0) k fit h m (line_equal a b i)) (λ u t w r f. lands_give None t (record { rest = i; fits = f })))
      | inr j ↦ lands_right _ (lands_then (lands_at_most k (pos 1) share fit m h (line_more a b j)) (λ u t w r f. something share k f (means_more r h) (means_more r m) j))
    ]

-- of the branches for what is left, the true one lands
pub lands_rest : {slots : List ℤ} {own : Owning} {v : Numbers} {s : State} {a b : ℕ} (share k : Combination) → Fits slots own v s → Means s.next v share (pos a) → Means s.next v k (pos b) → b ≤ a
    → Lands s.next v (λ o t w. Rests slots own a b o t w) (rest_of share k s)
lands_rest {s = s} share k fit h m l =
    lands_end _ (lands_end _ (rest_lands share k fit h m l (proves_equal s.facts share k) refl (proves_at_most s.facts k (pos 1) share) refl))

-- ---- a share is taken out

pub record TakesCell (g : Ground) (slots : List ℤ) (rung : Rung) (loc z : ℤ) (p : Pat) (h : Heap) (xs : List ℤ) (e : Env) (s : State) (w : Numbers) : Type 0 where
  pub share : HasShare z
  pub numbers : List ℤ
  pub matches : matched p (g.truth.value loc) xs ≡ Some numbers
  pub enough : share.amount ≤ h (key.Cell rung loc)
  pub fits : Fits slots (All g (less h (key.Cell rung loc) share.amount)) w s
  pub env : AllMean s.next w e numbers

line_within : (a b : ℕ) → (pos b +ℤ pos 0) ≤ℤ pos a → b ≤ a
line_within a b h = omega (arith, ints)

line_trans : (a b c : ℕ) → a ≤ b → b ≤ c → a ≤ c
line_trans a b c h k = omega arith

line_some : (a b : ℕ) → b < a → 1 ≤ a - b
line_some a b h = omega arith

line_less : (a b m : ℕ) → a ≤ m → a - b ≤ m - b
line_less a b m h = omega arith

left_lands : {g : Ground} {slots : List ℤ} {v : Numbers} {s : State} {item : Chunk} {mine rest h : Heap} (rung : Rung) (f : Found Chunk Cell) (loc : ℤ) (a b : ℕ) (o : Option Combination)
    → Fits slots (Opened g f.before item f.behind mine rest) v s → Holds mine rest h → Means s.next v f.is.at loc → IsKnown s.next v f.is.value (g.truth.value loc)
    → a ≤ mine (key.Cell rung loc) → b ≤ a → RestIs s.next v a b o
    → Lands s.next v (λ u t w. Fits slots (All g (less h (key.Cell rung loc) b)) w t) (leave_rest rung f o s)
left_lands {mine = mine} {rest = rest} {h = h} rung f loc a b None fit holds at_is value_is there few r =
    let cell = key.Cell rung loc in
    lands_as (lands_take f fit) (λ u t w q k. fits_less (less h cell b) (rest_less mine rest h cell b holds (line_trans b a (mine cell) few there)) k)
left_lands {mine = mine} {rest = rest} {h = h} rung f loc a b (Some r) fit holds at_is value_is there few r_is =
    let cell = key.Cell rung loc in
    lands_put f (chunk.Points rung f.is.at r f.is.value) (less mine cell b) (less h cell b) fit (record {
      loc = loc;
      amount = a - b;
      at_is = at_is;
      share_is = r_is.1;
      some = line_some a b r_is.0;
      value_is = value_is;
      there = subst (λ (n : ℕ). a - b ≤ mine cell - n) (sym (some_self cell b)) (line_less a b (mine cell) there);
    }) (both_less mine rest h cell b holds (line_trans b a (mine cell) few there))

pub lands_consume_cell : {g : Ground} {slots : List ℤ} {v : Numbers} {s : State} {h : Heap} {env : Env} {xs : List ℤ} {loc z : ℤ} (rung : Rung) (at k : Combination) (p : Pat) (w : Wanted Combination)
    → Fits slots (All g h) v s → Means s.next v at loc → Means s.next v k z → WantedMeans s.next v xs p w → AllMean s.next v env xs
    → Lands s.next v (λ e t x. TakesCell g slots rung loc z p h xs e t x) (consume_cell rung at k w env s)
lands_consume_cell {g = g} {slots = slots} {v = v} {s = s} {h = h} {xs = xs} {loc = loc} rung at k p w fit at_is k_is w_is all =
    tells_then _ (tells_share k fit k_is) (λ u share.
    tells_then _ (tells_find_cell rung at k fit) (λ f out.
    let r = enough_read rung at k s.facts out.item f.is out.reads_as in
    let own : OwnsCell g s.next v rung f.is.at f.is.share f.is.value out.mine = subst (λ (c : Chunk). Stands g s.next v c out.mine) r.0 out.fits.owns.stands in
    let same : own.loc ≡ loc = proved_equal fit.one fit.facts own.at_is at_is r.1 in
    let b_is : Means s.next v k (pos share.amount) = means_as share.is k_is in
    let few : share.amount ≤ own.amount = line_within own.amount share.amount (proved_at_most (pos 0) fit.one fit.facts b_is own.share_is r.2) in
    let there : own.amount ≤ out.mine (key.Cell rung loc) = subst (λ (l : ℤ). own.amount ≤ out.mine (key.Cell rung l)) same own.there in
    let value_is : IsKnown s.next v f.is.value (g.truth.value loc) = subst (λ (l : ℤ). IsKnown s.next v f.is.value (g.truth.value l)) same own.value_is in
    tells_then _ (tells_match p w f.is.value (g.truth.value loc) fit w_is value_is all) (λ e m.
    lands_then (lands_rest f.is.share k out.fits own.share_is b_is few) (λ o s1 w1 r1 f1.
    lands_then (left_lands rung f loc own.amount share.amount o f1.fits out.holds (means_more r1 (means_as same own.at_is)) (known_more f.is.value (g.truth.value loc) r1 value_is) there few f1.rest) (λ u2 s2 w2 r2 f2.
    lands_give e s2 (record {
      share = share;
      numbers = m.numbers;
      matches = m.is;
      enough = line_trans share.amount own.amount (h (key.Cell rung loc)) few (part_within out.mine out.rest h (key.Cell rung loc) own.amount out.holds there);
      fits = f2;
      env = all_more r2 (all_more r1 m.env);
    }))))))
