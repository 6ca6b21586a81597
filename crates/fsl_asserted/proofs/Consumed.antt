-- Each assertion consumed: what it asks for was there, and the state fits what is left.
use Rattle.std.proofs.Common.{◌≡◌, ℕ, ◌+◌, ◌-◌, ◌≤◌, Bool, true, false, inl, inr, List, [], ◌∷◌, map, Option, Some, ℤ, pos, ◌+ℤ◌, ◌-ℤ◌, ◌≤ℤ◌, if◌then◌else◌, refl, ap, sym, subst, ◌∙◌, arith}
use Rattle.std.specs.Ordering.{int_eq}
use Rattle.std.specs.List.{list_any}
use Rattle.std.proofs.lemmas.Int.{ints}
use Rattle.std.proofs.lemmas.Bool.{and_parts, and_from, or_cases, or_left, or_right}
use Rattle.fsl_core.specs.declared.assertion.Inst.{Inst}
use Rattle.fsl_core.specs.declared.assertion.Pat.{Pat}
use Rattle.fsl_core.specs.declared.chunk.Chunk.{Chunk}
use Rattle.fsl_core.specs.declared.chunk.Chunk.TheVariants as chunk
use Rattle.fsl_core.specs.declared.expr.Cond.{Cond}
use Rattle.fsl_core.specs.declared.expr.Expr.{Expr}
use Rattle.fsl_core.specs.declared.verdict.Kind.TheVariants as kind
use Rattle.fsl_core.specs.logic.States.{Env, State}
use Rattle.fsl_core.specs.logic.Terms.{expr_of}
use Rattle.fsl_core.specs.logic.Deciding.{cond_of, proves_equal}
use Rattle.fsl_core.specs.logic.Chunks.{Leave, Permission, init_at, rel_of, rmw_of, tokens_of, authority_of}
use Rattle.fsl_core.specs.logic.Joining.{nought}
use Rattle.fsl_core.specs.logic.Producing.{pat_of, inst_of, bank_of, chosen}
use Rattle.fsl_core.specs.logic.Consuming.{Consume, failing, excludes_no_more, permission_of, consume_tokens, emp_consumed, fact_consumed, points_consumed, init_consumed, rel_consumed, acq_consumed, rmw_consumed, tok_consumed, auth_consumed, choice_consumed, all_consumed}
use Rattle.fsl_lin.specs.Combination.{Combination}
use Rattle.fsl_lin.specs.Numbers.{Numbers}
use Rattle.fsl_lin.specs.declared.fact.Fact.{Fact}
use Rattle.fsl_meaning.specs.Means.{Means, EachMeans, AllMean, HoldAll}
use Rattle.fsl_meaning.specs.Heaps.{Key, Key as key, Heap, nothing, some_of, less, Claim, Claim as claim, Ground, AllKnown, all_in}
use Rattle.fsl_meaning.specs.States.{OwnsPermission, OwnsTokens, OwnsBank, KnowsInit, KnowsLeave, Stands, All, Fits}
use Rattle.fsl_meaning.specs.Branches.{Lands}
use Rattle.fsl_meaning.proofs.Terms.{means_as, means_minus, means_constant, all_more}
use Rattle.fsl_meaning.proofs.Calculus.{lands_then, lands_give, lands_as, tells_then}
use Rattle.fsl_meaning.proofs.Facts.{proved_equal}
use Rattle.fsl_meaning.proofs.Deciding.{is_equal, lands_decided, tells_demand_cond}
use Rattle.fsl_meaning.proofs.Heaps.{some_self}
use Rattle.fsl_meaning.proofs.Owned.{fits_less, tells_find_or, lands_put, lands_take}
use Rattle.fsl_meaning.proofs.Readings.{init_read, same_rel_read, same_rmw_read, tokens_read, authority_read, permission_read, all_equal_is, IsSameLeave, same_leave_is}
use Rattle.fsl_meaning.proofs.Joining.{tells_fitting}
use Rattle.fsl_meaning.proofs.Slots.{all_get}
use Rattle.fsl_asserted.specs.Exact.{exact, exact_all, exact_cond}
use Rattle.fsl_asserted.specs.Needs.{Need, need, Asks, only_if, positive, natural, matched, points_asked, claim_asked, acq_asked, bank_number, tok_asked, auth_asked, both_asked, all_asked}
use Rattle.fsl_asserted.specs.Fitting.{Gives, ConsumeFits}
use Rattle.fsl_asserted.proofs.Asking.{HasNatural, natural_of, value_is, known_both, less_parts, rest_less, both_less, part_within, all_in_then}
use Rattle.fsl_asserted.proofs.Exprs.{judges_cond}
use Rattle.fsl_asserted.proofs.Terms.{reads_term, reads_terms, LeaveMeans, reads_leave, reads_wanted}
use Rattle.fsl_asserted.proofs.Consuming.{tells_at_most, tells_equal, lands_consume_cell}

line_none : (a : ℕ) → a ≡ a + 0
line_none a = omega arith

-- nothing is taken
given : {g : Ground} {slots : List ℤ} {h : Heap} {v : Numbers} {env : Env} {s : State} {asked : Option Need} (claims : List Claim) (xs : List ℤ) → asked ≡ Some (need nothing claims xs)
    → AllKnown g claims → Fits slots (All g h) v s → AllMean s.next v env xs → Gives g slots asked h env s v
given {h = h} claims xs is known fit all = record { need = need nothing claims xs; is = is; known = known; left = h; parts = λ k. line_none (h k); fits = fit; env = all }

pub emp_gives : (g : Ground) → ConsumeFits g emp_consumed (λ rung xs. Some (need nothing [] xs))
emp_gives g mood rung h slots v s env xs fit all = lands_give env s (given [] xs refl tt fit all)

only_true : {X : Type 0} (b : Bool) (o : Option X) → b ≡ true → only_if b o ≡ o
only_true true o e = refl
only_true false o e = absurd (cc)

pub fact_gives : (g : Ground) (c : Cond) → ConsumeFits g (fact_consumed (cond_of expr_of c)) (λ rung xs. only_if (exact_cond c xs) (Some (need nothing [] xs)))
fact_gives g c mood rung h slots v s env xs fit all =
    tells_then _ (tells_demand_cond (failing mood) (cond_of expr_of c) (exact_cond c) (judges_cond c) fit all) (λ u e.
    lands_give env s (given [] xs (only_true (exact_cond c xs) (Some (need nothing [] xs)) e) tt fit all))

-- ---- shares of cells

pub points_give : (g : Ground) (at share : Expr) (p : Pat) → ConsumeFits g (points_consumed (expr_of at) (expr_of share) (pat_of expr_of p)) (points_asked g.truth at share p)
points_give g at share p mood rung h slots v s env xs fit all =
    let cell = key.Cell rung (exact at xs) in
    tells_then _ (reads_term at fit all) (λ a a_is.
    tells_then _ (reads_term share fit all) (λ k k_is.
    tells_then _ (reads_wanted p fit all) (λ x x_is.
    lands_as (lands_consume_cell rung a k p x fit a_is k_is x_is all) (λ e t w r c. record {
      need = need (some_of cell c.share.amount) [] c.numbers;
      is = value_is (positive (exact share xs)) c.share.amount _ c.share.positive ∙ value_is (matched p (g.truth.value (exact at xs)) xs) c.numbers _ c.matches;
      known = tt;
      left = less h cell c.share.amount;
      parts = less_parts h cell c.share.amount c.enough;
      fits = c.fits;
      env = c.env;
    }))))

-- ---- claims

pub init_gives : (g : Ground) (at : Expr) → ConsumeFits g (init_consumed (expr_of at)) (λ rung xs. claim_asked (claim.IsInit rung (exact at xs)) rung xs)
init_gives g at mood rung h slots v s env xs fit all =
    tells_then _ (reads_term at fit all) (λ a a_is.
    tells_then _ (tells_find_or kind.Init (init_at rung a) fit) (λ f out.
    let r = init_read rung a s.facts out.item f.is out.reads_as in
    let k : KnowsInit g s.next v rung f.is = subst (λ (c : Chunk). Stands g s.next v c out.mine) r.0 out.fits.owns.stands in
    let same : k.loc ≡ exact at xs = proved_equal fit.one fit.facts k.at_is a_is r.1 in
    lands_give env s (given (claim.IsInit rung (exact at xs) ∷ []) xs refl (subst (λ (l : ℤ). g.knows (claim.IsInit rung l) ≡ true) same k.known, tt) fit all)))

-- what is known of a leave that is proved to be the same
leave_known : {g : Ground} {n : ℕ} {v : Numbers} {fs : List Fact} {l : Leave} {loc : ℤ} {inv : ℕ} {args : List ℤ} (claims : ℤ → ℕ → List ℤ → Claim) (x : Leave) → v 0 ≡ pos 1 → HoldAll n v fs
    → LeaveMeans n v l loc inv args → KnowsLeave g n v claims x.at x.inv x.args → IsSameLeave fs x l → g.knows (claims loc inv args) ≡ true
leave_known {g = g} {loc = loc} {inv = inv} {args = args} claims x one hold m k same =
    let l : k.loc ≡ loc = proved_equal one hold k.at_is m.at_is same.at_is in
    let a : k.numbers ≡ args = all_equal_is one hold k.args_are m.args_are same.args_are in
    let i : x.inv ≡ inv = same.inv_is ∙ m.inv_is in
    subst (λ (z : ℤ). g.knows (claims z inv args) ≡ true) l (subst (λ (z : List ℤ). g.knows (claims k.loc inv z) ≡ true) a (subst (λ (z : ℕ). g.knows (claims k.loc z k.numbers) ≡ true) i k.known))

pub rel_gives : (g : Ground) (at : Expr) (inst : Inst)
    → ConsumeFits g (rel_consumed (expr_of at) (inst_of expr_of inst)) (λ rung xs. claim_asked (claim.MayWrite (exact at xs) inst.inv (exact_all inst.args xs)) rung xs)
rel_gives g at inst mood rung h slots v s env xs fit all =
    tells_then _ (reads_leave at inst fit all) (λ l m.
    tells_then _ (tells_find_or kind.Rel (rel_of l) fit) (λ f out.
    let r = same_rel_read l s.facts out.item f.is out.reads_as in
    let k : KnowsLeave g s.next v claim.MayWrite f.is.at f.is.inv f.is.args = subst (λ (c : Chunk). Stands g s.next v c out.mine) r.0 out.fits.owns.stands in
    lands_give env s (given (claim.MayWrite (exact at xs) inst.inv (exact_all inst.args xs) ∷ []) xs refl
    (leave_known claim.MayWrite f.is fit.one fit.facts m k (same_leave_is s.facts f.is l r.1), tt) fit all)))

pub rmw_gives : (g : Ground) (at : Expr) (inst : Inst)
    → ConsumeFits g (rmw_consumed (expr_of at) (inst_of expr_of inst)) (λ rung xs. claim_asked (claim.MayUpdate (exact at xs) inst.inv (exact_all inst.args xs)) rung xs)
rmw_gives g at inst mood rung h slots v s env xs fit all =
    tells_then _ (reads_leave at inst fit all) (λ l m.
    tells_then _ (tells_find_or kind.Rmw (rmw_of l) fit) (λ f out.
    let r = same_rmw_read l s.facts out.item f.is out.reads_as in
    let k : KnowsLeave g s.next v claim.MayUpdate f.is.at f.is.inv f.is.args = subst (λ (c : Chunk). Stands g s.next v c out.mine) r.0 out.fits.owns.stands in
    lands_give env s (given (claim.MayUpdate (exact at xs) inst.inv (exact_all inst.args xs) ∷ []) xs refl
    (leave_known claim.MayUpdate f.is fit.one fit.facts m k (same_leave_is s.facts f.is l r.1), tt) fit all)))

-- ---- permissions

one_excluded : (n : ℕ) (v : Numbers) (fs : List Fact) (t : Combination) (x : ℤ) (us : List Combination) (ys : List ℤ) → v 0 ≡ pos 1 → HoldAll n v fs → Means n v t x → EachMeans n v us ys
    → list_any (λ y. proves_equal fs t y) us ≡ true → list_any (int_eq x) ys ≡ true
one_excluded n v fs t x [] ys one hold h k e = absurd (let d : false ≡ true = e in cc)
one_excluded n v fs t x (u ∷ us) [] one hold h k e = absurd k
one_excluded n v fs t x (u ∷ us) (y ∷ ys) one hold h k e =
    elim (or_cases (proves_equal fs t u) (list_any (λ y. proves_equal fs t y) us) e) [
      | inl i ↦ or_left (int_eq x y) (list_any (int_eq x) ys) (is_equal x y (proved_equal one hold h k.0 i))
      | inr j ↦ or_right (int_eq x y) (list_any (int_eq x) ys) (one_excluded n v fs t x us ys one hold h k.1 j)
    ]

each_excluded : (n : ℕ) (v : Numbers) (fs : List Fact) (ts us : List Combination) (xs ys : List ℤ) → v 0 ≡ pos 1 → HoldAll n v fs → EachMeans n v ts xs → EachMeans n v us ys
    → excludes_no_more fs ts us ≡ true → all_in xs ys ≡ true
each_excluded n v fs [] us [] ys one hold h k e = refl
each_excluded n v fs [] us (x ∷ xs) ys one hold h k e = absurd h
each_excluded n v fs (t ∷ ts) us [] ys one hold h k e = absurd h
each_excluded n v fs (t ∷ ts) us (x ∷ xs) ys one hold h k e =
    let p = and_parts (list_any (λ y. proves_equal fs t y) us) (excludes_no_more fs ts us) e in
    and_from (list_any (int_eq x) ys) (all_in xs ys) (one_excluded n v fs t x us ys one hold h.0 k p.0) (each_excluded n v fs ts us xs ys one hold h.1 k p.1)

pub acq_gives : (g : Ground) (at : Expr) (inst : Inst) (part : ℕ) (out : List Expr)
    → ConsumeFits g (acq_consumed (expr_of at) (inst_of expr_of inst) part (map expr_of out)) (acq_asked g.truth at inst.inv inst.args part out)
acq_gives g at inst part out mood rung h slots v s env xs fit all =
    let one = key.Permission (exact at xs) part in
    tells_then _ (reads_leave at inst fit all) (λ l m.
    tells_then _ (reads_terms out fit all) (λ values values_are.
    let wanted : Permission = record { leave = l; part = part; out = values } in
    tells_then _ (tells_find_or kind.Acq (permission_of wanted) fit) (λ f gone.
    let r = permission_read wanted s.facts gone.item f.is gone.reads_as in
    let o : OwnsPermission g s.next v f.is.leave.at f.is.leave.inv f.is.leave.args f.is.part f.is.out gone.mine = subst (λ (c : Chunk). Stands g s.next v c gone.mine) r.chunk_is gone.fits.owns.stands in
    let same = same_leave_is s.facts f.is.leave l r.leave_is in
    let loc_is : o.loc ≡ exact at xs = proved_equal fit.one fit.facts o.at_is m.at_is same.at_is in
    let args_are : o.numbers ≡ exact_all inst.args xs = all_equal_is fit.one fit.facts o.args_are m.args_are same.args_are in
    let inv_is : f.is.leave.inv ≡ inst.inv = same.inv_is ∙ m.inv_is in
    let there : 1 ≤ gone.mine one = subst (λ (z : Key). 1 ≤ gone.mine z) (λ i. key.Permission (loc_is i) (r.part_is i)) o.there in
    let within : all_in (g.truth.out (exact at xs) part) o.excluded ≡ true = subst (λ (z : List ℤ). all_in z o.excluded ≡ true) (λ i. g.truth.out (loc_is i) (r.part_is i)) o.within in
    let known : g.knows (claim.MayRead (exact at xs) inst.inv (exact_all inst.args xs)) ≡ true = subst (λ (z : Claim). g.knows z ≡ true) (λ i. claim.MayRead (loc_is i) (inv_is i) (args_are i)) o.known in
    let no_more : all_in o.excluded (exact_all out xs) ≡ true = each_excluded s.next v s.facts f.is.out values o.excluded (exact_all out xs) fit.one fit.facts o.out_are.each values_are.each r.no_more in
    lands_then (lands_take f gone.fits) (λ u t w q k. lands_give env t (record {
      need = need (some_of one 1) (claim.MayRead (exact at xs) inst.inv (exact_all inst.args xs) ∷ []) xs;
      is = only_true (all_in (g.truth.out (exact at xs) part) (exact_all out xs)) _ (all_in_then (g.truth.out (exact at xs) part) o.excluded (exact_all out xs) within no_more);
      known = (known, tt);
      left = less h one 1;
      parts = less_parts h one 1 (part_within gone.mine gone.rest h one 1 gone.holds there);
      fits = fits_less (less h one 1) (rest_less gone.mine gone.rest h one 1 gone.holds there) k;
      env = all_more q all;
    })))))

-- ---- tokens

pub record TakesTokens (g : Ground) (slots : List ℤ) (number z : ℤ) (h : Heap) (s : State) (w : Numbers) : Type 0 where
  pub count : HasNatural z
  pub enough : count.amount ≤ h (key.Tokens number)
  pub fits : Fits slots (All g (less h (key.Tokens number) count.amount)) w s

line_within : (a b : ℕ) → (pos b +ℤ pos 0) ≤ℤ pos a → b ≤ a
line_within a b h = omega (arith, ints)

line_minus : (a b : ℕ) → b ≤ a → pos a -ℤ pos b ≡ pos (a - b)
line_minus a b h = omega (arith, ints)

line_less : (a b m : ℕ) → a ≤ m → a - b ≤ m - b
line_less a b m h = omega arith

line_trans : (a b c : ℕ) → a ≤ b → b ≤ c → a ≤ c
line_trans a b c h k = omega arith

pub lands_consume_tokens : {g : Ground} {slots : List ℤ} {v : Numbers} {s : State} {h : Heap} {number z : ℤ} (bank k : Combination) → Fits slots (All g h) v s → Means s.next v bank number → Means s.next v k z
    → Lands s.next v (λ u t w. TakesTokens g slots number z h t w) (consume_tokens bank k s)
lands_consume_tokens {g = g} {v = v} {s = s} {h = h} {number = number} {z = z} bank k fit bank_is k_is =
    let one = key.Tokens number in
    tells_then _ (tells_at_most kind.Token nought k fit (means_constant (pos 0)) k_is) (λ u l.
    let n = natural_of z l in
    tells_then _ (tells_find_or kind.Token (tokens_of bank) fit) (λ f out.
    let r = tokens_read bank s.facts out.item f.is out.reads_as in
    let o : OwnsTokens s.next v f.is.bank f.is.n out.mine = subst (λ (c : Chunk). Stands g s.next v c out.mine) r.0 out.fits.owns.stands in
    let same : o.number ≡ number = proved_equal fit.one fit.facts o.bank_is bank_is r.1 in
    let there : o.amount ≤ out.mine one = subst (λ (b : ℤ). o.amount ≤ out.mine (key.Tokens b)) same o.there in
    let b_is : Means s.next v k (pos n.amount) = means_as n.is k_is in
    tells_then _ (tells_at_most kind.Token k f.is.n fit b_is o.count_is) (λ u2 l2.
    let few : n.amount ≤ o.amount = line_within o.amount n.amount l2 in
    let here : n.amount ≤ out.mine one = line_trans n.amount o.amount (out.mine one) few there in
    tells_then _ (tells_fitting (means_as (line_minus o.amount n.amount few) (means_minus o.count_is b_is))) (λ rest rest_is.
    lands_as (lands_put f (chunk.Tok f.is.bank rest) (less out.mine one n.amount) (less h one n.amount) out.fits
    (record {
      number = number;
      amount = o.amount - n.amount;
      bank_is = means_as same o.bank_is;
      count_is = rest_is;
      there = subst (λ (m : ℕ). o.amount - n.amount ≤ out.mine one - m) (sym (some_self one n.amount)) (line_less o.amount n.amount (out.mine one) there);
    })
    (both_less out.mine out.rest h one n.amount out.holds here))
    (λ u3 t w q fits. record { count = n; enough = part_within out.mine out.rest h one n.amount out.holds here; fits = fits })))))

pub tok_gives : (g : Ground) (bank : ℕ) (e : Expr) → ConsumeFits g (tok_consumed bank (expr_of e)) (tok_asked bank e)
tok_gives g bank e mood rung h slots v s env xs fit all =
    let one = key.Tokens (bank_number bank xs) in
    tells_then _ (reads_term e fit all) (λ k k_is.
    lands_then (lands_consume_tokens (bank_of bank env) k fit (all_get bank all) k_is) (λ u t w r c. lands_give env t (record {
      need = need (some_of one c.count.amount) [] xs;
      is = value_is (natural (exact e xs)) c.count.amount _ c.count.natural;
      known = tt;
      left = less h one c.count.amount;
      parts = less_parts h one c.count.amount c.enough;
      fits = c.fits;
      env = all_more r all;
    })))

pub record TakesBank (g : Ground) (slots : List ℤ) (number z : ℤ) (h : Heap) (s : State) (w : Numbers) : Type 0 where
  pub said : g.truth.bank number ≡ z
  pub enough : 1 ≤ h (key.Bank number)
  pub fits : Fits slots (All g (less h (key.Bank number) 1)) w s

pub auth_gives : (g : Ground) (bank : ℕ) (e : Expr) → ConsumeFits g (auth_consumed bank (expr_of e)) (auth_asked g.truth bank e)
auth_gives g bank e mood rung h slots v s env xs fit all =
    let number = bank_number bank xs in
    let one = key.Bank number in
    tells_then _ (reads_term e fit all) (λ k k_is.
    lands_then (tells_then _ (tells_find_or kind.Token (authority_of (bank_of bank env)) fit) (λ f out.
    let r = authority_read (bank_of bank env) s.facts out.item f.is out.reads_as in
    let o : OwnsBank g s.next v f.is.bank f.is.n out.mine = subst (λ (c : Chunk). Stands g s.next v c out.mine) r.0 out.fits.owns.stands in
    let same : o.number ≡ number = proved_equal fit.one fit.facts o.bank_is (all_get bank all) r.1 in
    let there : 1 ≤ out.mine one = subst (λ (b : ℤ). 1 ≤ out.mine (key.Bank b)) same o.there in
    tells_then _ (tells_equal kind.Token f.is.n k fit o.count_is k_is) (λ u equal.
    lands_as (lands_take f out.fits) (λ u2 t w q fits. record {
      said = ap g.truth.bank (sym same) ∙ equal;
      enough = part_within out.mine out.rest h one 1 out.holds there;
      fits = fits_less (less h one 1) (rest_less out.mine out.rest h one 1 out.holds there) fits;
    })))) (λ u t w r c. let taken : TakesBank g slots number (exact e xs) h t w = c in lands_give env t (record {
      need = need (some_of one 1) [] xs;
      is = only_true (int_eq (g.truth.bank number) (exact e xs)) _ (is_equal (g.truth.bank number) (exact e xs) taken.said);
      known = tt;
      left = less h one 1;
      parts = less_parts h one 1 taken.enough;
      fits = taken.fits;
      env = all_more r all;
    })))

-- ---- several

chosen_gives : {g : Ground} {a b : Consume} {asked_a asked_b : Asks} (side : Bool) → ConsumeFits g a asked_a → ConsumeFits g b asked_b → ConsumeFits g (chosen a b side) (λ rung xs. if side then asked_a rung xs else asked_b rung xs)
chosen_gives true p q = p
chosen_gives false p q = q

pub choice_gives : (g : Ground) (c : Cond) (a b : Consume) (asked_a asked_b : Asks) → ConsumeFits g a asked_a → ConsumeFits g b asked_b
    → ConsumeFits g (choice_consumed (cond_of expr_of c) a b) (λ rung xs. if exact_cond c xs then asked_a rung xs else asked_b rung xs)
choice_gives g c a b asked_a asked_b p q mood rung h slots v s env xs fit all =
    lands_then (lands_decided (cond_of expr_of c) (exact_cond c) (judges_cond c) fit all) (λ side t w r f.
    subst (λ (z : Bool). Lands t.next w (Gives g slots (if z then asked_a rung xs else asked_b rung xs) h) (chosen a b side mood rung env t)) f.0
    (chosen_gives {g = g} {a = a} {b = b} {asked_a = asked_a} {asked_b = asked_b} side p q mood rung h slots w t env xs f.1 (all_more r all)))

abbrev pub AllConsumeFit : Ground → List Consume → List Asks → Type 0
AllConsumeFit g [] [] = Unit {0}
AllConsumeFit g [] (q ∷ qs) = ⊥
AllConsumeFit g (p ∷ ps) [] = ⊥
AllConsumeFit g (p ∷ ps) (q ∷ qs) = ConsumeFits g p q × AllConsumeFit g ps qs

line_parts : (h l a m b : ℕ) → h ≡ l + a → l ≡ m + b → h ≡ m + (a + b)
line_parts h l a m b j k = omega arith

pub all_give : (g : Ground) (ps : List Consume) (qs : List Asks) → AllConsumeFit g ps qs → ConsumeFits g (all_consumed ps) (all_asked qs)
all_give g [] [] each mood rung h slots v s env xs fit all = emp_gives g mood rung h slots v s env xs fit all
all_give g [] (q ∷ qs) each mood rung h slots v s env xs fit all = absurd each
all_give g (p ∷ ps) [] each mood rung h slots v s env xs fit all = absurd each
all_give g (p ∷ ps) (q ∷ qs) each mood rung h slots v s env xs fit all =
    lands_then (each.0 mood rung h slots v s env xs fit all) (λ e t w r a.
    lands_as (all_give g ps qs each.1 mood rung a.left slots w t e a.need.env a.fits a.env) (λ d u x k b. record {
      need = both_asked a.need b.need;
      is = value_is (q rung xs) a.need _ a.is ∙ value_is (all_asked qs rung a.need.env) b.need _ b.is;
      known = known_both g a.need.claims b.need.claims a.known b.known;
      left = b.left;
      parts = λ k. line_parts (h k) (a.left k) (a.need.heap k) (b.left k) (b.need.heap k) (a.parts k) (b.parts k);
      fits = b.fits;
      env = b.env;
    }))
