-- Procedures and loops: what they start with, what is given and gained at a call, what a loop renews.
use Rattle.std.proofs.Common.{◌≡◌, ℕ, zero, suc, ◌<◌, ◌≤◌, ◌==◌, Bool, true, false, List, [], ◌∷◌, ◌++◌, length, get_or, take, Option, Some, None, ℤ, pos, if◌then◌else◌, refl, ap, sym, subst, ◌∙◌, add-one, arith}
use Rattle.std.specs.List.{list_any}
use Rattle.std.specs.Prelude.{slice_set}
use Rattle.std.proofs.lemmas.List.{take_more, take_all}
use Rattle.fsl_core.specs.declared.assertion.Asrt.{Asrt}
use Rattle.fsl_core.specs.declared.declaration.Proc.{Proc}
use Rattle.fsl_core.specs.declared.expr.Cond.{Cond}
use Rattle.fsl_core.specs.declared.mode.Rung.TheVariants.{Plain}
use Rattle.fsl_core.specs.declared.verdict.Mood.TheVariants as mood
use Rattle.fsl_core.specs.logic.States.{Env, State}
use Rattle.fsl_core.specs.logic.Terms.{expr_of}
use Rattle.fsl_core.specs.logic.Deciding.{cond_of, decided}
use Rattle.fsl_core.specs.logic.Assertions.{asrt_of}
use Rattle.fsl_core.specs.logic.Locations.{contract_of, padded}
use Rattle.fsl_core.specs.logic.Calls.{new_symbols, enter, with_result, finish, new_result, set_result, give_pre, gain_post}
use Rattle.fsl_core.specs.logic.Paths.{round, give_inv, drop_chunks}
use Rattle.fsl_core.specs.logic.Slots.{renew_one, renew}
use Rattle.fsl_lin.specs.Combination.{Combination}
use Rattle.fsl_lin.specs.Numbers.{Numbers}
use Rattle.fsl_meaning.specs.Means.{Means, AllMean, padded_numbers}
use Rattle.fsl_meaning.specs.Heaps.{Heap, Holds, Ground, AllKnown, IsBounded}
use Rattle.fsl_meaning.specs.States.{Owning, All, Fits}
use Rattle.fsl_meaning.specs.Branches.{Lands}
use Rattle.fsl_meaning.proofs.Terms.{all_none, all_one, all_append, all_more}
use Rattle.fsl_meaning.proofs.Calculus.{lands_then, lands_give, lands_as, lands_end}
use Rattle.fsl_meaning.proofs.Facts.{Lasts, lands_symbol}
use Rattle.fsl_meaning.proofs.Deciding.{lands_decided, lands_assume_cond}
use Rattle.fsl_meaning.proofs.Owned.{all_lasts}
use Rattle.fsl_meaning.proofs.Slots.{all_padded}
use Rattle.fsl_asserted.specs.Exact.{exact_cond}
use Rattle.fsl_asserted.specs.Needs.{Need, asks}
use Rattle.fsl_asserted.specs.Fitting.{Gives}
use Rattle.fsl_asserted.proofs.Exprs.{judges_cond}
use Rattle.fsl_asserted.proofs.Trees.{produce_fits, consume_fits}
use Rattle.fsl_kept.specs.Calls.{ResultMeans, result_number, numbers_set, numbers_with, renewed}
use Rattle.fsl_kept.specs.Results.{GivesUp}
use Rattle.fsl_kept.proofs.Locals.{lands_set}

-- ---- the start of a procedure

abbrev firsts : ℕ → (ℕ → ℤ) → List ℤ
firsts zero f = []
firsts (suc n) f = firsts n f ++ f n ∷ []

firsts_taken : (xs : List ℤ) (n : ℕ) → n ≤ length xs → firsts n (λ i. get_or xs i (pos 0)) ≡ take n xs
firsts_taken xs zero h = refl
firsts_taken xs (suc n) h =
    let e : firsts n (λ i. get_or xs i (pos 0)) ≡ take n xs = firsts_taken xs n (omega arith) in
    let l : n < length xs = omega arith in
    ap (λ (ys : List ℤ). ys ++ get_or xs n (pos 0) ∷ []) e ∙ sym (take_more xs n (pos 0) l) ∙ ap (λ (k : ℕ). take k xs) (add-one n)

line_self : (n : ℕ) → n ≤ n
line_self n = omega arith

firsts_all : (xs : List ℤ) → firsts (length xs) (λ i. get_or xs i (pos 0)) ≡ xs
firsts_all xs = firsts_taken xs (length xs) (line_self (length xs)) ∙ take_all (length xs) xs (line_self (length xs))

lands_firsts : {slots : List ℤ} {own : Owning} {v : Numbers} {s : State} (n : ℕ) (f : ℕ → ℤ) → Lasts own → Fits slots own v s
    → Lands s.next v (λ ts t w. Fits slots own w t × AllMean t.next w ts (firsts n f)) (new_symbols n s)
lands_firsts {s = s} zero f last fit = lands_give [] s (fit, all_none)
lands_firsts (suc n) f last fit =
    lands_then (lands_firsts n f last fit) (λ ts t w r a.
    lands_then (lands_symbol (f n) last a.0) (λ x t2 w2 r2 b.
    lands_give (ts ++ x ∷ []) t2 (b.0, all_append (all_more r2 a.1) (all_one b.1 all_none))))

-- new symbols may be any numbers
pub lands_new_symbols : {slots : List ℤ} {own : Owning} {v : Numbers} {s : State} (n : ℕ) (xs : List ℤ) → length xs ≡ n → Lasts own → Fits slots own v s
    → Lands s.next v (λ ts t w. Fits slots own w t × AllMean t.next w ts xs) (new_symbols n s)
lands_new_symbols n xs e last fit =
    lands_as (lands_firsts n (λ i. get_or xs i (pos 0)) last fit) (λ ts t w r a. (a.0, subst (λ (ys : List ℤ). AllMean t.next w ts ys) (ap (λ (k : ℕ). firsts k (λ i. get_or xs i (pos 0))) (sym e) ∙ firsts_all xs) a.1))

-- `requires` is produced for the arguments, and the binders keep their numbers
pub enter_fits : {g : Ground} {slots : List ℤ} {v : Numbers} {s : State} {h : Heap} (q : Proc) (numbers : List ℤ) (n : Need) (more : Heap) → length numbers ≡ q.params → Fits slots (All g h) v s
    → asks g.truth q.pre Plain (padded_numbers q.slots numbers) ≡ Some n → AllKnown g n.claims → Holds n.heap h more → IsBounded g.truth more
    → Lands s.next v (λ u t w. Fits n.env (All g more) w t) (enter (contract_of asrt_of q) s)
enter_fits {g = g} {slots = slots} {h = h} q numbers n more long fit asked known holds bounds =
    lands_then (lands_new_symbols q.params numbers long (all_lasts g h) fit) (λ ts t w r a.
    lands_then (produce_fits g q.pre Plain n h more slots w t (padded q.slots ts) (padded_numbers q.slots numbers) a.0 (all_padded q.slots a.1) asked known holds bounds) (λ e t2 w2 r2 gains.
    lands_give tt (record t2 { env = e }) (record { one = gains.fits.one; facts = gains.fits.facts; env = gains.env; owns = gains.fits.owns })))

-- ---- results

with_means : (n : ℕ) (v : Numbers) (e : Env) (xs : List ℤ) (t : Option Combination) (x : Option ℤ) → AllMean n v e xs → ResultMeans n v t x → AllMean n v (with_result e t) (numbers_with xs x)
with_means n v e xs None None all h = all
with_means n v e xs None (Some x) all h = absurd h
with_means n v e xs (Some t) None all h = absurd h
with_means n v e xs (Some t) (Some x) all h = all_append all (all_one h all_none)

-- the result of a call is any number
pub result_fits : {slots : List ℤ} {own : Owning} {v : Numbers} {s : State} (b : Bool) (x : ℤ) → Lasts own → Fits slots own v s
    → Lands s.next v (λ o t w. Fits slots own w t × ResultMeans t.next w o (result_number b x)) (new_result b s)
result_fits {s = s} false x last fit = lands_give None s (fit, tt)
result_fits true x last fit = lands_then (lands_symbol x last fit) (λ y t w r a. lands_give (Some y) t a)

pub set_result_fits : {slots : List ℤ} {own : Owning} {v : Numbers} {s : State} (slot : Option ℕ) (t : Option Combination) (x : Option ℤ) → Fits slots own v s → ResultMeans s.next v t x
    → Lands s.next v (λ u r w. Fits (numbers_set slots slot x) own w r) (set_result slot t s)
set_result_fits {s = s} None t x fit h = lands_give tt s fit
set_result_fits {s = s} (Some slot) None None fit h = lands_give tt s fit
set_result_fits (Some slot) None (Some x) fit h = absurd h
set_result_fits (Some slot) (Some t) None fit h = absurd h
set_result_fits (Some slot) (Some t) (Some x) fit h = lands_set slot fit h

-- ---- calls

-- `requires` is given away
pub give_pre_fits : {g : Ground} {slots : List ℤ} {v : Numbers} {s : State} {h : Heap} (q : Proc) (args : List Combination) (numbers : List ℤ) → Fits slots (All g h) v s → AllMean s.next v args numbers
    → Lands s.next v (Gives g slots (asks g.truth q.pre Plain (padded_numbers q.slots numbers)) h) (give_pre (contract_of asrt_of q) args s)
give_pre_fits {g = g} {slots = slots} {v = v} {s = s} {h = h} q args numbers fit all =
    consume_fits g q.pre mood.Pre Plain h slots v s (padded q.slots args) (padded_numbers q.slots numbers) fit (all_padded q.slots all)

-- `ensures` is gained, with the result
pub gain_post_fits : {g : Ground} {slots : List ℤ} {v : Numbers} {s : State} {h : Heap} (q : Proc) (e : Env) (xs : List ℤ) (t : Option Combination) (x : Option ℤ) (n : Need) (more : Heap) → Fits slots (All g h) v s
    → AllMean s.next v e xs → ResultMeans s.next v t x → asks g.truth q.post Plain (numbers_with xs x) ≡ Some n → AllKnown g n.claims → Holds n.heap h more → IsBounded g.truth more
    → Lands s.next v (λ u r w. Fits slots (All g more) w r) (gain_post (contract_of asrt_of q) e t s)
gain_post_fits {g = g} {slots = slots} {v = v} {s = s} {h = h} q e xs t x n more fit all result asked known holds bounds =
    lands_then (produce_fits g q.post Plain n h more slots v s (with_result e t) (numbers_with xs x) fit (with_means s.next v e xs t x all result) asked known holds bounds) (λ e2 r w k gains. lands_give tt r gains.fits)

pub finish_fits : {g : Ground} {slots : List ℤ} {v : Numbers} {s : State} {h : Heap} (post : Asrt) (t : Combination) (x : ℤ) → Fits slots (All g h) v s → Means s.next v t x
    → Lands s.next v (λ u r w. GivesUp g slots (asks g.truth post Plain (slots ++ x ∷ [])) h r w) (finish (asrt_of post) t s)
finish_fits {g = g} {slots = slots} {v = v} {s = s} {h = h} post t x fit h_is =
    lands_end _ (lands_then (consume_fits g post mood.Post Plain h slots v s (s.env ++ t ∷ []) (slots ++ x ∷ []) fit (all_append fit.env (all_one h_is all_none))) (λ e r w k gives.
    lands_give tt r (record { env = e; gives = gives })))

-- ---- loops

renew_by : {slots : List ℤ} {own : Owning} {v : Numbers} {s : State} (b : Bool) (n : ℕ) (x : ℤ) → Lasts own → Fits slots own v s
    → Lands s.next v (λ u t w. Fits (if b then slice_set slots n x else slots) own w t) (renew_one b n s)
renew_by {s = s} false n x last fit = lands_give tt s fit
renew_by true n x last fit = lands_then (lands_symbol x last fit) (λ y t w r a. lands_set n a.0 a.1)

-- the variables that a loop changes may have any numbers
pub renew_fits : {slots : List ℤ} {own : Owning} {v : Numbers} {s : State} (n : ℕ) (sets : List ℕ) (ys : List ℤ) → Lasts own → Fits slots own v s
    → Lands s.next v (λ u t w. Fits (renewed n sets ys slots) own w t) (renew n sets s)
renew_fits {s = s} zero sets ys last fit = lands_give tt s fit
renew_fits (suc n) sets ys last fit =
    lands_then (renew_fits n sets ys last fit) (λ u t w r f. renew_by (list_any (λ slot. slot == n) sets) n (get_or ys n (pos 0)) last f)

-- a round begins with the invariant at any numbers of the variables that it changes, and with what the condition says
pub round_fits : {g : Ground} {slots : List ℤ} {v : Numbers} {s : State} {h : Heap} (c : Cond) (inv : Asrt) (declared : ℕ) (sets : List ℕ) (ys : List ℤ) (n : Need) (more : Heap) → Fits slots (All g h) v s
    → asks g.truth inv Plain (renewed declared sets ys slots) ≡ Some n → AllKnown g n.claims → Holds n.heap h more → IsBounded g.truth more
    → Lands s.next v (λ u t w. Fits (renewed declared sets ys slots) (All g more) w t) (round (exact_cond c (renewed declared sets ys slots)) (cond_of expr_of c) (asrt_of inv) declared sets s)
round_fits {g = g} {slots = slots} {h = h} c inv declared sets ys n more fit asked known holds bounds =
    let xs = renewed declared sets ys slots in
    lands_then (renew_fits declared sets ys (all_lasts g h) fit) (λ u t w r f.
    lands_end _ (lands_then (produce_fits g inv Plain n h more xs w t t.env xs f f.env asked known holds bounds) (λ e t2 w2 r2 gains.
    lands_assume_cond (cond_of expr_of c) (exact_cond c) (judges_cond c) gains.fits (all_more r2 f.env))))

-- the invariant is given back
pub give_inv_fits : {g : Ground} {slots : List ℤ} {v : Numbers} {s : State} {h : Heap} (inv : Asrt) → Fits slots (All g h) v s
    → Lands s.next v (λ u t w. GivesUp g slots (asks g.truth inv Plain slots) h t w) (give_inv (asrt_of inv) s)
give_inv_fits {g = g} {slots = slots} {v = v} {s = s} {h = h} inv fit =
    lands_end _ (lands_then (consume_fits g inv mood.Loop Plain h slots v s s.env slots fit fit.env) (λ e t w r gives. lands_give tt t (record { env = e; gives = gives })))

-- a body starts with no chunk
pub drop_fits : {g : Ground} {slots : List ℤ} {v : Numbers} {s : State} {h : Heap} (other : Heap) → Fits slots (All g h) v s → Lands s.next v (λ u t w. Fits slots (All g other) w t) (drop_chunks s)
drop_fits {s = s} other fit = lands_give tt (record s { chunks = [] }) (record { one = fit.one; facts = fit.facts; env = fit.env; owns = record { each = tt } })

-- the branches of a condition: the one that is the case
pub branch_fits : {slots : List ℤ} {own : Owning} {v : Numbers} {s : State} (c : Cond) → Fits slots own v s
    → Lands s.next v (λ b t w. (b ≡ exact_cond c slots) × Fits slots own w t) (decided (cond_of expr_of c) s.env s)
branch_fits c fit = lands_decided (cond_of expr_of c) (exact_cond c) (judges_cond c) fit fit.env
