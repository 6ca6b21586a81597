-- Each assertion produced: the state fits a heap that has what it asks for too.
use Rattle.std.proofs.Common.{◌≡◌, ℕ, ◌+◌, ◌≤◌, ◌^◌, Bool, true, false, List, [], ◌∷◌, map, Option, Some, None, ℤ, pos, if◌then◌else◌, sym, subst, arith}
use Rattle.std.specs.Ordering.{int_eq}
use Rattle.std.specs.Prelude.{slice_set}
use Rattle.fsl_core.specs.declared.assertion.Inst.{Inst}
use Rattle.fsl_core.specs.declared.assertion.Pat.{Pat}
use Rattle.fsl_core.specs.declared.assertion.Pat.TheVariants as pat
use Rattle.fsl_core.specs.declared.chunk.Chunk.TheVariants as chunk
use Rattle.fsl_core.specs.declared.expr.Cond.{Cond}
use Rattle.fsl_core.specs.declared.expr.Expr.{Expr}
use Rattle.fsl_core.specs.declared.mode.Rung.{Rung}
use Rattle.fsl_core.specs.logic.States.{Env, State, Branches}
use Rattle.fsl_core.specs.logic.Terms.{expr_of}
use Rattle.fsl_core.specs.logic.Deciding.{cond_of, assume_cond}
use Rattle.fsl_core.specs.logic.Chunks.{Leave}
use Rattle.fsl_core.specs.logic.Producing.{Wanted, pat_of, inst_of, add_wanted, bank_of, Produce, emp_produced, fact_produced, points_produced, init_produced, rel_produced, acq_produced, rmw_produced, tok_produced, auth_produced, chosen, choice_produced, all_produced}
use Rattle.fsl_lin.specs.Combination.{Combination}
use Rattle.fsl_lin.specs.Numbers.{Numbers}
use Rattle.fsl_meaning.specs.Means.{Means, AllMean, IsKnown}
use Rattle.fsl_meaning.specs.Heaps.{Key, Key as key, Heap, Holds, nothing, some_of, Claim, MayWrite, MayUpdate, Ground, AllKnown, IsBounded}
use Rattle.fsl_meaning.specs.States.{OwnsCell, KnowsLeave, All, Fits}
use Rattle.fsl_meaning.specs.Branches.{Lands}
use Rattle.fsl_meaning.proofs.Terms.{means_more, means_as, all_more}
use Rattle.fsl_meaning.proofs.Calculus.{lands_then, lands_give, tells_then}
use Rattle.fsl_meaning.proofs.Facts.{lands_symbol}
use Rattle.fsl_meaning.proofs.Deciding.{equal, lands_decided, lands_assume_cond}
use Rattle.fsl_meaning.proofs.Owned.{all_lasts, fits_less, lands_add, line_less}
use Rattle.fsl_meaning.proofs.Heaps.{share_at}
use Rattle.fsl_meaning.proofs.Joining.{line_mine, lands_assume_share, lands_add_cell, lands_init, lands_rel, lands_rmw, lands_tokens, lands_authority, bounded_less}
use Rattle.fsl_meaning.proofs.Slots.{all_get, all_set}
use Rattle.fsl_asserted.specs.Exact.{exact, exact_all, exact_cond}
use Rattle.fsl_asserted.specs.Needs.{Need, need, Asks, only_if, positive, natural, matched, points_asked, claim_asked, acq_asked, bank_number, tok_asked, auth_asked, both_asked, all_asked}
use Rattle.fsl_asserted.specs.Fitting.{Gains, ProduceFits}
use Rattle.fsl_asserted.proofs.Asking.{some_is, value_asked, if_asked, positive_is, natural_is, known_left, known_right, some_there}
use Rattle.fsl_asserted.proofs.Exprs.{judges_cond}
use Rattle.fsl_asserted.proofs.Terms.{reads_term, reads_terms, LeaveMeans, reads_leave, WantedMeans, reads_wanted, wanted_more}

-- the branches fit what is asked for
abbrev Produced : Ground → List ℤ → Heap → Heap → Numbers → State → Branches Env → Need → Type 0
Produced g slots h more v s bs m = AllKnown g m.claims → Holds m.heap h more → IsBounded g.truth more → Lands s.next v (Gains g slots more m.env) bs

produced : {g : Ground} {slots : List ℤ} {more : Heap} {v : Numbers} {bs : Branches Env} (h : Heap) (s : State) (m n : Need) → Some m ≡ Some n → Produced g slots h more v s bs m → Produced g slots h more v s bs n
produced {g = g} {slots = slots} {more = more} {v = v} {bs = bs} h s m n e p = subst (λ (z : Need). Produced g slots h more v s bs z) (some_is e) p

line_more : (a h m : ℕ) → a + h ≤ m → h ≤ m
line_more a h m l = omega arith

pub more_of : (mine h more : Heap) → Holds mine h more → (k : Key) → h k ≤ more k
more_of mine h more holds k = line_more (mine k) (h k) (more k) (holds k)

pub emp_fits : (g : Ground) → ProduceFits g emp_produced (λ rung xs. Some (need nothing [] xs))
emp_fits g rung n h more slots v s env xs fit all is = produced h s (need nothing [] xs) n is (λ known holds bounds. lands_give env s (record { fits = fits_less more (more_of nothing h more holds) fit; env = all }))

pub fact_fits : (g : Ground) (c : Cond) → ProduceFits g (fact_produced (cond_of expr_of c)) (λ rung xs. only_if (exact_cond c xs) (Some (need nothing [] xs)))
fact_fits g c rung n h more slots v s env xs fit all is =
    let p = if_asked (exact_cond c xs) (Some (need nothing [] xs)) n is in
    let l : Lands s.next v (λ u t w. Fits slots (All g h) w t) (assume_cond true (cond_of expr_of c) env s) =
    subst (λ (b : Bool). Lands s.next v (λ u t w. Fits slots (All g h) w t) (assume_cond b (cond_of expr_of c) env s)) p.0 (lands_assume_cond (cond_of expr_of c) (exact_cond c) (judges_cond c) fit all) in
    produced h s (need nothing [] xs) n p.1 (λ known holds bounds.
    lands_then l (λ u t w r f. lands_give env t (record { fits = fits_less more (more_of nothing h more holds) f; env = all_more r all })))

-- ---- shares of cells

added_value : {g : Ground} {slots : List ℤ} {h : Heap} {v : Numbers} {s : State} {env : Env} {a k : Combination} {xs : List ℤ} (rung : Rung) (value : Option Combination) (more : Heap) (loc : ℤ) (amount : ℕ)
    → Fits slots (All g h) v s → AllMean s.next v env xs → Means s.next v a loc → Means s.next v k (pos amount) → 1 ≤ amount → IsKnown s.next v value (g.truth.value loc)
    → OwnsCell g s.next v rung a k value (some_of (key.Cell rung loc) amount)
added_value rung value more loc amount fit all at_is share_is some value_is = record {
  loc = loc;
  amount = amount;
  at_is = at_is;
  share_is = share_is;
  some = some;
  value_is = value_is;
  there = some_there (key.Cell rung loc) amount;
}

added : {g : Ground} {slots : List ℤ} {h : Heap} {v : Numbers} {s : State} {env : Env} {a k : Combination} {xs : List ℤ} (rung : Rung) (p : Pat) (w : Wanted Combination) (more : Heap) (loc : ℤ) (amount : ℕ) (ys : List ℤ)
    → Fits slots (All g h) v s → AllMean s.next v env xs → Means s.next v a loc → Means s.next v k (pos amount) → 1 ≤ amount → WantedMeans s.next v xs p w
    → matched p (g.truth.value loc) xs ≡ Some ys → Holds (some_of (key.Cell rung loc) amount) h more → IsBounded g.truth more
    → Lands s.next v (Gains g slots more ys) (add_wanted rung a k w env s)
added {g = g} {slots = slots} {h = h} {v = v} {s = s} {env = env} {a = a} {k = k} rung pat.Any w more loc amount ys fit all at_is share_is some w_is e holds bounds =
    subst (λ (z : Wanted Combination). Lands s.next v (Gains g slots more ys) (add_wanted rung a k z env s)) (sym w_is)
    (lands_then (lands_add_cell rung (record { at = a; share = k; value = None }) more fit (added_value rung None more loc amount fit all at_is share_is some tt) holds bounds) (λ u t x r f.
    lands_give env t (record { fits = f; env = subst (λ (zs : List ℤ). AllMean t.next x env zs) (some_is e) (all_more r all) })))
added {g = g} {slots = slots} {h = h} {v = v} {s = s} {env = env} {a = a} {k = k} {xs = xs} rung (pat.Bind slot) w more loc amount ys fit all at_is share_is some w_is e holds bounds =
    let i = value_asked (g.truth.value loc) (λ x. Some (slice_set xs slot x)) ys e in
    subst (λ (z : Wanted Combination). Lands s.next v (Gains g slots more ys) (add_wanted rung a k z env s)) (sym w_is)
    (lands_then (lands_symbol i.value (all_lasts g h) fit) (λ y t1 x1 r1 f1.
    lands_then (lands_add_cell rung (record { at = a; share = k; value = Some y }) more f1.0
    (added_value rung (Some y) more loc amount f1.0 (all_more r1 all) (means_more r1 at_is) (means_more r1 share_is) some (record { number = i.value; is = i.is; means = f1.1 })) holds bounds) (λ u t x r f.
    lands_give (slice_set env slot y) t (record { fits = f; env = subst (λ (zs : List ℤ). AllMean t.next x (slice_set env slot y) zs) (some_is i.then_is) (all_set slot (all_more r (all_more r1 all)) (means_more r f1.1)) }))))
added {g = g} {slots = slots} {h = h} {v = v} {s = s} {env = env} {a = a} {k = k} {xs = xs} rung (pat.Is c) w more loc amount ys fit all at_is share_is some w_is e holds bounds =
    let i = value_asked (g.truth.value loc) (λ x. only_if (int_eq x (exact c xs)) (Some xs)) ys e in
    let p = if_asked (int_eq i.value (exact c xs)) (Some xs) ys i.then_is in
    subst (λ (z : Wanted Combination). Lands s.next v (Gains g slots more ys) (add_wanted rung a k z env s)) (sym w_is.is)
    (lands_then (lands_add_cell rung (record { at = a; share = k; value = Some w_is.term }) more fit
    (added_value rung (Some w_is.term) more loc amount fit all at_is share_is some (record { number = i.value; is = i.is; means = means_as (sym (equal i.value (exact c xs) p.0)) w_is.means })) holds bounds) (λ u t x r f.
    lands_give env t (record { fits = f; env = subst (λ (zs : List ℤ). AllMean t.next x env zs) (some_is p.1) (all_more r all) })))

pub points_fit : (g : Ground) (at share : Expr) (p : Pat) → ProduceFits g (points_produced (expr_of at) (expr_of share) (pat_of expr_of p)) (points_asked g.truth at share p)
points_fit g at share p rung n h more slots v s env xs fit all is =
    let i = value_asked (positive (exact share xs)) _ n is in
    let j = value_asked (matched p (g.truth.value (exact at xs)) xs) _ n i.then_is in
    let q = positive_is (exact share xs) i.value i.is in
    let cell = key.Cell rung (exact at xs) in
    produced h s (need (some_of cell i.value) [] j.value) n j.then_is (λ known holds bounds.
    let few : i.value ≤ 2 ^ 63 = line_less i.value (more cell) (2 ^ 63) (line_mine i.value (some_of cell i.value cell) (h cell) (more cell) (some_there cell i.value) (holds cell))
    (line_less (more cell) _ (2 ^ 63) (share_at more rung (exact at xs)) (bounds.cells (exact at xs))) in
    tells_then _ (reads_term at fit all) (λ a a_is.
    tells_then _ (reads_term share fit all) (λ k k_is.
    tells_then _ (reads_wanted p fit all) (λ x x_is.
    lands_then (lands_assume_share k fit (means_as q.is k_is) q.some few) (λ u t w r f.
    added rung p x more (exact at xs) i.value j.value f (all_more r all) (means_more r a_is) (means_more r (means_as q.is k_is)) q.some (wanted_more xs p x r x_is) j.is holds bounds)))))

-- ---- claims

pub init_fits : (g : Ground) (at : Expr) → ProduceFits g (init_produced (expr_of at)) (λ rung xs. claim_asked (Claim.IsInit rung (exact at xs)) rung xs)
init_fits g at rung n h more slots v s env xs fit all is = produced h s (need nothing (Claim.IsInit rung (exact at xs) ∷ []) xs) n is (λ known holds bounds.
    tells_then _ (reads_term at fit all) (λ a a_is.
    lands_then (lands_init rung a nothing more fit (record { loc = exact at xs; at_is = a_is; known = known.0 }) holds) (λ u t w r f.
    lands_give env t (record { fits = f; env = all_more r all }))))

knows_leave : {g : Ground} {n : ℕ} {v : Numbers} {l : Leave} {loc : ℤ} {inv : ℕ} {args : List ℤ} (claim : ℤ → ℕ → List ℤ → Claim) → LeaveMeans n v l loc inv args
    → g.knows (claim loc inv args) ≡ true → KnowsLeave g n v claim l.at l.inv l.args
knows_leave {g = g} {loc = loc} {args = args} claim m k =
    record { loc = loc; numbers = args; at_is = m.at_is; args_are = m.args_are; known = subst (λ (i : ℕ). g.knows (claim loc i args) ≡ true) (sym m.inv_is) k }

pub rel_fits : (g : Ground) (at : Expr) (inst : Inst)
    → ProduceFits g (rel_produced (expr_of at) (inst_of expr_of inst)) (λ rung xs. claim_asked (MayWrite (exact at xs) inst.inv (exact_all inst.args xs)) rung xs)
rel_fits g at inst rung n h more slots v s env xs fit all is = produced h s (need nothing (MayWrite (exact at xs) inst.inv (exact_all inst.args xs) ∷ []) xs) n is (λ known holds bounds.
    tells_then _ (reads_leave at inst fit all) (λ l m.
    lands_then (lands_rel l nothing more fit (knows_leave MayWrite m known.0) holds) (λ u t w r f.
    lands_give env t (record { fits = f; env = all_more r all }))))

pub rmw_fits : (g : Ground) (at : Expr) (inst : Inst)
    → ProduceFits g (rmw_produced (expr_of at) (inst_of expr_of inst)) (λ rung xs. claim_asked (MayUpdate (exact at xs) inst.inv (exact_all inst.args xs)) rung xs)
rmw_fits g at inst rung n h more slots v s env xs fit all is = produced h s (need nothing (MayUpdate (exact at xs) inst.inv (exact_all inst.args xs) ∷ []) xs) n is (λ known holds bounds.
    tells_then _ (reads_leave at inst fit all) (λ l m.
    lands_then (lands_rmw l nothing more fit (knows_leave MayUpdate m known.0) holds) (λ u t w r f.
    lands_give env t (record { fits = f; env = all_more r all }))))

pub acq_fits : (g : Ground) (at : Expr) (inst : Inst) (part : ℕ) (out : List Expr)
    → ProduceFits g (acq_produced (expr_of at) (inst_of expr_of inst) part (map expr_of out)) (acq_asked g.truth at inst.inv inst.args part out)
acq_fits g at inst part out rung n h more slots v s env xs fit all is =
    let one = key.Permission (exact at xs) part in
    let p = if_asked _ _ n is in
    produced h s (need (some_of one 1) (Claim.MayRead (exact at xs) inst.inv (exact_all inst.args xs) ∷ []) xs) n p.1 (λ known holds bounds.
    tells_then _ (reads_leave at inst fit all) (λ l m.
    tells_then _ (reads_terms out fit all) (λ values values_are.
    lands_then (lands_add (chunk.Acq l.at l.inv l.args part values) (some_of one 1) more fit (record {
      loc = exact at xs;
      numbers = exact_all inst.args xs;
      excluded = exact_all out xs;
      at_is = m.at_is;
      args_are = m.args_are;
      out_are = values_are;
      known = subst (λ (i : ℕ). g.knows (Claim.MayRead (exact at xs) i (exact_all inst.args xs)) ≡ true) (sym m.inv_is) known.0;
      within = p.0;
      there = some_there one 1;
    }) holds) (λ u t w r f. lands_give env t (record { fits = f; env = all_more r all })))))

-- ---- tokens

pub tok_fits : (g : Ground) (bank : ℕ) (e : Expr) → ProduceFits g (tok_produced bank (expr_of e)) (tok_asked bank e)
tok_fits g bank e rung n h more slots v s env xs fit all is =
    let i = value_asked (natural (exact e xs)) _ n is in
    let one = key.Tokens (bank_number bank xs) in
    produced h s (need (some_of one i.value) [] xs) n i.then_is (λ known holds bounds.
    tells_then _ (reads_term e fit all) (λ k k_is.
    lands_then (lands_tokens (bank_of bank env) k more fit
    (record { number = bank_number bank xs; amount = i.value; bank_is = all_get bank all; count_is = means_as (natural_is (exact e xs) i.value i.is) k_is; there = some_there one i.value }) holds bounds) (λ u t w r f.
    lands_give env t (record { fits = f; env = all_more r all }))))

pub auth_fits : (g : Ground) (bank : ℕ) (e : Expr) → ProduceFits g (auth_produced bank (expr_of e)) (auth_asked g.truth bank e)
auth_fits g bank e rung n h more slots v s env xs fit all is =
    let p = if_asked (int_eq (g.truth.bank (bank_number bank xs)) (exact e xs)) _ n is in
    let one = key.Bank (bank_number bank xs) in
    produced h s (need (some_of one 1) [] xs) n p.1 (λ known holds bounds.
    tells_then _ (reads_term e fit all) (λ k k_is.
    lands_then (lands_authority (bank_of bank env) k more fit (record {
      number = bank_number bank xs;
      bank_is = all_get bank all;
      count_is = means_as (sym (equal (g.truth.bank (bank_number bank xs)) (exact e xs) p.0)) k_is;
      there = some_there one 1;
    }) holds bounds) (λ u t w r f. lands_give env t (record { fits = f; env = all_more r all }))))

-- ---- several

chosen_fits : {g : Ground} {a b : Produce} {asked_a asked_b : Asks} (side : Bool) → ProduceFits g a asked_a → ProduceFits g b asked_b → ProduceFits g (chosen a b side) (λ rung xs. if side then asked_a rung xs else asked_b rung xs)
chosen_fits true p q = p
chosen_fits false p q = q

pub choice_fits : (g : Ground) (c : Cond) (a b : Produce) (asked_a asked_b : Asks) → ProduceFits g a asked_a → ProduceFits g b asked_b
    → ProduceFits g (choice_produced (cond_of expr_of c) a b) (λ rung xs. if exact_cond c xs then asked_a rung xs else asked_b rung xs)
choice_fits g c a b asked_a asked_b p q rung n h more slots v s env xs fit all is known holds bounds =
    lands_then (lands_decided (cond_of expr_of c) (exact_cond c) (judges_cond c) fit all) (λ side t w r f.
    let e : (if side then asked_a rung xs else asked_b rung xs) ≡ Some n = subst (λ (z : Bool). (if z then asked_a rung xs else asked_b rung xs) ≡ Some n) (sym f.0) is in
    chosen_fits {g = g} {a = a} {b = b} {asked_a = asked_a} {asked_b = asked_b} side p q rung n h more slots w t env xs f.1 (all_more r all) e known holds bounds)

-- each of several assertions fits
abbrev pub AllProduceFit : Ground → List Produce → List Asks → Type 0
AllProduceFit g [] [] = Unit {0}
AllProduceFit g [] (q ∷ qs) = ⊥
AllProduceFit g (p ∷ ps) [] = ⊥
AllProduceFit g (p ∷ ps) (q ∷ qs) = ProduceFits g p q × AllProduceFit g ps qs

line_first : (a b h m : ℕ) → (a + b) + h ≤ m → a + h ≤ a + h
line_first a b h m l = omega arith

line_rest : (a b h m : ℕ) → (a + b) + h ≤ m → b + (a + h) ≤ m
line_rest a b h m l = omega arith

line_middle : (a b h m : ℕ) → (a + b) + h ≤ m → a + h ≤ m
line_middle a b h m l = omega arith

pub all_fit : (g : Ground) (ps : List Produce) (qs : List Asks) → AllProduceFit g ps qs → ProduceFits g (all_produced ps) (all_asked qs)
all_fit g [] [] each rung n h more slots v s env xs fit all is known holds bounds = emp_fits g rung n h more slots v s env xs fit all is known holds bounds
all_fit g [] (q ∷ qs) each rung n h more slots v s env xs fit all is known holds bounds = absurd each
all_fit g (p ∷ ps) [] each rung n h more slots v s env xs fit all is known holds bounds = absurd each
all_fit g (p ∷ ps) (q ∷ qs) each rung n h more slots v s env xs fit all is known holds bounds =
    let i = value_asked (q rung xs) _ n is in
    let j = value_asked (all_asked qs rung i.value.env) _ n i.then_is in
    let a = i.value in
    let b = j.value in
    produced h s (both_asked a b) n j.then_is (λ known holds bounds.
    let mid : Heap = λ k. a.heap k + h k in
    lands_then (each.0 rung a h mid slots v s env xs fit all i.is (known_left g a.claims b.claims known) (λ k. line_first (a.heap k) (b.heap k) (h k) (more k) (holds k))
    (bounded_less mid (λ k. line_middle (a.heap k) (b.heap k) (h k) (more k) (holds k)) bounds)) (λ e t w r f.
    all_fit g ps qs each.1 rung b mid more slots w t e a.env f.fits f.env j.is (known_right g a.claims b.claims known)
    (λ k. line_rest (a.heap k) (b.heap k) (h k) (more k) (holds k)) bounds)) known holds bounds
