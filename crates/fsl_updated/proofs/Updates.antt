-- Exchange, fetch-and-add and compare-exchange.
use Rattle.std.proofs.Common.{◌≡◌, ◌⊎◌, inl, ℕ, ◌<◌, ◌^◌, ◌-◌, Bool, true, false, nat_lt, List, map, Some, None, ℤ, pos, negsuc, ◌+ℤ◌, ◌≤ℤ◌, if◌then◌else◌, refl, sym, subst, arith}
use Rattle.std.specs.Ordering.{int_eq}
use Rattle.std.specs.Prelude.{slice_set}
use Rattle.std.proofs.lemmas.Int.{ints}
use Rattle.fsl_core.specs.declared.act.Step.{Step}
use Rattle.fsl_core.specs.declared.expr.Expr.{Expr}
use Rattle.fsl_core.specs.declared.mode.Mode.{Mode}
use Rattle.fsl_core.specs.Programs.{Program}
use Rattle.fsl_core.specs.Values.{in_range}
use Rattle.fsl_core.specs.logic.States.{State, followed, done, set}
use Rattle.fsl_core.specs.logic.Terms.{expr_of}
use Rattle.fsl_core.specs.logic.Assertions.{asrt_of}
use Rattle.fsl_core.specs.logic.Locations.{Setting, setting_of}
use Rattle.fsl_core.specs.logic.Producing.{chosen}
use Rattle.fsl_core.specs.logic.Tokens.{TokenStep, step_of}
use Rattle.fsl_core.specs.logic.Updates.{Leaves, replace, cas, exchange, fetch_add}
use Rattle.fsl_lin.specs.Combination.{Combination, constant}
use Rattle.fsl_lin.specs.Numbers.{Numbers}
use Rattle.fsl_meaning.specs.Means.{Means}
use Rattle.fsl_meaning.specs.Heaps.{Heap, Ground}
use Rattle.fsl_meaning.specs.States.{All, Fits}
use Rattle.fsl_meaning.specs.Branches.{Lands}
use Rattle.fsl_meaning.proofs.Terms.{grows_then, means_more, means_as, means_plus, means_constant}
use Rattle.fsl_meaning.proofs.Calculus.{lands_then, lands_end, tells_then}
use Rattle.fsl_meaning.proofs.Facts.{lands_at_most, lands_symbol}
use Rattle.fsl_meaning.proofs.Deciding.{lands_done, picked_equal, lands_sides}
use Rattle.fsl_meaning.proofs.Owned.{all_lasts}
use Rattle.fsl_meaning.proofs.Joining.{tells_fitting}
use Rattle.fsl_asserted.specs.Exact.{exact}
use Rattle.fsl_asserted.proofs.Terms.{reads_term}
use Rattle.fsl_kept.specs.Parts.{parts_in}
use Rattle.fsl_kept.proofs.Locals.{lands_set}
use Rattle.fsl_updated.specs.Updates.{MayReplace, IsDealt, LeavesMean, Fails, Reads, Replaces, Compares}
use Rattle.fsl_updated.proofs.Finding.{leaves_tell, may_replace, leaves_mean, leaves_more, finds_then, finds_end}
use Rattle.fsl_updated.proofs.Replacing.{replace_fits, lands_set_replaced}

-- ---- exchange

pub exchange_tells : {g : Ground} {slots : List ℤ} {v : Numbers} {s : State} {h : Heap} (p : Setting) (slot : ℕ) (m : Mode) (at e : Expr) (steps : List TokenStep) → Fits slots (All g h) v s
    → MayReplace g (exact at slots) ⊎ Fails (exchange p slot m (expr_of at) (expr_of e) steps s)
exchange_tells {v = v} p slot m at e steps fit =
    finds_end _ (finds_then v _ _ (reads_term at fit fit.env) (λ a a_is.
    finds_then v _ _ (reads_term e fit fit.env) (λ n n_is.
    finds_then v _ _ (leaves_tell a fit a_is) (λ l k. inl (may_replace l k)))))

pub exchange_fits : {g : Ground} {slots : List ℤ} {v : Numbers} {s : State} {h : Heap} {inv : ℕ} {args : List ℤ} (p : Program) (read : Ground) (slot : ℕ) (m : Mode) (at e : Expr)
    (steps : List Step) (x : ℤ) (more : Heap)
    → IsDealt g (exact at slots) inv args → Reads g read (parts_in p inv args x) h more → Fits slots (All g h) v s
    → Lands s.next v (λ u t w. Replaces read m steps slots (parts_in p inv args (exact e slots)) more (slice_set slots slot x) t w)
    (exchange (setting_of asrt_of p) slot m (expr_of at) (expr_of e) (map (step_of expr_of) steps) s)
exchange_fits {g = g} {h = h} p read slot m at e steps x more dealt reads fit =
    lands_end _ (tells_then _ (reads_term at fit fit.env) (λ a a_is.
    tells_then _ (reads_term e fit fit.env) (λ n n_is.
    tells_then _ (leaves_tell a fit a_is) (λ l k.
    lands_then (lands_symbol x (all_lasts g h) fit) (λ o t w r f.
    lands_then (replace_fits p read m steps l o n more (leaves_more r (leaves_mean l dealt k)) f.1 (means_more r n_is) reads f.0) (λ u t2 w2 r2 q.
    lands_set_replaced slot q (means_more r2 f.1)))))))

-- ---- fetch-and-add

-- a number in the range of values
pub record IsInRange (z y : ℤ) : Type 0 where
  pub same : z ≡ y
  pub low : (negsuc (2 ^ 63 - 1) +ℤ pos 0) ≤ℤ z
  pub high : (z +ℤ pos 0) ≤ℤ pos (2 ^ 63 - 1)

below_most : (n : ℕ) → nat_lt n (2 ^ 63) ≡ true → n < 2 ^ 63
below_most n h = grind arith

pos_low : (n : ℕ) → (negsuc (2 ^ 63 - 1) +ℤ pos 0) ≤ℤ pos n
pos_low n = omega (arith, ints)

pos_high : (n : ℕ) → n < 2 ^ 63 → (pos n +ℤ pos 0) ≤ℤ pos (2 ^ 63 - 1)
pos_high n h = omega (arith, ints)

neg_low : (n : ℕ) → n < 2 ^ 63 → (negsuc (2 ^ 63 - 1) +ℤ pos 0) ≤ℤ negsuc n
neg_low n h = omega (arith, ints)

neg_high : (n : ℕ) → (negsuc n +ℤ pos 0) ≤ℤ pos (2 ^ 63 - 1)
neg_high n = omega (arith, ints)

pos_range : (n : ℕ) (y : ℤ) (b : Bool) → nat_lt n (2 ^ 63) ≡ b → (if b then Some (pos n) else None) ≡ Some y → IsInRange (pos n) y
pos_range n y true e h = let same : pos n ≡ y = cc in record { same = same; low = pos_low n; high = pos_high n (below_most n e) }
pos_range n y false e h = absurd (let d : None ≡ Some y = h in cc)

neg_range : (n : ℕ) (y : ℤ) (b : Bool) → nat_lt n (2 ^ 63) ≡ b → (if b then Some (negsuc n) else None) ≡ Some y → IsInRange (negsuc n) y
neg_range n y true e h = let same : negsuc n ≡ y = cc in record { same = same; low = neg_low n (below_most n e); high = neg_high n }
neg_range n y false e h = absurd (let d : None ≡ Some y = h in cc)

is_in_range : (z y : ℤ) → in_range z ≡ Some y → IsInRange z y
is_in_range (pos n) y h = pos_range n y (nat_lt n (2 ^ 63)) refl h
is_in_range (negsuc n) y h = neg_range n y (nat_lt n (2 ^ 63)) refl h

pub add_tells : {g : Ground} {slots : List ℤ} {v : Numbers} {s : State} {h : Heap} (p : Setting) (slot : ℕ) (m : Mode) (at e : Expr) (steps : List TokenStep) → Fits slots (All g h) v s
    → MayReplace g (exact at slots) ⊎ Fails (fetch_add p slot m (expr_of at) (expr_of e) steps s)
add_tells {v = v} p slot m at e steps fit =
    finds_end _ (finds_then v _ _ (reads_term at fit fit.env) (λ a a_is.
    finds_then v _ _ (reads_term e fit fit.env) (λ n n_is.
    finds_then v _ _ (leaves_tell a fit a_is) (λ l k. inl (may_replace l k)))))

pub add_fits : {g : Ground} {slots : List ℤ} {v : Numbers} {s : State} {h : Heap} {inv : ℕ} {args : List ℤ} (p : Program) (read : Ground) (slot : ℕ) (m : Mode) (at e : Expr)
    (steps : List Step) (x y : ℤ) (more : Heap)
    → IsDealt g (exact at slots) inv args → in_range (x +ℤ exact e slots) ≡ Some y → Reads g read (parts_in p inv args x) h more → Fits slots (All g h) v s
    → Lands s.next v (λ u t w. Replaces read m steps slots (parts_in p inv args y) more (slice_set slots slot x) t w)
    (fetch_add (setting_of asrt_of p) slot m (expr_of at) (expr_of e) (map (step_of expr_of) steps) s)
add_fits {g = g} {slots = slots} {h = h} p read slot m at e steps x y more dealt range reads fit =
    let z = x +ℤ exact e slots in
    let i = is_in_range z y range in
    lands_end _ (tells_then _ (reads_term at fit fit.env) (λ a a_is.
    tells_then _ (reads_term e fit fit.env) (λ n n_is.
    tells_then _ (leaves_tell a fit a_is) (λ l k.
    lands_then (lands_symbol x (all_lasts g h) fit) (λ o t w r f.
    tells_then _ (tells_fitting (means_plus f.1 (means_more r n_is))) (λ sum sum_is.
    lands_then (lands_at_most (constant (negsuc (2 ^ 63 - 1))) (pos 0) sum f.0 (means_constant (negsuc (2 ^ 63 - 1))) sum_is i.low) (λ u2 t2 w2 r2 f2.
    lands_then (lands_at_most sum (pos 0) (constant (pos (2 ^ 63 - 1))) f2 (means_more r2 sum_is) (means_constant (pos (2 ^ 63 - 1))) i.high) (λ u3 t3 w3 r3 f3.
    let q = grows_then r2 r3 in
    lands_then (replace_fits p read m steps l o sum more (leaves_more (grows_then r q) (leaves_mean l dealt k)) (means_more q f.1) (means_as i.same (means_more q sum_is)) reads f3)
    (λ u4 t4 w4 r4 done.
    lands_set_replaced slot done (means_more r4 (means_more q f.1)))))))))))

-- ---- compare-exchange

pub cas_tells : {g : Ground} {slots : List ℤ} {v : Numbers} {s : State} {h : Heap} (p : Setting) (slot : ℕ) (m : Mode) (at old new : Expr) (steps : List TokenStep) → Fits slots (All g h) v s
    → MayReplace g (exact at slots) ⊎ Fails (cas p slot m (expr_of at) (expr_of old) (expr_of new) steps s)
cas_tells {v = v} p slot m at old new steps fit =
    finds_end _ (finds_then v _ _ (reads_term at fit fit.env) (λ a a_is.
    finds_then v _ _ (reads_term old fit fit.env) (λ expected expected_is.
    finds_then v _ _ (reads_term new fit fit.env) (λ n n_is.
    finds_then v _ _ (leaves_tell a fit a_is) (λ l k. inl (may_replace l k))))))

-- it is replaced, or not, and the old value is the variable's
compared_fits : {g : Ground} {slots : List ℤ} {v : Numbers} {s : State} {h : Heap} {inv : ℕ} {args : List ℤ} {x y : ℤ} (p : Program) (read : Ground) (slot : ℕ) (m : Mode) (steps : List Step)
    (l : Leaves) (o n : Combination) (more : Heap) (b : Bool)
    → LeavesMean s.next v l inv args → Means s.next v o x → Means s.next v n y → (b ≡ true → Reads g read (parts_in p inv args x) h more) → Fits slots (All g h) v s
    → Lands s.next v (λ u t w. Compares b g read m steps slots (parts_in p inv args y) h more (slice_set slots slot x) t w)
    (followed (chosen (replace (setting_of asrt_of p) m (map (step_of expr_of) steps) l o n) done b s) (λ u. set slot o))
compared_fits p read slot m steps l o n more true leaves o_is n_is reads fit =
    lands_then (replace_fits p read m steps l o n more leaves o_is n_is (reads refl) fit) (λ u t w r q. lands_set_replaced slot q (means_more r o_is))
compared_fits p read slot m steps l o n more false leaves o_is n_is reads fit = lands_then (lands_done fit) (λ u t w r f. lands_set slot f (means_more r o_is))

pub cas_fits : {g : Ground} {slots : List ℤ} {v : Numbers} {s : State} {h : Heap} {inv : ℕ} {args : List ℤ} (p : Program) (read : Ground) (slot : ℕ) (m : Mode) (at old new : Expr)
    (steps : List Step) (x : ℤ) (more : Heap)
    → IsDealt g (exact at slots) inv args → (int_eq x (exact old slots) ≡ true → Reads g read (parts_in p inv args x) h more) → Fits slots (All g h) v s
    → Lands s.next v (λ u t w. Compares (int_eq x (exact old slots)) g read m steps slots (parts_in p inv args (exact new slots)) h more (slice_set slots slot x) t w)
    (cas (setting_of asrt_of p) slot m (expr_of at) (expr_of old) (expr_of new) (map (step_of expr_of) steps) s)
cas_fits {g = g} {slots = slots} {h = h} {inv = inv} {args = args} p read slot m at old new steps x more dealt reads fit =
    let answer = int_eq x (exact old slots) in
    lands_end _ (tells_then _ (reads_term at fit fit.env) (λ a a_is.
    tells_then _ (reads_term old fit fit.env) (λ expected expected_is.
    tells_then _ (reads_term new fit fit.env) (λ n n_is.
    tells_then _ (leaves_tell a fit a_is) (λ l k.
    lands_then (lands_symbol x (all_lasts g h) fit) (λ o t w r f.
    lands_end _ (lands_then (lands_sides (picked_equal o expected f.0 f.1 (means_more r expected_is))) (λ b t2 w2 r2 c.
    let q = grows_then r r2 in
    subst (λ (z : Bool). Lands t2.next w2 (λ u t3 w3. Compares answer g read m steps slots (parts_in p inv args (exact new slots)) h more (slice_set slots slot x) t3 w3)
    (followed (chosen (replace (setting_of asrt_of p) m (map (step_of expr_of) steps) l o n) done z t2) (λ u. set slot o))) (sym c.0)
    (compared_fits p read slot m steps l o n more answer (leaves_more q (leaves_mean l dealt k)) (means_more r2 f.1) (means_more q n_is) reads c.1)))))))))
