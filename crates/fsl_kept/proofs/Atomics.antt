-- Allocations of atomic locations, and atomic stores.
use Rattle.std.proofs.Common.{◌≡◌, ℕ, zero, suc, ◌+◌, ◌≤◌, Bool, true, false, List, [], ◌∷◌, length, map, ℤ, pos, ◌+ℤ◌, ◌≤ℤ◌, slice_get, refl, ap, sym, subst, arith}
use Rattle.std.specs.Prelude.{slice_set}
use Rattle.fsl_core.specs.declared.assertion.Inst.{Inst}
use Rattle.fsl_core.specs.declared.chunk.Chunk.{Chunk}
use Rattle.fsl_core.specs.declared.chunk.Chunk.TheVariants as chunk
use Rattle.fsl_core.specs.declared.declaration.Inv.{Inv}
use Rattle.fsl_core.specs.declared.expr.Expr.{Expr}
use Rattle.fsl_core.specs.declared.mode.Mode.{Mode}
use Rattle.fsl_core.specs.declared.mode.Rung.TheVariants.{Plain}
use Rattle.fsl_core.specs.declared.verdict.Kind.TheVariants as kind
use Rattle.fsl_core.specs.Programs.{Program}
use Rattle.fsl_core.specs.logic.States.{State}
use Rattle.fsl_core.specs.logic.Terms.{expr_of}
use Rattle.fsl_core.specs.logic.Assertions.{Assertion, asrt_of}
use Rattle.fsl_core.specs.logic.Chunks.{Leave, leave, rel_at}
use Rattle.fsl_core.specs.logic.Locations.{setting_of, parts_of}
use Rattle.fsl_core.specs.logic.Producing.{inst_of}
use Rattle.fsl_core.specs.logic.Accesses.{giving, add_permissions, add_leave, alloc_at, store_atomic}
use Rattle.fsl_lin.specs.Numbers.{Numbers}
use Rattle.fsl_meaning.specs.Means.{Means, AllMean}
use Rattle.fsl_meaning.specs.Heaps.{Key, Key as key, Heap, nothing, some_of, Holds, Claim as claim, Ground, Knows, KnowsMore, Agrees, all_in}
use Rattle.fsl_meaning.specs.States.{KnowsLeave, Stands, All, Fits}
use Rattle.fsl_meaning.specs.Branches.{Lands}
use Rattle.fsl_meaning.proofs.Terms.{means_more, all_more, all_none}
use Rattle.fsl_meaning.proofs.Calculus.{lands_then, lands_give, lands_as, lands_end, tells_then}
use Rattle.fsl_meaning.proofs.Facts.{proved_equal}
use Rattle.fsl_meaning.proofs.Kept.{fits_kept, agrees_less, knows_less}
use Rattle.fsl_meaning.proofs.Owned.{all_lasts, fits_less, tells_find_or, lands_add}
use Rattle.fsl_meaning.proofs.Readings.{rel_read}
use Rattle.fsl_meaning.proofs.Joining.{lands_init}
use Rattle.fsl_asserted.specs.Exact.{exact, exact_all}
use Rattle.fsl_asserted.proofs.Asking.{some_there}
use Rattle.fsl_asserted.proofs.Producing.{more_of}
use Rattle.fsl_asserted.proofs.Terms.{reads_term, reads_terms}
use Rattle.fsl_kept.specs.Atomics.{count_by, permissions_from, leave_heap, leave_claim, StoresAtomic}
use Rattle.fsl_kept.specs.Parts.{parts_in}
use Rattle.fsl_kept.proofs.Locals.{lands_set, lands_address}
use Rattle.fsl_kept.proofs.Parts.{read_inv, parts_are, parts_consumed}

-- ---- allocations

line_self : (a : ℕ) → a ≤ a
line_self a = omega arith

line_rest : (a b h m : ℕ) → (a + b) + h ≤ m → b + (a + h) ≤ m
line_rest a b h m l = omega arith

-- permissions that exclude nothing yet
permissions_land : {g : Ground} {slots : List ℤ} {v : Numbers} {s : State} {loc : ℤ} {numbers : List ℤ} (l : Leave) (part : ℕ) (items : List Assertion) (h more : Heap) → Fits slots (All g h) v s
    → Means s.next v l.at loc → AllMean s.next v l.args numbers → Knows g (claim.MayRead loc l.inv numbers) → ((q : ℕ) → g.truth.out loc q ≡ []) → Holds (permissions_from loc part (length items)) h more
    → Lands s.next v (λ u t w. Fits slots (All g more) w t) (add_permissions l part items s)
permissions_land {s = s} l part [] h more fit at_is args_are known fresh holds = lands_give tt s (fits_less more (more_of nothing h more holds) fit)
permissions_land {g = g} {loc = loc} {numbers = numbers} l part (a ∷ items) h more fit at_is args_are known fresh holds =
    let one = key.Permission loc part in
    let mid : Heap = λ k. some_of one 1 k + h k in
    lands_then (lands_add (chunk.Acq l.at l.inv l.args part []) (some_of one 1) mid fit (record {
      loc = loc;
      numbers = numbers;
      excluded = [];
      at_is = at_is;
      args_are = args_are;
      out_are = all_none;
      known = known;
      within = ap (λ (xs : List ℤ). all_in xs []) (fresh part);
      there = some_there one 1;
    }) (λ k. line_self (mid k))) (λ u t w r f.
    permissions_land l (part + 1) items mid more f (means_more r at_is) (all_more r args_are) known fresh
    (λ k. line_rest (some_of one 1 k) (permissions_from loc (part + 1) (length items) k) (h k) (more k) (holds k)))

length_map : {A B : Type 0} (f : A → B) (xs : List A) → length (map f xs) ≡ length xs
length_map f [] = refl
length_map f (x ∷ xs) = ap suc (length_map f xs)

count_is : (invs : List Inv) (i : ℕ) → length (parts_of (slice_get (map read_inv invs) i)) ≡ count_by (slice_get invs i)
count_is [] i = refl
count_is (inv ∷ invs) zero = length_map asrt_of inv.parts
count_is (inv ∷ invs) (suc i) = count_is invs i

leave_lands : {g : Ground} {slots : List ℤ} {v : Numbers} {s : State} {h : Heap} {loc : ℤ} {numbers : List ℤ} (p : Program) (rmw : Bool) (l : Leave) (more : Heap) → Fits slots (All g h) v s
    → Means s.next v l.at loc → AllMean s.next v l.args numbers → Knows g (leave_claim rmw loc l.inv numbers) → ((q : ℕ) → g.truth.out loc q ≡ []) → Holds (leave_heap p rmw l.inv loc) h more
    → Lands s.next v (λ u t w. Fits slots (All g more) w t) (add_leave (setting_of asrt_of p) rmw l s)
leave_lands {loc = loc} {numbers = numbers} p true l more fit at_is args_are known fresh holds =
    lands_add (chunk.RmwAcq l.at l.inv l.args) nothing more fit (record { loc = loc; numbers = numbers; at_is = at_is; args_are = args_are; known = known }) holds
leave_lands {h = h} {loc = loc} p false l more fit at_is args_are known fresh holds =
    permissions_land l 0 (parts_of (slice_get (map read_inv p.invs) l.inv)) h more fit at_is args_are known fresh
    (subst (λ (n : ℕ). Holds (permissions_from loc 0 n) h more) (sym (count_is p.invs l.inv)) holds)

line_none : (a : ℕ) → 0 + a ≤ a
line_none a = omega arith

-- an address is chosen, and leave to write it comes with leave to update or to read it
pub atomic_alloc_fits : {g : Ground} {slots : List ℤ} {h : Heap} {v : Numbers} {s : State} (p : Program) (slot : ℕ) (rmw : Bool) (inst : Inst) (loc : ℤ) (more : Heap) → Fits slots (All g h) v s → (pos 1 +ℤ pos 0) ≤ℤ loc
    → Knows g (claim.MayWrite loc inst.inv (exact_all inst.args slots)) → Knows g (leave_claim rmw loc inst.inv (exact_all inst.args slots)) → ((q : ℕ) → g.truth.out loc q ≡ [])
    → Holds (leave_heap p rmw inst.inv loc) h more → Lands s.next v (λ u t w. Fits (slice_set slots slot loc) (All g more) w t) (alloc_at (setting_of asrt_of p) slot rmw (inst_of expr_of inst) s)
atomic_alloc_fits {g = g} {slots = slots} {h = h} p slot rmw inst loc more fit l writes may fresh holds =
    lands_end _ (tells_then _ (reads_terms inst.args fit fit.env) (λ args args_are.
    lands_then (lands_address loc (all_lasts g h) fit l) (λ d t w r f.
    lands_then (lands_add (chunk.Rel d inst.inv args) nothing h f.0 (record { loc = loc; numbers = exact_all inst.args slots; at_is = f.1; args_are = all_more r args_are; known = writes }) (λ k. line_none (h k))) (λ u2 t2 w2 r2 f2.
    lands_then (leave_lands p rmw (leave d inst.inv args) more f2 (means_more r2 f.1) (all_more r2 (all_more r args_are)) may fresh holds) (λ u3 t3 w3 r3 f3.
    lands_set slot f3 (means_more r3 (means_more r2 f.1)))))))

-- ---- stores

line_left : (h l n : ℕ) → h ≡ l + n → l ≤ h
line_left h l n e = omega arith

-- all parts of the invariant at the value are given away, at the rung of the mode
pub atomic_store_fits : {g : Ground} {slots : List ℤ} {h : Heap} {v : Numbers} {s : State} (p : Program) (later : Ground) (m : Mode) (at e : Expr) → KnowsMore g later h → Agrees g.truth later.truth h
    → Knows later (claim.IsInit Plain (exact at slots)) → Fits slots (All g h) v s
    → Lands s.next v (λ u t w. StoresAtomic p g later m slots (exact at slots) (exact e slots) h t w) (store_atomic (setting_of asrt_of p) m (expr_of at) (expr_of e) s)
atomic_store_fits {g = g} {slots = slots} {h = h} {v = v} {s = s} p later m at e more agrees init fit =
    lands_end _ (tells_then _ (reads_term at fit fit.env) (λ a a_is.
    tells_then _ (reads_term e fit fit.env) (λ x x_is.
    tells_then _ (tells_find_or kind.Rel (rel_at a) fit) (λ f out.
    let r = rel_read a s.facts out.item f.is out.reads_as in
    let k : KnowsLeave g s.next v claim.MayWrite f.is.at f.is.inv f.is.args = subst (λ (c : Chunk). Stands g s.next v c out.mine) r.0 out.fits.owns.stands in
    let same : k.loc ≡ exact at slots = proved_equal fit.one fit.facts k.at_is a_is r.1 in
    lands_then (parts_consumed {ps = parts_in p f.is.inv k.numbers (exact e slots)} (giving m) fit (parts_are p f.is k.args_are x_is)) (λ u t w q c.
    let less : (j : Key) → c.left j ≤ h j = λ j. line_left (h j) (c.left j) (c.need.heap j) (c.parts j) in
    let kept = fits_kept later (knows_less c.left h less more) (agrees_less c.left h less agrees) c.fits in
    lands_as (lands_init Plain a nothing c.left kept (record { loc = exact at slots; at_is = means_more q a_is; known = init }) (λ j. line_none (c.left j))) (λ u2 t2 w2 r2 fits. record {
      inv = f.is.inv;
      numbers = k.numbers;
      may = subst (λ (z : ℤ). g.knows (claim.MayWrite z f.is.inv k.numbers) ≡ true) same k.known;
      need = c.need;
      is = c.is;
      known = c.known;
      left = c.left;
      parts = c.parts;
      fits = fits;
    }))))))
