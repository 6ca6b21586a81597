-- Atomic loads: what each permission gains, one after the other.
use Rattle.std.proofs.Common.{◌≡◌, ℕ, ◌+◌, ◌≤◌, Bool, true, false, List, [], ◌∷◌, ◌++◌, length, Option, Some, None, ℤ, slice_get, refl, ap, sym, subst, ◌∙◌}
use Rattle.std.specs.Ordering.{int_eq}
use Rattle.std.specs.List.{list_any}
use Rattle.std.specs.Prelude.{slice_set}
use Rattle.std.proofs.lemmas.Bool.{and_from}
use Rattle.fsl_core.specs.declared.chunk.Chunk.{Chunk}
use Rattle.fsl_core.specs.declared.chunk.Chunk.TheVariants as chunk
use Rattle.fsl_core.specs.declared.expr.Expr.{Expr}
use Rattle.fsl_core.specs.declared.mode.Mode.{Mode}
use Rattle.fsl_core.specs.declared.mode.Rung.{Rung}
use Rattle.fsl_core.specs.declared.mode.Rung.TheVariants.{Plain}
use Rattle.fsl_core.specs.declared.verdict.Kind.TheVariants as kind
use Rattle.fsl_core.specs.Programs.{Program}
use Rattle.fsl_core.specs.logic.States.{State}
use Rattle.fsl_core.specs.logic.Terms.{expr_of}
use Rattle.fsl_core.specs.logic.Assertions.{asrt_of}
use Rattle.fsl_core.specs.logic.Chunks.{Permission, init_at}
use Rattle.fsl_core.specs.logic.Locations.{setting_of, parts_at}
use Rattle.fsl_core.specs.logic.Accesses.{gaining, permission_at, permission_in, permissions, gain, gain_by, gain_each, load_atomic}
use Rattle.fsl_lin.specs.Combination.{Combination}
use Rattle.fsl_lin.specs.Numbers.{Numbers}
use Rattle.fsl_meaning.specs.Means.{Means}
use Rattle.fsl_meaning.specs.Heaps.{Key as key, Heap, Holds, Claim as claim, Ground, IsBounded, all_in}
use Rattle.fsl_meaning.specs.States.{OwnsPermission, KnowsInit, Stands, EachStands, Owns, All, Opened, Fits}
use Rattle.fsl_meaning.specs.Branches.{Lands}
use Rattle.fsl_meaning.proofs.Terms.{means_more, all_more, all_append, all_one, all_none}
use Rattle.fsl_meaning.proofs.Calculus.{lands_then, lands_give, lands_as, lands_end, tells_then}
use Rattle.fsl_meaning.proofs.Facts.{proved_equal, lands_symbol}
use Rattle.fsl_meaning.proofs.Kept.{owns_kept}
use Rattle.fsl_meaning.proofs.Owned.{all_lasts, pull, insert, tells_find_or, fits_back}
use Rattle.fsl_meaning.proofs.Readings.{acq_chunk, init_read}
use Rattle.fsl_meaning.proofs.Joining.{bounded_less}
use Rattle.fsl_asserted.specs.Exact.{exact}
use Rattle.fsl_asserted.specs.Needs.{Need}
use Rattle.fsl_asserted.proofs.Asking.{value_asked}
use Rattle.fsl_asserted.proofs.Stays.{asks_stay}
use Rattle.fsl_asserted.proofs.Terms.{reads_term}
use Rattle.fsl_kept.specs.Changes.{grounded}
use Rattle.fsl_kept.specs.Parts.{Part, parts_in, ArePieces}
use Rattle.fsl_kept.specs.Atomics.{marking, Pool, pooled, AllReady, Gained, HasInv, LoadsAtomic}
use Rattle.fsl_kept.proofs.Locals.{lands_set, knows_same}
use Rattle.fsl_kept.proofs.Parts.{parts_are}
use Rattle.fsl_kept.proofs.Loads.{any_false, lands_excluded, placed_is, set_between, permission_read, pooled_out, marked_agrees, marked_is, any_last, in_more, line_one, line_pooled, line_mine, line_grown, line_mid, line_self, ready_kept, marked_bounds, gained_none, part_lands}

-- a permission gains nothing, or its part
data Step (g : Ground) (slots : List ℤ) (rung : Rung) (loc y : ℤ) (parts : List Part) (os : Pool) (h more : Heap) (s : State) (w : Numbers) : Type 0 where
  same : Fits slots (All g h) w s → Step g slots rung loc y parts os h more s w
  took : (q : ℕ) (n : Need) → slice_get os q ≡ Some (Some n) → Fits slots (All (grounded g (marking loc q y g.truth)) (λ k. n.heap k + h k)) w s
      → Holds (λ k. n.heap k + h k) (pooled (slice_set os q None)) more → AllReady (grounded g (marking loc q y g.truth)) rung loc y parts (slice_set os q None) more
      → Step g slots rung loc y parts os h more s w

-- what a permission that was found stands for, once it is known whether y is excluded
gain_after : {g : Ground} {slots : List ℤ} {v : Numbers} {s : State} {h : Heap} {mine rest : Heap} {loc y : ℤ} {inv : ℕ} {xs : List ℤ} (p : Program) (rung : Rung) (d : Combination) (place : ℕ) (x : Permission) (os : Pool) (more : Heap)
    (before behind : List Chunk) (b : Bool) → length before ≡ place → (own : OwnsPermission g s.next v x.leave.at x.leave.inv x.leave.args x.part x.out mine) → own.loc ≡ loc → b ≡ list_any (int_eq y) own.excluded
    → Fits slots (Opened g before (acq_chunk x) behind mine rest) v s → Holds mine rest h → Means s.next v d y → HasInv g loc inv xs → AllReady g rung loc y (parts_in p inv xs y) os more
    → Holds h (pooled os) more → IsBounded g.truth more
    → Lands s.next v (λ u t w. Step g slots rung loc y (parts_in p inv xs y) os h more t w) (gain (setting_of asrt_of p) rung d place x b s)
gain_after {s = s} {h = h} p rung d place x os more before behind true long own loc_is e fit holds d_is has ready within bounds = lands_give tt s (Step.same (fits_back h fit holds))
gain_after {g = g} {slots = slots} {v = v} {s = s} {h = h} {mine = mine} {rest = rest} {loc = loc} {y = y} {inv = inv} {xs = xs} p rung d place x os more before behind false long own loc_is e fit holds d_is has ready within bounds =
    let q = x.part in
    let one = key.Permission loc q in
    let there : 1 ≤ mine one = subst (λ (l : ℤ). 1 ≤ mine (key.Permission l q)) loc_is own.there in
    let excludes : all_in (g.truth.out loc q) own.excluded ≡ true = subst (λ (l : ℤ). all_in (g.truth.out l q) own.excluded ≡ true) loc_is own.within in
    let fresh : list_any (int_eq y) (g.truth.out loc q) ≡ false = any_false y (g.truth.out loc q) own.excluded excludes (list_any (int_eq y) (g.truth.out loc q)) refl (sym e) in
    let known = subst (λ (l : ℤ). g.knows (claim.MayRead l x.leave.inv own.numbers) ≡ true) loc_is own.known in
    let only = has.one x.leave.inv own.numbers known in
    let r = ready.ready q (line_mine (mine one) (rest one) (h one) (pooled os one) (more one) there (holds one) (within one)) fresh in
    let n = r.need in
    let out = pooled_out os q n r.there in
    let later = grounded g (marking loc q y g.truth) in
    let none_rest : 1 ≤ rest one → ⊥ = line_one (mine one) (rest one) (h one) (pooled os one) (more one) there (holds one) (within one) (bounds.once loc q) in
    let none_in : (m : Need) (z : ℕ) → slice_get os z ≡ Some (Some m) → 1 ≤ m.heap one → ⊥ = λ m z i.
    line_pooled (mine one) (rest one) (h one) (m.heap one) (pooled (slice_set os z None) one) (pooled os one) (more one) there (holds one) (pooled_out os z m i one) (within one) (bounds.once loc q) in
    let new : Chunk = chunk.Acq x.leave.at x.leave.inv x.leave.args q (x.out ++ d ∷ []) in
    let stands : OwnsPermission later s.next v x.leave.at x.leave.inv x.leave.args q (x.out ++ d ∷ []) mine = record {
      loc = loc;
      numbers = own.numbers;
      excluded = own.excluded ++ y ∷ [];
      at_is = subst (λ (l : ℤ). Means s.next v x.leave.at l) loc_is own.at_is;
      args_are = own.args_are;
      out_are = all_append own.out_are (all_one d_is all_none);
      known = known;
      within = subst (λ (zs : List ℤ). all_in zs (own.excluded ++ y ∷ []) ≡ true) (sym (marked_is g.truth loc y q))
          (and_from (list_any (int_eq y) (own.excluded ++ y ∷ [])) (all_in (g.truth.out loc q) (own.excluded ++ y ∷ [])) (any_last y own.excluded) (in_more y (g.truth.out loc q) own.excluded excludes));
      there = there;
    } in
    let others : Owns later s.next v (before ++ behind) rest = owns_kept later (knows_same g (marking loc q y g.truth) rest) (marked_agrees g.truth rest loc y q none_rest) fit.owns.others in
    let listed : slice_set s.chunks place new ≡ before ++ new ∷ behind =
    ap (λ (cs : List Chunk). slice_set cs place new) fit.owns.list ∙ ap (λ (i : ℕ). slice_set (before ++ acq_chunk x ∷ behind) i new) (sym long) ∙ set_between before behind (acq_chunk x) new in
    let changed : State = record s { chunks = slice_set s.chunks place new } in
    let fits : Fits slots (All later h) v changed = record {
      one = fit.one;
      facts = fit.facts;
      env = fit.env;
      owns = record { each = subst (λ (cs : List Chunk). EachStands later s.next v cs h) (sym listed) (insert later s.next v before new behind mine rest h holds stands others.each) };
    } in
    let are : ArePieces s.next v (parts_at (setting_of asrt_of p) x.leave d) (parts_in p inv xs y) =
    subst (λ (ps : List Part). ArePieces s.next v (parts_at (setting_of asrt_of p) x.leave d) ps) (λ i. parts_in p (only.0 i) (only.1 i) y) (parts_are p x.leave own.args_are d_is) in
    let asked = asks_stay g.truth (marking loc q y g.truth) r.part.asrt rung r.part.numbers n r.asked (marked_agrees g.truth n.heap loc y q (none_in n q r.there)) in
    let mid : Heap = λ k. n.heap k + h k in
    let room = marked_bounds g.truth mid loc y q (bounded_less mid (λ k. line_mid (n.heap k) (pooled (slice_set os q None) k) (pooled os k) (h k) (more k) (out k) (within k)) bounds) in
    lands_end _ (lands_as (part_lands {s = changed} rung (parts_at (setting_of asrt_of p) x.leave d) (parts_in p inv xs y) q r.part n mid fits are r.is asked r.known (λ k. line_self (mid k)) room) (λ u t w k f.
    Step.took q n r.there f (λ j. line_grown (n.heap j) (pooled (slice_set os q None) j) (pooled os j) (h j) (more j) (out j) (within j)) (ready_kept g rung loc y (parts_in p inv xs y) os more q none_in ready)))

gain_at : {g : Ground} {slots : List ℤ} {v : Numbers} {s : State} {h : Heap} {loc y : ℤ} {inv : ℕ} {xs : List ℤ} (p : Program) (rung : Rung) (a d : Combination) (place : ℕ) (os : Pool) (more : Heap) (o : Option Permission)
    → permission_in a place s ≡ o → Fits slots (All g h) v s → Means s.next v a loc → Means s.next v d y → HasInv g loc inv xs → AllReady g rung loc y (parts_in p inv xs y) os more → Holds h (pooled os) more → IsBounded g.truth more
    → Lands s.next v (λ u t w. Step g slots rung loc y (parts_in p inv xs y) os h more t w) (gain_by (setting_of asrt_of p) rung d place o s)
gain_at {s = s} p rung a d place os more None e fit a_is d_is has ready within bounds = lands_give tt s (Step.same fit)
gain_at {g = g} {slots = slots} {v = v} {s = s} {h = h} {loc = loc} {y = y} p rung a d place os more (Some x) e fit a_is d_is has ready within bounds =
    let i = value_asked (slice_get s.chunks place) (permission_at a s.facts) x e in
    let r = permission_read a s.facts i.value x i.then_is in
    let l = placed_is s.chunks place i.value i.is in
    let list : s.chunks ≡ l.before ++ acq_chunk x ∷ l.behind = l.list ∙ ap (λ (c : Chunk). l.before ++ c ∷ l.behind) r.0 in
    let each : EachStands g s.next v (l.before ++ acq_chunk x ∷ l.behind) h = subst (λ (cs : List Chunk). EachStands g s.next v cs h) list fit.owns.each in
    let o = pull l.before (acq_chunk x) l.behind h each in
    let own : OwnsPermission g s.next v x.leave.at x.leave.inv x.leave.args x.part x.out o.mine = o.stands in
    let loc_is : own.loc ≡ loc = proved_equal fit.one fit.facts own.at_is a_is r.1 in
    let opened : Fits slots (Opened g l.before (acq_chunk x) l.behind o.mine o.rest) v s =
    record { one = fit.one; facts = fit.facts; env = fit.env; owns = record { list = list; stands = o.stands; others = record { each = o.each } } } in
    lands_then (lands_excluded d x.out own.excluded opened d_is own.out_are) (λ b t w k f.
    let later : OwnsPermission g t.next w x.leave.at x.leave.inv x.leave.args x.part x.out o.mine = record {
      loc = own.loc;
      numbers = own.numbers;
      excluded = own.excluded;
      at_is = means_more k own.at_is;
      args_are = all_more k own.args_are;
      out_are = all_more k own.out_are;
      known = own.known;
      within = own.within;
      there = own.there;
    } in
    gain_after p rung d place x os more l.before l.behind b l.long later loc_is f.0 f.1 o.holds (means_more k d_is) has ready within bounds)

gained_after : {g : Ground} {slots : List ℤ} {loc y : ℤ} {os : Pool} {more : Heap} {s : State} {w : Numbers} (q : ℕ) (n : Need) → slice_get os q ≡ Some (Some n)
    → Gained (grounded g (marking loc q y g.truth)) slots loc y (slice_set os q None) more s w → Gained g slots loc y os more s w
gained_after q n there a = record { taken = q ∷ a.taken; were = (n, there, a.were); grown = a.grown; within = a.within; fits = a.fits }

-- at each of these places
pub gains_land : {g : Ground} {slots : List ℤ} {v : Numbers} {s : State} {loc y : ℤ} {inv : ℕ} {xs : List ℤ} (p : Program) (rung : Rung) (a d : Combination) (places : List ℕ) (os : Pool) (h more : Heap) → Fits slots (All g h) v s
    → Means s.next v a loc → Means s.next v d y → HasInv g loc inv xs → AllReady g rung loc y (parts_in p inv xs y) os more → Holds h (pooled os) more → IsBounded g.truth more
    → Lands s.next v (λ u t w. Gained g slots loc y os more t w) (gain_each (setting_of asrt_of p) rung a d places s)
gains_land {s = s} p rung a d [] os h more fit a_is d_is has ready within bounds = lands_give tt s (gained_none fit within)
gains_land {g = g} {slots = slots} {s = s} {loc = loc} {y = y} {inv = inv} {xs = xs} p rung a d (place ∷ places) os h more fit a_is d_is has ready within bounds =
    lands_end _ (lands_then (gain_at p rung a d place os more (permission_in a place s) refl fit a_is d_is has ready within bounds) (λ u t w r step.
    elim step [
      | same f ↦ gains_land p rung a d places os h more f (means_more r a_is) (means_more r d_is) has ready within bounds
      | took q n there f room all ↦ lands_as (gains_land {g = grounded g (marking loc q y g.truth)} {loc = loc} {y = y} {inv = inv} {xs = xs} p rung a d places (slice_set os q None) (λ k. n.heap k + h k) more f (means_more r a_is) (means_more r d_is)
          (record { one = has.one }) all room (marked_bounds g.truth more loc y q bounds)) (λ u2 t2 w2 r2 gained. gained_after q n there gained)
    ]))

-- an atomic load reads any value that the message may have, and gains what its permissions allow
pub atomic_load_fits : {g : Ground} {slots : List ℤ} {v : Numbers} {s : State} {h : Heap} {inv : ℕ} {xs : List ℤ} (p : Program) (slot : ℕ) (m : Mode) (at : Expr) (y : ℤ) (os : Pool) (more : Heap) → HasInv g (exact at slots) inv xs
    → AllReady g (gaining m) (exact at slots) y (parts_in p inv xs y) os more → Holds h (pooled os) more → IsBounded g.truth more → Fits slots (All g h) v s
    → Lands s.next v (λ u t w. LoadsAtomic g (slice_set slots slot y) (exact at slots) y os more t w) (load_atomic (setting_of asrt_of p) slot m (expr_of at) s)
atomic_load_fits {g = g} {slots = slots} {v = v} {s = s} {h = h} p slot m at y os more has ready within bounds fit =
    lands_end _ (tells_then _ (reads_term at fit fit.env) (λ a a_is.
    tells_then _ (tells_find_or kind.Init (init_at Plain a) fit) (λ f out.
    let r = init_read Plain a s.facts out.item f.is out.reads_as in
    let k : KnowsInit g s.next v Plain f.is = subst (λ (c : Chunk). Stands g s.next v c out.mine) r.0 out.fits.owns.stands in
    let same : k.loc ≡ exact at slots = proved_equal fit.one fit.facts k.at_is a_is r.1 in
    let init = subst (λ (l : ℤ). g.knows (claim.IsInit Plain l) ≡ true) same k.known in
    lands_then (lands_symbol y (all_lasts g h) fit) (λ d t w q b.
    lands_end _ (lands_then (gains_land p (gaining m) a d (permissions t.facts a 0 t.chunks) os h more b.0 (means_more q a_is) b.1 has ready within bounds) (λ u t2 w2 q2 c.
    lands_as (lands_set slot c.fits (means_more q2 b.1)) (λ u3 t3 w3 q3 fits.
    record { init = init; gained = record { taken = c.taken; were = c.were; grown = c.grown; within = c.within; fits = fits } })))))))
