-- Statements that own nothing, and those on cells.
use Rattle.std.proofs.Common.{◌≡◌, ℕ, ◌+◌, ◌≤◌, ◌^◌, Bool, true, false, List, ◌∷◌, ◌++◌, Option, Some, None, ℤ, pos, ◌+ℤ◌, ◌≤ℤ◌, if◌then◌else◌, refl, ap, sym, subst, ◌∙◌, arith}
use Rattle.std.specs.Ordering.{int_eq}
use Rattle.std.specs.Prelude.{slice_set}
use Rattle.std.proofs.lemmas.Int.{ints}
use Rattle.fsl_core.specs.declared.chunk.Chunk.{Chunk}
use Rattle.fsl_core.specs.declared.chunk.Chunk.TheVariants as chunk
use Rattle.fsl_core.specs.declared.expr.Cond.{Cond}
use Rattle.fsl_core.specs.declared.expr.Expr.{Expr}
use Rattle.fsl_core.specs.declared.mode.Rung.{Rung}
use Rattle.fsl_core.specs.declared.mode.Rung.TheVariants.{Plain, Up, Down, Msg}
use Rattle.fsl_core.specs.declared.verdict.Kind.TheVariants as kind
use Rattle.fsl_core.specs.logic.States.{State, set}
use Rattle.fsl_core.specs.logic.Terms.{expr_of}
use Rattle.fsl_core.specs.logic.Deciding.{cond_of}
use Rattle.fsl_core.specs.logic.Chunks.{Found, Cell, cell_at}
use Rattle.fsl_core.specs.logic.Joining.{full}
use Rattle.fsl_core.specs.logic.Accesses.{new_address, alloc_na, load_na, whole_cell, store_na, free}
use Rattle.fsl_core.specs.logic.Paths.{set_to, print, assert}
use Rattle.fsl_lin.specs.Combination.{Combination, constant}
use Rattle.fsl_lin.specs.Numbers.{Numbers}
use Rattle.fsl_meaning.specs.Means.{Means, IsKnown}
use Rattle.fsl_meaning.specs.Heaps.{Key as key, Heap, some_of, less, Holds, Truth, Ground, IsBounded, KnowsMore, Agrees}
use Rattle.fsl_meaning.specs.States.{OwnsCell, Stands, Owning, Owns, All, Opened, Fits}
use Rattle.fsl_meaning.specs.Branches.{Lands, Tells}
use Rattle.fsl_meaning.proofs.Terms.{means_more, means_as, means_constant}
use Rattle.fsl_meaning.proofs.Calculus.{lands_then, lands_give, lands_as, lands_end, tells_then, tells_on, tells_give, tells_some, tells_lands}
use Rattle.fsl_meaning.proofs.Facts.{Lasts, proved_equal, lands_at_most, lands_symbol}
use Rattle.fsl_meaning.proofs.Deciding.{equal, is_equal, tells_demand_cond}
use Rattle.fsl_meaning.proofs.Heaps.{share_at}
use Rattle.fsl_meaning.proofs.Kept.{owns_kept}
use Rattle.fsl_meaning.proofs.Owned.{all_lasts, fits_less, fits_back, tells_find_or, lands_take, lands_add, line_less}
use Rattle.fsl_meaning.proofs.Readings.{cell_read}
use Rattle.fsl_meaning.proofs.Slots.{all_set}
use Rattle.fsl_asserted.specs.Exact.{exact, exact_cond}
use Rattle.fsl_asserted.proofs.Asking.{some_there, part_within, rest_less}
use Rattle.fsl_asserted.proofs.Consuming.{tells_equal}
use Rattle.fsl_asserted.proofs.Exprs.{judges_cond}
use Rattle.fsl_asserted.proofs.Terms.{reads_term}
use Rattle.fsl_kept.specs.Changes.{grounded, storing}
use Rattle.fsl_kept.specs.Results.{LoadsCell, Stores}

-- ---- variables and conditions

pub lands_set : {slots : List ℤ} {own : Owning} {v : Numbers} {s : State} {t : Combination} {x : ℤ} (slot : ℕ) → Fits slots own v s → Means s.next v t x
    → Lands s.next v (λ u r w. Fits (slice_set slots slot x) own w r) (set slot t s)
lands_set {s = s} {t = t} slot fit h = lands_give tt (record s { env = slice_set s.env slot t }) (record { one = fit.one; facts = fit.facts; env = all_set slot fit.env h; owns = fit.owns })

pub set_fits : {slots : List ℤ} {own : Owning} {v : Numbers} {s : State} (slot : ℕ) (e : Expr) → Fits slots own v s
    → Lands s.next v (λ u t w. Fits (slice_set slots slot (exact e slots)) own w t) (set_to slot (expr_of e) s)
set_fits slot e fit = lands_end _ (tells_then _ (reads_term e fit fit.env) (λ t h. lands_set slot fit h))

pub print_fits : {slots : List ℤ} {own : Owning} {v : Numbers} {s : State} (e : Expr) → Fits slots own v s → Lands s.next v (λ u t w. Fits slots own w t) (print (expr_of e) s)
print_fits {s = s} e fit = lands_end _ (tells_then _ (reads_term e fit fit.env) (λ t h. lands_give tt s fit))

-- an assertion that is proved holds
pub assert_fits : {slots : List ℤ} {own : Owning} {v : Numbers} {s : State} (c : Cond) → Fits slots own v s
    → Lands s.next v (λ u t w. (exact_cond c slots ≡ true) × Fits slots own w t) (assert (cond_of expr_of c) s)
assert_fits c fit = lands_end _ (tells_lands (tells_demand_cond kind.Assert (cond_of expr_of c) (exact_cond c) (judges_cond c) fit fit.env) (λ u e. (e, fit)))

-- ---- allocations

pub lands_address : {slots : List ℤ} {own : Owning} {v : Numbers} {s : State} (loc : ℤ) → Lasts own → Fits slots own v s → (pos 1 +ℤ pos 0) ≤ℤ loc
    → Lands s.next v (λ d t w. Fits slots own w t × Means t.next w d loc) (new_address s)
lands_address loc last fit l =
    lands_then (lands_symbol loc last fit) (λ d t w g f.
    lands_then (lands_at_most (constant (pos 1)) (pos 0) d f.0 (means_constant (pos 1)) f.1 l) (λ u t2 w2 g2 f2. lands_give d t2 (f2, means_more g2 f.1)))

line_all : 1 ≤ 2 ^ 63
line_all = omega arith

-- an address is chosen, and all shares of its cell come
pub alloc_fits : {g : Ground} {slots : List ℤ} {h : Heap} {v : Numbers} {s : State} (slot : ℕ) (loc : ℤ) (more : Heap) → Fits slots (All g h) v s → (pos 1 +ℤ pos 0) ≤ℤ loc
    → Holds (some_of (key.Cell Plain loc) (2 ^ 63)) h more → Lands s.next v (λ u t w. Fits (slice_set slots slot loc) (All g more) w t) (alloc_na slot s)
alloc_fits {g = g} {h = h} slot loc more fit l holds =
    lands_then (lands_address loc (all_lasts g h) fit l) (λ d t w r f.
    lands_then (lands_add (chunk.Points Plain d full None) (some_of (key.Cell Plain loc) (2 ^ 63)) more f.0 (record {
      loc = loc;
      amount = 2 ^ 63;
      at_is = f.1;
      share_is = means_constant (pos (2 ^ 63));
      some = line_all;
      value_is = tt;
      there = some_there (key.Cell Plain loc) (2 ^ 63);
    }) holds) (λ u t2 w2 r2 f2. lands_set slot f2 (means_more r2 f.1)))

-- ---- loads

known_said : {n : ℕ} {v : Numbers} (value : Option Combination) (said : Option ℤ) (t : Combination) → IsKnown n v value said → value ≡ Some t → (x : ℤ) × (said ≡ Some x) × Means n v t x
known_said None said t h e = absurd (let d : None ≡ Some t = e in cc)
known_said {n = n} {v = v} (Some u) said t h e = let same : u ≡ t = cc in (h.number, h.is, subst (λ (z : Combination). Means n v z h.number) same h.means)

pub load_fits : {g : Ground} {slots : List ℤ} {h : Heap} {v : Numbers} {s : State} (slot : ℕ) (at : Expr) → Fits slots (All g h) v s
    → Lands s.next v (λ u t w. LoadsCell g slots slot (exact at slots) h t w) (load_na slot (expr_of at) s)
load_fits {g = g} {slots = slots} {h = h} {v = v} {s = s} slot at fit =
    let loc = exact at slots in
    lands_end _ (tells_then _ (reads_term at fit fit.env) (λ a a_is.
    tells_then _ (tells_find_or kind.Points (cell_at Plain a) fit) (λ f out.
    let r = cell_read Plain a s.facts out.item f.is out.reads_as in
    let own : OwnsCell g s.next v Plain f.is.at f.is.share f.is.value out.mine = subst (λ (c : Chunk). Stands g s.next v c out.mine) r.0 out.fits.owns.stands in
    let same : own.loc ≡ loc = proved_equal fit.one fit.facts own.at_is a_is r.1 in
    let there : 1 ≤ out.mine (key.Cell Plain loc) = subst (λ (l : ℤ). 1 ≤ out.mine (key.Cell Plain l)) same (line_less 1 own.amount (out.mine (key.Cell Plain own.loc)) own.some own.there) in
    tells_then _ (tells_some kind.Uninit f.is.value) (λ t e.
    let k = known_said f.is.value (g.truth.value own.loc) t own.value_is e in
    lands_as (lands_set slot fit k.2) (λ u t2 w q fits. record {
      value = k.0;
      is = ap g.truth.value (sym same) ∙ k.1;
      some = part_within out.mine out.rest h (key.Cell Plain loc) 1 out.holds there;
      fits = fits;
    })))))

-- ---- the whole cell

-- all shares of the cell were found in one chunk
pub record IsWhole (g : Ground) (slots : List ℤ) (v : Numbers) (s : State) (loc : ℤ) (h : Heap) (f : Found Chunk Cell) : Type 0 where
  pub item : Chunk
  pub mine : Heap
  pub rest : Heap
  pub holds : Holds mine rest h
  pub fits : Fits slots (Opened g f.before item f.behind mine rest) v s
  pub at_is : Means s.next v f.is.at loc
  pub share_is : Means s.next v f.is.share (pos (2 ^ 63))
  pub whole : 2 ^ 63 ≤ mine (key.Cell Plain loc)

line_pos : (a b : ℕ) → pos a ≡ pos b → a ≡ b
line_pos a b h = omega (arith, ints)

pub tells_whole : {g : Ground} {slots : List ℤ} {h : Heap} {v : Numbers} {s : State} {loc : ℤ} (a : Combination) → Fits slots (All g h) v s → Means s.next v a loc
    → Tells s (λ f. IsWhole g slots v s loc h f) (whole_cell a s)
tells_whole {g = g} {v = v} {s = s} {loc = loc} a fit a_is =
    tells_on _ (tells_find_or kind.Points (cell_at Plain a) fit) (λ f out.
    let r = cell_read Plain a s.facts out.item f.is out.reads_as in
    let own : OwnsCell g s.next v Plain f.is.at f.is.share f.is.value out.mine = subst (λ (c : Chunk). Stands g s.next v c out.mine) r.0 out.fits.owns.stands in
    let same : own.loc ≡ loc = proved_equal fit.one fit.facts own.at_is a_is r.1 in
    tells_on _ (tells_equal kind.Share f.is.share full fit own.share_is (means_constant (pos (2 ^ 63)))) (λ u e.
    let all : own.amount ≡ 2 ^ 63 = line_pos own.amount (2 ^ 63) e in
    tells_give f s (record {
      item = out.item;
      mine = out.mine;
      rest = out.rest;
      holds = out.holds;
      fits = out.fits;
      at_is = means_as same own.at_is;
      share_is = means_as e own.share_is;
      whole = subst (λ (l : ℤ). 2 ^ 63 ≤ out.mine (key.Cell Plain l)) same (subst (λ (n : ℕ). n ≤ out.mine (key.Cell Plain own.loc)) all own.there);
    })))

line_none : (m r h all : ℕ) → all ≤ m → m + r ≤ h → h ≤ all → 1 ≤ r → ⊥
line_none m r h all i j k l = omega arith

line_others : (mp rp hp mq rq hq all : ℕ) → all ≤ mp → mp + rp ≤ hp → mq + rq ≤ hq → hp + hq ≤ all → 1 ≤ rq → ⊥
line_others mp rp hp mq rq hq all i j k l n = omega arith

line_two : (a b c d m : ℕ) → a + (b + (c + d)) ≤ m → (a + b ≤ m) × (a + c ≤ m) × (a + d ≤ m)
line_two a b c d m h = (omega arith, omega arith, omega arith)

-- nobody else has a share of it
pub none_left : {t : Truth} (mine rest h : Heap) (loc : ℤ) → IsBounded t h → Holds mine rest h → 2 ^ 63 ≤ mine (key.Cell Plain loc) → (r : Rung) → 1 ≤ rest (key.Cell r loc) → ⊥
none_left mine rest h loc b holds whole Plain some =
    line_none (mine (key.Cell Plain loc)) (rest (key.Cell Plain loc)) (h (key.Cell Plain loc)) (2 ^ 63) whole (holds (key.Cell Plain loc)) (line_less (h (key.Cell Plain loc)) _ (2 ^ 63) (share_at h Plain loc) (b.cells loc)) some
none_left mine rest h loc b holds whole Up some =
    line_others (mine (key.Cell Plain loc)) (rest (key.Cell Plain loc)) (h (key.Cell Plain loc)) (mine (key.Cell Up loc)) (rest (key.Cell Up loc)) (h (key.Cell Up loc)) (2 ^ 63) whole (holds (key.Cell Plain loc)) (holds (key.Cell Up loc))
    (line_two (h (key.Cell Plain loc)) (h (key.Cell Up loc)) (h (key.Cell Down loc)) (h (key.Cell Msg loc)) (2 ^ 63) (b.cells loc)).0 some
none_left mine rest h loc b holds whole Down some =
    line_others (mine (key.Cell Plain loc)) (rest (key.Cell Plain loc)) (h (key.Cell Plain loc)) (mine (key.Cell Down loc)) (rest (key.Cell Down loc)) (h (key.Cell Down loc)) (2 ^ 63) whole (holds (key.Cell Plain loc)) (holds (key.Cell Down loc))
    (line_two (h (key.Cell Plain loc)) (h (key.Cell Up loc)) (h (key.Cell Down loc)) (h (key.Cell Msg loc)) (2 ^ 63) (b.cells loc)).1 some
none_left mine rest h loc b holds whole Msg some =
    line_others (mine (key.Cell Plain loc)) (rest (key.Cell Plain loc)) (h (key.Cell Plain loc)) (mine (key.Cell Msg loc)) (rest (key.Cell Msg loc)) (h (key.Cell Msg loc)) (2 ^ 63) whole (holds (key.Cell Plain loc)) (holds (key.Cell Msg loc))
    (line_two (h (key.Cell Plain loc)) (h (key.Cell Up loc)) (h (key.Cell Down loc)) (h (key.Cell Msg loc)) (2 ^ 63) (b.cells loc)).2 some

-- ---- stores

pub if_other : {X : Type 0} (b : Bool) (x y : X) → b ≡ false → (if b then x else y) ≡ y
if_other true x y e = absurd (cc)
if_other false x y e = refl

pub if_same : {X : Type 0} (b : Bool) (x y : X) → b ≡ true → (if b then x else y) ≡ x
if_same true x y e = refl
if_same false x y e = absurd (cc)

stored_by : (t : Truth) (loc x l y : ℤ) (b : Bool) → int_eq l loc ≡ b → (l ≡ loc → ⊥) → t.value l ≡ Some y → (storing loc x t).value l ≡ Some y
stored_by t loc x l y true e d k = absurd (d (equal l loc e))
stored_by t loc x l y false e d k = if_other (int_eq l loc) (Some x) (t.value l) e ∙ k

-- the others agree on what a store changes
pub stored_agrees : (t : Truth) (h : Heap) (loc x : ℤ) → ((r : Rung) → 1 ≤ h (key.Cell r loc) → ⊥) → Agrees t (storing loc x t) h
stored_agrees t h loc x none = record {
  value = λ r l y some e. stored_by t loc x l y (int_eq l loc) refl (λ same. none r (subst (λ (z : ℤ). 1 ≤ h (key.Cell r z)) same some)) e;
  out = λ l p some. refl;
  bank = λ b some. refl;
}

pub knows_same : (g : Ground) (t : Truth) (h : Heap) → KnowsMore g (grounded g t) h
knows_same g t h = record { more = λ c n k. k }

pub store_fits : {g : Ground} {slots : List ℤ} {h : Heap} {v : Numbers} {s : State} (at e : Expr) → IsBounded g.truth h → Fits slots (All g h) v s
    → Lands s.next v (λ u t w. Stores slots (exact at slots) h h (grounded g (storing (exact at slots) (exact e slots) g.truth)) t w) (store_na (expr_of at) (expr_of e) s)
store_fits {g = g} {slots = slots} {h = h} {v = v} {s = s} at e bounds fit =
    let loc = exact at slots in
    let x = exact e slots in
    let later = grounded g (storing loc x g.truth) in
    lands_end _ (tells_then _ (reads_term at fit fit.env) (λ a a_is.
    tells_then _ (reads_term e fit fit.env) (λ y y_is.
    tells_then _ (tells_whole a fit a_is) (λ f o.
    let agrees = stored_agrees g.truth o.rest loc x (none_left o.mine o.rest h loc bounds o.holds o.whole) in
    let others : Owns later s.next v (f.before ++ f.behind) o.rest = owns_kept later (knows_same g (storing loc x g.truth) o.rest) agrees o.fits.owns.others in
    let opened : Fits slots (Opened later f.before (chunk.Points Plain f.is.at f.is.share (Some y)) f.behind o.mine o.rest) v
    (record s { chunks = f.before ++ chunk.Points Plain f.is.at f.is.share (Some y) ∷ f.behind }) = record {
      one = fit.one;
      facts = fit.facts;
      env = fit.env;
      owns = record {
        list = refl;
        stands = record {
          loc = loc;
          amount = 2 ^ 63;
          at_is = o.at_is;
          share_is = o.share_is;
          some = line_all;
          value_is = record { number = x; is = if_same (int_eq loc loc) (Some x) (g.truth.value loc) (is_equal loc loc refl); means = y_is };
          there = o.whole;
        };
        others = others;
      };
    } in
    lands_give tt (record s { chunks = f.before ++ chunk.Points Plain f.is.at f.is.share (Some y) ∷ f.behind }) (record {
      whole = part_within o.mine o.rest h (key.Cell Plain loc) (2 ^ 63) o.holds o.whole;
      fits = fits_back h opened o.holds;
    })))))

-- ---- frees

pub free_fits : {g : Ground} {slots : List ℤ} {h : Heap} {v : Numbers} {s : State} (at : Expr) → Fits slots (All g h) v s
    → Lands s.next v (λ u t w. Stores slots (exact at slots) h (less h (key.Cell Plain (exact at slots)) (2 ^ 63)) g t w) (free (expr_of at) s)
free_fits {slots = slots} {h = h} at fit =
    let cell = key.Cell Plain (exact at slots) in
    lands_end _ (tells_then _ (reads_term at fit fit.env) (λ a a_is.
    tells_then _ (tells_whole a fit a_is) (λ f o.
    lands_as (lands_take f o.fits) (λ u t w r k. record {
      whole = part_within o.mine o.rest h cell (2 ^ 63) o.holds o.whole;
      fits = fits_less (less h cell (2 ^ 63)) (rest_less o.mine o.rest h cell (2 ^ 63) o.holds o.whole) k;
    }))))
