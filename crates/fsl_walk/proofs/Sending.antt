-- Atomic stores: all parts of the invariant at the value go with the message, which is known to be there from then on.
use Rattle.std.proofs.Common.{◌≡◌, ℕ, ◌+◌, ◌≤◌, Bool, true, false, if◌then◌else◌, List, [], ◌∷◌, Some, ℤ, refl, sym, ap, subst, ◌∙◌, arith}
use Rattle.std.specs.Ordering.{int_eq}
use Rattle.fsl_base.specs.declared.span.Span.{Span}
use Rattle.fsl_core.specs.declared.act.Act.TheOpen.{Act-F}
use Rattle.fsl_core.specs.declared.act.Stmt.{Stmt}
use Rattle.fsl_core.specs.declared.expr.Expr.{Expr}
use Rattle.fsl_core.specs.declared.label.Label.TheVariants as label
use Rattle.fsl_core.specs.declared.mode.Mode.{Mode}
use Rattle.fsl_core.specs.declared.mode.Mode.TheVariants as mode
use Rattle.fsl_core.specs.declared.mode.Rung.TheVariants.{Plain}
use Rattle.fsl_core.specs.declared.need.Need.TheVariants as need
use Rattle.fsl_core.specs.declared.scope.Scope.{Scope}
use Rattle.fsl_core.specs.Modes.{is_atomic}
use Rattle.fsl_core.specs.Moves.{Config, failed, showing, given, act_move}
use Rattle.fsl_core.specs.Scopes.{reads}
use Rattle.fsl_core.specs.Values.{value_of}
use Rattle.fsl_core.specs.logic.States.{State, Branches}
use Rattle.fsl_core.specs.logic.Terms.{Expression, expr_of}
use Rattle.fsl_core.specs.logic.Assertions.{asrt_of}
use Rattle.fsl_core.specs.logic.Locations.{Setting, setting_of}
use Rattle.fsl_core.specs.logic.Accesses.{store, store_atomic}
use Rattle.fsl_core.specs.logic.Accesses as rule
use Rattle.fsl_core.specs.logic.Paths.{Ends, each}
use Rattle.fsl_lin.specs.Numbers.{Numbers}
use Rattle.fsl_meaning.specs.Heaps.{Key, Heap, Holds, Ground, Claim, Claim as claim, Needs}
use Rattle.fsl_meaning.specs.States.{All, Fits}
use Rattle.fsl_meaning.proofs.Deciding.{is_equal}
use Rattle.fsl_meaning.proofs.Kept.{needs_less, fits_kept}
use Rattle.fsl_asserted.specs.Exact.{exact}
use Rattle.fsl_kept.specs.Atomics.{StoresAtomic}
use Rattle.fsl_kept.specs.Parts.{parts_in, parts_asked}
use Rattle.fsl_kept.proofs.Atomics.{atomic_store_fits}
use Rattle.fsl_own.specs.Atoms.{Init}
use Rattle.fsl_good.specs.Pieces.{AtPlain, Piece, plain, IsPossible}
use Rattle.fsl_good.specs.Good.{giving, Puts, StoresAt}
use Rattle.fsl_held.specs.Heaps.{heap_of, truth_of, ground_of, says, knows_in, Kept}
use Rattle.fsl_held.specs.Parts.{rung_of}
use Rattle.fsl_held.specs.Asked.{InvariantAsks, logic_of}
use Rattle.fsl_held.proofs.Fronts.{front_is_kept}
use Rattle.fsl_walk.specs.Stances.{AllDerived, Activation, config_of, IsGood, IsGoodMove, Stance, Runs}
use Rattle.fsl_walk.proofs.Rounds.{kept_less, kept_then, left_within}
use Rattle.fsl_walk.proofs.Steps.{each_lands, good_possible, good_given}
use Rattle.fsl_walk.proofs.Showing.{At, frame_of, line_self, Showing, good_shown, read_is}
use Rattle.fsl_walk.proofs.Agreeing.{agrees_at, agrees_by, at_then, under_rest}
use Rattle.fsl_walk.proofs.Finding.{leave_follows}
use Rattle.fsl_walk.proofs.Parting.{AreInvsWell, parts_plain, asked_apart, sends, part_of_all}

-- ---- modes

pub giving_rung : (m : Mode) → rung_of (giving m) ≡ rule.giving m
giving_rung mode.Na = refl
giving_rung mode.Rlx = refl
giving_rung mode.Acq = refl
giving_rung mode.Rel = refl
giving_rung mode.AcqRel = refl

not_atomic : false ≡ true → ⊥
not_atomic e = cc

-- an atomic store is no other
store_is : (p : Setting) (m : Mode) (at e : Expression) → is_atomic m ≡ true → store p m at e ≡ store_atomic p m at e
store_is p mode.Na at e h = absurd (not_atomic h)
store_is p mode.Rlx at e h = refl
store_is p mode.Acq at e h = refl
store_is p mode.Rel at e h = refl
store_is p mode.AcqRel at e h = refl

-- ---- what is known behind the store

abbrev sent_ground : ℤ → List Piece → Ground
sent_ground l xs = record { knows = λ c. if says AtPlain (Init l) c then true else knows_in xs c; truth = truth_of xs }

if_last : (b c : Bool) → c ≡ true → (if b then true else c) ≡ true
if_last true c e = refl
if_last false c e = e

if_first : (b c : Bool) → b ≡ true → (if b then true else c) ≡ true
if_first true c e = refl
if_first false c e = absurd (cc)

line_left : (m l n x r : ℕ) → m ≡ l + n → m ≤ x → x ≡ r + n → l ≤ r
line_left m l n x r a b c = omega arith

line_there : (l r : ℕ) → 1 ≤ l → l ≤ r → 1 ≤ r
line_there l r a b = omega arith

line_parts : (m l n u x r f z : ℕ) → m ≡ l + n → m + u ≤ x → x ≡ r + n → z ≡ f + r → l + u ≤ z
line_parts m l n u x r f z a b c e = omega arith

line_need : (m l n x : ℕ) → m ≡ l + n → m ≤ x → n ≤ x
line_need m l n x a b = omega arith

line_part : (m l n : ℕ) → m ≡ l + n → n ≤ m
line_part m l n e = omega arith

-- the state fits the pieces that are left, with the write
sent_fits : {xs : List Piece} {slots : List ℤ} {w : Numbers} {t : State} (l : ℤ) (left : Heap) (rest : List Piece) → Kept xs (heap_of rest) rest → ((k : Key) → left k ≤ heap_of rest k)
    → IsPossible (plain (Init l) ∷ rest)
    → Fits slots (All (sent_ground l xs) left) w t → Fits slots (All (ground_of (plain (Init l) ∷ rest)) left) w t
sent_fits {xs = xs} l left rest kept less possible fits =
    let zs = plain (Init l) ∷ rest in
    let f = front_is_kept (plain (Init l) ∷ []) rest possible in
    fits_kept (ground_of zs) (record { more = λ c n k. knows c n (says AtPlain (Init l) c) refl k })
    (agrees_by left (λ k some.
    let there = line_there (left k) (heap_of rest k) some (less k) in
    at_then (truth_of xs) (truth_of rest) (truth_of zs) k (agrees_at kept.agrees k there) (agrees_at f.behind.agrees k there))) fits
  where
    knows : (c : Claim) → Needs left c → (b : Bool) → says AtPlain (Init l) c ≡ b → (if b then true else knows_in xs c) ≡ true → knows_in (plain (Init l) ∷ rest) c ≡ true
    knows c n true e k = if_first (says AtPlain (Init l) c) (knows_in rest c) e
    knows c n false e k = if_last (says AtPlain (Init l) c) (knows_in rest c) (kept.knows.more c (needs_less left (heap_of rest) less c n) k)

-- ---- the parts are put into the message

puts_by : {xs : List Piece} {under mine : Heap} {slots : List ℤ} {w : Numbers} {t : State} {loc x : ℤ} (u : Activation) (m : ℕ) (next : Config) (after : Ends) (md : Mode)
    → (next ≡ failed → ⊥) → AreInvsWell u.program
    → IsPossible xs → Holds mine under (heap_of xs) → StoresAtomic u.program (ground_of xs) (sent_ground loc xs) md slots loc x mine t w → AllDerived (after t)
    → ((zs : List Piece) → Kept xs under zs → Stance zs under slots w t → IsGood u m next zs) → Puts (InvariantAsks u.program) loc x (giving md) (IsGood u m next) xs
puts_by {xs = xs} {under = under} {mine = mine} {slots = slots} {w = w} {t = t} {loc = loc} {x = x} u m next after md good well possible holds stores derived goes =
    let p = u.program in
    let ps = parts_in p stores.inv stores.numbers x in
    let within = left_within mine under (heap_of xs) holds in
    let asked = asked_apart xs (rung_of (giving md)) ps stores.need (subst (λ (r : _). parts_asked (truth_of xs) r ps ≡ Some stores.need) (sym (giving_rung md)) stores.is) stores.known in
    let sent = sends p.invs (giving md) ps asked.needs xs (parts_plain p stores.inv stores.numbers x well) possible asked.each
    (λ k. subst (λ (n : ℕ). n ≤ heap_of xs k) (asked.sum k) (line_need (mine k) (stores.left k) (stores.need.heap k) (heap_of xs k) (stores.parts k) (within k))) in
    let rest_is = λ (k : Key). sent.left k ∙ ap (λ (n : ℕ). heap_of sent.rest k + n) (sym (asked.sum k)) in
    let less = λ (k : Key). line_left (mine k) (stores.left k) (stores.need.heap k) (heap_of xs k) (heap_of sent.rest k) (stores.parts k) (within k) (rest_is k) in
    let zs = plain (Init loc) ∷ sent.rest in
    record {
      inv = stores.inv;
      args = stores.numbers;
      parts = sent.atoms;
      rest = sent.rest;
      leave = leave_follows xs loc stores.inv stores.numbers stores.may;
      gives = sent.gives;
      each = λ part. part_of_all ps sent.atoms part sent.each;
      all = record { atoms = sent.atoms; are = refl; each = sent.each };
      next = good_possible u m next zs good (λ possible2.
          let f = front_is_kept (plain (Init loc) ∷ []) sent.rest possible2 in
          goes zs
          (kept_less under (heap_of sent.rest) (under_rest stores.need.heap mine under (heap_of xs) (heap_of sent.rest) (λ k. line_part (mine k) (stores.left k) (stores.need.heap k)
          (stores.parts k)) holds rest_is) (kept_then sent.kept f.behind))
          (record {
            mine = stores.left;
            fits = sent_fits loc stores.left sent.rest sent.kept less possible2 stores.fits;
            parts = λ k. line_parts (mine k) (stores.left k) (stores.need.heap k) (under k) (heap_of xs k) (heap_of sent.rest k) (heap_of (plain (Init loc) ∷ []) k) (heap_of zs k)
                (stores.parts k) (holds k) (rest_is k) (f.sum k);
          }));
    }

stores_at : (u : Activation) (m : ℕ) (next : Config) (b : Bool) (md : Mode) (loc x : ℤ) (xs : List Piece) → b ≡ true → Puts (InvariantAsks u.program) loc x (giving md) (IsGood u m next) xs
    → StoresAt (logic_of u.program) b md loc x (IsGood u m next) xs
stores_at u m next true md loc x xs e puts = puts
stores_at u m next false md loc x xs e puts = absurd (cc)

pub atomic_store_moves : {scope : Scope} {Q : List ℤ → Type 0} {base : List Piece} {under : Heap} {xs : List Piece} {slots env : List ℤ} {v : Numbers} {s : State}
    (u : Activation) (m : ℕ) (after : Ends) (stmt : Stmt) (rest : List Stmt) (md : Mode) (e f : Expr) (at : Span) → is_atomic md ≡ true → AreInvsWell u.program
    → reads scope e ≡ true → reads scope f ≡ true → Runs u m after rest scope Q base under → At scope Q base under xs slots env v s
    → AllDerived (each at (store (setting_of asrt_of u.program) md (expr_of e) (expr_of f) s) (λ x. after)) → IsGoodMove u m (act_move u.program (Act-F.Store md e f) stmt
    (frame_of u rest env) u.below) xs
atomic_store_moves {under = under} {xs = xs} {slots = slots} {env = env} {s = s} u m after stmt rest md e f at atomic well reads_e reads_f runs here d =
    let mine = here.stance.mine in
    let holds = here.stance.parts in
    let next = config_of u rest env in
    let place = exact e slots in
    let derived = subst (λ (r : State → Branches (Unit {0})). AllDerived (each at (r s) (λ x. after))) (store_is (setting_of asrt_of u.program) md (expr_of e) (expr_of f) atomic) d in
    let landed = each_lands at (λ x. after)
    (atomic_store_fits u.program (sent_ground place xs) md e f (record { more = λ c n k. if_last (says AtPlain (Init place) c) (knows_in xs c) k })
    (record { value = λ r l y some is. is; out = λ l p some. refl; bank = λ b some. refl })
    (if_first (int_eq place place) (knows_in xs (claim.IsInit Plain place)) (is_equal place place refl)) here.stance.fits) derived in
    let goes = λ (zs : List Piece) (kept : Kept xs under zs) (stance : Stance zs under slots landed.numbers landed.state).
    runs m (line_self m) zs slots env landed.numbers landed.state (kept_then here.kept kept) stance here.matches here.holds landed.derived in
    let puts : Showing u m (need.Store md place (exact f slots)) (label.Store md place (exact f slots)) next xs =
    stores_at u m next (is_atomic md) md place (exact f slots) xs atomic (puts_by u m next after md (λ g. absurd (cc)) well here.possible holds landed.is landed.derived goes) in
    good_given u m (value_of e env) (λ loc. given (value_of f env) (λ x. record { need = need.Store md loc x; answered = λ r. showing (label.Store md loc x) next })) xs (λ loc is_loc.
    good_given u m (value_of f env) (λ x. record { need = need.Store md loc x; answered = λ r. showing (label.Store md loc x) next }) xs (λ x is.
    good_shown u m (need.Store md loc x) (label.Store md loc x) next xs (λ n. absurd (cc))
    (subst (λ (l : ℤ). Showing u m (need.Store md l x) (label.Store md l x) next xs) (read_is e loc here.matches reads_e is_loc)
    (subst (λ (y : ℤ). Showing u m (need.Store md place y) (label.Store md place y) next xs) (read_is f x here.matches reads_f is) puts))))
