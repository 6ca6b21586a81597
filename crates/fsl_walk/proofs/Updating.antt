-- Read-modify-writes: whatever message is read, the path says what becomes of it, behind the token steps.
use Rattle.std.proofs.Common.{◌≡◌, ◌⊎◌, inl, inr, ℕ, Bool, true, false, if◌then◌else◌, List, [], ◌∷◌, ◌++◌, map, slice_set, Option, Some, None, ℤ, ◌+ℤ◌, refl, sym, ap, subst, ◌∙◌}
use Rattle.std.specs.Ordering.{int_eq}
use Rattle.std.specs.List.{filter}
use Rattle.fsl_base.specs.declared.span.Span.{Span}
use Rattle.fsl_core.specs.declared.act.Act.TheOpen.{Act-F}
use Rattle.fsl_core.specs.declared.act.Step.{Step}
use Rattle.fsl_core.specs.declared.act.Stmt.{Stmt}
use Rattle.fsl_core.specs.declared.expr.Expr.{Expr}
use Rattle.fsl_core.specs.declared.label.Label.{Label}
use Rattle.fsl_core.specs.declared.label.Label.TheVariants as label
use Rattle.fsl_core.specs.declared.mode.Mode.{Mode}
use Rattle.fsl_core.specs.declared.mode.Mode.TheVariants as mode
use Rattle.fsl_core.specs.declared.need.Need.{Need}
use Rattle.fsl_core.specs.declared.need.Need.TheVariants as need
use Rattle.fsl_core.specs.declared.need.RmwOp.TheVariants as op
use Rattle.fsl_core.specs.declared.scope.Scope.{Scope}
use Rattle.fsl_core.specs.declared.scope.Sight.TheVariants as sight
use Rattle.fsl_core.specs.Modes.{is_atomic}
use Rattle.fsl_core.specs.Moves.{Config, Move, failed, halted, showing, given, reading_mode, read_reply, exchanged, added, act_move}
use Rattle.fsl_core.specs.Scopes.{reads, with_sight}
use Rattle.fsl_core.specs.Values.{in_range, value_of}
use Rattle.fsl_core.specs.WellFormed.{is_update_mode, is_failure_mode}
use Rattle.fsl_core.specs.logic.States.{State, Branches}
use Rattle.fsl_core.specs.logic.Terms.{expr_of}
use Rattle.fsl_core.specs.logic.Assertions.{asrt_of}
use Rattle.fsl_core.specs.logic.Locations.{setting_of}
use Rattle.fsl_core.specs.logic.Paths.{Ends, each}
use Rattle.fsl_core.specs.logic.Tokens.{step_of}
use Rattle.fsl_core.specs.logic.Updates.{exchange, fetch_add, cas}
use Rattle.fsl_lin.specs.Numbers.{Numbers}
use Rattle.fsl_meaning.specs.Heaps.{Heap, Holds, Ground}
use Rattle.fsl_meaning.specs.States.{All, Fits}
use Rattle.fsl_asserted.specs.Exact.{exact}
use Rattle.fsl_kept.specs.Parts.{parts_in}
use Rattle.fsl_updated.specs.Updates.{MayReplace, IsDealt, Fails, Reads, Replaces, Compares}
use Rattle.fsl_updated.proofs.Updates.{exchange_tells, exchange_fits, add_tells, add_fits, cas_tells, cas_fits}
use Rattle.fsl_good.specs.Pieces.{AtPlain, Piece, all_placed, IsPossible}
use Rattle.fsl_good.specs.Good.{of_message, of_thread, Gains as gained}
use Rattle.fsl_good.specs.Good as good
use Rattle.fsl_held.specs.Heaps.{heap_of, ground_of, Kept}
use Rattle.fsl_held.specs.Asked.{InvariantAsks}
use Rattle.fsl_walk.specs.Stances.{AllDerived, Activation, config_of, IsGood, IsGoodMove, Stance, Runs}
use Rattle.fsl_walk.specs.Walks.{IsClosed}
use Rattle.fsl_walk.proofs.Slots.{sees_same, closed_one}
use Rattle.fsl_walk.proofs.Rounds.{kept_self, kept_then}
use Rattle.fsl_walk.proofs.Steps.{Landed, none_fails, each_lands, halted_good, good_given, shows_so}
use Rattle.fsl_walk.proofs.Showing.{At, frame_of, line_self, Showing, good_answered, good_read, read_is}
use Rattle.fsl_walk.proofs.Finding.{init_follows, update_follows, dealt_by_leave}
use Rattle.fsl_walk.proofs.Parting.{AreInvsWell}
use Rattle.fsl_walk.proofs.Gaining.{loads_at}
use Rattle.fsl_walk.proofs.Shifting.{steps_shift}
use Rattle.fsl_walk.proofs.Reading.{reads_are}
use Rattle.fsl_walk.proofs.Passing.{replaces_pass}

-- ---- what the path makes of a message

-- whatever message is read, a branch of the path goes on behind what becomes of it
abbrev Follows : (u : Activation) (xs : List Piece) (mine : Heap) (n : ℕ) (v : Numbers) (md : Mode) (steps : List Step) (slots later : List ℤ) (inv : ℕ) (args : List ℤ) (x y : ℤ) → Ends → Type 0
Follows u xs mine n v md steps slots later inv args x y after =
    (read : Ground) (more : Heap) → Reads (ground_of xs) read (parts_in u.program inv args x) mine more
    → Landed n v (λ (z : Unit {0}) t w. Replaces read md steps slots (parts_in u.program inv args y) more later t w) (λ z. after)

abbrev Goes : Activation → ℕ → Config → List Piece → Heap → List ℤ → Ends → Type 0
Goes u m next xs under later after = (zs : List Piece) (w : Numbers) (t : State) → Kept xs under zs → Stance zs under later w t → AllDerived (after t) → IsGood u m next zs

replaced : {xs : List Piece} {under mine : Heap} {slots later : List ℤ} {loc : ℤ} (u : Activation) (m : ℕ) (next : Config) (after : Ends) (md : Mode) (steps : List Step)
    (n : ℕ) (v : Numbers) (x y : ℤ) → (next ≡ failed → ⊥) → AreInvsWell u.program → IsPossible xs → Holds mine under (heap_of xs)
    → (k : MayReplace (ground_of xs) loc) → Follows u xs mine n v md steps slots later k.update_inv k.update_args x y after → Goes u m next xs under later after
    → good.Replaces (InvariantAsks u.program) md loc x y (IsGood u m next) xs
replaced {xs = xs} {under = under} {slots = slots} {loc = loc} u m next after md steps n v x y fine well possible holds k follows goes = record {
  inv = k.update_inv;
  args = k.update_args;
  init = init_follows xs loc k.init;
  leave = update_follows xs loc k.update_inv k.update_args k.may_update;
  takes = λ ys asks together.
      let r = reads_are u k.update_inv k.update_args x ys well holds asks together in
      let landed = follows r.read r.more r.reads in
      steps_shift slots steps _ r.meets landed.is.may (λ ws kept meets possible2.
      replaces_pass u m next md steps well fine (meets possible2) landed.is (λ fs kept2 stance.
      goes fs landed.numbers landed.state (kept_then r.kept (kept_then kept kept2)) stance landed.derived));
}

-- a branch that fails isn't derived
told_by : {Q X : Type 0} (at : Span) (after : X → Ends) (bs : Branches X) → Q ⊎ Fails bs → AllDerived (each at bs after) → Q
told_by at after bs (inl q) d = q
told_by at after bs (inr e) d = absurd (none_fails at after bs e.0 e.1 d)

-- ---- the variable gets the value that was read

reads_on : {scope : Scope} {Q : List ℤ → Type 0} {base : List Piece} {under : Heap} {xs : List Piece} {slots env : List ℤ} {v : Numbers} {s : State}
    (u : Activation) (m : ℕ) (after : Ends) (rest : List Stmt) (slot : ℕ) (x : ℤ) → IsClosed Q (slot ∷ []) → Runs u m after rest (with_sight slot sight.Local scope) Q base under
    → At scope Q base under xs slots env v s → Goes u m (config_of u rest (slice_set env slot x)) xs under (slice_set slots slot x) after
reads_on {scope = scope} {Q = Q} {slots = slots} {env = env} u m after rest slot x closed runs here zs w t kept stance derived =
    runs m (line_self m) zs (slice_set slots slot x) (slice_set env slot x) w t (kept_then here.kept kept) stance
    (sees_same scope env slots slot sight.Local x here.matches) (closed_one Q slots slot x closed here.holds) derived

-- a run goes on
goes_on : (u : Activation) (rest : List Stmt) (env : List ℤ) → config_of u rest env ≡ failed → ⊥
goes_on u rest env e = cc

-- ---- modes

update_atomic : (md : Mode) → is_update_mode md ≡ true → is_atomic md ≡ true
update_atomic mode.Na h = absurd (let e : false ≡ true = h in cc)
update_atomic mode.Rlx h = refl
update_atomic mode.Acq h = refl
update_atomic mode.Rel h = refl
update_atomic mode.AcqRel h = refl

failure_atomic : (md : Mode) → is_failure_mode md ≡ true → is_atomic md ≡ true
failure_atomic mode.Rlx h = refl
failure_atomic mode.Acq h = refl
failure_atomic mode.Na h = absurd (let e : false ≡ true = h in cc)
failure_atomic mode.Rel h = absurd (let e : false ≡ true = h in cc)
failure_atomic mode.AcqRel h = absurd (let e : false ≡ true = h in cc)

reading_atomic : (md : Mode) → is_atomic (reading_mode md) ≡ true
reading_atomic mode.Na = refl
reading_atomic mode.Rlx = refl
reading_atomic mode.Acq = refl
reading_atomic mode.Rel = refl
reading_atomic mode.AcqRel = refl

-- ---- exchange

swap_shows : {scope : Scope} {Q : List ℤ → Type 0} {base : List Piece} {under : Heap} {xs : List Piece} {slots env : List ℤ} {v : Numbers} {s : State}
    (u : Activation) (m : ℕ) (after : Ends) (rest : List Stmt) (slot : ℕ) (md : Mode) (e f : Expr) (steps : List Step) (at : Span) → AreInvsWell u.program
    → IsClosed Q (slot ∷ []) → Runs u m after rest (with_sight slot sight.Local scope) Q base under → At scope Q base under xs slots env v s
    → AllDerived (each at (exchange (setting_of asrt_of u.program) slot md (expr_of e) (expr_of f) (map (step_of expr_of) steps) s) (λ x. after))
    → (x : ℤ) → good.Replaces (InvariantAsks u.program) md (exact e slots) x (exact f slots) (IsGood u m (config_of u rest (slice_set env slot x))) xs
swap_shows {xs = xs} {slots = slots} {env = env} {v = v} {s = s} u m after rest slot md e f steps at well closed runs here d x =
    let fits = here.stance.fits in
    let place = exact e slots in
    let k = told_by at (λ z. after) _ (exchange_tells (setting_of asrt_of u.program) slot md e f (map (step_of expr_of) steps) fits) d in
    let dealt = dealt_by_leave xs place k.update_inv k.update_args here.possible k.may_update in
    replaced u m (config_of u rest (slice_set env slot x)) after md steps s.next v x (exact f slots) (goes_on u rest (slice_set env slot x)) well here.possible here.stance.parts k
    (λ read more reads. each_lands at (λ z. after) (exchange_fits u.program read slot md e f steps x more dealt reads fits) d)
    (reads_on u m after rest slot x closed runs here)

pub exchange_moves : {scope : Scope} {Q : List ℤ → Type 0} {base : List Piece} {under : Heap} {xs : List Piece} {slots env : List ℤ} {v : Numbers} {s : State}
    (u : Activation) (m : ℕ) (after : Ends) (stmt : Stmt) (rest : List Stmt) (slot : ℕ) (md : Mode) (e f : Expr) (steps : List Step) (at : Span) → is_update_mode md ≡ true → AreInvsWell u.program
    → reads scope e ≡ true → reads scope f ≡ true → IsClosed Q (slot ∷ []) → Runs u m after rest (with_sight slot sight.Local scope) Q base under → At scope Q base under xs slots env v s
    → AllDerived (each at (exchange (setting_of asrt_of u.program) slot md (expr_of e) (expr_of f) (map (step_of expr_of) steps) s) (λ x. after))
    → IsGoodMove u m (act_move u.program (Act-F.Swap slot md e f steps) stmt (frame_of u rest env) u.below) xs
exchange_moves {xs = xs} {slots = slots} {env = env} u m after stmt rest slot md e f steps at updates well reads_e reads_f closed runs here d =
    let place = exact e slots in
    let new = exact f slots in
    let next = λ (x : ℤ). config_of u rest (slice_set env slot x) in
    let moves : ℤ → ℤ → Move = λ loc y. record { need = need.Rmw md (reading_mode md) loc (op.Swap y); answered = λ r. read_reply r (λ x. showing (label.Rmw md loc x y) (next x)) } in
    let shows : IsGoodMove u m (moves place new) xs =
    good_read u m (need.Rmw md (reading_mode md) place (op.Swap new)) (λ x. label.Rmw md place x new) next xs (λ n. absurd (cc))
    (λ x. (update_atomic md updates, swap_shows u m after rest slot md e f steps at well closed runs here d x)) in
    good_given u m (value_of e env) (λ loc. given (value_of f env) (moves loc)) xs (λ loc is_loc.
    good_given u m (value_of f env) (moves loc) xs (λ y is.
    subst (λ (l : ℤ). IsGoodMove u m (moves l y) xs) (read_is e loc here.matches reads_e is_loc)
    (subst (λ (z : ℤ). IsGoodMove u m (moves place z) xs) (read_is f y here.matches reads_f is) shows)))

-- ---- fetch-and-add

-- a read that gains nothing
only_reads : (u : Activation) (m : ℕ) (n : Need) (next : Config) (md : Mode) (place x : ℤ) (xs : List Piece) → is_atomic md ≡ true → MayReplace (ground_of xs) place → IsGood u m next xs
    → Showing u m n (label.Load md place x) next xs
only_reads u m n next md place x xs atomic k good = loads_at u m next (is_atomic md) md place x xs atomic (init_follows xs place k.init) (gained.enough good)

add_shows : {scope : Scope} {Q : List ℤ → Type 0} {base : List Piece} {under : Heap} {xs : List Piece} {slots env : List ℤ} {v : Numbers} {s : State}
    (u : Activation) (m : ℕ) (n : Need) (after : Ends) (rest : List Stmt) (slot : ℕ) (md : Mode) (e f : Expr) (steps : List Step) (at : Span) → is_atomic md ≡ true → AreInvsWell u.program
    → IsClosed Q (slot ∷ []) → Runs u m after rest (with_sight slot sight.Local scope) Q base under → At scope Q base under xs slots env v s
    → AllDerived (each at (fetch_add (setting_of asrt_of u.program) slot md (expr_of e) (expr_of f) (map (step_of expr_of) steps) s) (λ x. after))
    → (x : ℤ) (o : Option ℤ) → in_range (x +ℤ exact f slots) ≡ o
    → (shown : Label) (c : Config) → added md (exact e slots) x o (config_of u rest (slice_set env slot x)) ≡ showing shown c → Showing u m n shown c xs
add_shows {xs = xs} {slots = slots} {env = env} {v = v} {s = s} u m n after rest slot md e f steps at atomic well closed runs here d x (Some y) sum shown c is =
    let fits = here.stance.fits in
    let place = exact e slots in
    let next = config_of u rest (slice_set env slot x) in
    let k = told_by at (λ z. after) _ (add_tells (setting_of asrt_of u.program) slot md e f (map (step_of expr_of) steps) fits) d in
    let dealt = dealt_by_leave xs place k.update_inv k.update_args here.possible k.may_update in
    shows_so u m n (label.Rmw md place x y) shown next c xs is (
      atomic,
      replaced u m next after md steps s.next v x y (goes_on u rest (slice_set env slot x)) well here.possible here.stance.parts k
          (λ read more reads. each_lands at (λ z. after) (add_fits u.program read slot md e f steps x y more dealt sum reads fits) d)
          (reads_on u m after rest slot x closed runs here),
    )
add_shows {xs = xs} {slots = slots} u m n after rest slot md e f steps at atomic well closed runs here d x None sum shown c is =
    let place = exact e slots in
    let k = told_by at (λ z. after) _ (add_tells (setting_of asrt_of u.program) slot md e f (map (step_of expr_of) steps) here.stance.fits) d in
    shows_so u m n (label.Load (reading_mode md) place x) shown halted c xs is (only_reads u m n halted (reading_mode md) place x xs (reading_atomic md) k (halted_good u m xs))

pub add_moves : {scope : Scope} {Q : List ℤ → Type 0} {base : List Piece} {under : Heap} {xs : List Piece} {slots env : List ℤ} {v : Numbers} {s : State}
    (u : Activation) (m : ℕ) (after : Ends) (stmt : Stmt) (rest : List Stmt) (slot : ℕ) (md : Mode) (e f : Expr) (steps : List Step) (at : Span) → is_update_mode md ≡ true → AreInvsWell u.program
    → reads scope e ≡ true → reads scope f ≡ true → IsClosed Q (slot ∷ []) → Runs u m after rest (with_sight slot sight.Local scope) Q base under → At scope Q base under xs slots env v s
    → AllDerived (each at (fetch_add (setting_of asrt_of u.program) slot md (expr_of e) (expr_of f) (map (step_of expr_of) steps) s) (λ x. after))
    → IsGoodMove u m (act_move u.program (Act-F.Add slot md e f steps) stmt (frame_of u rest env) u.below) xs
add_moves {xs = xs} {slots = slots} {env = env} u m after stmt rest slot md e f steps at updates well reads_e reads_f closed runs here d =
    let place = exact e slots in
    let more = exact f slots in
    let next = λ (x : ℤ). config_of u rest (slice_set env slot x) in
    let moves : ℤ → ℤ → Move = λ loc y. record { need = need.Rmw md (reading_mode md) loc (op.Add y); answered = λ r. read_reply r (λ x. added md loc x (in_range (x +ℤ y)) (next x)) } in
    let asks = need.Rmw md (reading_mode md) place (op.Add more) in
    let shows : IsGoodMove u m (moves place more) xs =
    good_answered u m asks (λ x. added md place x (in_range (x +ℤ more)) (next x)) xs (λ n. absurd (cc))
    (λ x shown c is. add_shows u m asks after rest slot md e f steps at (update_atomic md updates) well closed runs here d x (in_range (x +ℤ more)) refl shown c is) in
    good_given u m (value_of e env) (λ loc. given (value_of f env) (moves loc)) xs (λ loc is_loc.
    good_given u m (value_of f env) (moves loc) xs (λ y is.
    subst (λ (l : ℤ). IsGoodMove u m (moves l y) xs) (read_is e loc here.matches reads_e is_loc)
    (subst (λ (z : ℤ). IsGoodMove u m (moves place z) xs) (read_is f y here.matches reads_f is) shows)))

-- ---- compare-exchange

cas_shows : {scope : Scope} {Q : List ℤ → Type 0} {base : List Piece} {under : Heap} {xs : List Piece} {slots env : List ℤ} {v : Numbers} {s : State}
    (u : Activation) (m : ℕ) (n : Need) (after : Ends) (rest : List Stmt) (slot : ℕ) (md miss : Mode) (e old new : Expr) (steps : List Step) (at : Span)
    → is_atomic md ≡ true → is_atomic miss ≡ true → AreInvsWell u.program
    → IsClosed Q (slot ∷ []) → Runs u m after rest (with_sight slot sight.Local scope) Q base under → At scope Q base under xs slots env v s
    → AllDerived (each at (cas (setting_of asrt_of u.program) slot md (expr_of e) (expr_of old) (expr_of new) (map (step_of expr_of) steps) s) (λ x. after))
    → (x : ℤ) (b : Bool) → int_eq x (exact old slots) ≡ b → (shown : Label) (c : Config)
    → (let next = config_of u rest (slice_set env slot x) in if b then showing (label.Rmw md (exact e slots) x (exact new slots)) next else showing (label.Load miss (exact e slots) x) next)
    ≡ showing shown c → Showing u m n shown c xs
cas_shows {xs = xs} {slots = slots} {env = env} {v = v} {s = s} u m n after rest slot md miss e old new steps at atomic misses well closed runs here d x true same shown c is =
    let p = u.program in
    let fits = here.stance.fits in
    let place = exact e slots in
    let y = exact new slots in
    let next = config_of u rest (slice_set env slot x) in
    let mine = here.stance.mine in
    let k = told_by at (λ z. after) _ (cas_tells (setting_of asrt_of p) slot md e old new (map (step_of expr_of) steps) fits) d in
    let dealt = dealt_by_leave xs place k.update_inv k.update_args here.possible k.may_update in
    shows_so u m n (label.Rmw md place x y) shown next c xs is (
      atomic,
      replaced u m next after md steps s.next v x y (goes_on u rest (slice_set env slot x)) well here.possible here.stance.parts k
          (λ read more reads.
          subst (λ (b : Bool). Landed s.next v (λ (z : Unit {0}) t w. Compares b (ground_of xs) read md steps slots (parts_in p k.update_inv k.update_args y) mine more (slice_set slots slot x) t w) (λ z. after)) same
          (each_lands at (λ z. after) (cas_fits p read slot md e old new steps x more dealt (λ found. reads) fits) d))
          (reads_on u m after rest slot x closed runs here),
    )
cas_shows {xs = xs} {slots = slots} {env = env} {v = v} {s = s} u m n after rest slot md miss e old new steps at atomic misses well closed runs here d x false other shown c is =
    let p = u.program in
    let g = ground_of xs in
    let fits = here.stance.fits in
    let place = exact e slots in
    let next = config_of u rest (slice_set env slot x) in
    let mine = here.stance.mine in
    let k = told_by at (λ z. after) _ (cas_tells (setting_of asrt_of p) slot md e old new (map (step_of expr_of) steps) fits) d in
    let dealt = dealt_by_leave xs place k.update_inv k.update_args here.possible k.may_update in
    let missed = subst (λ (b : Bool). Landed s.next v (λ (z : Unit {0}) t w. Compares b g g md steps slots (parts_in p k.update_inv k.update_args (exact new slots)) mine mine (slice_set slots slot x) t w)
    (λ z. after)) other (each_lands at (λ z. after) (cas_fits p g slot md e old new steps x mine dealt (λ found. absurd (let f : false ≡ true = sym other ∙ found in cc)) fits) d) in
    shows_so u m n (label.Load miss place x) shown next c xs is (only_reads u m n next miss place x xs misses k
    (reads_on u m after rest slot x closed runs here xs missed.numbers missed.state (kept_self xs _)
    (record { mine = mine; fits = missed.is; parts = here.stance.parts }) missed.derived))

pub cas_moves : {scope : Scope} {Q : List ℤ → Type 0} {base : List Piece} {under : Heap} {xs : List Piece} {slots env : List ℤ} {v : Numbers} {s : State}
    (u : Activation) (m : ℕ) (after : Ends) (stmt : Stmt) (rest : List Stmt) (slot : ℕ) (md miss : Mode) (e old new : Expr) (steps : List Step) (at : Span)
    → is_update_mode md ≡ true → is_failure_mode miss ≡ true → AreInvsWell u.program
    → reads scope e ≡ true → reads scope old ≡ true → reads scope new ≡ true → IsClosed Q (slot ∷ []) → Runs u m after rest (with_sight slot sight.Local scope) Q base under
    → At scope Q base under xs slots env v s
    → AllDerived (each at (cas (setting_of asrt_of u.program) slot md (expr_of e) (expr_of old) (expr_of new) (map (step_of expr_of) steps) s) (λ x. after))
    → IsGoodMove u m (act_move u.program (Act-F.Cas slot md miss e old new steps) stmt (frame_of u rest env) u.below) xs
cas_moves {xs = xs} {slots = slots} {env = env} u m after stmt rest slot md miss e old new steps at updates fails well reads_e reads_old reads_new closed runs here d =
    let place = exact e slots in
    let expected = exact old slots in
    let y = exact new slots in
    let next = λ (x : ℤ). config_of u rest (slice_set env slot x) in
    let moves : ℤ → ℤ → ℤ → Move = λ loc o z. record { need = need.Rmw md miss loc (op.Cas o z); answered = λ r. read_reply r (λ x. exchanged md miss loc o z x (next x)) } in
    let asks = need.Rmw md miss place (op.Cas expected y) in
    let shows : IsGoodMove u m (moves place expected y) xs =
    good_answered u m asks (λ x. exchanged md miss place expected y x (next x)) xs (λ n. absurd (cc))
    (λ x shown c is. cas_shows u m asks after rest slot md miss e old new steps at (update_atomic md updates) (failure_atomic miss fails) well closed runs here d x (int_eq x expected) refl shown c is) in
    good_given u m (value_of e env) (λ loc. given (value_of old env) (λ o. given (value_of new env) (moves loc o))) xs (λ loc is_loc.
    good_given u m (value_of old env) (λ o. given (value_of new env) (moves loc o)) xs (λ o is_old.
    good_given u m (value_of new env) (moves loc o) xs (λ z is.
    subst (λ (l : ℤ). IsGoodMove u m (moves l o z) xs) (read_is e loc here.matches reads_e is_loc)
    (subst (λ (a : ℤ). IsGoodMove u m (moves place a z) xs) (read_is old o here.matches reads_old is_old)
    (subst (λ (a : ℤ). IsGoodMove u m (moves place expected a) xs) (read_is new z here.matches reads_new is) shows)))))
