-- Banks and their tokens: a bank is made, tokens are minted and burned.
use Rattle.std.proofs.Common.{◌≡◌, ◌⊎◌, inl, inr, ℕ, zero, suc, ◌+◌, ◌≤◌, Bool, true, false, List, [], ◌∷◌, get_or, slice_get, slice_set, ℤ, pos, refl, sym, ap, subst, ◌∙◌, arith}
use Rattle.std.proofs.lemmas.Bool.{cases_eq}
use Rattle.fsl_base.specs.declared.span.Span.{Span}
use Rattle.fsl_core.specs.declared.act.Act.TheOpen.{Act-F}
use Rattle.fsl_core.specs.declared.act.Step.{Step}
use Rattle.fsl_core.specs.declared.act.Stmt.{Stmt}
use Rattle.fsl_core.specs.declared.scope.Scope.{Scope}
use Rattle.fsl_core.specs.declared.scope.Sight.{Sight}
use Rattle.fsl_core.specs.declared.scope.Sight.TheVariants as sight
use Rattle.fsl_core.specs.Moves.{Config, local, act_move}
use Rattle.fsl_core.specs.Scopes.{is_number, sight_at, with_sight}
use Rattle.fsl_core.specs.logic.States.{State}
use Rattle.fsl_core.specs.logic.Terms.{expr_of}
use Rattle.fsl_core.specs.logic.Tokens.{new_bank, step_of, token_step}
use Rattle.fsl_core.specs.logic.Paths.{Ends, each}
use Rattle.fsl_lin.specs.Numbers.{Numbers}
use Rattle.fsl_meaning.specs.Heaps.{Key as key, Heap, some_of, Holds}
use Rattle.fsl_meaning.specs.States.{All, Fits}
use Rattle.fsl_meaning.proofs.Kept.{fits_kept}
use Rattle.fsl_asserted.specs.Exact.{exact}
use Rattle.fsl_asserted.specs.Needs.{bank_number}
use Rattle.fsl_kept.specs.Changes.{grounded, allowing}
use Rattle.fsl_kept.specs.Results.{Steps}
use Rattle.fsl_kept.proofs.Banks.{new_bank_fits, step_fits}
use Rattle.fsl_own.specs.Atoms.{Auth}
use Rattle.fsl_good.specs.Pieces.{Piece, plain, IsPossible}
use Rattle.fsl_good.specs.Good.{Shifts, Shifts as shift}
use Rattle.fsl_held.specs.Heaps.{heap_of, truth_of, ground_of, Kept}
use Rattle.fsl_held.proofs.Fronts.{front_is_kept}
use Rattle.fsl_walk.specs.Stances.{AllDerived, Activation, config_of, IsGood, IsGoodMove, Stance, Matches, Runs}
use Rattle.fsl_walk.specs.Walks.{IsClosed}
use Rattle.fsl_scoped.proofs.Lists.{get_other}
use Rattle.fsl_walk.proofs.Slots.{set_long, sight_other, closed_one}
use Rattle.fsl_walk.proofs.Rounds.{kept_less, kept_then, frame_fits, bounded, left_within, right_within}
use Rattle.fsl_walk.proofs.Steps.{each_lands, quiet}
use Rattle.fsl_walk.proofs.Showing.{At, frame_of, line_self}
use Rattle.fsl_walk.proofs.Renumbering.{auth_heap, auth_says, Renumbered, step_shifts}

pub good_shifts : (u : Activation) (m : ℕ) (c : Config) (xs : List Piece) → Shifts (IsGood u m c) xs → IsGoodMove u m (local c) xs
good_shifts u m c xs shifts = (λ e. shifts, λ r shown next e. absurd (quiet e))

-- ---- a variable that is a bank is no number

sight_set : (xs : List Sight) (i : ℕ) (x d : Sight) → (get_or (slice_set xs i x) i d ≡ x) ⊎ (get_or (slice_set xs i x) i d ≡ d)
sight_set [] i x d = inr refl
sight_set (y ∷ ys) zero x d = inl refl
sight_set (y ∷ ys) (suc i) x d = sight_set ys i x d

not_number : (s : Sight) → (s ≡ sight.Bank) ⊎ (s ≡ sight.Kept) → is_number s ≡ true → ⊥
not_number s (inl e) h = absurd (let f : is_number sight.Bank ≡ true = subst (λ (z : Sight). is_number z ≡ true) e h in let g : false ≡ true = f in cc)
not_number s (inr e) h = absurd (let f : is_number sight.Kept ≡ true = subst (λ (z : Sight). is_number z ≡ true) e h in let g : false ≡ true = f in cc)

sees_other : (scope : Scope) (env slots : List ℤ) (slot : ℕ) (x y : ℤ) (k : ℕ) → (k ≡ slot) ⊎ (k ≡ slot → ⊥) → Matches scope env slots
    → is_number (sight_at (with_sight slot sight.Bank scope) k) ≡ true → slice_get (slice_set env slot x) k ≡ slice_get (slice_set slots slot y) k
sees_other scope env slots slot x y k (inl e) matches number =
    absurd (not_number (get_or (slice_set scope.sights slot sight.Bank) slot sight.Kept) (sight_set scope.sights slot sight.Bank sight.Kept)
    (subst (λ (j : ℕ). is_number (sight_at (with_sight slot sight.Bank scope) j) ≡ true) e number))
sees_other scope env slots slot x y k (inr other) matches number =
    get_other env slot k x other
    ∙ matches.sees k (ap is_number (sym (sight_other scope.sights slot k sight.Bank sight.Kept other)) ∙ number)
    ∙ sym (get_other slots slot k y other)

sees_bank : (scope : Scope) (env slots : List ℤ) (slot : ℕ) (x y : ℤ) → Matches scope env slots → Matches (with_sight slot sight.Bank scope) (slice_set env slot x) (slice_set slots slot y)
sees_bank scope env slots slot x y matches = record {
  long = set_long env slot x ∙ matches.long ∙ sym (set_long slots slot y);
  sees = λ k number. sees_other scope env slots slot x y k (cases_eq k slot) matches number;
}

-- ---- a bank is made

line_front : (a f x y m u : ℕ) → y ≡ f + x → f ≡ a → m + u ≤ x → (a + m) + u ≤ y
line_front a f x y m u e g h = omega arith

pub bank_moves : {scope : Scope} {Q : List ℤ → Type 0} {base : List Piece} {under : Heap} {xs : List Piece} {slots env : List ℤ} {v : Numbers} {s : State}
    (u : Activation) (m : ℕ) (after : Ends) (stmt : Stmt) (rest : List Stmt) (slot : ℕ) (at : Span)
    → IsClosed Q (slot ∷ []) → Runs u m after rest (with_sight slot sight.Bank scope) Q base under → At scope Q base under xs slots env v s
    → AllDerived (each at (new_bank slot s) (λ x. after)) → IsGoodMove u m (act_move u.program (Act-F.Bank slot) stmt (frame_of u rest env) u.below) xs
bank_moves {scope = scope} {Q = Q} {under = under} {xs = xs} {slots = slots} {env = env} u m after stmt rest slot at closed runs here d =
    good_shifts u m (config_of u rest (slice_set env slot (pos 0))) xs (shift.banks (λ b possible.
    let mine = here.stance.mine in
    let zs = plain (Auth b 0) ∷ xs in
    let f = front_is_kept (plain (Auth b 0) ∷ []) xs possible in
    let new = some_of (key.Bank (pos b)) 1 in
    let fits = frame_fits mine (kept_less mine (heap_of xs) (left_within mine under (heap_of xs) here.stance.parts) f.behind) here.stance.fits in
    let landed = each_lands at (λ x. after) (new_bank_fits {g = ground_of zs} slot (pos b) (λ k. new k + mine k) fits (auth_says b 0 xs) (λ k. line_self (new k + mine k))) d in
    shift.stays (runs m (line_self m) zs (slice_set slots slot (pos b)) (slice_set env slot (pos 0)) landed.numbers landed.state
    (kept_then here.kept (kept_less under (heap_of xs) (right_within mine under (heap_of xs) here.stance.parts) f.behind))
    (record {
      mine = λ k. new k + mine k;
      fits = landed.is;
      parts = λ k. line_front (new k) (heap_of (plain (Auth b 0) ∷ []) k) (heap_of xs k) (heap_of zs k) (mine k) (under k) (f.sum k) (auth_heap b 0 k) (here.stance.parts k);
    })
    (sees_bank scope env slots slot (pos 0) (pos b) here.matches) (closed_one Q slots slot (pos b) closed here.holds) landed.derived)))

-- ---- a step

-- the state that a step leaves fits what was made of the pieces
stance_behind : {xs zs : List Piece} {number x : ℤ} {more under : Heap} {slots : List ℤ} {w : Numbers} {t : State} → Renumbered number x more under xs zs
    → Fits slots (All (grounded (ground_of xs) (allowing number x (truth_of xs))) more) w t → Stance zs under slots w t
stance_behind {zs = zs} {more = more} r fits = record { mine = more; fits = fits_kept (ground_of zs) (record { more = r.knows }) r.agrees fits; parts = r.parts }

steps : {xs : List Piece} {under : Heap} {slots : List ℤ} {w : Numbers} {t : State} (u : Activation) (m : ℕ) (next : Config) (mine : Heap) (mint : Bool) (number z : ℤ) → IsPossible xs
    → Holds mine under (heap_of xs) → Steps mint (ground_of xs) slots number z mine t w
    → ((zs : List Piece) → Kept xs under zs → Stance zs under slots w t → IsGood u m next zs) → Shifts (IsGood u m next) xs
steps u m next mine true number z possible holds made goes =
    step_shifts mine true number made.amount possible holds made.there (λ e. absurd (cc)) (λ zs r. shift.stays (goes zs r.kept (stance_behind r made.fits)))
steps u m next mine false number z possible holds gone goes =
    step_shifts mine false number gone.amount possible holds gone.there (λ e. gone.enough) (λ zs r. shift.stays (goes zs r.kept (stance_behind r gone.fits)))

pub step_moves : {scope : Scope} {Q : List ℤ → Type 0} {base : List Piece} {under : Heap} {xs : List Piece} {slots env : List ℤ} {v : Numbers} {s : State}
    (u : Activation) (m : ℕ) (after : Ends) (stmt : Stmt) (rest : List Stmt) (step : Step) (at : Span)
    → Runs u m after rest scope Q base under → At scope Q base under xs slots env v s
    → AllDerived (each at (token_step (step_of expr_of step) s) (λ x. after)) → IsGoodMove u m (act_move u.program (Act-F.Step step) stmt (frame_of u rest env) u.below) xs
step_moves {under = under} {xs = xs} {slots = slots} {env = env} u m after stmt rest step at runs here d =
    let mine = here.stance.mine in
    let holds = here.stance.parts in
    let landed = each_lands at (λ x. after) (step_fits step (bounded xs mine here.possible (left_within mine under (heap_of xs) holds)) here.stance.fits) d in
    good_shifts u m (config_of u rest env) xs
    (steps u m (config_of u rest env) mine step.mint (bank_number step.bank slots) (exact step.n slots) here.possible holds landed.is (λ zs kept stance.
    runs m (line_self m) zs slots env landed.numbers landed.state (kept_then here.kept kept) stance here.matches here.holds landed.derived))
