-- Statements on variables, and prints.
use Rattle.std.proofs.Common.{◌≡◌, ℕ, Bool, true, false, List, [], ◌∷◌, Option, Some, None, ℤ, slice_set, refl, sym, subst, ◌∙◌}
use Rattle.fsl_base.specs.declared.span.Span.{Span}
use Rattle.fsl_core.specs.declared.act.Act.TheOpen.{Act-F}
use Rattle.fsl_core.specs.declared.act.Stmt.{Stmt}
use Rattle.fsl_core.specs.declared.expr.Cond.{Cond}
use Rattle.fsl_core.specs.declared.expr.Expr.{Expr}
use Rattle.fsl_core.specs.declared.label.Label.TheVariants as label
use Rattle.fsl_core.specs.declared.need.Need.TheVariants as need
use Rattle.fsl_core.specs.declared.scope.Scope.{Scope}
use Rattle.fsl_core.specs.declared.scope.Sight.TheVariants as sight
use Rattle.fsl_core.specs.Moves.{Config, showing, local, branching, after_assert, act_move}
use Rattle.fsl_core.specs.Scopes.{reads, tests, with_sight}
use Rattle.fsl_core.specs.Values.{value_of, holds_of}
use Rattle.fsl_core.specs.logic.States.{State}
use Rattle.fsl_core.specs.logic.Terms.{expr_of}
use Rattle.fsl_core.specs.logic.Deciding.{cond_of}
use Rattle.fsl_core.specs.logic.Paths.{Ends, each, set_to, print, assert}
use Rattle.fsl_lin.specs.Numbers.{Numbers}
use Rattle.fsl_meaning.specs.Heaps.{Heap}
use Rattle.fsl_meaning.specs.States.{All, Fits}
use Rattle.fsl_kept.proofs.Locals.{set_fits, print_fits, assert_fits}
use Rattle.fsl_good.specs.Pieces.{Piece}
use Rattle.fsl_held.specs.Heaps.{ground_of}
use Rattle.fsl_walk.specs.Stances.{AllDerived, Activation, config_of, IsGood, IsGoodMove, Runs}
use Rattle.fsl_walk.specs.Walks.{IsClosed}
use Rattle.fsl_scoped.proofs.Exactly.{tests_exact}
use Rattle.fsl_walk.proofs.Slots.{sees_same, closed_one}
use Rattle.fsl_walk.proofs.Steps.{each_lands, good_local, good_halting, good_given}
use Rattle.fsl_walk.proofs.Showing.{At, line_self, frame_of, good_shown, read_is}

-- ---- variables

pub set_moves : {scope : Scope} {Q : List ℤ → Type 0} {base : List Piece} {under : Heap} {xs : List Piece} {slots env : List ℤ} {v : Numbers} {s : State}
    (u : Activation) (m : ℕ) (after : Ends) (stmt : Stmt) (rest : List Stmt) (slot : ℕ) (e : Expr) (at : Span)
    → reads scope e ≡ true → IsClosed Q (slot ∷ []) → Runs u m after rest (with_sight slot sight.Local scope) Q base under → At scope Q base under xs slots env v s
    → AllDerived (each at (set_to slot (expr_of e) s) (λ x. after)) → IsGoodMove u m (act_move u.program (Act-F.Set slot e) stmt (frame_of u rest env) u.below) xs
set_moves {scope = scope} {Q = Q} {xs = xs} {slots = slots} {env = env} u m after stmt rest slot e at reads closed runs here d =
    let landed = each_lands at (λ x. after) (set_fits slot e here.stance.fits) d in
    good_given u m (value_of e env) (λ x. local (config_of u rest (slice_set env slot x))) xs (λ x is.
    good_local u m (config_of u rest (slice_set env slot x)) xs
    (runs m (line_self m) xs (slice_set slots slot x) (slice_set env slot x) landed.numbers landed.state here.kept
    (record {
      mine = here.stance.mine;
      fits = subst (λ (y : ℤ). Fits (slice_set slots slot y) (All (ground_of xs) here.stance.mine) landed.numbers landed.state)
          (read_is e x here.matches reads is) landed.is;
      parts = here.stance.parts;
    })
    (sees_same scope env slots slot sight.Local x here.matches) (closed_one Q slots slot x closed here.holds) landed.derived))

asserted : (u : Activation) (m : ℕ) (c : Config) (xs : List Piece) (o : Option Bool) → ((b : Bool) → o ≡ Some b → b ≡ true) → IsGood u m c xs → IsGoodMove u m (branching o (after_assert c)) xs
asserted u m c xs None holds good = good_halting u m xs
asserted u m c xs (Some true) holds good = good_local u m c xs good
asserted u m c xs (Some false) holds good = absurd (let e : false ≡ true = holds false refl in cc)

pub assert_moves : {scope : Scope} {Q : List ℤ → Type 0} {base : List Piece} {under : Heap} {xs : List Piece} {slots env : List ℤ} {v : Numbers} {s : State}
    (u : Activation) (m : ℕ) (after : Ends) (stmt : Stmt) (rest : List Stmt) (c : Cond) (at : Span)
    → tests scope c ≡ true → Runs u m after rest scope Q base under → At scope Q base under xs slots env v s
    → AllDerived (each at (assert (cond_of expr_of c) s) (λ x. after)) → IsGoodMove u m (act_move u.program (Act-F.Assert c) stmt (frame_of u rest env) u.below) xs
assert_moves {scope = scope} {xs = xs} {slots = slots} {env = env} u m after stmt rest c at tests runs here d =
    let landed = each_lands at (λ x. after) (assert_fits c here.stance.fits) d in
    asserted u m (config_of u rest env) xs (holds_of c env) (λ b is. sym (tests_exact scope env slots here.matches.sees c b tests is) ∙ landed.is.0)
    (runs m (line_self m) xs slots env landed.numbers landed.state here.kept
    (record { mine = here.stance.mine; fits = landed.is.1; parts = here.stance.parts }) here.matches here.holds landed.derived)

pub print_moves : {scope : Scope} {Q : List ℤ → Type 0} {base : List Piece} {under : Heap} {xs : List Piece} {slots env : List ℤ} {v : Numbers} {s : State}
    (u : Activation) (m : ℕ) (after : Ends) (stmt : Stmt) (rest : List Stmt) (e : Expr) (at : Span)
    → Runs u m after rest scope Q base under → At scope Q base under xs slots env v s
    → AllDerived (each at (print (expr_of e) s) (λ x. after)) → IsGoodMove u m (act_move u.program (Act-F.Print e) stmt (frame_of u rest env) u.below) xs
print_moves {xs = xs} {slots = slots} {env = env} u m after stmt rest e at runs here d =
    let landed = each_lands at (λ x. after) (print_fits e here.stance.fits) d in
    good_given u m (value_of e env) (λ x. record { need = need.Print x; answered = λ r. showing (label.Print x) (config_of u rest env) }) xs (λ x is.
    good_shown u m (need.Print x) (label.Print x) (config_of u rest env) xs (λ n. absurd (cc))
    (runs m (line_self m) xs slots env landed.numbers landed.state here.kept (record { mine = here.stance.mine; fits = landed.is; parts = here.stance.parts }) here.matches here.holds landed.derived))
