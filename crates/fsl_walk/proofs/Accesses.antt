-- Loads and stores of every mode.
use Rattle.std.proofs.Common.{ℕ, List, [], ◌∷◌, true, ◌≡◌, ℤ, refl}
use Rattle.fsl_base.specs.declared.span.Span.{Span}
use Rattle.fsl_core.specs.declared.act.Act.TheOpen.{Act-F}
use Rattle.fsl_core.specs.declared.act.Stmt.{Stmt}
use Rattle.fsl_core.specs.declared.expr.Expr.{Expr}
use Rattle.fsl_core.specs.declared.mode.Mode.{Mode}
use Rattle.fsl_core.specs.declared.mode.Mode.TheVariants as mode
use Rattle.fsl_core.specs.declared.scope.Scope.{Scope}
use Rattle.fsl_core.specs.declared.scope.Sight.TheVariants as sight
use Rattle.fsl_core.specs.Moves.{act_move}
use Rattle.fsl_core.specs.Scopes.{reads, with_sight}
use Rattle.fsl_core.specs.logic.States.{State}
use Rattle.fsl_core.specs.logic.Terms.{expr_of}
use Rattle.fsl_core.specs.logic.Assertions.{asrt_of}
use Rattle.fsl_core.specs.logic.Locations.{setting_of}
use Rattle.fsl_core.specs.logic.Accesses.{load, store}
use Rattle.fsl_core.specs.logic.Paths.{Ends, each}
use Rattle.fsl_lin.specs.Numbers.{Numbers}
use Rattle.fsl_meaning.specs.Heaps.{Heap}
use Rattle.fsl_good.specs.Pieces.{Piece}
use Rattle.fsl_walk.specs.Stances.{AllDerived, Activation, IsGoodMove, Runs}
use Rattle.fsl_walk.specs.Walks.{IsClosed}
use Rattle.fsl_walk.proofs.Showing.{At, frame_of}
use Rattle.fsl_walk.proofs.Cells.{load_moves, store_moves}
use Rattle.fsl_walk.proofs.Parting.{AreInvsWell}
use Rattle.fsl_walk.proofs.Sending.{atomic_store_moves}
use Rattle.fsl_walk.proofs.Gaining.{atomic_load_moves}

pub loads_move : {scope : Scope} {Q : List ℤ → Type 0} {base : List Piece} {under : Heap} {xs : List Piece} {slots env : List ℤ} {v : Numbers} {s : State}
    (u : Activation) (m : ℕ) (after : Ends) (stmt : Stmt) (rest : List Stmt) (slot : ℕ) (md : Mode) (e : Expr) (at : Span) → AreInvsWell u.program
    → reads scope e ≡ true → IsClosed Q (slot ∷ []) → Runs u m after rest (with_sight slot sight.Local scope) Q base under → At scope Q base under xs slots env v s
    → AllDerived (each at (load (setting_of asrt_of u.program) slot md (expr_of e) s) (λ x. after)) → IsGoodMove u m (act_move u.program (Act-F.Load slot md e) stmt (frame_of u rest env) u.below) xs
loads_move u m after stmt rest slot mode.Na e at well reads closed runs here d = load_moves u m after stmt rest slot e at reads closed runs here d
loads_move u m after stmt rest slot mode.Rlx e at well reads closed runs here d = atomic_load_moves u m after stmt rest slot mode.Rlx e at refl well reads closed runs here d
loads_move u m after stmt rest slot mode.Acq e at well reads closed runs here d = atomic_load_moves u m after stmt rest slot mode.Acq e at refl well reads closed runs here d
loads_move u m after stmt rest slot mode.Rel e at well reads closed runs here d = atomic_load_moves u m after stmt rest slot mode.Rel e at refl well reads closed runs here d
loads_move u m after stmt rest slot mode.AcqRel e at well reads closed runs here d = atomic_load_moves u m after stmt rest slot mode.AcqRel e at refl well reads closed runs here d

pub stores_move : {scope : Scope} {Q : List ℤ → Type 0} {base : List Piece} {under : Heap} {xs : List Piece} {slots env : List ℤ} {v : Numbers} {s : State}
    (u : Activation) (m : ℕ) (after : Ends) (stmt : Stmt) (rest : List Stmt) (md : Mode) (e f : Expr) (at : Span) → AreInvsWell u.program
    → reads scope e ≡ true → reads scope f ≡ true → Runs u m after rest scope Q base under → At scope Q base under xs slots env v s
    → AllDerived (each at (store (setting_of asrt_of u.program) md (expr_of e) (expr_of f) s) (λ x. after)) → IsGoodMove u m (act_move u.program (Act-F.Store md e f) stmt
    (frame_of u rest env) u.below) xs
stores_move u m after stmt rest mode.Na e f at well reads_e reads_f runs here d = store_moves u m after stmt rest e f at reads_e reads_f runs here d
stores_move u m after stmt rest mode.Rlx e f at well reads_e reads_f runs here d = atomic_store_moves u m after stmt rest mode.Rlx e f at refl well reads_e reads_f runs here d
stores_move u m after stmt rest mode.Acq e f at well reads_e reads_f runs here d = atomic_store_moves u m after stmt rest mode.Acq e f at refl well reads_e reads_f runs here d
stores_move u m after stmt rest mode.Rel e f at well reads_e reads_f runs here d = atomic_store_moves u m after stmt rest mode.Rel e f at refl well reads_e reads_f runs here d
stores_move u m after stmt rest mode.AcqRel e f at well reads_e reads_f runs here d = atomic_store_moves u m after stmt rest mode.AcqRel e f at refl well reads_e reads_f runs here d
