-- A thread at a place of a path, and moves that show a label.
use Rattle.std.proofs.Common.{◌≡◌, ℕ, ◌≤◌, true, List, [], Some, ℤ, arith}
use Rattle.fsl_core.specs.declared.act.Stmt.{Stmt}
use Rattle.fsl_core.specs.declared.expr.Expr.{Expr}
use Rattle.fsl_core.specs.declared.label.Label.{Label}
use Rattle.fsl_core.specs.declared.need.Need.{Need}
use Rattle.fsl_core.specs.declared.need.Need.TheVariants as need
use Rattle.fsl_core.specs.declared.need.Reply.{Reply}
use Rattle.fsl_core.specs.declared.need.Reply.TheVariants as reply
use Rattle.fsl_core.specs.declared.scope.Scope.{Scope}
use Rattle.fsl_core.specs.Moves.{Frame, Config, Moved, showing, place_reply, read_reply}
use Rattle.fsl_core.specs.Scopes.{reads}
use Rattle.fsl_core.specs.Values.{value_of}
use Rattle.fsl_core.specs.logic.States.{State}
use Rattle.fsl_lin.specs.Numbers.{Numbers}
use Rattle.fsl_meaning.specs.Heaps.{Heap}
use Rattle.fsl_asserted.specs.Exact.{exact}
use Rattle.fsl_good.specs.Pieces.{Piece, IsPossible}
use Rattle.fsl_good.specs.Good.{Allows, Good}
use Rattle.fsl_held.specs.Heaps.{Kept}
use Rattle.fsl_held.specs.Asked.{logic_of}
use Rattle.fsl_walk.specs.Stances.{Activation, IsGoodMove, Stance, Matches}
use Rattle.fsl_scoped.proofs.Exactly.{reads_exact}
use Rattle.fsl_walk.proofs.Steps.{quiet, shows_so}

-- a thread at a place of a path
pub record At (scope : Scope) (Q : List ℤ → Type 0) (base : List Piece) (under : Heap) (xs : List Piece) (slots env : List ℤ) (v : Numbers) (s : State) : Type 0 where
  pub possible : IsPossible xs
  pub kept : Kept base under xs
  pub stance : Stance xs under slots v s
  pub matches : Matches scope env slots
  pub holds : Q slots

pub line_self : (m : ℕ) → m ≤ m
line_self m = omega arith

-- the frame of a procedure that runs
abbrev pub frame_of : Activation → List Stmt → List ℤ → Frame
frame_of u rest env = record { stmts = rest; env = env; target = u.target }

-- what a label allows, before a configuration
abbrev pub Showing : Activation → ℕ → Need → Label → Config → List Piece → Type 0
Showing u m n l c xs = Allows (logic_of u.program) u.debt n l (λ waits ys. Good (logic_of u.program) u.program u.debt m c waits ys) [] xs

-- ---- moves that show a label

pub good_shown : (u : Activation) (m : ℕ) (n : Need) (l : Label) (c : Config) (xs : List Piece) → (n ≡ need.Local → ⊥) → Showing u m n l c xs
    → IsGoodMove u m (record { need = n; answered = λ r. showing l c }) xs
good_shown u m n l c xs other allows = (λ e. absurd (other e), λ r shown next e. shows_so u m n l shown c next xs e allows)

placed_shows : (u : Activation) (m : ℕ) (n : Need) (l : ℤ → Label) (c : ℤ → Config) (xs : List Piece) → ((x : ℤ) → Showing u m n (l x) (c x) xs)
    → (r : Reply) (shown : Label) (next : Config) → place_reply r (λ x. showing (l x) (c x)) ≡ showing shown next → Showing u m n shown next xs
placed_shows u m n l c xs allows (reply.Place x) shown next e = shows_so u m n (l x) shown (c x) next xs e (allows x)
placed_shows u m n l c xs allows reply.Nothing shown next e = absurd (quiet e)
placed_shows u m n l c xs allows (reply.Read x) shown next e = absurd (quiet e)
placed_shows u m n l c xs allows (reply.Threads first) shown next e = absurd (quiet e)
placed_shows u m n l c xs allows (reply.Results values) shown next e = absurd (quiet e)

pub good_placed : (u : Activation) (m : ℕ) (n : Need) (l : ℤ → Label) (c : ℤ → Config) (xs : List Piece) → (n ≡ need.Local → ⊥) → ((x : ℤ) → Showing u m n (l x) (c x) xs)
    → IsGoodMove u m (record { need = n; answered = λ r. place_reply r (λ x. showing (l x) (c x)) }) xs
good_placed u m n l c xs other allows = (λ e. absurd (other e), placed_shows u m n l c xs allows)

read_shows : (u : Activation) (m : ℕ) (n : Need) (f : ℤ → Moved) (xs : List Piece) → ((x : ℤ) (shown : Label) (next : Config) → f x ≡ showing shown next → Showing u m n shown next xs)
    → (r : Reply) (shown : Label) (next : Config) → read_reply r f ≡ showing shown next → Showing u m n shown next xs
read_shows u m n f xs allows (reply.Read x) shown next e = allows x shown next e
read_shows u m n f xs allows reply.Nothing shown next e = absurd (quiet e)
read_shows u m n f xs allows (reply.Place x) shown next e = absurd (quiet e)
read_shows u m n f xs allows (reply.Threads first) shown next e = absurd (quiet e)
read_shows u m n f xs allows (reply.Results values) shown next e = absurd (quiet e)

-- where the label that is shown depends on the value that is read
pub good_answered : (u : Activation) (m : ℕ) (n : Need) (f : ℤ → Moved) (xs : List Piece) → (n ≡ need.Local → ⊥)
    → ((x : ℤ) (shown : Label) (next : Config) → f x ≡ showing shown next → Showing u m n shown next xs) → IsGoodMove u m (record { need = n; answered = λ r. read_reply r f }) xs
good_answered u m n f xs other allows = (λ e. absurd (other e), read_shows u m n f xs allows)

pub good_read : (u : Activation) (m : ℕ) (n : Need) (l : ℤ → Label) (c : ℤ → Config) (xs : List Piece) → (n ≡ need.Local → ⊥) → ((x : ℤ) → Showing u m n (l x) (c x) xs)
    → IsGoodMove u m (record { need = n; answered = λ r. read_reply r (λ x. showing (l x) (c x)) }) xs
good_read u m n l c xs other allows = good_answered u m n (λ x. showing (l x) (c x)) xs other (λ x shown next e. shows_so u m n (l x) shown (c x) next xs e (allows x))

-- what the run reads is what the path has
pub read_is : {scope : Scope} {env slots : List ℤ} (e : Expr) (x : ℤ) → Matches scope env slots → reads scope e ≡ true → value_of e env ≡ Some x → exact e slots ≡ x
read_is {scope = scope} {env = env} {slots = slots} e x matches reads is = reads_exact scope env slots matches.sees e x reads is
