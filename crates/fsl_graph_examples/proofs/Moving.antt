-- The values of variables, constants and conditions, and moves whose expressions have values.
use Rattle.std.proofs.Common.{◌≡◌, ℕ, suc, Bool, List, [], ◌∷◌, Option, Some, slice_get, ℤ, pos, sym, ap, subst, ◌∙◌}
use Rattle.fsl_core.specs.declared.expr.CmpOp.{CmpOp}
use Rattle.fsl_core.specs.declared.expr.Cond.TheVariants as cond
use Rattle.fsl_core.specs.declared.expr.Expr.{Expr}
use Rattle.fsl_core.specs.declared.expr.Expr.TheFolds.{fold-roll-Expr}
use Rattle.fsl_core.specs.declared.expr.Expr.TheOpen.{Expr-F}
use Rattle.fsl_core.specs.declared.need.Need.{Need}
use Rattle.fsl_core.specs.declared.need.Reply.{Reply}
use Rattle.fsl_core.specs.declared.need.Reply.TheVariants as reply
use Rattle.fsl_core.specs.Programs.{Program}
use Rattle.fsl_core.specs.Values.{value_of, value_step, part_step, Value, in_range, with_value, holds_of, compared}
use Rattle.fsl_core.specs.Moves.{Config, Move, move_of, moved, need_of, given, showing, local, arguments_from}
use Rattle.fsl_graph.specs.declared.event.Event.{Event}
use Rattle.fsl_graph.specs.declared.graph.Graph.{Graph}
use Rattle.fsl_graph.specs.Events.{Is}
use Rattle.fsl_graph.specs.Execution.{Runs, Answers, reply_of}
use Rattle.fsl_graph.specs.Execution.Runs.{silent, shows}
use Rattle.fsl_judged.specs.Words.{num, var}

-- ---- values

pub value_var : (slot : ℕ) (env : List ℤ) → value_of (var slot) env ≡ slice_get env slot
value_var slot env = ap (λ (f : Value). f env) (fold-roll-Expr Value (Bool × Value) value_step part_step (Expr-F.Var slot))

pub value_num : (n : ℕ) (env : List ℤ) → value_of (num n) env ≡ in_range (pos n)
value_num n env = ap (λ (f : Value). f env) (fold-roll-Expr Value (Bool × Value) value_step part_step (Expr-F.Const (pos n)))

-- ---- moves whose expressions have values

pub given_one : (o : Option ℤ) (l : ℤ) (k : ℤ → Move) → o ≡ Some l → given o k ≡ k l
given_one o l k h = ap (λ (z : Option ℤ). given z k) h

pub given_two : (o p : Option ℤ) (l v : ℤ) (k : ℤ → ℤ → Move) → o ≡ Some l → p ≡ Some v → given o (λ x. given p (λ y. k x y)) ≡ k l v
given_two o p l v k h i = ap (λ (z : Option ℤ). given z (λ x. given p (λ y. k x y))) h ∙ ap (λ (z : Option ℤ). given z (λ y. k l y)) i

-- what a move shows and asks, by the move
pub shows_by : (p : Program) (c : Config) (m : Move) (r : Reply) → move_of p c ≡ m → moved p c r ≡ m.answered r
shows_by p c m r h = ap (λ (z : Move). z.answered r) h

pub asks_by : (p : Program) (c : Config) (m : Move) → move_of p c ≡ m → need_of p c ≡ m.need
asks_by p c m h = ap (λ (z : Move). z.need) h

-- what a condition comes to, where both sides have values
pub holds_by : (op : CmpOp) (a b : Expr) (env : List ℤ) (v w : ℤ) → value_of a env ≡ Some v → value_of b env ≡ Some w → holds_of (cond.Cmp op a b) env ≡ Some (compared op v w)
holds_by op a b env v w h k =
    ap (λ (o : Option ℤ). with_value o (λ x. with_value (value_of b env) (λ y. Some (compared op x y)))) h
    ∙ ap (λ (o : Option ℤ). with_value o (λ y. Some (compared op v y))) k

-- the values of two arguments, for numbers alone
pub arguments_two : (a b : Expr) (env : List ℤ) (v w : ℤ) → value_of a env ≡ Some v → value_of b env ≡ Some w → arguments_from [] 0 (a ∷ b ∷ []) env ≡ Some (v ∷ w ∷ [])
arguments_two a b env v w h k =
    ap (λ (o : Option ℤ). with_value o (λ x. with_value (with_value (value_of b env) (λ y. Some (y ∷ []))) (λ ys. Some (x ∷ ys)))) h
    ∙ ap (λ (o : Option ℤ). with_value (with_value o (λ y. Some (y ∷ []))) (λ ys. Some (v ∷ ys))) k

-- a silent move leads on, by the move
pub goes_by : (p : Program) (g : Graph) (c next last : Config) (n : ℕ) (es : List ℕ) → move_of p c ≡ local next → Runs p g next n es last → Runs p g c (suc n) es last
goes_by p g c next last n es h r =
    silent (asks_by p c (local next) h) (subst (λ (m : Move). Runs p g (m.answered reply.Nothing).config n es last) (sym h) r)

-- a move shows the event, by the move
pub tells_by : (p : Program) (g : Graph) (c next last : Config) (m : Move) (e n : ℕ) (es : List ℕ) (x : Event) → Is g e x → move_of p c ≡ m
    → m.answered (reply_of x.label) ≡ showing x.label next → Answers g m.need x.label → Runs p g next n es last → Runs p g c (suc n) (e ∷ es) last
tells_by p g c next last m e n es x is h shown answers r =
    shows x is (shows_by p c m (reply_of x.label) h ∙ shown) (subst (λ (k : Need). Answers g k x.label) (sym (asks_by p c m h)) answers) r
