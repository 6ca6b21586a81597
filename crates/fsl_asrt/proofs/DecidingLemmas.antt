-- Conditions by their sides.
use Rattle.std.proofs.Common.{◌≡◌, Bool, true, false, List, [], ◌∷◌, filter, Some, None, refl, ap, ◌∙◌, append-nil}
use Rattle.fsl_asrt.specs.declared.given.Side.{Side}
use Rattle.fsl_asrt.specs.Sides.{side_of, sides_of}
use Rattle.fsl_core.specs.declared.expr.CmpOp.{CmpOp}
use Rattle.fsl_core.specs.declared.verdict.Kind.{Kind}
use Rattle.fsl_core.specs.declared.verdict.Kind.TheVariants.{Term}
use Rattle.fsl_core.specs.logic.States.{Env, State, goes, fails, Branches, followed, ◌>>=◌, done, demand}
use Rattle.fsl_core.specs.logic.Terms.{Expression}
use Rattle.fsl_core.specs.logic.Deciding as deciding
use Rattle.fsl_core.specs.logic.Deciding.{Condition, compares, sides, each_side, agrees, decide, decided, assume_cond, demand_cond, is_sure}
use Rattle.fsl_lin.specs.Combination.{Combination}
use Rattle.fsl_asrt.proofs.Laws.{got, lacked}

pub compared : (op : CmpOp) (l r : Expression) (env : Env) (s : State) (a b : Combination)
    → l.term s.facts env ≡ Some a → r.term s.facts env ≡ Some b
    → sides (compares op l r) env s ≡ goes (decide op a b s.facts) s ∷ []
compared op l r env s a b h k =
    got Term (l.term s.facts env) a s _ h ∙ got Term (r.term s.facts env) b s _ k

pub no_left : (op : CmpOp) (l r : Expression) (env : Env) (s : State) → l.term s.facts env ≡ None
    → sides (compares op l r) env s ≡ fails Term ∷ []
no_left op l r env s h = lacked Term (l.term s.facts env) s _ h

pub no_right : (op : CmpOp) (l r : Expression) (env : Env) (s : State) (a : Combination)
    → l.term s.facts env ≡ Some a → r.term s.facts env ≡ None
    → sides (compares op l r) env s ≡ fails Term ∷ []
no_right op l r env s a h k =
    got Term (l.term s.facts env) a s _ h ∙ lacked Term (r.term s.facts env) s _ k

pub by_sides : (c : Condition) (env : Env) (s : State) (xs : List deciding.Side) → sides c env s ≡ goes xs s ∷ []
    → decided c env s ≡ each_side xs s
by_sides c env s xs h = ap (λ (bs : Branches (List deciding.Side)). followed bs each_side) h ∙ append-nil (each_side xs s)

pub no_sides : (c : Condition) (env : Env) (s : State) → sides c env s ≡ fails Term ∷ [] → decided c env s ≡ fails Term ∷ []
no_sides c env s h = ap (λ (bs : Branches (List deciding.Side)). followed bs each_side) h

pub assumed_by_sides : (answer : Bool) (c : Condition) (env : Env) (s : State) (xs : List deciding.Side) → sides c env s ≡ goes xs s ∷ []
    → assume_cond answer c env s ≡ followed (each_side (deciding.sides_of answer xs) s) (λ _. done)
assumed_by_sides answer c env s xs h =
    ap (λ (bs : Branches (List deciding.Side)). followed bs (λ ys. each_side (deciding.sides_of answer ys) >>= (λ _. done))) h
    ∙ append-nil (followed (each_side (deciding.sides_of answer xs) s) (λ _. done))

pub none_assumed : (answer : Bool) (c : Condition) (env : Env) (s : State) → sides c env s ≡ fails Term ∷ []
    → assume_cond answer c env s ≡ fails Term ∷ []
none_assumed answer c env s h =
    ap (λ (bs : Branches (List deciding.Side)). followed bs (λ ys. each_side (deciding.sides_of answer ys) >>= (λ _. done))) h

pub demanded_by_sides : (kind : Kind) (c : Condition) (env : Env) (s : State) (xs : List deciding.Side) → sides c env s ≡ goes xs s ∷ []
    → demand_cond kind c env s ≡ demand kind (is_sure xs) s
demanded_by_sides kind c env s xs h =
    ap (λ (bs : Branches (List deciding.Side)). followed bs (λ ys. demand kind (is_sure ys))) h ∙ append-nil (demand kind (is_sure xs) s)

pub none_demanded : (kind : Kind) (c : Condition) (env : Env) (s : State) → sides c env s ≡ fails Term ∷ []
    → demand_cond kind c env s ≡ fails Term ∷ []
none_demanded kind c env s h = ap (λ (bs : Branches (List deciding.Side)). followed bs (λ ys. demand kind (is_sure ys))) h

-- sides of the code that have an answer are those of the definition
kept_side : (a b : Combination) (answer test : Bool) (x : Side) (xs : List Side) → agrees answer x.holds ≡ test
    → sides_of a b (filter (λ y. agrees answer y.holds) xs) ≡ deciding.sides_of answer (sides_of a b xs)
    → sides_of a b (filter (λ y. agrees answer y.holds) (x ∷ xs)) ≡ deciding.sides_of answer (sides_of a b (x ∷ xs))
kept_side a b answer true x xs h e = rw h (ap (λ (r : List deciding.Side). side_of a b x ∷ r) e)
kept_side a b answer false x xs h e = rw h e

pub kept_sides : (a b : Combination) (answer : Bool) (xs : List Side)
    → sides_of a b (filter (λ y. agrees answer y.holds) xs) ≡ deciding.sides_of answer (sides_of a b xs)
kept_sides a b answer [] = refl
kept_sides a b answer (x ∷ xs) = kept_side a b answer (agrees answer x.holds) x xs refl (kept_sides a b answer xs)
