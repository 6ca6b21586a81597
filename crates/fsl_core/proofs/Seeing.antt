-- Expressions, conditions and arguments under two environments that agree on what is visible.
use Rattle.std.proofs.Common.{◌≡◌, ℕ, ◌+◌, ◌==◌, Bool, true, false, List, [], ◌∷◌, map, ℤ, pos, neg_ℤ, ◌*ℤ◌, Option, Some, None, ap, ◌∙◌, sym, subst, refl}
use Rattle.std.proofs.lemmas.Bool.{and_parts}
use Rattle.std.specs.List.{list_all, list_any}
use Rattle.fsl_core.specs.declared.expr.Cond.{Cond}
use Rattle.fsl_core.specs.declared.expr.Cond.TheVariants as cond
use Rattle.fsl_core.specs.declared.expr.Expr.{Expr}
use Rattle.fsl_core.specs.declared.expr.Expr.TheOpen.{Expr-F}
use Rattle.fsl_core.specs.declared.expr.Expr.TheFolds.{ind-Expr, fold-Part, map-Expr, fold-roll-Expr, fold_out-Part}
use Rattle.fsl_core.specs.declared.expr.Part.{Part}
use Rattle.fsl_core.specs.declared.scope.Scope.{Scope}
use Rattle.fsl_core.specs.Moves.{argument, arguments_from}
use Rattle.fsl_core.specs.Scopes.{Sees, reads, reads_step, part_reads_step, tests, argument_fits, arguments_fit}
use Rattle.fsl_core.specs.Seen.{ExpressionsAreSeen, ConditionsAreSeen, ArgumentsAreSeen}
use Rattle.fsl_core.specs.Values.{Value, with_value, in_range, plus_or_minus, sum_from, product_from, value_step, part_step, value_of, part_of, compared, holds_of}

with_alike : {A B : Type 0} (o : Option A) (f g : A → Option B) → ((a : A) → f a ≡ g a) → with_value o f ≡ with_value o g
with_alike None f g h = refl
with_alike (Some a) f g h = h a

sum_alike : {X B : Type 0} (b : X → B) (v : B → Bool × Value) (f : B → Bool) (env slots : List ℤ)
    → ((x : X) → f (b x) ≡ true → (v (b x)).1 env ≡ (v (b x)).1 slots)
    → (ps : List X) (sum : ℤ) → list_all (λ part. part) (map f (map b ps)) ≡ true
    → sum_from env sum (map v (map b ps)) ≡ sum_from slots sum (map v (map b ps))
sum_alike b v f env slots each [] sum h = refl
sum_alike b v f env slots each (p ∷ ps) sum h =
    let both = and_parts (f (b p)) (list_all (λ part. part) (map f (map b ps))) h in
    ap (λ o. with_value o (λ w. with_value (in_range (plus_or_minus (v (b p)).0 sum w)) (λ s. sum_from env s (map v (map b ps))))) (each p both.0)
    ∙ with_alike ((v (b p)).1 slots) (λ w. with_value (in_range (plus_or_minus (v (b p)).0 sum w)) (λ s. sum_from env s (map v (map b ps))))
    (λ w. with_value (in_range (plus_or_minus (v (b p)).0 sum w)) (λ s. sum_from slots s (map v (map b ps))))
    (λ w. with_alike (in_range (plus_or_minus (v (b p)).0 sum w)) (λ s. sum_from env s (map v (map b ps))) (λ s. sum_from slots s (map v (map b ps)))
    (λ s. sum_alike b v f env slots each ps s both.1))

product_alike : {X A : Type 0} (a : X → A) (v : A → Value) (f : A → Bool) (env slots : List ℤ)
    → ((x : X) → f (a x) ≡ true → v (a x) env ≡ v (a x) slots)
    → (es : List X) (product : ℤ) → list_all (λ factor. factor) (map f (map a es)) ≡ true
    → product_from env product (map v (map a es)) ≡ product_from slots product (map v (map a es))
product_alike a v f env slots each [] product h = refl
product_alike a v f env slots each (e ∷ es) product h =
    let both = and_parts (f (a e)) (list_all (λ factor. factor) (map f (map a es))) h in
    ap (λ o. with_value o (λ w. with_value (in_range (product *ℤ w)) (λ s. product_from env s (map v (map a es))))) (each e both.0)
    ∙ with_alike (v (a e) slots) (λ w. with_value (in_range (product *ℤ w)) (λ s. product_from env s (map v (map a es))))
    (λ w. with_value (in_range (product *ℤ w)) (λ s. product_from slots s (map v (map a es))))
    (λ w. with_alike (in_range (product *ℤ w)) (λ s. product_from env s (map v (map a es))) (λ s. product_from slots s (map v (map a es)))
    (λ s. product_alike a v f env slots each es s both.1))

-- one layer, whose children a and b map to expressions and parts
layer : {X Y A B : Type 0} (a : X → A) (b : Y → B) (v : A → Value) (w : B → Bool × Value) (f : A → Bool) (g : B → Bool)
    (scope : Scope) (env slots : List ℤ) → Sees scope env slots
    → ((x : X) → f (a x) ≡ true → v (a x) env ≡ v (a x) slots) → ((y : Y) → g (b y) ≡ true → (w (b y)).1 env ≡ (w (b y)).1 slots)
    → (l : Expr-F X Y) → reads_step scope (map-Expr A B Bool Bool f g (map-Expr X Y A B a b l)) ≡ true
    → value_step (map-Expr A B Value (Bool × Value) v w (map-Expr X Y A B a b l)) env
    ≡ value_step (map-Expr A B Value (Bool × Value) v w (map-Expr X Y A B a b l)) slots
layer a b v w f g scope env slots sees hx hy (Expr-F.Const n) h = refl
layer a b v w f g scope env slots sees hx hy (Expr-F.Var slot) h = sees slot h
layer a b v w f g scope env slots sees hx hy Expr-F.Result_ h = refl
layer a b v w f g scope env slots sees hx hy (Expr-F.Neg e) h = ap (λ o. with_value o (λ n. in_range (neg_ℤ n))) (hx e h)
layer a b v w f g scope env slots sees hx hy (Expr-F.Sum ps) h = sum_alike b w g env slots hy ps (pos 0) h
layer a b v w f g scope env slots sees hx hy (Expr-F.Product es) h = product_alike a v f env slots hx es (pos 1) h

abbrev Alike : Scope → List ℤ → List ℤ → Expr → Type 0
Alike scope env slots e = reads scope e ≡ true → value_of e env ≡ value_of e slots

abbrev part_reads : Scope → Part → Bool
part_reads scope = fold-Part Bool Bool (reads_step scope) part_reads_step

part_alike : (scope : Scope) (env slots : List ℤ) (p : Part) → Alike scope env slots p.e → part_reads scope p ≡ true
    → (part_of p).1 env ≡ (part_of p).1 slots
part_alike scope env slots p alike h =
    let layered = fold_out-Part Value (Bool × Value) value_step part_step p in
    ap (λ (q : Bool × Value). q.1 env) layered
    ∙ alike (sym (fold_out-Part Bool Bool (reads_step scope) part_reads_step p) ∙ h)
    ∙ sym (ap (λ (q : Bool × Value). q.1 slots) layered)

pub expressions_seen : ExpressionsAreSeen
expressions_seen scope env slots sees = ind-Expr (Alike scope env slots) (λ p. Alike scope env slots p.e)
    (λ x y is h.
    let layered = fold-roll-Expr Value (Bool × Value) value_step part_step x in
    let one = subst (λ l. reads_step scope (map-Expr Expr Part Bool Bool (reads scope) (part_reads scope) l) ≡ true
    → value_step (map-Expr Expr Part Value (Bool × Value) value_of part_of l) env
    ≡ value_step (map-Expr Expr Part Value (Bool × Value) value_of part_of l) slots) is
    (layer (λ e. e.0) (λ e. e.0) value_of part_of (reads scope) (part_reads scope) scope env slots sees (λ e. e.1) (λ p. part_alike scope env slots p.0 p.1) y) in
    ap (λ (v : Value). v env) layered
    ∙ one (sym (fold-roll-Expr Bool Bool (reads_step scope) part_reads_step x) ∙ h)
    ∙ sym (ap (λ (v : Value). v slots) layered))
    (λ x y is. subst (λ l. Alike scope env slots l.e) is y.e.1)

pub conditions_seen : ConditionsAreSeen
conditions_seen scope env slots sees cond.Yes h = refl
conditions_seen scope env slots sees cond.No h = refl
conditions_seen scope env slots sees (cond.Cmp op l r) h =
    let both = and_parts (reads scope l) (reads scope r) h in
    rw (expressions_seen scope env slots sees l both.0, expressions_seen scope env slots sees r both.1) refl

argument_alike : (scope : Scope) (env slots : List ℤ) → Sees scope env slots → (bank : Bool) (e : Expr)
    → argument_fits scope bank e ≡ true → argument bank e env ≡ argument bank e slots
argument_alike scope env slots sees true e h = refl
argument_alike scope env slots sees false e h = expressions_seen scope env slots sees e h

pub arguments_seen : ArgumentsAreSeen
arguments_seen scope env slots sees banks slot [] h = refl
arguments_seen scope env slots sees banks slot (e ∷ es) h =
    let bank = list_any (λ bank. bank == slot) banks in
    let both = and_parts (argument_fits scope bank e) (arguments_fit scope banks (slot + 1) es) h in
    rw (argument_alike scope env slots sees bank e both.0, arguments_seen scope env slots sees banks (slot + 1) es both.1) refl
