-- The term of an expression means its exact number, and a condition is judged by the numbers of its sides.
use Rattle.std.proofs.Common.{◌≡◌, ℕ, Bool, true, false, List, [], ◌∷◌, map, Option, Some, None, ℤ, pos, negsuc, ◌*ℤ◌, get_or, refl, ap, sym, subst, ◌∙◌}
use Rattle.std.proofs.Math.IntN.{*ℤ_comm}
use Rattle.fsl_core.specs.declared.expr.Expr.{Expr}
use Rattle.fsl_core.specs.declared.expr.Part.{Part}
use Rattle.fsl_core.specs.declared.expr.Cond.{Cond}
use Rattle.fsl_core.specs.declared.expr.Cond.TheVariants as cond
use Rattle.fsl_core.specs.declared.expr.Expr.TheOpen.{Expr-F}
use Rattle.fsl_core.specs.declared.expr.Expr.TheViews.{roll-Expr}
use Rattle.fsl_core.specs.declared.expr.Expr.TheFolds.{ind-Expr, fold-Part, map-Expr, fold-roll-Expr, fold_out-Part}
use Rattle.fsl_core.specs.Values.{plus_or_minus}
use Rattle.fsl_core.specs.logic.States.{Env}
use Rattle.fsl_core.specs.logic.Deciding.{cond_of}
use Rattle.fsl_core.specs.logic.Terms.{Expression, expr_step, part_step, expr_of, with_term, narrow, signed, last_or, number_of, constant_of, multiplied, signed_term}
use Rattle.fsl_core.specs.logic.Terms.{sum_from as sum_terms, product_from as product_terms}
use Rattle.fsl_lin.specs.Combination.{Combination, times, constant, is_narrow}
use Rattle.fsl_lin.specs.Facts.{rows}
use Rattle.fsl_lin.specs.Numbers.{Numbers, part, is_constant}
use Rattle.fsl_lin.specs.Rows.{normal}
use Rattle.fsl_lin.specs.declared.fact.Fact.{Fact}
use Rattle.fsl_meaning.specs.Means.{Means, EachMeans, AllMean, HoldAll}
use Rattle.fsl_meaning.specs.Deciding.{IsRead, IsJudged}
use Rattle.fsl_meaning.proofs.Solver.{solver_is_sound}
use Rattle.fsl_meaning.proofs.Terms.{extends_here, means_as, means_plus, means_minus, means_times, means_constant}
use Rattle.fsl_meaning.proofs.Joining.{narrow_is}
use Rattle.fsl_meaning.proofs.Slots.{all_get}
use Rattle.fsl_asserted.specs.Exact.{Number, last_number, exact_sum, exact_product, exact_step, exact_part, exact, exact_cond}
use Rattle.fsl_asserted.proofs.Asking.{some_is}

pub record IsTerm (o : Option Combination) (f : Combination → Option Combination) (u : Combination) : Type 0 where
  pub term : Combination
  pub is : o ≡ Some term
  pub then_is : f term ≡ Some u

term_is : (o : Option Combination) (f : Combination → Option Combination) (u : Combination) → with_term o f ≡ Some u → IsTerm o f u
term_is (Some t) f u h = record { term = t; is = refl; then_is = h }
term_is None f u h = absurd (let d : None ≡ Some u = h in cc)

narrow_means : {n : ℕ} {v : Numbers} {x : ℤ} (t u : Combination) → narrow t ≡ Some u → Means n v t x → Means n v u x
narrow_means {n = n} {v = v} {x = x} t u h m = subst (λ (z : Combination). Means n v z x) (narrow_is t u (is_narrow t) refl h) m

each_last : (n : ℕ) (v : Numbers) (t : Combination) (x : ℤ) (ts : List Combination) (xs : List ℤ) → Means n v t x → EachMeans n v ts xs → Means n v (last_or t ts) (last_number x xs)
each_last n v t x [] [] h k = h
each_last n v t x [] (y ∷ ys) h k = absurd k
each_last n v t x (u ∷ us) [] h k = absurd k
each_last n v t x (u ∷ us) (y ∷ ys) h k = each_last n v u y us ys k.0 k.1

-- ---- sums

pub record IsSigned (p : Bool × Expression) (q : Bool × Number) : Type 0 where
  pub sign : p.0 ≡ q.0
  pub read : IsRead p.1 q.1

signed_means : {n : ℕ} {v : Numbers} {a b : Combination} {x y : ℤ} (sign : Bool) → Means n v a x → Means n v b y → Means n v (signed sign a b) (plus_or_minus sign x y)
signed_means true h k = means_minus h k
signed_means false h k = means_plus h k

sum_means : {Y B : Type 0} (b : Y → B) (g : B → Bool × Expression) (g2 : B → Bool × Number) → ((y : Y) → IsSigned (g (b y)) (g2 (b y)))
    → (ps : List Y) (n : ℕ) (v : Numbers) (facts : List Fact) (env : Env) (xs : List ℤ) (sum : Combination) (x : ℤ) (u : Combination)
    → v 0 ≡ pos 1 → HoldAll n v facts → AllMean n v env xs → Means n v sum x → sum_terms facts env sum (map signed_term (map g (map b ps))) ≡ Some u
    → Means n v u (exact_sum xs x (map g2 (map b ps)))
sum_means b g g2 each [] n v facts env xs sum x u one hold all h e = subst (λ (z : Combination). Means n v z x) (some_is e) h
sum_means b g g2 each (p ∷ ps) n v facts env xs sum x u one hold all h e =
    let q = each p in
    let i = term_is ((g (b p)).1.term facts env) _ u e in
    let k : Means n v i.term ((g2 (b p)).1 xs) = q.read.means n v facts env xs i.term one hold all i.is in
    let j = term_is (narrow (signed (g (b p)).0 sum i.term)) _ u i.then_is in
    let m : Means n v j.term (plus_or_minus (g (b p)).0 x ((g2 (b p)).1 xs)) = narrow_means (signed (g (b p)).0 sum i.term) j.term j.is (signed_means (g (b p)).0 h k) in
    let l : Means n v j.term (plus_or_minus (g2 (b p)).0 x ((g2 (b p)).1 xs)) = subst (λ (z : Bool). Means n v j.term (plus_or_minus z x ((g2 (b p)).1 xs))) q.sign m in
    sum_means b g g2 each ps n v facts env xs j.term (plus_or_minus (g2 (b p)).0 x ((g2 (b p)).1 xs)) u one hold all l j.then_is

-- ---- products

number_by : (m : Numbers) (k : ℤ) (c : Bool) → is_constant m ≡ c → number_of m ≡ Some k → (is_constant m ≡ true) × (m 0 ≡ k)
number_by m k true e h = let d : number_of m ≡ Some (m 0) = simp e in (e, (cc))
number_by m k false e h = let d : number_of m ≡ None = simp e in absurd (cc)

-- a number that a term is by the facts is its number
constant_is : {n : ℕ} {v : Numbers} {t : Combination} {x : ℤ} (facts : List Fact) (k : ℤ) → v 0 ≡ pos 1 → HoldAll n v facts → Means n v t x → constant_of facts t ≡ Some k → x ≡ k
constant_is {v = v} {t = t} facts k one hold h e =
    let p = number_by (normal (rows facts) (part t)) k (is_constant (normal (rows facts) (part t))) refl e in
    sym (h.is v (extends_here one)) ∙ sym (solver_is_sound.same facts (part t) v one (hold.all v (extends_here one)))
    ∙ solver_is_sound.constant v (normal (rows facts) (part t)) one p.0 ∙ p.1

multiplied_means : {n : ℕ} {v : Numbers} {a b : Combination} {x y : ℤ} (l r : Option ℤ) (u : Combination) → ((k : ℤ) → l ≡ Some k → x ≡ k) → ((k : ℤ) → r ≡ Some k → y ≡ k)
    → Means n v a x → Means n v b y → multiplied l r a b ≡ Some u → Means n v u (x *ℤ y)
multiplied_means {b = b} {x = x} {y = y} (Some k) r u left right h m e =
    narrow_means (times k b) u e (means_as (ap (λ (z : ℤ). y *ℤ z) (sym (left k refl)) ∙ *ℤ_comm y x) (means_times k m))
multiplied_means {a = a} {x = x} None (Some k) u left right h m e =
    narrow_means (times k a) u e (means_as (ap (λ (z : ℤ). x *ℤ z) (sym (right k refl))) (means_times k h))
multiplied_means None None u left right h m e = absurd (let d : None ≡ Some u = e in cc)

product_means : {X A : Type 0} (a : X → A) (f : A → Expression) (f2 : A → Number) → ((x : X) → IsRead (f (a x)) (f2 (a x)))
    → (es : List X) (n : ℕ) (v : Numbers) (facts : List Fact) (env : Env) (xs : List ℤ) (product : Combination) (x : ℤ) (u : Combination)
    → v 0 ≡ pos 1 → HoldAll n v facts → AllMean n v env xs → Means n v product x → product_terms facts env product (map (λ e. e.term) (map f (map a es))) ≡ Some u
    → Means n v u (exact_product xs x (map f2 (map a es)))
product_means a f f2 each [] n v facts env xs product x u one hold all h e = subst (λ (z : Combination). Means n v z x) (some_is e) h
product_means a f f2 each (p ∷ ps) n v facts env xs product x u one hold all h e =
    let i = term_is ((f (a p)).term facts env) _ u e in
    let k : Means n v i.term (f2 (a p) xs) = (each p).means n v facts env xs i.term one hold all i.is in
    let j = term_is (multiplied (constant_of facts product) (constant_of facts i.term) product i.term) _ u i.then_is in
    let m : Means n v j.term (x *ℤ f2 (a p) xs) = multiplied_means (constant_of facts product) (constant_of facts i.term) j.term
    (λ c d. constant_is facts c one hold h d) (λ c d. constant_is facts c one hold k d) h k j.is in
    product_means a f f2 each ps n v facts env xs j.term (x *ℤ f2 (a p) xs) u one hold all m j.then_is

-- ---- one level

layer : {X Y A B : Type 0} (a : X → A) (b : Y → B) (f : A → Expression) (g : B → Bool × Expression) (f2 : A → Number) (g2 : B → Bool × Number)
    → ((x : X) → IsRead (f (a x)) (f2 (a x))) → ((y : Y) → IsSigned (g (b y)) (g2 (b y))) → (l : Expr-F X Y)
    → IsRead (expr_step (map-Expr A B Expression (Bool × Expression) f g (map-Expr X Y A B a b l))) (exact_step (map-Expr A B Number (Bool × Number) f2 g2 (map-Expr X Y A B a b l)))
layer a b f g f2 g2 hx hy (Expr-F.Const c) = record { means = λ n v facts env xs t one hold all e. narrow_means (constant c) t e (means_constant c) }
layer a b f g f2 g2 hx hy (Expr-F.Var slot) = record { means = λ n v facts env xs t one hold all e. subst (λ (z : Combination). Means n v z (get_or xs slot (pos 0))) (some_is e) (all_get slot all) }
layer a b f g f2 g2 hx hy Expr-F.Result_ = record {
  means = λ n v facts env xs t one hold all e.
      subst (λ (z : Combination). Means n v z (last_number (pos 0) xs)) (some_is e) (each_last n v (constant (pos 0)) (pos 0) env xs (means_constant (pos 0)) all.each);
}
layer a b f g f2 g2 hx hy (Expr-F.Neg x) = record {
  means = λ n v facts env xs t one hold all e.
      let i = term_is ((f (a x)).term facts env) (λ (u : Combination). narrow (times (negsuc 0) u)) t e in
      narrow_means (times (negsuc 0) i.term) t i.then_is (means_times (negsuc 0) ((hx x).means n v facts env xs i.term one hold all i.is));
}
layer a b f g f2 g2 hx hy (Expr-F.Sum ps) = record {
  means = λ n v facts env xs t one hold all e. sum_means b g g2 hy ps n v facts env xs (constant (pos 0)) (pos 0) t one hold all (means_constant (pos 0)) e;
}
layer a b f g f2 g2 hx hy (Expr-F.Product es) = record {
  means = λ n v facts env xs t one hold all e. product_means a f f2 hx es n v facts env xs (constant (pos 1)) (pos 1) t one hold all (means_constant (pos 1)) e;
}

abbrev part_expr : Part → Bool × Expression
part_expr = fold-Part Expression (Bool × Expression) expr_step part_step

abbrev part_exact : Part → Bool × Number
part_exact = fold-Part Number (Bool × Number) exact_step exact_part

abbrev Reads : Expr → Type 0
Reads e = IsRead (expr_of e) (exact e)

part_reads : (p : Part) → Reads p.e → IsSigned (part_expr p) (part_exact p)
part_reads p h =
    let e : part_expr p ≡ (p.minus, expr_of p.e) = fold_out-Part Expression (Bool × Expression) expr_step part_step p in
    let d : part_exact p ≡ (p.minus, exact p.e) = fold_out-Part Number (Bool × Number) exact_step exact_part p in
    let l : IsSigned (p.minus, expr_of p.e) (p.minus, exact p.e) = record { sign = refl; read = h } in
    subst (λ (z : Bool × Expression). IsSigned z (part_exact p)) (sym e) (subst (λ (z : Bool × Number). IsSigned (p.minus, expr_of p.e) z) (sym d) l)

pub reads_expr : (e : Expr) → IsRead (expr_of e) (exact e)
reads_expr = ind-Expr Reads (λ p. Reads p.e)
    (λ x y is.
    let p = fold-roll-Expr Expression (Bool × Expression) expr_step part_step x in
    let q = fold-roll-Expr Number (Bool × Number) exact_step exact_part x in
    let l = subst (λ z. IsRead (expr_step (map-Expr Expr Part Expression (Bool × Expression) expr_of part_expr z)) (exact_step (map-Expr Expr Part Number (Bool × Number) exact part_exact z))) is
    (layer (λ e. e.0) (λ e. e.0) expr_of part_expr exact part_exact (λ e. e.1) (λ p. part_reads p.0 p.1) y) in
    subst (λ (z : Expression). IsRead z (exact (roll-Expr x))) (sym p)
    (subst (λ (z : Number). IsRead (expr_step (map-Expr Expr Part Expression (Bool × Expression) expr_of part_expr x)) z) (sym q) l))
    (λ x y is. subst (λ l. Reads l.e) is y.e.1)

pub judges_cond : (c : Cond) → IsJudged (cond_of expr_of c) (exact_cond c)
judges_cond cond.Yes = λ xs. refl
judges_cond cond.No = λ xs. refl
judges_cond (cond.Cmp op l r) = record { left = exact l; right = exact r; left_is = reads_expr l; right_is = reads_expr r; is = λ xs. refl }
