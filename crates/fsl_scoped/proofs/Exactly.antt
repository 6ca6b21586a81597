-- Where a run has a value, it is the exact number.
use Rattle.std.proofs.Common.{◌≡◌, ◌^◌, nat_lt, if◌then◌else◌, Bool, true, false, List, [], ◌∷◌, map, ℤ, pos, negsuc, neg_ℤ, ◌*ℤ◌, Some, None, ap, ◌∙◌, sym, subst, refl}
use Rattle.std.proofs.Math.IntN.{*ℤ-negsuc, *ℤ-one}
use Rattle.std.proofs.lemmas.Option.{get_or_from_slice_get}
use Rattle.fsl_core.specs.declared.expr.Cond.TheVariants as cond
use Rattle.fsl_core.specs.declared.expr.Expr.{Expr}
use Rattle.fsl_core.specs.declared.expr.Expr.TheOpen.{Expr-F}
use Rattle.fsl_core.specs.declared.expr.Expr.TheViews.{roll-Expr}
use Rattle.fsl_core.specs.declared.expr.Expr.TheFolds.{ind-Expr, map-Expr, fold-Part, fold-roll-Expr, fold_out-Part}
use Rattle.fsl_core.specs.declared.expr.Part.{Part}
use Rattle.fsl_core.specs.Values.{Value, in_range, plus_or_minus, sum_from, product_from, value_step, part_step, value_of, part_of, compared}
use Rattle.fsl_core.proofs.Seeing.{expressions_seen, conditions_seen}
use Rattle.fsl_asserted.specs.Exact.{Number, exact_sum, exact_product, exact_step, exact_part, exact}
use Rattle.fsl_asserted.proofs.Asking.{some_is, value_asked}
use Rattle.fsl_scoped.specs.Values.{ValuesAreExact, ConditionsAreExact, ReadsAreExact, TestsAreExact}

by_test : (b : Bool) (n x : ℤ) → (if b then Some n else None) ≡ Some x → n ≡ x
by_test true n x h = some_is h
by_test false n x h = absurd (let d : None ≡ Some x = h in cc)

in_range_is : (n x : ℤ) → in_range n ≡ Some x → n ≡ x
in_range_is (pos n) x h = by_test (nat_lt n (2 ^ 63)) (pos n) x h
in_range_is (negsuc n) x h = by_test (nat_lt n (2 ^ 63)) (negsuc n) x h

neg_is : (z : ℤ) → z *ℤ negsuc 0 ≡ neg_ℤ z
unfolding lib.IntN.one
neg_is z = *ℤ-negsuc z 0 ∙ ap neg_ℤ (*ℤ-one z)

abbrev IsExact : Value → Number → Type 0
IsExact v f = (xs : List ℤ) (x : ℤ) → v xs ≡ Some x → f xs ≡ x

record IsExactPart (p : Bool × Value) (q : Bool × Number) : Type 0 where
  sign : p.0 ≡ q.0
  number : IsExact p.1 q.1

sum_is : {Y B : Type 0} (b : Y → B) (v : B → Bool × Value) (f : B → Bool × Number) → ((y : Y) → IsExactPart (v (b y)) (f (b y)))
    → (ps : List Y) (xs : List ℤ) (sum x : ℤ) → sum_from xs sum (map v (map b ps)) ≡ Some x → exact_sum xs sum (map f (map b ps)) ≡ x
sum_is b v f each [] xs sum x h = some_is h
sum_is b v f each (p ∷ ps) xs sum x h =
    let part = each p in
    let i = value_asked ((v (b p)).1 xs) _ x h in
    let j = value_asked (in_range (plus_or_minus (v (b p)).0 sum i.value)) _ x i.then_is in
    let next : plus_or_minus (f (b p)).0 sum ((f (b p)).1 xs) ≡ j.value =
    ap (λ (sign : Bool). plus_or_minus sign sum ((f (b p)).1 xs)) (sym part.sign)
    ∙ ap (λ (z : ℤ). plus_or_minus (v (b p)).0 sum z) (part.number xs i.value i.is)
    ∙ in_range_is (plus_or_minus (v (b p)).0 sum i.value) j.value j.is in
    ap (λ (z : ℤ). exact_sum xs z (map f (map b ps))) next ∙ sum_is b v f each ps xs j.value x j.then_is

product_is : {X A : Type 0} (a : X → A) (v : A → Value) (f : A → Number) → ((x : X) → IsExact (v (a x)) (f (a x)))
    → (es : List X) (xs : List ℤ) (product x : ℤ) → product_from xs product (map v (map a es)) ≡ Some x → exact_product xs product (map f (map a es)) ≡ x
product_is a v f each [] xs product x h = some_is h
product_is a v f each (e ∷ es) xs product x h =
    let i = value_asked (v (a e) xs) _ x h in
    let j = value_asked (in_range (product *ℤ i.value)) _ x i.then_is in
    let next : product *ℤ f (a e) xs ≡ j.value =
    ap (λ (z : ℤ). product *ℤ z) (each e xs i.value i.is) ∙ in_range_is (product *ℤ i.value) j.value j.is in
    ap (λ (z : ℤ). exact_product xs z (map f (map a es))) next ∙ product_is a v f each es xs j.value x j.then_is

-- one layer, whose children a and b map to expressions and parts
layer : {X Y A B : Type 0} (a : X → A) (b : Y → B) (v : A → Value) (w : B → Bool × Value) (f : A → Number) (g : B → Bool × Number)
    → ((x : X) → IsExact (v (a x)) (f (a x))) → ((y : Y) → IsExactPart (w (b y)) (g (b y))) → (l : Expr-F X Y)
    → IsExact (value_step (map-Expr A B Value (Bool × Value) v w (map-Expr X Y A B a b l))) (exact_step (map-Expr A B Number (Bool × Number) f g (map-Expr X Y A B a b l)))
layer a b v w f g hx hy (Expr-F.Const n) = λ xs x h. in_range_is n x h
layer a b v w f g hx hy (Expr-F.Var slot) = λ xs x h. get_or_from_slice_get xs slot x (pos 0) h
layer a b v w f g hx hy Expr-F.Result_ = λ xs x h. absurd (let d : None ≡ Some x = h in cc)
layer a b v w f g hx hy (Expr-F.Neg e) = λ xs x h.
    let i = value_asked (v (a e) xs) (λ n. in_range (neg_ℤ n)) x h in
    ap (λ (z : ℤ). z *ℤ negsuc 0) (hx e xs i.value i.is) ∙ neg_is i.value ∙ in_range_is (neg_ℤ i.value) x i.then_is
layer a b v w f g hx hy (Expr-F.Sum ps) = λ xs x h. sum_is b w g hy ps xs (pos 0) x h
layer a b v w f g hx hy (Expr-F.Product es) = λ xs x h. product_is a v f hx es xs (pos 1) x h

abbrev part_exact : Part → Bool × Number
part_exact = fold-Part Number (Bool × Number) exact_step exact_part

part_is : (p : Part) → IsExact (value_of p.e) (exact p.e) → IsExactPart (part_of p) (part_exact p)
part_is p h =
    let e : part_of p ≡ (p.minus, value_of p.e) = fold_out-Part Value (Bool × Value) value_step part_step p in
    let d : part_exact p ≡ (p.minus, exact p.e) = fold_out-Part Number (Bool × Number) exact_step exact_part p in
    let l : IsExactPart (p.minus, value_of p.e) (p.minus, exact p.e) = record { sign = refl; number = h } in
    subst (λ (z : Bool × Value). IsExactPart z (part_exact p)) (sym e) (subst (λ (z : Bool × Number). IsExactPart (p.minus, value_of p.e) z) (sym d) l)

pub values_exact : ValuesAreExact
values_exact = ind-Expr (λ e. IsExact (value_of e) (exact e)) (λ p. IsExact (value_of p.e) (exact p.e))
    (λ x y is.
    let l = subst (λ z. IsExact (value_step (map-Expr Expr Part Value (Bool × Value) value_of part_of z)) (exact_step (map-Expr Expr Part Number (Bool × Number) exact part_exact z))) is
    (layer (λ e. e.0) (λ e. e.0) value_of part_of exact part_exact (λ e. e.1) (λ p. part_is p.0 p.1) y) in
    subst (λ (z : Value). IsExact z (exact (roll-Expr x))) (sym (fold-roll-Expr Value (Bool × Value) value_step part_step x))
    (subst (λ (z : Number). IsExact (value_step (map-Expr Expr Part Value (Bool × Value) value_of part_of x)) z) (sym (fold-roll-Expr Number (Bool × Number) exact_step exact_part x)) l))
    (λ x y is. subst (λ l. IsExact (value_of l.e) (exact l.e)) is y.e.1)

pub conditions_exact : ConditionsAreExact
conditions_exact cond.Yes xs b h = some_is h
conditions_exact cond.No xs b h = some_is h
conditions_exact (cond.Cmp op l r) xs b h =
    let i = value_asked (value_of l xs) _ b h in
    let j = value_asked (value_of r xs) _ b i.then_is in
    ap (λ (z : ℤ). compared op z (exact r xs)) (values_exact l xs i.value i.is)
    ∙ ap (λ (z : ℤ). compared op i.value z) (values_exact r xs j.value j.is) ∙ some_is j.then_is

pub reads_exact : ReadsAreExact
reads_exact scope env slots sees e x fits h = values_exact e slots x (sym (expressions_seen scope env slots sees e fits) ∙ h)

pub tests_exact : TestsAreExact
tests_exact scope env slots sees c b fits h = conditions_exact c slots b (sym (conditions_seen scope env slots sees c fits) ∙ h)
