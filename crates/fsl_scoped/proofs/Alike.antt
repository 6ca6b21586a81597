-- Two lists of numbers that agree on what assertions see, and what expressions come to under them.
use Rattle.std.proofs.Common.{◌≡◌, ◌⊎◌, inl, inr, ℕ, Bool, true, false, List, [], ◌∷◌, map, length, ℤ, pos, negsuc, ◌*ℤ◌, get_or, slice_get, slice_set, is_some, ap, ◌∙◌, sym, subst, refl, length-set, get_or-set_other}
use Rattle.std.proofs.lemmas.Bool.{and_parts, or_left, or_right, or_cases, cases_eq}
use Rattle.std.specs.List.{list_all}
use Rattle.fsl_core.specs.declared.expr.Cond.{Cond}
use Rattle.fsl_core.specs.declared.expr.Cond.TheVariants as cond
use Rattle.fsl_core.specs.declared.expr.Expr.{Expr}
use Rattle.fsl_core.specs.declared.expr.Expr.TheOpen.{Expr-F}
use Rattle.fsl_core.specs.declared.expr.Expr.TheViews.{out-Expr}
use Rattle.fsl_core.specs.declared.expr.Expr.TheFolds.{ind-Expr, map-Expr, fold-Part, fold-roll-Expr, fold_out-Expr, fold_out-Part}
use Rattle.fsl_core.specs.declared.expr.Part.{Part}
use Rattle.fsl_core.specs.declared.scope.Scope.{Scope}
use Rattle.fsl_core.specs.declared.scope.Sight.{Sight}
use Rattle.fsl_core.specs.declared.scope.Sight.TheVariants as sight
use Rattle.fsl_core.specs.Values.{plus_or_minus, compared}
use Rattle.fsl_core.specs.Scopes.{is_number, is_bank, is_free, sight_at, with_sight, reads, reads_step, part_reads_step, reads_all, tests, bank_step, is_bank_alone, inst_argument_fits}
use Rattle.fsl_asserted.specs.Exact.{Number, last_number, exact_sum, exact_product, exact_step, exact_part, exact, exact_all, exact_cond}
use Rattle.fsl_asserted.specs.Needs.{bank_number}
use Rattle.fsl_scoped.specs.Assertions.{is_shared}
use Rattle.fsl_scoped.proofs.Lists.{get_other, set_alike, room_set, last_set, get_alike, set_cases}
use Rattle.fsl_scoped.proofs.Binding.{shared_not_free, Later}

-- they agree on what is seen; what may be bound is there in both or in neither; and so it is with the result
pub record Alike (scope : Scope) (xs ys : List ℤ) : Type 0 where
  pub alike : (slot : ℕ) → is_shared (sight_at scope slot) ≡ true → slice_get xs slot ≡ slice_get ys slot
  pub room : (slot : ℕ) → is_free (sight_at scope slot) ≡ true → is_some (slice_get xs slot) ≡ is_some (slice_get ys slot)
  pub last : scope.in_ensures ≡ true → (length xs ≡ length ys) × (last_number (pos 0) xs ≡ last_number (pos 0) ys)

pub alike_before : (a b : Scope) (xs ys : List ℤ) → Later a b → Alike b xs ys → Alike a xs ys
alike_before a b xs ys later h = record {
  alike = λ slot s. h.alike slot (ap is_shared (later.kept slot (shared_not_free (sight_at a slot) s)) ∙ s);
  room = λ slot free. held slot (later.freed slot free);
  last = λ e. h.last (later.result ∙ e);
}
  where
    held : (slot : ℕ) → (sight_at b slot ≡ sight.Free) ⊎ (sight_at b slot ≡ sight.Bound) → is_some (slice_get xs slot) ≡ is_some (slice_get ys slot)
    held slot (inl e) = h.room slot (ap is_free e)
    held slot (inr e) = ap is_some (h.alike slot (ap is_shared e))

pub alike_set : (a : Scope) (xs ys : List ℤ) (slot : ℕ) (x : ℤ) → is_free (sight_at a slot) ≡ true → Alike a xs ys
    → Alike (with_sight slot sight.Bound a) (slice_set xs slot x) (slice_set ys slot x)
alike_set a xs ys slot x free h = record {
  alike = λ k s. at k s (cases_eq k slot);
  room = λ k s. room_set xs slot k x ∙ h.room k (before k s) ∙ sym (room_set ys slot k x);
  last = λ e. let both = h.last e in
      (length-set xs slot x ∙ both.0 ∙ sym (length-set ys slot x), last_set (pos 0) (pos 0) xs ys slot x both.0 both.1);
}
  where
    before : (k : ℕ) → is_free (sight_at (with_sight slot sight.Bound a) k) ≡ true → is_free (sight_at a k) ≡ true
    before k = set_cases a.sights slot k sight.Bound sight.Kept (λ (z : Sight). is_free z ≡ true → is_free (sight_at a k) ≡ true)
        (λ e s. absurd (let d : false ≡ true = s in cc)) (λ w s. s)

    at : (k : ℕ) → is_shared (sight_at (with_sight slot sight.Bound a) k) ≡ true → (k ≡ slot) ⊎ (k ≡ slot → ⊥)
        → slice_get (slice_set xs slot x) k ≡ slice_get (slice_set ys slot x) k
    at k s (inl e) = subst (λ (j : ℕ). slice_get (slice_set xs slot x) j ≡ slice_get (slice_set ys slot x) j) (sym e) (set_alike xs ys slot x (h.room slot free))
    at k s (inr n) = get_other xs slot k x n
        ∙ h.alike k (sym (ap is_shared (get_or-set_other a.sights slot k sight.Bound sight.Kept n)) ∙ s)
        ∙ sym (get_other ys slot k x n)

pub number_alike : {scope : Scope} {xs ys : List ℤ} (slot : ℕ) → Alike scope xs ys → is_number (sight_at scope slot) ≡ true → get_or xs slot (pos 0) ≡ get_or ys slot (pos 0)
number_alike {scope = scope} {xs = xs} {ys = ys} slot h s =
    get_alike xs ys slot (pos 0) (h.alike slot (or_left (is_number (sight_at scope slot)) (is_bank (sight_at scope slot)) s))

pub bank_alike : {scope : Scope} {xs ys : List ℤ} (slot : ℕ) → Alike scope xs ys → is_bank (sight_at scope slot) ≡ true → bank_number slot xs ≡ bank_number slot ys
bank_alike {scope = scope} {xs = xs} {ys = ys} slot h s =
    get_alike xs ys slot (pos 0) (h.alike slot (or_right (is_number (sight_at scope slot)) (is_bank (sight_at scope slot)) s))

-- ---- expressions

sum_alike : {Y B : Type 0} (b : Y → B) (v : B → Bool × Number) (f : B → Bool) (xs ys : List ℤ)
    → ((y : Y) → f (b y) ≡ true → (v (b y)).1 xs ≡ (v (b y)).1 ys)
    → (ps : List Y) (sum : ℤ) → list_all (λ part. part) (map f (map b ps)) ≡ true
    → exact_sum xs sum (map v (map b ps)) ≡ exact_sum ys sum (map v (map b ps))
sum_alike b v f xs ys each [] sum h = refl
sum_alike b v f xs ys each (p ∷ ps) sum h =
    let both = and_parts (f (b p)) (list_all (λ part. part) (map f (map b ps))) h in
    ap (λ (z : ℤ). exact_sum xs (plus_or_minus (v (b p)).0 sum z) (map v (map b ps))) (each p both.0)
    ∙ sum_alike b v f xs ys each ps (plus_or_minus (v (b p)).0 sum ((v (b p)).1 ys)) both.1

product_alike : {X A : Type 0} (a : X → A) (v : A → Number) (f : A → Bool) (xs ys : List ℤ)
    → ((x : X) → f (a x) ≡ true → v (a x) xs ≡ v (a x) ys)
    → (es : List X) (product : ℤ) → list_all (λ factor. factor) (map f (map a es)) ≡ true
    → exact_product xs product (map v (map a es)) ≡ exact_product ys product (map v (map a es))
product_alike a v f xs ys each [] product h = refl
product_alike a v f xs ys each (e ∷ es) product h =
    let both = and_parts (f (a e)) (list_all (λ factor. factor) (map f (map a es))) h in
    ap (λ (z : ℤ). exact_product xs (product *ℤ z) (map v (map a es))) (each e both.0)
    ∙ product_alike a v f xs ys each es (product *ℤ v (a e) ys) both.1

layer : {X Y A B : Type 0} (a : X → A) (b : Y → B) (v : A → Number) (w : B → Bool × Number) (f : A → Bool) (g : B → Bool)
    (scope : Scope) (xs ys : List ℤ) → Alike scope xs ys
    → ((x : X) → f (a x) ≡ true → v (a x) xs ≡ v (a x) ys) → ((y : Y) → g (b y) ≡ true → (w (b y)).1 xs ≡ (w (b y)).1 ys)
    → (l : Expr-F X Y) → reads_step scope (map-Expr A B Bool Bool f g (map-Expr X Y A B a b l)) ≡ true
    → exact_step (map-Expr A B Number (Bool × Number) v w (map-Expr X Y A B a b l)) xs
    ≡ exact_step (map-Expr A B Number (Bool × Number) v w (map-Expr X Y A B a b l)) ys
layer a b v w f g scope xs ys alike hx hy (Expr-F.Const n) h = refl
layer a b v w f g scope xs ys alike hx hy (Expr-F.Var slot) h = number_alike slot alike h
layer a b v w f g scope xs ys alike hx hy Expr-F.Result_ h = (alike.last h).1
layer a b v w f g scope xs ys alike hx hy (Expr-F.Neg e) h = ap (λ (z : ℤ). z *ℤ negsuc 0) (hx e h)
layer a b v w f g scope xs ys alike hx hy (Expr-F.Sum ps) h = sum_alike b w g xs ys hy ps (pos 0) h
layer a b v w f g scope xs ys alike hx hy (Expr-F.Product es) h = product_alike a v f xs ys hx es (pos 1) h

abbrev part_exact : Part → Bool × Number
part_exact = fold-Part Number (Bool × Number) exact_step exact_part

abbrev part_reads : Scope → Part → Bool
part_reads scope = fold-Part Bool Bool (reads_step scope) part_reads_step

abbrev Same : Scope → List ℤ → List ℤ → Expr → Type 0
Same scope xs ys e = reads scope e ≡ true → exact e xs ≡ exact e ys

part_alike : (scope : Scope) (xs ys : List ℤ) (p : Part) → Same scope xs ys p.e → part_reads scope p ≡ true → (part_exact p).1 xs ≡ (part_exact p).1 ys
part_alike scope xs ys p same h =
    let layered = fold_out-Part Number (Bool × Number) exact_step exact_part p in
    ap (λ (q : Bool × Number). q.1 xs) layered
    ∙ same (sym (fold_out-Part Bool Bool (reads_step scope) part_reads_step p) ∙ h)
    ∙ sym (ap (λ (q : Bool × Number). q.1 ys) layered)

pub expr_alike : (scope : Scope) (xs ys : List ℤ) → Alike scope xs ys → (e : Expr) → reads scope e ≡ true → exact e xs ≡ exact e ys
expr_alike scope xs ys alike = ind-Expr (Same scope xs ys) (λ p. Same scope xs ys p.e)
    (λ x y is h.
    let layered = fold-roll-Expr Number (Bool × Number) exact_step exact_part x in
    let one = subst (λ l. reads_step scope (map-Expr Expr Part Bool Bool (reads scope) (part_reads scope) l) ≡ true
    → exact_step (map-Expr Expr Part Number (Bool × Number) exact part_exact l) xs
    ≡ exact_step (map-Expr Expr Part Number (Bool × Number) exact part_exact l) ys) is
    (layer (λ e. e.0) (λ e. e.0) exact part_exact (reads scope) (part_reads scope) scope xs ys alike (λ e. e.1) (λ p. part_alike scope xs ys p.0 p.1) y) in
    ap (λ (v : Number). v xs) layered
    ∙ one (sym (fold-roll-Expr Bool Bool (reads_step scope) part_reads_step x) ∙ h)
    ∙ sym (ap (λ (v : Number). v ys) layered))
    (λ x y is. subst (λ l. Same scope xs ys l.e) is y.e.1)

pub cond_alike : (scope : Scope) (xs ys : List ℤ) → Alike scope xs ys → (c : Cond) → tests scope c ≡ true → exact_cond c xs ≡ exact_cond c ys
cond_alike scope xs ys alike cond.Yes h = refl
cond_alike scope xs ys alike cond.No h = refl
cond_alike scope xs ys alike (cond.Cmp op l r) h =
    let both = and_parts (reads scope l) (reads scope r) h in
    ap (λ (z : ℤ). compared op z (exact r xs)) (expr_alike scope xs ys alike l both.0)
    ∙ ap (λ (z : ℤ). compared op (exact l ys) z) (expr_alike scope xs ys alike r both.1)

pub exprs_alike : (scope : Scope) (xs ys : List ℤ) → Alike scope xs ys → (es : List Expr) → reads_all scope es ≡ true → exact_all es xs ≡ exact_all es ys
exprs_alike scope xs ys alike [] h = refl
exprs_alike scope xs ys alike (e ∷ es) h =
    let both = and_parts (reads scope e) (reads_all scope es) h in
    ap (λ (z : ℤ). z ∷ exact_all es xs) (expr_alike scope xs ys alike e both.0)
    ∙ ap (λ (zs : List ℤ). exact e ys ∷ zs) (exprs_alike scope xs ys alike es both.1)

-- a bank alone

bank_level : (f : Expr → Bool) (g : Part → Bool) (v : Expr → Number) (w : Part → Bool × Number) (scope : Scope) (xs ys : List ℤ) → Alike scope xs ys
    → (l : Expr-F Expr Part) → bank_step scope (map-Expr Expr Part Bool Bool f g l) ≡ true
    → exact_step (map-Expr Expr Part Number (Bool × Number) v w l) xs ≡ exact_step (map-Expr Expr Part Number (Bool × Number) v w l) ys
bank_level f g v w scope xs ys alike (Expr-F.Const n) h = refl
bank_level f g v w scope xs ys alike (Expr-F.Var slot) h = bank_alike slot alike h
bank_level f g v w scope xs ys alike Expr-F.Result_ h = absurd (let d : false ≡ true = h in cc)
bank_level f g v w scope xs ys alike (Expr-F.Neg e) h = absurd (let d : false ≡ true = h in cc)
bank_level f g v w scope xs ys alike (Expr-F.Sum ps) h = absurd (let d : false ≡ true = h in cc)
bank_level f g v w scope xs ys alike (Expr-F.Product es) h = absurd (let d : false ≡ true = h in cc)

bank_alone_alike : (scope : Scope) (xs ys : List ℤ) → Alike scope xs ys → (e : Expr) → is_bank_alone scope e ≡ true → exact e xs ≡ exact e ys
bank_alone_alike scope xs ys alike e h =
    let layered = fold_out-Expr Number (Bool × Number) exact_step exact_part e in
    ap (λ (v : Number). v xs) layered
    ∙ bank_level (is_bank_alone scope) (fold-Part Bool Bool (bank_step scope) part_reads_step) exact part_exact scope xs ys alike (out-Expr e)
    (sym (fold_out-Expr Bool Bool (bank_step scope) part_reads_step e) ∙ h)
    ∙ sym (ap (λ (v : Number). v ys) layered)

argument_alike : (scope : Scope) (xs ys : List ℤ) → Alike scope xs ys → (e : Expr) → inst_argument_fits scope e ≡ true → exact e xs ≡ exact e ys
argument_alike scope xs ys alike e h = elim (or_cases (reads scope e) (is_bank_alone scope e) h) [
  | inl r ↦ expr_alike scope xs ys alike e r
  | inr b ↦ bank_alone_alike scope xs ys alike e b
]

pub inst_alike : (scope : Scope) (xs ys : List ℤ) → Alike scope xs ys → (es : List Expr) → list_all (inst_argument_fits scope) es ≡ true → exact_all es xs ≡ exact_all es ys
inst_alike scope xs ys alike [] h = refl
inst_alike scope xs ys alike (e ∷ es) h =
    let both = and_parts (inst_argument_fits scope e) (list_all (inst_argument_fits scope) es) h in
    ap (λ (z : ℤ). z ∷ exact_all es xs) (argument_alike scope xs ys alike e both.0)
    ∙ ap (λ (zs : List ℤ). exact e ys ∷ zs) (inst_alike scope xs ys alike es both.1)
