-- What doesn't speak of the result stands outside of `ensures` too.
use Rattle.std.proofs.Common.{◌≡◌, inl, inr, ℕ, Bool, true, false, ◌&&◌, ◌||◌, List, [], ◌∷◌, map, slice_set, get_or, ap, ◌∙◌, sym, subst, refl}
use Rattle.std.proofs.lemmas.Bool.{and_parts, and_from, or_parts, or_cases, or_left, or_right}
use Rattle.std.specs.List.{list_all, list_any}
use Rattle.fsl_core.specs.declared.assertion.Asrt.{Asrt}
use Rattle.fsl_core.specs.declared.assertion.Asrt.TheOpen.{Asrt-F}
use Rattle.fsl_core.specs.declared.assertion.Asrt.TheViews.{roll-Asrt}
use Rattle.fsl_core.specs.declared.assertion.Asrt.TheFolds.{ind-Asrt, map-Asrt, fold-roll-Asrt}
use Rattle.fsl_core.specs.declared.assertion.Inst.{Inst}
use Rattle.fsl_core.specs.declared.assertion.Pat.{Pat}
use Rattle.fsl_core.specs.declared.assertion.Pat.TheVariants as pat
use Rattle.fsl_core.specs.declared.expr.Cond.{Cond}
use Rattle.fsl_core.specs.declared.expr.Cond.TheVariants as cond
use Rattle.fsl_core.specs.declared.expr.Expr.{Expr}
use Rattle.fsl_core.specs.declared.expr.Expr.TheOpen.{Expr-F}
use Rattle.fsl_core.specs.declared.expr.Expr.TheViews.{out-Expr}
use Rattle.fsl_core.specs.declared.expr.Expr.TheFolds.{ind-Expr, map-Expr, fold-Part, fold-roll-Expr, fold_out-Expr, fold_out-Part}
use Rattle.fsl_core.specs.declared.expr.Part.{Part}
use Rattle.fsl_core.specs.declared.scope.Scope.{Scope}
use Rattle.fsl_core.specs.declared.scope.Sight.{Sight}
use Rattle.fsl_core.specs.declared.scope.Sight.TheVariants as sight
use Rattle.fsl_core.specs.Scopes.{is_number, is_bank, is_free, sight_at, reads, reads_step, part_reads_step, reads_all, tests, bank_step, is_bank_alone, inst_argument_fits, inst_reads, Scoped, all_fit, behind_all, pat_fits, bound, asrt_scoped}
use Rattle.fsl_core.specs.Scopes as scopes
use Rattle.fsl_core.specs.logic.Assertions.{Assertion, inst_says, asrt_of}
use Rattle.fsl_core.specs.logic.Assertions as logic
use Rattle.fsl_core.specs.logic.Deciding.{cond_of, cond_says}
use Rattle.fsl_core.specs.logic.Producing.{pat_of, pat_says, inst_of}
use Rattle.fsl_core.specs.logic.Terms.{Expression, expr_step, part_step, expr_of}

-- the same is seen
abbrev pub SameSights : Scope → Scope → Type 0
SameSights a b = a.sights ≡ b.sights

sight_same : (a b : Scope) (f : Sight → Bool) (slot : ℕ) → SameSights a b → f (sight_at a slot) ≡ true → f (sight_at b slot) ≡ true
sight_same a b f slot e h = subst (λ (xs : List Sight). f (get_or xs slot sight.Kept) ≡ true) e h

-- ---- expressions

sum_quiet : {Y B : Type 0} (b : Y → B) (v : B → Bool × Expression) (f g : B → Bool) → ((y : Y) → f (b y) ≡ true → (v (b y)).1.says ≡ false → g (b y) ≡ true)
    → (ps : List Y) → list_all (λ part. part) (map f (map b ps)) ≡ true → list_any (λ p. p.1.says) (map v (map b ps)) ≡ false → list_all (λ part. part) (map g (map b ps)) ≡ true
sum_quiet b v f g each [] h quiet = refl
sum_quiet b v f g each (p ∷ ps) h quiet =
    let both = and_parts (f (b p)) (list_all (λ part. part) (map f (map b ps))) h in
    let none = or_parts (v (b p)).1.says (list_any (λ q. q.1.says) (map v (map b ps))) quiet in
    and_from (g (b p)) (list_all (λ part. part) (map g (map b ps))) (each p both.0 none.0) (sum_quiet b v f g each ps both.1 none.1)

product_quiet : {X A : Type 0} (a : X → A) (v : A → Expression) (f g : A → Bool) → ((x : X) → f (a x) ≡ true → (v (a x)).says ≡ false → g (a x) ≡ true)
    → (es : List X) → list_all (λ factor. factor) (map f (map a es)) ≡ true → list_any (λ e. e.says) (map v (map a es)) ≡ false → list_all (λ factor. factor) (map g (map a es)) ≡ true
product_quiet a v f g each [] h quiet = refl
product_quiet a v f g each (e ∷ es) h quiet =
    let both = and_parts (f (a e)) (list_all (λ factor. factor) (map f (map a es))) h in
    let none = or_parts (v (a e)).says (list_any (λ x. x.says) (map v (map a es))) quiet in
    and_from (g (a e)) (list_all (λ factor. factor) (map g (map a es))) (each e both.0 none.0) (product_quiet a v f g each es both.1 none.1)

layer : {X Y A B : Type 0} (a : X → A) (b : Y → B) (v : A → Expression) (w : B → Bool × Expression) (f f2 : A → Bool) (g g2 : B → Bool) (from to : Scope) → SameSights from to
    → ((x : X) → f (a x) ≡ true → (v (a x)).says ≡ false → f2 (a x) ≡ true) → ((y : Y) → g (b y) ≡ true → (w (b y)).1.says ≡ false → g2 (b y) ≡ true)
    → (l : Expr-F X Y) → reads_step from (map-Expr A B Bool Bool f g (map-Expr X Y A B a b l)) ≡ true
    → (expr_step (map-Expr A B Expression (Bool × Expression) v w (map-Expr X Y A B a b l))).says ≡ false
    → reads_step to (map-Expr A B Bool Bool f2 g2 (map-Expr X Y A B a b l)) ≡ true
layer a b v w f f2 g g2 from to same hx hy (Expr-F.Const n) h quiet = refl
layer a b v w f f2 g g2 from to same hx hy (Expr-F.Var slot) h quiet = sight_same from to is_number slot same h
layer a b v w f f2 g g2 from to same hx hy Expr-F.Result_ h quiet = absurd (let d : true ≡ false = quiet in cc)
layer a b v w f f2 g g2 from to same hx hy (Expr-F.Neg e) h quiet = hx e h quiet
layer a b v w f f2 g g2 from to same hx hy (Expr-F.Sum ps) h quiet = sum_quiet b w g g2 hy ps h quiet
layer a b v w f f2 g g2 from to same hx hy (Expr-F.Product es) h quiet = product_quiet a v f f2 hx es h quiet

abbrev part_reads : Scope → Part → Bool
part_reads scope = fold-Part Bool Bool (reads_step scope) part_reads_step

abbrev part_expr : Part → Bool × Expression
part_expr = fold-Part Expression (Bool × Expression) expr_step part_step

abbrev Quiet : Scope → Scope → Expr → Type 0
Quiet from to e = reads from e ≡ true → (expr_of e).says ≡ false → reads to e ≡ true

part_quiet : (from to : Scope) (p : Part) → Quiet from to p.e → part_reads from p ≡ true → (part_expr p).1.says ≡ false → part_reads to p ≡ true
part_quiet from to p each h quiet =
    let d = fold_out-Part Expression (Bool × Expression) expr_step part_step p in
    fold_out-Part Bool Bool (reads_step to) part_reads_step p
    ∙ each (sym (fold_out-Part Bool Bool (reads_step from) part_reads_step p) ∙ h) (sym (ap (λ (q : Bool × Expression). q.1.says) d) ∙ quiet)

expr_quiet : (from to : Scope) → SameSights from to → (e : Expr) → Quiet from to e
expr_quiet from to same = ind-Expr (Quiet from to) (λ p. Quiet from to p.e)
    (λ x y is h quiet.
    let layered = fold-roll-Expr Expression (Bool × Expression) expr_step part_step x in
    let one = subst (λ l. reads_step from (map-Expr Expr Part Bool Bool (reads from) (part_reads from) l) ≡ true
    → (expr_step (map-Expr Expr Part Expression (Bool × Expression) expr_of part_expr l)).says ≡ false
    → reads_step to (map-Expr Expr Part Bool Bool (reads to) (part_reads to) l) ≡ true) is
    (layer (λ e. e.0) (λ e. e.0) expr_of part_expr (reads from) (reads to) (part_reads from) (part_reads to) from to same (λ e. e.1) (λ p. part_quiet from to p.0 p.1) y) in
    fold-roll-Expr Bool Bool (reads_step to) part_reads_step x
    ∙ one (sym (fold-roll-Expr Bool Bool (reads_step from) part_reads_step x) ∙ h) (sym (ap (λ (e : Expression). e.says) layered) ∙ quiet))
    (λ x y is. subst (λ l. Quiet from to l.e) is y.e.1)

cond_quiet : (from to : Scope) → SameSights from to → (c : Cond) → tests from c ≡ true → cond_says (cond_of expr_of c) ≡ false → tests to c ≡ true
cond_quiet from to same cond.Yes h quiet = refl
cond_quiet from to same cond.No h quiet = refl
cond_quiet from to same (cond.Cmp op l r) h quiet =
    let both = and_parts (reads from l) (reads from r) h in
    let none = or_parts (expr_of l).says (expr_of r).says quiet in
    and_from (reads to l) (reads to r) (expr_quiet from to same l both.0 none.0) (expr_quiet from to same r both.1 none.1)

exprs_quiet : (from to : Scope) → SameSights from to → (es : List Expr) → reads_all from es ≡ true → list_any (λ e. e.says) (map expr_of es) ≡ false → reads_all to es ≡ true
exprs_quiet from to same [] h quiet = refl
exprs_quiet from to same (e ∷ es) h quiet =
    let both = and_parts (reads from e) (reads_all from es) h in
    let none = or_parts (expr_of e).says (list_any (λ x. x.says) (map expr_of es)) quiet in
    and_from (reads to e) (reads_all to es) (expr_quiet from to same e both.0 none.0) (exprs_quiet from to same es both.1 none.1)

bank_level : (f f2 : Expr → Bool) (g g2 : Part → Bool) (from to : Scope) → SameSights from to → (l : Expr-F Expr Part)
    → bank_step from (map-Expr Expr Part Bool Bool f g l) ≡ true → bank_step to (map-Expr Expr Part Bool Bool f2 g2 l) ≡ true
bank_level f f2 g g2 from to same (Expr-F.Const n) h = absurd (let d : false ≡ true = h in cc)
bank_level f f2 g g2 from to same (Expr-F.Var slot) h = sight_same from to is_bank slot same h
bank_level f f2 g g2 from to same Expr-F.Result_ h = absurd (let d : false ≡ true = h in cc)
bank_level f f2 g g2 from to same (Expr-F.Neg e) h = absurd (let d : false ≡ true = h in cc)
bank_level f f2 g g2 from to same (Expr-F.Sum ps) h = absurd (let d : false ≡ true = h in cc)
bank_level f f2 g g2 from to same (Expr-F.Product es) h = absurd (let d : false ≡ true = h in cc)

abbrev part_bank : Scope → Part → Bool
part_bank scope = fold-Part Bool Bool (bank_step scope) part_reads_step

bank_quiet : (from to : Scope) → SameSights from to → (e : Expr) → is_bank_alone from e ≡ true → is_bank_alone to e ≡ true
bank_quiet from to same e h =
    fold_out-Expr Bool Bool (bank_step to) part_reads_step e
    ∙ bank_level (is_bank_alone from) (is_bank_alone to) (part_bank from) (part_bank to) from to same (out-Expr e)
    (sym (fold_out-Expr Bool Bool (bank_step from) part_reads_step e) ∙ h)

argument_quiet : (from to : Scope) → SameSights from to → (e : Expr) → inst_argument_fits from e ≡ true → (expr_of e).says ≡ false → inst_argument_fits to e ≡ true
argument_quiet from to same e h quiet = elim (or_cases (reads from e) (is_bank_alone from e) h) [
  | inl r ↦ or_left (reads to e) (is_bank_alone to e) (expr_quiet from to same e r quiet)
  | inr b ↦ or_right (reads to e) (is_bank_alone to e) (bank_quiet from to same e b)
]

inst_quiet : (from to : Scope) → SameSights from to → (es : List Expr) → list_all (inst_argument_fits from) es ≡ true → list_any (λ e. e.says) (map expr_of es) ≡ false
    → list_all (inst_argument_fits to) es ≡ true
inst_quiet from to same [] h quiet = refl
inst_quiet from to same (e ∷ es) h quiet =
    let both = and_parts (inst_argument_fits from e) (list_all (inst_argument_fits from) es) h in
    let none = or_parts (expr_of e).says (list_any (λ x. x.says) (map expr_of es)) quiet in
    and_from (inst_argument_fits to e) (list_all (inst_argument_fits to) es) (argument_quiet from to same e both.0 none.0) (inst_quiet from to same es both.1 none.1)

-- a location with its invariant and arguments
place_quiet : (from to : Scope) → SameSights from to → (at : Expr) (inst : Inst) → (reads from at && inst_reads from inst) ≡ true → inst_says (expr_of at) (inst_of expr_of inst) ≡ false
    → (reads to at && inst_reads to inst) ≡ true
place_quiet from to same at inst h quiet =
    let both = and_parts (reads from at) (inst_reads from inst) h in
    let none = or_parts (expr_of at).says (list_any (λ e. e.says) (map expr_of inst.args)) quiet in
    and_from (reads to at) (inst_reads to inst) (expr_quiet from to same at both.0 none.0) (inst_quiet from to same inst.args both.1 none.1)

-- ---- assertions

pub record Unsaid (s : Scoped) (a : Assertion) : Type 0 where
  pub fits : (from to : Scope) → SameSights from to → s.fits from ≡ true → a.says ≡ false → s.fits to ≡ true
  pub behind : (from to : Scope) → SameSights from to → SameSights (s.behind from) (s.behind to)

bank_count : (from to : Scope) → SameSights from to → (bank : ℕ) (n : Expr) → (is_bank (sight_at from bank) && reads from n) ≡ true → (expr_of n).says ≡ false
    → (is_bank (sight_at to bank) && reads to n) ≡ true
bank_count from to same bank n h quiet =
    let both = and_parts (is_bank (sight_at from bank)) (reads from n) h in
    and_from (is_bank (sight_at to bank)) (reads to n) (sight_same from to is_bank bank same both.0) (expr_quiet from to same n both.1 quiet)

pat_quiet : (from to : Scope) → SameSights from to → (p : Pat) → pat_fits from p ≡ true → pat_says (pat_of expr_of p) ≡ false → pat_fits to p ≡ true
pat_quiet from to same pat.Any h quiet = refl
pat_quiet from to same (pat.Bind slot) h quiet = sight_same from to is_free slot same h
pat_quiet from to same (pat.Is e) h quiet = expr_quiet from to same e h quiet

pat_behind : (from to : Scope) → SameSights from to → (p : Pat) → SameSights (bound p from) (bound p to)
pat_behind from to same pat.Any = same
pat_behind from to same (pat.Bind slot) = ap (λ (xs : List Sight). slice_set xs slot sight.Bound) same
pat_behind from to same (pat.Is e) = same

turn_fits : {X A : Type 0} (b : X → A) (k : A → Scoped) (f : A → Assertion) → ((x : X) → Unsaid (k (b x)) (f (b x))) → (xs : List X) (from to : Scope) → SameSights from to
    → all_fit (map k (map b xs)) from ≡ true → list_any (λ a. a.says) (map f (map b xs)) ≡ false → all_fit (map k (map b xs)) to ≡ true
turn_fits b k f each [] from to same h quiet = refl
turn_fits b k f each (x ∷ xs) from to same h quiet =
    let s = k (b x) in
    let both = and_parts (s.fits from) (all_fit (map k (map b xs)) (s.behind from)) h in
    let none = or_parts (f (b x)).says (list_any (λ a. a.says) (map f (map b xs))) quiet in
    and_from (s.fits to) (all_fit (map k (map b xs)) (s.behind to)) ((each x).fits from to same both.0 none.0)
    (turn_fits b k f each xs (s.behind from) (s.behind to) ((each x).behind from to same) both.1 none.1)

turn_behind : {X A : Type 0} (b : X → A) (k : A → Scoped) (f : A → Assertion) → ((x : X) → Unsaid (k (b x)) (f (b x))) → (xs : List X) (from to : Scope) → SameSights from to
    → SameSights (behind_all (map k (map b xs)) from) (behind_all (map k (map b xs)) to)
turn_behind b k f each [] from to same = same
turn_behind b k f each (x ∷ xs) from to same =
    turn_behind b k f each xs ((k (b x)).behind from) ((k (b x)).behind to) ((each x).behind from to same)

asrt_layer : {X A : Type 0} (b : X → A) (k : A → Scoped) (f : A → Assertion) → ((x : X) → Unsaid (k (b x)) (f (b x))) → (l : Asrt-F X)
    → Unsaid (scopes.asrt_step (map-Asrt A Scoped k (map-Asrt X A b l))) (logic.asrt_step expr_of (map-Asrt A Assertion f (map-Asrt X A b l)))
asrt_layer b k f each Asrt-F.Emp = record { fits = λ from to same h quiet. refl; behind = λ from to same. same }
asrt_layer b k f each (Asrt-F.Fact c) = record { fits = λ from to same h quiet. cond_quiet from to same c h quiet; behind = λ from to same. same }
asrt_layer b k f each (Asrt-F.Points at share p) = record {
  fits = λ from to same h quiet.
      let both = and_parts (reads from at) (reads from share && pat_fits from p) h in
      let rest = and_parts (reads from share) (pat_fits from p) both.1 in
      let none = or_parts (expr_of at).says ((expr_of share).says || pat_says (pat_of expr_of p)) quiet in
      let more = or_parts (expr_of share).says (pat_says (pat_of expr_of p)) none.1 in
      and_from (reads to at) (reads to share && pat_fits to p) (expr_quiet from to same at both.0 none.0)
      (and_from (reads to share) (pat_fits to p) (expr_quiet from to same share rest.0 more.0) (pat_quiet from to same p rest.1 more.1));
  behind = λ from to same. pat_behind from to same p;
}
asrt_layer b k f each (Asrt-F.Init at) = record { fits = λ from to same h quiet. expr_quiet from to same at h quiet; behind = λ from to same. same }
asrt_layer b k f each (Asrt-F.Rel at inst) = record { fits = λ from to same h quiet. place_quiet from to same at inst h quiet; behind = λ from to same. same }
asrt_layer b k f each (Asrt-F.Acq at inst part out) = record {
  fits = λ from to same h quiet.
      let both = and_parts (reads from at) (inst_reads from inst && reads_all from out) h in
      let rest = and_parts (inst_reads from inst) (reads_all from out) both.1 in
      let none = or_parts (inst_says (expr_of at) (inst_of expr_of inst)) (list_any (λ e. e.says) (map expr_of out)) quiet in
      let more = or_parts (expr_of at).says (list_any (λ e. e.says) (map expr_of inst.args)) none.0 in
      and_from (reads to at) (inst_reads to inst && reads_all to out) (expr_quiet from to same at both.0 more.0)
      (and_from (inst_reads to inst) (reads_all to out) (inst_quiet from to same inst.args rest.0 more.1) (exprs_quiet from to same out rest.1 none.1));
  behind = λ from to same. same;
}
asrt_layer b k f each (Asrt-F.RmwAcq at inst) = record { fits = λ from to same h quiet. place_quiet from to same at inst h quiet; behind = λ from to same. same }
asrt_layer b k f each (Asrt-F.Tok bank n) = record { fits = λ from to same h quiet. bank_count from to same bank n h quiet; behind = λ from to same. same }
asrt_layer b k f each (Asrt-F.Auth bank n) = record { fits = λ from to same h quiet. bank_count from to same bank n h quiet; behind = λ from to same. same }
asrt_layer b k f each (Asrt-F.Choice c x y) = record {
  fits = λ from to same h quiet.
      let s = k (b x) in
      let u = k (b y) in
      let both = and_parts (tests from c) (s.fits from && u.fits from) h in
      let rest = and_parts (s.fits from) (u.fits from) both.1 in
      let none = or_parts (cond_says (cond_of expr_of c)) ((f (b x)).says || (f (b y)).says) quiet in
      let more = or_parts (f (b x)).says (f (b y)).says none.1 in
      and_from (tests to c) (s.fits to && u.fits to) (cond_quiet from to same c both.0 none.0)
      (and_from (s.fits to) (u.fits to) ((each x).fits from to same rest.0 more.0) ((each y).fits from to same rest.1 more.1));
  behind = λ from to same. same;
}
asrt_layer b k f each (Asrt-F.Up x) = record { fits = λ from to same h quiet. (each x).fits from to same h quiet; behind = λ from to same. same }
asrt_layer b k f each (Asrt-F.Down x) = record { fits = λ from to same h quiet. (each x).fits from to same h quiet; behind = λ from to same. same }
asrt_layer b k f each (Asrt-F.Both xs) = record {
  fits = λ from to same h quiet. turn_fits b k f each xs from to same h quiet;
  behind = λ from to same. turn_behind b k f each xs from to same;
}

pub asrt_unsaid : (a : Asrt) → Unsaid (asrt_scoped a) (asrt_of a)
asrt_unsaid = ind-Asrt (λ a. Unsaid (asrt_scoped a) (asrt_of a))
    (λ x y is.
    let l = subst (λ z. Unsaid (scopes.asrt_step (map-Asrt Asrt Scoped asrt_scoped z)) (logic.asrt_step expr_of (map-Asrt Asrt Assertion asrt_of z))) is
    (asrt_layer (λ e. e.0) asrt_scoped asrt_of (λ e. e.1) y) in
    subst (λ (z : Scoped). Unsaid z (asrt_of (roll-Asrt x))) (sym (fold-roll-Asrt Scoped scopes.asrt_step x))
    (subst (λ (z : Assertion). Unsaid (scopes.asrt_step (map-Asrt Asrt Scoped asrt_scoped x)) z) (sym (fold-roll-Asrt Assertion (logic.asrt_step expr_of) x)) l))
