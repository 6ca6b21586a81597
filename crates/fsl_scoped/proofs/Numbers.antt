-- An assertion sets nothing but its binders.
use Rattle.std.proofs.Common.{◌≡◌, ℕ, Bool, true, false, ◌&&◌, List, [], ◌∷◌, map, length, Option, Some, ℤ, slice_get, slice_set, if◌then◌else◌, ap, ◌∙◌, sym, subst, refl, length-set}
use Rattle.std.proofs.lemmas.Bool.{and_parts}
use Rattle.std.specs.Ordering.{int_eq}
use Rattle.fsl_core.specs.declared.assertion.Asrt.{Asrt}
use Rattle.fsl_core.specs.declared.assertion.Asrt.TheOpen.{Asrt-F}
use Rattle.fsl_core.specs.declared.assertion.Asrt.TheViews.{roll-Asrt}
use Rattle.fsl_core.specs.declared.assertion.Asrt.TheFolds.{ind-Asrt, map-Asrt, fold-roll-Asrt}
use Rattle.fsl_core.specs.declared.assertion.Pat.{Pat}
use Rattle.fsl_core.specs.declared.assertion.Pat.TheVariants as pat
use Rattle.fsl_core.specs.declared.expr.Expr.{Expr}
use Rattle.fsl_core.specs.declared.mode.Rung.{Rung}
use Rattle.fsl_core.specs.declared.mode.Rung.TheVariants as rung
use Rattle.fsl_core.specs.declared.scope.Scope.{Scope}
use Rattle.fsl_core.specs.Scopes.{is_free, sight_at, reads, tests, Scoped, all_fit, in_turn, pat_fits, bound, asrt_step, asrt_scoped}
use Rattle.fsl_meaning.specs.Heaps.{Heap, nothing, Truth, Claim, all_in}
use Rattle.fsl_asserted.specs.Exact.{exact, exact_all, exact_cond}
use Rattle.fsl_asserted.specs.Needs.{Need, need, Asks, only_if, positive, natural, matched, points_asked, bank_number, all_asked, asks_step, asks}
use Rattle.fsl_asserted.proofs.Asking.{some_is, value_asked, if_asked}
use Rattle.fsl_scoped.proofs.Lists.{get_other}
use Rattle.fsl_scoped.proofs.Binding.{Binds, asrt_binds}

-- as many numbers as before, and the same but for what was free
pub record Keeps (scope : Scope) (xs zs : List ℤ) : Type 0 where
  pub long : length zs ≡ length xs
  pub same : (slot : ℕ) → is_free (sight_at scope slot) ≡ false → slice_get zs slot ≡ slice_get xs slot

abbrev Sets : Asks → Scoped → Type 0
Sets q s = (scope : Scope) (rung : Rung) (xs : List ℤ) (n : Need) → s.fits scope ≡ true → q rung xs ≡ Some n → Keeps scope xs n.env

keeps_all : (scope : Scope) (xs zs : List ℤ) → xs ≡ zs → Keeps scope xs zs
keeps_all scope xs zs e = subst (λ (ys : List ℤ). Keeps scope xs ys) e (record { long = refl; same = λ slot shut. refl })

-- the numbers of a need that is known
needed : (scope : Scope) (xs : List ℤ) (n : Need) (heap : Heap) (claims : List Claim) → Some (need heap claims xs) ≡ Some n → Keeps scope xs n.env
needed scope xs n heap claims e = keeps_all scope xs n.env (ap (λ (z : Need). z.env) (some_is e))

tested : (scope : Scope) (xs : List ℤ) (n : Need) (b : Bool) (heap : Heap) (claims : List Claim) → only_if b (Some (need heap claims xs)) ≡ Some n → Keeps scope xs n.env
tested scope xs n b heap claims e = needed scope xs n heap claims (if_asked b (Some (need heap claims xs)) n e).1

matched_keeps : (p : Pat) (said : Option ℤ) (scope : Scope) (xs zs : List ℤ) → pat_fits scope p ≡ true → matched p said xs ≡ Some zs → Keeps scope xs zs
matched_keeps pat.Any said scope xs zs fit e = keeps_all scope xs zs (some_is e)
matched_keeps (pat.Bind slot) said scope xs zs fit e =
    let i = value_asked said (λ x. Some (slice_set xs slot x)) zs e in
    subst (λ (ys : List ℤ). Keeps scope xs ys) (some_is i.then_is) (record {
      long = length-set xs slot i.value;
      same = λ k shut. get_other xs slot k i.value (λ d. let c : is_free (sight_at scope k) ≡ true = ap (λ (j : ℕ). is_free (sight_at scope j)) d ∙ fit in let f : true ≡ false = sym c ∙ shut in cc);
    })
matched_keeps (pat.Is c) said scope xs zs fit e =
    let i = value_asked said (λ x. only_if (int_eq x (exact c xs)) (Some xs)) zs e in
    keeps_all scope xs zs (some_is (if_asked (int_eq i.value (exact c xs)) (Some xs) zs i.then_is).1)

points_keep : (t : Truth) (at share : Expr) (p : Pat)
    → Sets (points_asked t at share p) (record { fits = λ scope. reads scope at && (reads scope share && pat_fits scope p); behind = bound p })
points_keep t at share p scope r xs n fit e =
    let both = and_parts (reads scope at) (reads scope share && pat_fits scope p) fit in
    let rest = and_parts (reads scope share) (pat_fits scope p) both.1 in
    let i = value_asked (positive (exact share xs)) _ n e in
    let j = value_asked (matched p (t.value (exact at xs)) xs) _ n i.then_is in
    subst (λ (ys : List ℤ). Keeps scope xs ys) (ap (λ (z : Need). z.env) (some_is j.then_is)) (matched_keeps p (t.value (exact at xs)) scope xs j.value rest.1 j.is)

chosen_keeps : (b : Bool) (q o : Asks) (s u : Scoped) → Sets q s → Sets o u → (scope : Scope) (r : Rung) (xs : List ℤ) (n : Need)
    → s.fits scope ≡ true → u.fits scope ≡ true → (if b then q r xs else o r xs) ≡ Some n → Keeps scope xs n.env
chosen_keeps true q o s u h k scope r xs n f g e = h scope r xs n f e
chosen_keeps false q o s u h k scope r xs n f g e = k scope r xs n g e

all_keep : {X A : Type 0} (a : X → A) (q : A → Asks) (k : A → Scoped) → ((x : X) → Binds (k (a x))) → ((x : X) → Sets (q (a x)) (k (a x))) → (xs : List X)
    → Sets (all_asked (map q (map a xs))) (in_turn (map k (map a xs)))
all_keep a q k binds each [] scope r xs n fit e = needed scope xs n nothing [] e
all_keep a q k binds each (p ∷ ps) scope r xs n fit e =
    let next = (k (a p)).behind scope in
    let both = and_parts ((k (a p)).fits scope) (all_fit (map k (map a ps)) next) fit in
    let i = value_asked (q (a p) r xs) _ n e in
    let j = value_asked (all_asked (map q (map a ps)) r i.value.env) _ n i.then_is in
    let f = each p scope r xs i.value both.0 i.is in
    let g = all_keep a q k binds each ps next r i.value.env j.value both.1 j.is in
    let later = (binds p).later scope both.0 in
    subst (λ (ys : List ℤ). Keeps scope xs ys) (ap (λ (z : Need). z.env) (some_is j.then_is)) (record {
      long = g.long ∙ f.long;
      same = λ slot shut. g.same slot (ap is_free (later.kept slot shut) ∙ shut) ∙ f.same slot shut;
    })

layer : {X A : Type 0} (t : Truth) (a : X → A) (q : A → Asks) (k : A → Scoped) → ((x : X) → Binds (k (a x))) → ((x : X) → Sets (q (a x)) (k (a x))) → (l : Asrt-F X)
    → Sets (asks_step t (map-Asrt A Asks q (map-Asrt X A a l))) (asrt_step (map-Asrt A Scoped k (map-Asrt X A a l)))
layer t a q k binds each Asrt-F.Emp = λ scope r xs n fit e. needed scope xs n nothing [] e
layer t a q k binds each (Asrt-F.Fact c) = λ scope r xs n fit e. tested scope xs n (exact_cond c xs) nothing [] e
layer t a q k binds each (Asrt-F.Points at share p) = points_keep t at share p
layer t a q k binds each (Asrt-F.Init at) = λ scope r xs n fit e. needed scope xs n nothing _ e
layer t a q k binds each (Asrt-F.Rel at inst) = λ scope r xs n fit e. needed scope xs n nothing _ e
layer t a q k binds each (Asrt-F.Acq at inst part out) = λ scope r xs n fit e. tested scope xs n (all_in (t.out (exact at xs) part) (exact_all out xs)) _ _ e
layer t a q k binds each (Asrt-F.RmwAcq at inst) = λ scope r xs n fit e. needed scope xs n nothing _ e
layer t a q k binds each (Asrt-F.Tok bank c) = λ scope r xs n fit e. needed scope xs n _ [] (value_asked (natural (exact c xs)) _ n e).then_is
layer t a q k binds each (Asrt-F.Auth bank c) = λ scope r xs n fit e. tested scope xs n (int_eq (t.bank (bank_number bank xs)) (exact c xs)) _ [] e
layer t a q k binds each (Asrt-F.Choice c x y) = λ scope r xs n fit e.
    let both = and_parts (tests scope c) ((k (a x)).fits scope && (k (a y)).fits scope) fit in
    let parts = and_parts ((k (a x)).fits scope) ((k (a y)).fits scope) both.1 in
    chosen_keeps (exact_cond c xs) (q (a x)) (q (a y)) (k (a x)) (k (a y)) (each x) (each y) scope r xs n parts.0 parts.1 e
layer t a q k binds each (Asrt-F.Up x) = λ scope r xs n fit e. each x scope rung.Up xs n fit e
layer t a q k binds each (Asrt-F.Down x) = λ scope r xs n fit e. each x scope rung.Down xs n fit e
layer t a q k binds each (Asrt-F.Both ps) = all_keep a q k binds each ps

pub asrt_keeps : (t : Truth) (a : Asrt) → Sets (asks t a) (asrt_scoped a)
asrt_keeps t = ind-Asrt (λ a. Sets (asks t a) (asrt_scoped a))
    (λ x y is.
    let l = subst (λ z. Sets (asks_step t (map-Asrt Asrt Asks (asks t) z)) (asrt_step (map-Asrt Asrt Scoped asrt_scoped z))) is
    (layer t (λ e. e.0) (asks t) asrt_scoped (λ e. asrt_binds e.0) (λ e. e.1) y) in
    subst (λ (z : Asks). Sets z (asrt_scoped (roll-Asrt x))) (sym (fold-roll-Asrt Asks (asks_step t) x))
    (subst (λ (z : Scoped). Sets (asks_step t (map-Asrt Asrt Asks (asks t) x)) z) (sym (fold-roll-Asrt Scoped asrt_step x)) l))
