-- Assertions ask for the same under two lists of numbers that agree on what they see.
use Rattle.std.proofs.Common.{◌≡◌, ℕ, ◌+◌, Bool, true, false, ◌&&◌, List, [], ◌∷◌, ◌++◌, map, Option, Some, ℤ, slice_set, if◌then◌else◌, ap, ◌∙◌, sym, subst, refl}
use Rattle.std.proofs.lemmas.Bool.{and_parts}
use Rattle.std.specs.Ordering.{int_eq}
use Rattle.fsl_core.specs.declared.assertion.Asrt.{Asrt}
use Rattle.fsl_core.specs.declared.assertion.Asrt.TheOpen.{Asrt-F}
use Rattle.fsl_core.specs.declared.assertion.Asrt.TheViews.{roll-Asrt}
use Rattle.fsl_core.specs.declared.assertion.Asrt.TheFolds.{ind-Asrt, map-Asrt, fold-roll-Asrt}
use Rattle.fsl_core.specs.declared.assertion.Inst.{Inst}
use Rattle.fsl_core.specs.declared.assertion.Pat.{Pat}
use Rattle.fsl_core.specs.declared.assertion.Pat.TheVariants as pat
use Rattle.fsl_core.specs.declared.expr.Expr.{Expr}
use Rattle.fsl_core.specs.declared.mode.Rung.{Rung}
use Rattle.fsl_core.specs.declared.mode.Rung.TheVariants as rung
use Rattle.fsl_core.specs.declared.scope.Scope.{Scope}
use Rattle.fsl_core.specs.Scopes.{is_bank, sight_at, reads, reads_all, tests, inst_reads, Scoped, still, all_fit, behind_all, in_turn, pat_fits, bound, asrt_step, asrt_scoped}
use Rattle.fsl_core.specs.Values.{with_value}
use Rattle.fsl_meaning.specs.Heaps.{Key as key, Heap, nothing, some_of, Truth, Claim, all_in}
use Rattle.fsl_meaning.specs.Heaps.{Claim as claim}
use Rattle.fsl_asserted.specs.Exact.{exact, exact_all, exact_cond}
use Rattle.fsl_asserted.specs.Needs.{Need, need, Asks, only_if, positive, natural, matched, points_asked, acq_asked, bank_number, tok_asked, auth_asked, both_asked, all_asked, asks_step, asks}
use Rattle.fsl_asserted.proofs.Asking.{some_is, value_asked, value_is, if_asked}
use Rattle.fsl_scoped.specs.Assertions.{SameNeed}
use Rattle.fsl_scoped.proofs.Binding.{Binds, asrt_binds}
use Rattle.fsl_scoped.proofs.Alike.{Alike, alike_before, alike_set, bank_alike, expr_alike, cond_alike, exprs_alike, inst_alike}

-- the same need, and numbers that agree behind it
pub record Answer (o : Option Need) (scope : Scope) (n : Need) : Type 0 where
  pub need : Need
  pub is : o ≡ Some need
  pub same : SameNeed n need
  pub alike : Alike scope n.env need.env

abbrev pub Seen : Asks → Scoped → Type 0
Seen q s = (scope : Scope) (rung : Rung) (xs ys : List ℤ) (n : Need) → s.fits scope ≡ true → Alike scope xs ys → q rung xs ≡ Some n → Answer (q rung ys) (s.behind scope) n

answer_as : (o p : Option Need) (scope : Scope) (n : Need) → o ≡ p → Answer o scope n → Answer p scope n
answer_as o p scope n e h = subst (λ (z : Option Need). Answer z scope n) e h

-- the same is asked for, with these numbers
answered : (scope : Scope) (xs ys : List ℤ) (n : Need) (heap : Heap) (claims : List Claim) → Alike scope xs ys
    → Some (need heap claims xs) ≡ Some n → Answer (Some (need heap claims ys)) scope n
answered scope xs ys n heap claims alike e =
    let d : need heap claims xs ≡ n = some_is e in
    record {
      need = need heap claims ys;
      is = refl;
      same = record { heap = ap (λ (z : Need). z.heap) d; claims = ap (λ (z : Need). z.claims) d };
      alike = subst (λ (z : List ℤ). Alike scope z ys) (ap (λ (z : Need). z.env) d) alike;
    }

-- ---- what binds nothing

-- a need under a test
tested : (scope : Scope) (xs ys : List ℤ) (n : Need) (b c : Bool) (heap other : Heap) (claims ones : List Claim) → b ≡ c → heap ≡ other → claims ≡ ones
    → Alike scope xs ys → only_if b (Some (need heap claims xs)) ≡ Some n → Answer (only_if c (Some (need other ones ys))) scope n
tested scope xs ys n b c heap other claims ones test heaps all alike e =
    let p = if_asked b (Some (need heap claims xs)) n e in
    answer_as (Some (need heap claims ys)) (only_if c (Some (need other ones ys))) scope n
    ((λ i. Some (need (heaps i) (all i) ys)) ∙ ap (λ (t : Bool). only_if t (Some (need other ones ys))) (sym p.0 ∙ test))
    (answered scope xs ys n heap claims alike p.1)

claim_seen : (f : Rung → List ℤ → Claim) (fits : Scope → Bool)
    → ((scope : Scope) (r : Rung) (xs ys : List ℤ) → fits scope ≡ true → Alike scope xs ys → f r xs ≡ f r ys)
    → Seen (λ r xs. Some (need nothing (f r xs ∷ []) xs)) (still fits)
claim_seen f fits same scope r xs ys n fit alike e =
    answer_as (Some (need nothing (f r xs ∷ []) ys)) (Some (need nothing (f r ys ∷ []) ys)) scope n
    (ap (λ (c : Claim). Some (need nothing (c ∷ []) ys)) (same scope r xs ys fit alike))
    (answered scope xs ys n nothing (f r xs ∷ []) alike e)

-- a location with its invariant and arguments
place_alike : (f : ℤ → List ℤ → Claim) (at : Expr) (inst : Inst) (scope : Scope) (xs ys : List ℤ) → (reads scope at && inst_reads scope inst) ≡ true → Alike scope xs ys
    → f (exact at xs) (exact_all inst.args xs) ≡ f (exact at ys) (exact_all inst.args ys)
place_alike f at inst scope xs ys fit alike =
    let both = and_parts (reads scope at) (inst_reads scope inst) fit in
    ap (λ (z : ℤ). f z (exact_all inst.args xs)) (expr_alike scope xs ys alike at both.0)
    ∙ ap (λ (zs : List ℤ). f (exact at ys) zs) (inst_alike scope xs ys alike inst.args both.1)

acq_seen : (t : Truth) (at : Expr) (inst : Inst) (part : ℕ) (out : List Expr)
    → Seen (acq_asked t at inst.inv inst.args part out) (still (λ scope. reads scope at && (inst_reads scope inst && reads_all scope out)))
acq_seen t at inst part out scope r xs ys n fit alike e =
    let both = and_parts (reads scope at) (inst_reads scope inst && reads_all scope out) fit in
    let rest = and_parts (inst_reads scope inst) (reads_all scope out) both.1 in
    let place = expr_alike scope xs ys alike at both.0 in
    let args = inst_alike scope xs ys alike inst.args rest.0 in
    let outs = exprs_alike scope xs ys alike out rest.1 in
    tested scope xs ys n (all_in (t.out (exact at xs) part) (exact_all out xs)) (all_in (t.out (exact at ys) part) (exact_all out ys))
    (some_of (key.Permission (exact at xs) part) 1) (some_of (key.Permission (exact at ys) part) 1)
    (claim.MayRead (exact at xs) inst.inv (exact_all inst.args xs) ∷ []) (claim.MayRead (exact at ys) inst.inv (exact_all inst.args ys) ∷ [])
    (λ i. all_in (t.out (place i) part) (outs i)) (λ i. some_of (key.Permission (place i) part) 1) (λ i. claim.MayRead (place i) inst.inv (args i) ∷ []) alike e

auth_seen : (t : Truth) (bank : ℕ) (c : Expr) → Seen (auth_asked t bank c) (still (λ scope. is_bank (sight_at scope bank) && reads scope c))
auth_seen t bank c scope r xs ys n fit alike e =
    let both = and_parts (is_bank (sight_at scope bank)) (reads scope c) fit in
    let number = bank_alike bank alike both.0 in
    let count = expr_alike scope xs ys alike c both.1 in
    tested scope xs ys n (int_eq (t.bank (bank_number bank xs)) (exact c xs)) (int_eq (t.bank (bank_number bank ys)) (exact c ys))
    (some_of (key.Bank (bank_number bank xs)) 1) (some_of (key.Bank (bank_number bank ys)) 1) [] []
    (λ i. int_eq (t.bank (number i)) (count i)) (λ i. some_of (key.Bank (number i)) 1) refl alike e

tok_seen : (bank : ℕ) (c : Expr) → Seen (tok_asked bank c) (still (λ scope. is_bank (sight_at scope bank) && reads scope c))
tok_seen bank c scope r xs ys n fit alike e =
    let both = and_parts (is_bank (sight_at scope bank)) (reads scope c) fit in
    let number = bank_alike bank alike both.0 in
    let count = expr_alike scope xs ys alike c both.1 in
    let i = value_asked (natural (exact c xs)) _ n e in
    answer_as (Some (need (some_of (key.Tokens (bank_number bank xs)) i.value) [] ys)) (tok_asked bank c r ys) scope n
    (ap (λ (z : ℤ). Some (need (some_of (key.Tokens z) i.value) [] ys)) number
    ∙ sym (value_is (natural (exact c ys)) i.value (λ k. Some (need (some_of (key.Tokens (bank_number bank ys)) k) [] ys)) (ap natural (sym count) ∙ i.is)))
    (answered scope xs ys n (some_of (key.Tokens (bank_number bank xs)) i.value) [] alike i.then_is)

-- ---- binders

record Matches (p : Pat) (said : Option ℤ) (scope : Scope) (zs ys : List ℤ) : Type 0 where
  env : List ℤ
  is : matched p said ys ≡ Some env
  alike : Alike (bound p scope) zs env

matched_seen : (p : Pat) (said : Option ℤ) (scope : Scope) (xs ys zs : List ℤ) → pat_fits scope p ≡ true → Alike scope xs ys → matched p said xs ≡ Some zs → Matches p said scope zs ys
matched_seen pat.Any said scope xs ys zs fit alike e = record { env = ys; is = refl; alike = subst (λ (z : List ℤ). Alike scope z ys) (some_is e) alike }
matched_seen (pat.Bind slot) said scope xs ys zs fit alike e =
    let i = value_asked said (λ x. Some (slice_set xs slot x)) zs e in
    record {
      env = slice_set ys slot i.value;
      is = value_is said i.value (λ x. Some (slice_set ys slot x)) i.is;
      alike = subst (λ (z : List ℤ). Alike (bound (pat.Bind slot) scope) z (slice_set ys slot i.value)) (some_is i.then_is) (alike_set scope xs ys slot i.value fit alike);
    }
matched_seen (pat.Is c) said scope xs ys zs fit alike e =
    let i = value_asked said (λ x. only_if (int_eq x (exact c xs)) (Some xs)) zs e in
    let p = if_asked (int_eq i.value (exact c xs)) (Some xs) zs i.then_is in
    let number = expr_alike scope xs ys alike c fit in
    record {
      env = ys;
      is = value_is said i.value (λ x. only_if (int_eq x (exact c ys)) (Some ys)) i.is
          ∙ ap (λ (b : Bool). only_if b (Some ys)) (ap (int_eq i.value) (sym number) ∙ p.0);
      alike = subst (λ (z : List ℤ). Alike scope z ys) (some_is p.1) alike;
    }

points_seen : (t : Truth) (at share : Expr) (p : Pat)
    → Seen (points_asked t at share p) (record { fits = λ scope. reads scope at && (reads scope share && pat_fits scope p); behind = bound p })
points_seen t at share p scope r xs ys n fit alike e =
    let both = and_parts (reads scope at) (reads scope share && pat_fits scope p) fit in
    let rest = and_parts (reads scope share) (pat_fits scope p) both.1 in
    let place = expr_alike scope xs ys alike at both.0 in
    let part = expr_alike scope xs ys alike share rest.0 in
    let i = value_asked (positive (exact share xs)) _ n e in
    let j = value_asked (matched p (t.value (exact at xs)) xs) _ n i.then_is in
    let m = matched_seen p (t.value (exact at xs)) scope xs ys j.value rest.1 alike j.is in
    answer_as (Some (need (some_of (key.Cell r (exact at xs)) i.value) [] m.env)) (points_asked t at share p r ys) (bound p scope) n
    (ap (λ (z : ℤ). Some (need (some_of (key.Cell r z) i.value) [] m.env)) place
    ∙ sym (value_is (positive (exact share ys)) i.value
    (λ k. with_value (matched p (t.value (exact at ys)) ys) (λ zs. Some (need (some_of (key.Cell r (exact at ys)) k) [] zs))) (ap positive (sym part) ∙ i.is)
    ∙ value_is (matched p (t.value (exact at ys)) ys) m.env (λ zs. Some (need (some_of (key.Cell r (exact at ys)) i.value) [] zs)) (ap (λ (z : ℤ). matched p (t.value z) ys) (sym place) ∙ m.is)))
    (answered (bound p scope) j.value m.env n (some_of (key.Cell r (exact at xs)) i.value) [] m.alike j.then_is)

-- ---- parts

-- what it binds ends with it
apart_seen : (q : Asks) (s : Scoped) → Binds s → Seen q s → (scope : Scope) (r : Rung) (xs ys : List ℤ) (n : Need) → s.fits scope ≡ true → Alike scope xs ys → q r xs ≡ Some n
    → Answer (q r ys) scope n
apart_seen q s binds seen scope r xs ys n fit alike e =
    let a = seen scope r xs ys n fit alike e in
    record { need = a.need; is = a.is; same = a.same; alike = alike_before scope (s.behind scope) n.env a.need.env (binds.later scope fit) a.alike }

chosen_seen : (b : Bool) (q o : Asks) (s u : Scoped) → Binds s → Binds u → Seen q s → Seen o u → (scope : Scope) (r : Rung) (xs ys : List ℤ) (n : Need)
    → s.fits scope ≡ true → u.fits scope ≡ true → Alike scope xs ys → (if b then q r xs else o r xs) ≡ Some n → Answer (if b then q r ys else o r ys) scope n
chosen_seen true q o s u hs hu seen other scope r xs ys n f g alike e = apart_seen q s hs seen scope r xs ys n f alike e
chosen_seen false q o s u hs hu seen other scope r xs ys n f g alike e = apart_seen o u hu other scope r xs ys n g alike e

all_seen : {X A : Type 0} (a : X → A) (q : A → Asks) (k : A → Scoped) → ((x : X) → Seen (q (a x)) (k (a x))) → (xs : List X)
    → Seen (all_asked (map q (map a xs))) (in_turn (map k (map a xs)))
all_seen a q k each [] scope r xs ys n fit alike e = answered scope xs ys n nothing [] alike e
all_seen a q k each (p ∷ ps) scope r xs ys n fit alike e =
    let next = (k (a p)).behind scope in
    let rest = all_asked (map q (map a ps)) in
    let both = and_parts ((k (a p)).fits scope) (all_fit (map k (map a ps)) next) fit in
    let i = value_asked (q (a p) r xs) _ n e in
    let j = value_asked (rest r i.value.env) _ n i.then_is in
    let f = each p scope r xs ys i.value both.0 alike i.is in
    let g = all_seen a q k each ps next r i.value.env f.need.env j.value both.1 f.alike j.is in
    let d : both_asked i.value j.value ≡ n = some_is j.then_is in
    record {
      need = both_asked f.need g.need;
      is = value_is (q (a p) r ys) f.need _ f.is ∙ value_is (rest r f.need.env) g.need _ g.is;
      same = record {
        heap = (λ h k. f.same.heap h k + g.same.heap h k) ∙ ap (λ (z : Need). z.heap) d;
        claims = (λ h. f.same.claims h ++ g.same.claims h) ∙ ap (λ (z : Need). z.claims) d;
      };
      alike = subst (λ (z : List ℤ). Alike (behind_all (map k (map a ps)) next) z g.need.env) (ap (λ (z : Need). z.env) d) g.alike;
    }

layer : {X A : Type 0} (t : Truth) (a : X → A) (q : A → Asks) (k : A → Scoped) → ((x : X) → Binds (k (a x))) → ((x : X) → Seen (q (a x)) (k (a x))) → (l : Asrt-F X)
    → Seen (asks_step t (map-Asrt A Asks q (map-Asrt X A a l))) (asrt_step (map-Asrt A Scoped k (map-Asrt X A a l)))
layer t a q k binds each Asrt-F.Emp = λ scope r xs ys n fit alike e. answered scope xs ys n nothing [] alike e
layer t a q k binds each (Asrt-F.Fact c) = λ scope r xs ys n fit alike e.
    tested scope xs ys n (exact_cond c xs) (exact_cond c ys) nothing nothing [] [] (cond_alike scope xs ys alike c fit) refl refl alike e
layer t a q k binds each (Asrt-F.Points at share p) = points_seen t at share p
layer t a q k binds each (Asrt-F.Init at) = claim_seen (λ r xs. claim.IsInit r (exact at xs)) (λ scope. reads scope at)
    (λ scope r xs ys fit alike. ap (claim.IsInit r) (expr_alike scope xs ys alike at fit))
layer t a q k binds each (Asrt-F.Rel at inst) = claim_seen (λ r xs. claim.MayWrite (exact at xs) inst.inv (exact_all inst.args xs)) (λ scope. reads scope at && inst_reads scope inst)
    (λ scope r xs ys fit alike. place_alike (λ l zs. claim.MayWrite l inst.inv zs) at inst scope xs ys fit alike)
layer t a q k binds each (Asrt-F.Acq at inst part out) = acq_seen t at inst part out
layer t a q k binds each (Asrt-F.RmwAcq at inst) = claim_seen (λ r xs. claim.MayUpdate (exact at xs) inst.inv (exact_all inst.args xs)) (λ scope. reads scope at && inst_reads scope inst)
    (λ scope r xs ys fit alike. place_alike (λ l zs. claim.MayUpdate l inst.inv zs) at inst scope xs ys fit alike)
layer t a q k binds each (Asrt-F.Tok bank c) = tok_seen bank c
layer t a q k binds each (Asrt-F.Auth bank c) = auth_seen t bank c
layer t a q k binds each (Asrt-F.Choice c x y) = λ scope r xs ys n fit alike e.
    let both = and_parts (tests scope c) ((k (a x)).fits scope && (k (a y)).fits scope) fit in
    let parts = and_parts ((k (a x)).fits scope) ((k (a y)).fits scope) both.1 in
    answer_as (if exact_cond c xs then q (a x) r ys else q (a y) r ys) (if exact_cond c ys then q (a x) r ys else q (a y) r ys) scope n
    (ap (λ (b : Bool). if b then q (a x) r ys else q (a y) r ys) (cond_alike scope xs ys alike c both.0))
    (chosen_seen (exact_cond c xs) (q (a x)) (q (a y)) (k (a x)) (k (a y)) (binds x) (binds y) (each x) (each y) scope r xs ys n parts.0 parts.1 alike e)
layer t a q k binds each (Asrt-F.Up x) = λ scope r xs ys n fit alike e. apart_seen (q (a x)) (k (a x)) (binds x) (each x) scope rung.Up xs ys n fit alike e
layer t a q k binds each (Asrt-F.Down x) = λ scope r xs ys n fit alike e. apart_seen (q (a x)) (k (a x)) (binds x) (each x) scope rung.Down xs ys n fit alike e
layer t a q k binds each (Asrt-F.Both ps) = all_seen a q k each ps

pub asrt_seen : (t : Truth) (a : Asrt) → Seen (asks t a) (asrt_scoped a)
asrt_seen t = ind-Asrt (λ a. Seen (asks t a) (asrt_scoped a))
    (λ x y is.
    let l = subst (λ z. Seen (asks_step t (map-Asrt Asrt Asks (asks t) z)) (asrt_step (map-Asrt Asrt Scoped asrt_scoped z))) is
    (layer t (λ e. e.0) (asks t) asrt_scoped (λ e. asrt_binds e.0) (λ e. e.1) y) in
    subst (λ (z : Asks). Seen z (asrt_scoped (roll-Asrt x))) (sym (fold-roll-Asrt Asks (asks_step t) x))
    (subst (λ (z : Scoped). Seen (asks_step t (map-Asrt Asrt Asks (asks t) x)) z) (sym (fold-roll-Asrt Scoped asrt_step x)) l))
