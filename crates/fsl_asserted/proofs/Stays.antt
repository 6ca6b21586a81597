-- What an assertion asks for stays where nothing changed of what it asks for.
use Rattle.std.proofs.Common.{◌≡◌, ℕ, ◌+◌, ◌≤◌, Bool, true, false, List, [], ◌∷◌, map, Option, Some, ℤ, if◌then◌else◌, ap, sym, subst, ◌∙◌, arith}
use Rattle.std.specs.Ordering.{int_eq}
use Rattle.std.specs.Prelude.{slice_set}
use Rattle.fsl_core.specs.declared.assertion.Asrt.{Asrt}
use Rattle.fsl_core.specs.declared.assertion.Asrt.TheOpen.{Asrt-F}
use Rattle.fsl_core.specs.declared.assertion.Asrt.TheViews.{roll-Asrt}
use Rattle.fsl_core.specs.declared.assertion.Asrt.TheFolds.{ind-Asrt, map-Asrt, fold-roll-Asrt}
use Rattle.fsl_core.specs.declared.assertion.Pat.{Pat}
use Rattle.fsl_core.specs.declared.assertion.Pat.TheVariants as pat
use Rattle.fsl_core.specs.declared.expr.Expr.{Expr}
use Rattle.fsl_core.specs.declared.mode.Rung.{Rung}
use Rattle.fsl_core.specs.declared.mode.Rung.TheVariants as rung
use Rattle.fsl_meaning.specs.Heaps.{Key as key, some_of, Truth, Claim as claim, Agrees, all_in}
use Rattle.fsl_meaning.proofs.Kept.{agrees_less}
use Rattle.fsl_asserted.specs.Exact.{exact, exact_all, exact_cond}
use Rattle.fsl_asserted.specs.Needs.{Need, need, Asks, only_if, positive, matched, points_asked, acq_asked, bank_number, auth_asked, both_asked, all_asked, asks_step, asks}
use Rattle.fsl_asserted.specs.Carried.{AsksStay}
use Rattle.fsl_asserted.proofs.Asking.{some_is, value_asked, value_is, if_asked, positive_is, some_there}

abbrev Stays : Truth → Truth → Asks → Asks → Type 0
Stays t later q r = (rung : Rung) (xs : List ℤ) (n : Need) → q rung xs ≡ Some n → Agrees t later n.heap → r rung xs ≡ Some n

matched_stays : (p : Pat) (said other : Option ℤ) (xs ys : List ℤ) → ((x : ℤ) → said ≡ Some x → other ≡ Some x) → matched p said xs ≡ Some ys → matched p other xs ≡ Some ys
matched_stays pat.Any said other xs ys h e = e
matched_stays (pat.Bind slot) said other xs ys h e =
    let i = value_asked said (λ x. Some (slice_set xs slot x)) ys e in
    value_is other i.value _ (h i.value i.is) ∙ i.then_is
matched_stays (pat.Is c) said other xs ys h e =
    let i = value_asked said (λ x. only_if (int_eq x (exact c xs)) (Some xs)) ys e in
    value_is other i.value _ (h i.value i.is) ∙ i.then_is

-- the heap of a need that is known
heap_of : (t later : Truth) (m n : Need) → Some m ≡ Some n → Agrees t later n.heap → Agrees t later m.heap
heap_of t later m n e h = subst (λ (z : Need). Agrees t later z.heap) (sym (some_is e)) h

line_share : (a b : ℕ) → 1 ≤ a → a ≤ b → 1 ≤ b
line_share a b h k = omega arith

points_stay : (t later : Truth) (at share : Expr) (p : Pat) → Stays t later (points_asked t at share p) (points_asked later at share p)
points_stay t later at share p r xs n e h =
    let i = value_asked (positive (exact share xs)) _ n e in
    let j = value_asked (matched p (t.value (exact at xs)) xs) _ n i.then_is in
    let cell = key.Cell r (exact at xs) in
    let a : Agrees t later (some_of cell i.value) = heap_of t later (need (some_of cell i.value) [] j.value) n j.then_is h in
    let some : 1 ≤ some_of cell i.value cell = line_share i.value (some_of cell i.value cell) (positive_is (exact share xs) i.value i.is).some (some_there cell i.value) in
    value_is (positive (exact share xs)) i.value _ i.is
    ∙ value_is (matched p (later.value (exact at xs)) xs) j.value _ (matched_stays p (t.value (exact at xs)) (later.value (exact at xs)) xs j.value (λ x d. a.value r (exact at xs) x some d) j.is)
    ∙ j.then_is

acq_stays : (t later : Truth) (at : Expr) (inv : ℕ) (args : List Expr) (part : ℕ) (out : List Expr) → Stays t later (acq_asked t at inv args part out) (acq_asked later at inv args part out)
acq_stays t later at inv args part out r xs n e h =
    let one = key.Permission (exact at xs) part in
    let p = if_asked (all_in (t.out (exact at xs) part) (exact_all out xs)) _ n e in
    let a : Agrees t later (some_of one 1) = heap_of t later (need (some_of one 1) (claim.MayRead (exact at xs) inv (exact_all args xs) ∷ []) xs) n p.1 h in
    let same = a.out (exact at xs) part (some_there one 1) in
    ap (λ (zs : List ℤ). only_if (all_in zs (exact_all out xs)) (Some (need (some_of one 1) (claim.MayRead (exact at xs) inv (exact_all args xs) ∷ []) xs))) same ∙ e

auth_stays : (t later : Truth) (bank : ℕ) (c : Expr) → Stays t later (auth_asked t bank c) (auth_asked later bank c)
auth_stays t later bank c r xs n e h =
    let one = key.Bank (bank_number bank xs) in
    let p = if_asked (int_eq (t.bank (bank_number bank xs)) (exact c xs)) _ n e in
    let a : Agrees t later (some_of one 1) = heap_of t later (need (some_of one 1) [] xs) n p.1 h in
    let same = a.bank (bank_number bank xs) (some_there one 1) in
    ap (λ (z : ℤ). only_if (int_eq z (exact c xs)) (Some (need (some_of one 1) [] xs))) same ∙ e

choice_stays : (t later : Truth) (b : Bool) (q r q2 r2 : Asks) → Stays t later q r → Stays t later q2 r2 → Stays t later (λ rung xs. if b then q rung xs else q2 rung xs) (λ rung xs. if b then r rung xs else r2 rung xs)
choice_stays t later true q r q2 r2 h k = h
choice_stays t later false q r q2 r2 h k = k

line_left : (a b : ℕ) → a ≤ a + b
line_left a b = omega arith

line_right : (a b : ℕ) → b ≤ a + b
line_right a b = omega arith

all_stay : {X A : Type 0} (t later : Truth) (a : X → A) (q r : A → Asks) → ((x : X) → Stays t later (q (a x)) (r (a x))) → (xs : List X)
    → Stays t later (all_asked (map q (map a xs))) (all_asked (map r (map a xs)))
all_stay t later a q r each [] rung xs n e h = e
all_stay t later a q r each (y ∷ ys) rung xs n e h =
    let i = value_asked (q (a y) rung xs) _ n e in
    let j = value_asked (all_asked (map q (map a ys)) rung i.value.env) _ n i.then_is in
    let both = heap_of t later (both_asked i.value j.value) n j.then_is h in
    let left = agrees_less i.value.heap (both_asked i.value j.value).heap (λ k. line_left (i.value.heap k) (j.value.heap k)) both in
    let right = agrees_less j.value.heap (both_asked i.value j.value).heap (λ k. line_right (i.value.heap k) (j.value.heap k)) both in
    value_is (r (a y) rung xs) i.value _ (each y rung xs i.value i.is left)
    ∙ value_is (all_asked (map r (map a ys)) rung i.value.env) j.value _ (all_stay t later a q r each ys rung i.value.env j.value j.is right) ∙ j.then_is

layer : {X A : Type 0} (t later : Truth) (a : X → A) (q r : A → Asks) → ((x : X) → Stays t later (q (a x)) (r (a x))) → (l : Asrt-F X)
    → Stays t later (asks_step t (map-Asrt A Asks q (map-Asrt X A a l))) (asks_step later (map-Asrt A Asks r (map-Asrt X A a l)))
layer t later a q r each Asrt-F.Emp = λ g xs n e h. e
layer t later a q r each (Asrt-F.Fact c) = λ g xs n e h. e
layer t later a q r each (Asrt-F.Points at share p) = points_stay t later at share p
layer t later a q r each (Asrt-F.Init at) = λ g xs n e h. e
layer t later a q r each (Asrt-F.Rel at inst) = λ g xs n e h. e
layer t later a q r each (Asrt-F.Acq at inst part out) = acq_stays t later at inst.inv inst.args part out
layer t later a q r each (Asrt-F.RmwAcq at inst) = λ g xs n e h. e
layer t later a q r each (Asrt-F.Tok bank c) = λ g xs n e h. e
layer t later a q r each (Asrt-F.Auth bank c) = auth_stays t later bank c
layer t later a q r each (Asrt-F.Choice c x y) = λ g xs n e h. choice_stays t later (exact_cond c xs) (q (a x)) (r (a x)) (q (a y)) (r (a y)) (each x) (each y) g xs n e h
layer t later a q r each (Asrt-F.Up x) = λ g xs n e h. each x rung.Up xs n e h
layer t later a q r each (Asrt-F.Down x) = λ g xs n e h. each x rung.Down xs n e h
layer t later a q r each (Asrt-F.Both ys) = all_stay t later a q r each ys

pub asks_stay : AsksStay
asks_stay t later = ind-Asrt (λ a. Stays t later (asks t a) (asks later a))
    (λ x y is.
    let p = fold-roll-Asrt Asks (asks_step t) x in
    let q = fold-roll-Asrt Asks (asks_step later) x in
    let l = subst (λ z. Stays t later (asks_step t (map-Asrt Asrt Asks (asks t) z)) (asks_step later (map-Asrt Asrt Asks (asks later) z))) is
    (layer t later (λ e. e.0) (asks t) (asks later) (λ e. e.1) y) in
    subst (λ (z : Asks). Stays t later z (asks later (roll-Asrt x))) (sym p)
    (subst (λ (z : Asks). Stays t later (asks_step t (map-Asrt Asrt Asks (asks t) x)) z) (sym q) l))
