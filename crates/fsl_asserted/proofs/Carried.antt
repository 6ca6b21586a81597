-- What an assertion without modalities asks for at another rung.
use Rattle.std.proofs.Common.{◌≡◌, ℕ, ◌+◌, Bool, true, false, ◌&&◌, List, [], ◌∷◌, ◌++◌, map, Option, Some, None, ℤ, if◌then◌else◌, refl, ap, sym, subst, ◌∙◌, arith}
use Rattle.std.specs.Ordering.{int_eq}
use Rattle.std.specs.List.{list_all}
use Rattle.std.proofs.lemmas.Bool.{and_parts}
use Rattle.fsl_core.specs.declared.assertion.Asrt.{Asrt}
use Rattle.fsl_core.specs.declared.assertion.Asrt.TheOpen.{Asrt-F}
use Rattle.fsl_core.specs.declared.assertion.Asrt.TheViews.{roll-Asrt}
use Rattle.fsl_core.specs.declared.assertion.Asrt.TheFolds.{ind-Asrt, map-Asrt, fold-roll-Asrt}
use Rattle.fsl_core.specs.declared.assertion.Pat.{Pat}
use Rattle.fsl_core.specs.declared.declaration.Inv.{Inv}
use Rattle.fsl_core.specs.declared.expr.Expr.{Expr}
use Rattle.fsl_core.specs.declared.mode.Rung.{Rung}
use Rattle.fsl_core.specs.WellFormed.{Test, asrt_step, asrt_fits}
use Rattle.fsl_core.specs.logic.Chunks.{same_rung}
use Rattle.fsl_meaning.specs.Heaps.{Key, Key as key, Heap, nothing, some_of, Truth, Claim, Claim as claim, all_in}
use Rattle.fsl_meaning.proofs.Heaps.{same_rung_self}
use Rattle.fsl_asserted.specs.Exact.{exact, exact_all, exact_cond}
use Rattle.fsl_asserted.specs.Needs.{Need, need, Asks, only_if, positive, natural, matched, points_asked, acq_asked, bank_number, tok_asked, auth_asked, both_asked, all_asked, asks_step, asks}
use Rattle.fsl_asserted.specs.Carried.{moved, claim_at, carried, AsksCarried}
use Rattle.fsl_asserted.proofs.Asking.{some_is, value_asked, value_is, if_asked}

-- ---- heaps at another rung

none_by : (b : Bool) (x n : ℕ) → x ≡ n → n ≡ 0 → n ≡ (if b then x else 0)
none_by true x n e d = sym e
none_by false x n e d = d

-- a heap without cells stays as it is
moved_none : (from to : Rung) (h : Heap) → ((r : Rung) (l : ℤ) → h (key.Cell r l) ≡ 0) → (k : Key) → h k ≡ moved from to h k
moved_none from to h none (key.Cell r l) = none_by (same_rung to r) (h (key.Cell from l)) (h (key.Cell r l)) (none from l ∙ sym (none r l)) (none r l)
moved_none from to h none (key.Permission l p) = refl
moved_none from to h none (key.Tokens b) = refl
moved_none from to h none (key.Bank b) = refl

some_by : (b c d : Bool) (n : ℕ) → d ≡ true → (if b && c then n else 0) ≡ (if b then (if d && c then n else 0) else 0)
some_by true c true n e = refl
some_by true c false n e = absurd (cc)
some_by false c d n e = refl

moved_some : (from to : Rung) (loc : ℤ) (n : ℕ) (k : Key) → some_of (key.Cell to loc) n k ≡ moved from to (some_of (key.Cell from loc) n) k
moved_some from to loc n (key.Cell r l) = some_by (same_rung to r) (int_eq loc l) (same_rung from from) n (same_rung_self from)
moved_some from to loc n (key.Permission l p) = refl
moved_some from to loc n (key.Tokens b) = refl
moved_some from to loc n (key.Bank b) = refl

both_by : (b : Bool) (x y : ℕ) → (if b then x else 0) + (if b then y else 0) ≡ (if b then x + y else 0)
both_by true x y = refl
both_by false x y = omega arith

moved_both : (from to : Rung) (g h : Heap) (k : Key) → moved from to g k + moved from to h k ≡ moved from to (λ q. g q + h q) k
moved_both from to g h (key.Cell r l) = both_by (same_rung to r) (g (key.Cell from l)) (h (key.Cell from l))
moved_both from to g h (key.Permission l p) = refl
moved_both from to g h (key.Tokens b) = refl
moved_both from to g h (key.Bank b) = refl

claims_both : (to : Rung) (cs ds : List Claim) → map (claim_at to) cs ++ map (claim_at to) ds ≡ map (claim_at to) (cs ++ ds)
claims_both to [] ds = refl
claims_both to (c ∷ cs) ds = ap (λ (zs : List Claim). claim_at to c ∷ zs) (claims_both to cs ds)

-- ---- one level

abbrev Carries : Asks → Test → Type 0
Carries q f = (from to : Rung) (xs : List ℤ) (n : Need) → f false ≡ true → q from xs ≡ Some n → q to xs ≡ Some (carried from to n)

-- what is asked for is this, here and there
carries : (from to : Rung) (m n o : Need) (p q : Option Need) → Some m ≡ Some n → q ≡ Some o → o ≡ carried from to m → q ≡ Some (carried from to n)
carries from to m n o p q e d same = subst (λ (z : Need). q ≡ Some (carried from to z)) (some_is e) (d ∙ ap Some same)

no_cells : (claims : List Claim) (from to : Rung) (xs : List ℤ) → need nothing (map (claim_at to) claims) xs ≡ carried from to (need nothing claims xs)
no_cells claims from to xs = λ i. need (λ k. moved_none from to nothing (λ r l. refl) k i) (map (claim_at to) claims) xs

nothing_carries : (claims : List Claim) (from to : Rung) (xs : List ℤ) (n : Need) → Some (need nothing claims xs) ≡ Some n → Some (need nothing (map (claim_at to) claims) xs) ≡ Some (carried from to n)
nothing_carries claims from to xs n e = carries from to (need nothing claims xs) n (need nothing (map (claim_at to) claims) xs) None (Some (need nothing (map (claim_at to) claims) xs)) e refl (no_cells claims from to xs)

-- one of a key that is no cell
one_carries : (one : Key) (amount : ℕ) (claims : List Claim) (from to : Rung) (xs : List ℤ) (n : Need) → ((r : Rung) (l : ℤ) → some_of one amount (key.Cell r l) ≡ 0) → map (claim_at to) claims ≡ claims
    → Some (need (some_of one amount) claims xs) ≡ Some n → Some (need (some_of one amount) claims xs) ≡ Some (carried from to n)
one_carries one amount claims from to xs n none same e =
    carries from to (need (some_of one amount) claims xs) n (need (some_of one amount) claims xs) None (Some (need (some_of one amount) claims xs)) e refl
    (λ i. need (λ k. moved_none from to (some_of one amount) none k i) (sym same i) xs)

fact_carries : (test : Bool) (from to : Rung) (xs : List ℤ) (n : Need) → only_if test (Some (need nothing [] xs)) ≡ Some n → only_if test (Some (need nothing [] xs)) ≡ Some (carried from to n)
fact_carries true from to xs n e = nothing_carries [] from to xs n e
fact_carries false from to xs n e = absurd (let d : None ≡ Some n = e in cc)

points_carry : (t : Truth) (at share : Expr) (p : Pat) → Carries (points_asked t at share p) (λ modal. true)
points_carry t at share p from to xs n f e =
    let i = value_asked (positive (exact share xs)) _ n e in
    let j = value_asked (matched p (t.value (exact at xs)) xs) _ n i.then_is in
    let here = need (some_of (key.Cell from (exact at xs)) i.value) [] j.value in
    let there = need (some_of (key.Cell to (exact at xs)) i.value) [] j.value in
    carries from to here n there None (points_asked t at share p to xs) j.then_is
    (value_is (positive (exact share xs)) i.value _ i.is ∙ value_is (matched p (t.value (exact at xs)) xs) j.value _ j.is)
    (λ h. need (λ k. moved_some from to (exact at xs) i.value k h) [] j.value)

acq_carries : (t : Truth) (at : Expr) (inv : ℕ) (args : List Expr) (part : ℕ) (out : List Expr) → Carries (acq_asked t at inv args part out) (λ modal. true)
acq_carries t at inv args part out from to xs n f e =
    let p = if_asked (all_in (t.out (exact at xs) part) (exact_all out xs)) _ n e in
    let asked = Some (need (some_of (key.Permission (exact at xs) part) 1) (claim.MayRead (exact at xs) inv (exact_all args xs) ∷ []) xs) in
    ap (λ (b : Bool). only_if b asked) p.0
    ∙ one_carries (key.Permission (exact at xs) part) 1 (claim.MayRead (exact at xs) inv (exact_all args xs) ∷ []) from to xs n (λ r l. refl) refl p.1

tok_carries : (bank : ℕ) (c : Expr) → Carries (tok_asked bank c) (λ modal. true)
tok_carries bank c from to xs n f e =
    let i = value_asked (natural (exact c xs)) _ n e in
    value_is (natural (exact c xs)) i.value _ i.is ∙ one_carries (key.Tokens (bank_number bank xs)) i.value [] from to xs n (λ r l. refl) refl i.then_is

auth_carries : (t : Truth) (bank : ℕ) (c : Expr) → Carries (auth_asked t bank c) (λ modal. true)
auth_carries t bank c from to xs n f e =
    let p = if_asked (int_eq (t.bank (bank_number bank xs)) (exact c xs)) _ n e in
    let asked = Some (need (some_of (key.Bank (bank_number bank xs)) 1) [] xs) in
    ap (λ (b : Bool). only_if b asked) p.0 ∙ one_carries (key.Bank (bank_number bank xs)) 1 [] from to xs n (λ r l. refl) refl p.1

choice_carries : (b : Bool) (q r : Asks) (f g : Test) → Carries q f → Carries r g → Carries (λ rung xs. if b then q rung xs else r rung xs) (λ modal. f modal && g modal)
choice_carries true q r f g h k from to xs n e d = h from to xs n (and_parts (f false) (g false) e).0 d
choice_carries false q r f g h k from to xs n e d = k from to xs n (and_parts (f false) (g false) e).1 d

all_carry : {X A : Type 0} (a : X → A) (q : A → Asks) (f : A → Test) → ((x : X) → Carries (q (a x)) (f (a x))) → (ys : List X)
    → Carries (all_asked (map q (map a ys))) (λ modal. list_all (λ part. part modal) (map f (map a ys)))
all_carry a q f each [] from to xs n h e = nothing_carries [] from to xs n e
all_carry a q f each (y ∷ ys) from to xs n h e =
    let p = and_parts (f (a y) false) (list_all (λ part. part false) (map f (map a ys))) h in
    let i = value_asked (q (a y) from xs) _ n e in
    let j = value_asked (all_asked (map q (map a ys)) from i.value.env) _ n i.then_is in
    let here = both_asked i.value j.value in
    let there = both_asked (carried from to i.value) (carried from to j.value) in
    carries from to here n there None (all_asked (map q (map a (y ∷ ys))) to xs) j.then_is
    (value_is (q (a y) to xs) (carried from to i.value) _ (each y from to xs i.value p.0 i.is)
    ∙ value_is (all_asked (map q (map a ys)) to i.value.env) (carried from to j.value) _ (all_carry a q f each ys from to i.value.env j.value p.1 j.is))
    (λ z. need (λ k. moved_both from to i.value.heap j.value.heap k z) (claims_both to i.value.claims j.value.claims z) j.value.env)

layer : {X A : Type 0} (invs : List Inv) (t : Truth) (a : X → A) (q : A → Asks) (f : A → Test) → ((x : X) → Carries (q (a x)) (f (a x))) → (l : Asrt-F X)
    → Carries (asks_step t (map-Asrt A Asks q (map-Asrt X A a l))) (asrt_step invs (map-Asrt A Test f (map-Asrt X A a l)))
layer invs t a q f each Asrt-F.Emp = λ from to xs n h e. nothing_carries [] from to xs n e
layer invs t a q f each (Asrt-F.Fact c) = λ from to xs n h e. fact_carries (exact_cond c xs) from to xs n e
layer invs t a q f each (Asrt-F.Points at share p) = λ from to xs n h e. points_carry t at share p from to xs n refl e
layer invs t a q f each (Asrt-F.Init at) = λ from to xs n h e. nothing_carries (claim.IsInit from (exact at xs) ∷ []) from to xs n e
layer invs t a q f each (Asrt-F.Rel at inst) = λ from to xs n h e. nothing_carries (claim.MayWrite (exact at xs) inst.inv (exact_all inst.args xs) ∷ []) from to xs n e
layer invs t a q f each (Asrt-F.Acq at inst part out) = λ from to xs n h e. acq_carries t at inst.inv inst.args part out from to xs n refl e
layer invs t a q f each (Asrt-F.RmwAcq at inst) = λ from to xs n h e. nothing_carries (claim.MayUpdate (exact at xs) inst.inv (exact_all inst.args xs) ∷ []) from to xs n e
layer invs t a q f each (Asrt-F.Tok bank c) = λ from to xs n h e. tok_carries bank c from to xs n refl e
layer invs t a q f each (Asrt-F.Auth bank c) = λ from to xs n h e. auth_carries t bank c from to xs n refl e
layer invs t a q f each (Asrt-F.Choice c x y) = λ from to xs n h e. choice_carries (exact_cond c xs) (q (a x)) (q (a y)) (f (a x)) (f (a y)) (each x) (each y) from to xs n h e
layer invs t a q f each (Asrt-F.Up x) = λ from to xs n h e. absurd (let d : false ≡ true = h in cc)
layer invs t a q f each (Asrt-F.Down x) = λ from to xs n h e. absurd (let d : false ≡ true = h in cc)
layer invs t a q f each (Asrt-F.Both ys) = λ from to xs n h e. all_carry a q f each ys from to xs n h e

pub asks_carried : AsksCarried
asks_carried invs t a =
    ind-Asrt (λ b. Carries (asks t b) (asrt_fits invs b))
    (λ x y is.
    let p = fold-roll-Asrt Asks (asks_step t) x in
    let q = fold-roll-Asrt Test (asrt_step invs) x in
    let l = subst (λ z. Carries (asks_step t (map-Asrt Asrt Asks (asks t) z)) (asrt_step invs (map-Asrt Asrt Test (asrt_fits invs) z))) is
    (layer invs t (λ e. e.0) (asks t) (asrt_fits invs) (λ e. e.1) y) in
    subst (λ (z : Asks). Carries z (asrt_fits invs (roll-Asrt x))) (sym p)
    (subst (λ (z : Test). Carries (asks_step t (map-Asrt Asrt Asks (asks t) x)) z) (sym q) l)) a
