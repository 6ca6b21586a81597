-- What an assertion asks for stays where it is kept: it asks for a permission wherever it claims a leave to read.
use Rattle.std.proofs.Common.{◌≡◌, ℕ, ◌+◌, ◌≤◌, Bool, true, false, List, [], ◌∷◌, ◌++◌, map, Option, Some, ℤ, if◌then◌else◌, sym, subst, arith}
use Rattle.std.specs.Ordering.{int_eq}
use Rattle.fsl_core.specs.declared.assertion.Asrt.{Asrt}
use Rattle.fsl_core.specs.declared.assertion.Asrt.TheOpen.{Asrt-F}
use Rattle.fsl_core.specs.declared.assertion.Asrt.TheFolds.{ind-Asrt, map-Asrt, fold-roll-Asrt}
use Rattle.fsl_core.specs.declared.assertion.Pat.{Pat}
use Rattle.fsl_core.specs.declared.expr.Expr.{Expr}
use Rattle.fsl_core.specs.declared.mode.Rung.{Rung}
use Rattle.fsl_core.specs.declared.mode.Rung.TheVariants.{Plain, Up, Down}
use Rattle.fsl_meaning.specs.Heaps.{Key as key, Heap, nothing, some_of, Truth, Claim, Claim as claim, Ground, Knows, AllKnown, Needs, all_in}
use Rattle.fsl_meaning.proofs.Kept.{agrees_less, knows_less, needs_less}
use Rattle.fsl_asserted.specs.Exact.{exact, exact_all, exact_cond}
use Rattle.fsl_asserted.specs.Needs.{Need, need, Asks, positive, natural, matched, points_asked, acq_asked, bank_number, tok_asked, auth_asked, both_asked, all_asked, asks_step, asks}
use Rattle.fsl_asserted.proofs.Asking.{some_is, value_asked, if_asked, some_there}
use Rattle.fsl_asserted.proofs.Stays.{asks_stay}
use Rattle.fsl_held.specs.Heaps.{truth_of, ground_of}
use Rattle.fsl_held.specs.Laws.{AskedIsKept}

-- ---- what stands beside a claim is asked for

abbrev pub EachNeeded : Heap → List Claim → Type 0
EachNeeded h [] = Unit {0}
EachNeeded h (c ∷ cs) = Needs h c × EachNeeded h cs

abbrev Held : Asks → Type 0
Held q = (rung : Rung) (xs : List ℤ) (n : Need) → q rung xs ≡ Some n → EachNeeded n.heap n.claims

held_as : (m n : Need) → Some m ≡ Some n → EachNeeded m.heap m.claims → EachNeeded n.heap n.claims
held_as m n e h = subst (λ (z : Need). EachNeeded z.heap z.claims) (some_is e) h

pub each_more : (h more : Heap) (cs : List Claim) → ((k : key) → h k ≤ more k) → EachNeeded h cs → EachNeeded more cs
each_more h more [] l n = tt
each_more h more (c ∷ cs) l n = (needs_less h more l c n.0, each_more h more cs l n.1)

pub each_both : (h : Heap) (cs ds : List Claim) → EachNeeded h cs → EachNeeded h ds → EachNeeded h (cs ++ ds)
each_both h [] ds n m = m
each_both h (c ∷ cs) ds n m = (n.0, each_both h cs ds n.1 m)

points_held : (t : Truth) (at share : Expr) (p : Pat) → Held (points_asked t at share p)
points_held t at share p r xs n e =
    let i = value_asked (positive (exact share xs)) _ n e in
    let j = value_asked (matched p (t.value (exact at xs)) xs) _ n i.then_is in
    held_as (need (some_of (key.Cell r (exact at xs)) i.value) [] j.value) n j.then_is tt

acq_held : (t : Truth) (at : Expr) (inv : ℕ) (args : List Expr) (part : ℕ) (out : List Expr) → Held (acq_asked t at inv args part out)
acq_held t at inv args part out r xs n e =
    let one = key.Permission (exact at xs) part in
    let p = if_asked (all_in (t.out (exact at xs) part) (exact_all out xs)) _ n e in
    held_as (need (some_of one 1) (claim.MayRead (exact at xs) inv (exact_all args xs) ∷ []) xs) n p.1 ((part, some_there one 1), tt)

tok_held : (bank : ℕ) (c : Expr) → Held (tok_asked bank c)
tok_held bank c r xs n e =
    let i = value_asked (natural (exact c xs)) _ n e in
    held_as (need (some_of (key.Tokens (bank_number bank xs)) i.value) [] xs) n i.then_is tt

auth_held : (t : Truth) (bank : ℕ) (c : Expr) → Held (auth_asked t bank c)
auth_held t bank c r xs n e =
    let p = if_asked (int_eq (t.bank (bank_number bank xs)) (exact c xs)) _ n e in
    held_as (need (some_of (key.Bank (bank_number bank xs)) 1) [] xs) n p.1 tt

fact_held : (b : Bool) → Held (λ rung xs. if b then Some (need nothing [] xs) else Option.None)
fact_held b r xs n e = let p = if_asked b _ n e in held_as (need nothing [] xs) n p.1 tt

choice_held : (b : Bool) (q r : Asks) → Held q → Held r → Held (λ rung xs. if b then q rung xs else r rung xs)
choice_held true q r h k = h
choice_held false q r h k = k

line_left : (a b : ℕ) → a ≤ a + b
line_left a b = omega arith

line_right : (a b : ℕ) → b ≤ a + b
line_right a b = omega arith

all_held : {X A : Type 0} (a : X → A) (q : A → Asks) → ((x : X) → Held (q (a x))) → (xs : List X) → Held (all_asked (map q (map a xs)))
all_held a q each [] rung xs n e = held_as (need nothing [] xs) n e tt
all_held a q each (y ∷ ys) rung xs n e =
    let i = value_asked (q (a y) rung xs) _ n e in
    let j = value_asked (all_asked (map q (map a ys)) rung i.value.env) _ n i.then_is in
    let both = both_asked i.value j.value in
    let left = each_more i.value.heap both.heap i.value.claims (λ k. line_left (i.value.heap k) (j.value.heap k)) (each y rung xs i.value i.is) in
    let right = each_more j.value.heap both.heap j.value.claims (λ k. line_right (i.value.heap k) (j.value.heap k)) (all_held a q each ys rung i.value.env j.value j.is) in
    held_as both n j.then_is (each_both both.heap i.value.claims j.value.claims left right)

layer : {X A : Type 0} (t : Truth) (a : X → A) (q : A → Asks) → ((x : X) → Held (q (a x))) → (l : Asrt-F X) → Held (asks_step t (map-Asrt A Asks q (map-Asrt X A a l)))
layer t a q each Asrt-F.Emp = λ g xs n e. held_as (need nothing [] xs) n e tt
layer t a q each (Asrt-F.Fact c) = λ g xs n e. fact_held (exact_cond c xs) g xs n e
layer t a q each (Asrt-F.Points at share p) = points_held t at share p
layer t a q each (Asrt-F.Init at) = λ g xs n e. held_as (need nothing (claim.IsInit g (exact at xs) ∷ []) xs) n e (tt, tt)
layer t a q each (Asrt-F.Rel at inst) = λ g xs n e. held_as (need nothing (claim.MayWrite (exact at xs) inst.inv (exact_all inst.args xs) ∷ []) xs) n e (tt, tt)
layer t a q each (Asrt-F.Acq at inst part out) = acq_held t at inst.inv inst.args part out
layer t a q each (Asrt-F.RmwAcq at inst) = λ g xs n e. held_as (need nothing (claim.MayUpdate (exact at xs) inst.inv (exact_all inst.args xs) ∷ []) xs) n e (tt, tt)
layer t a q each (Asrt-F.Tok bank c) = tok_held bank c
layer t a q each (Asrt-F.Auth bank c) = auth_held t bank c
layer t a q each (Asrt-F.Choice c x y) = λ g xs n e. choice_held (exact_cond c xs) (q (a x)) (q (a y)) (each x) (each y) g xs n e
layer t a q each (Asrt-F.Up x) = λ g xs n e. each x Up xs n e
layer t a q each (Asrt-F.Down x) = λ g xs n e. each x Down xs n e
layer t a q each (Asrt-F.Both ys) = all_held a q each ys

-- an assertion that claims a leave to read asks for a permission there
pub asks_held : (t : Truth) (a : Asrt) (rung : Rung) (xs : List ℤ) (n : Need) → asks t a rung xs ≡ Some n → EachNeeded n.heap n.claims
asks_held t = ind-Asrt (λ a. Held (asks t a))
    (λ x y is.
    let p = fold-roll-Asrt Asks (asks_step t) x in
    let l = subst (λ z. Held (asks_step t (map-Asrt Asrt Asks (asks t) z))) is (layer t (λ e. e.0) (asks t) (λ e. e.1) y) in
    subst (λ (z : Asks). Held z) (sym p) l)

-- ---- what is asked for is kept

all_kept : (g later : Ground) (h : Heap) (cs : List Claim) → ((c : Claim) → Needs h c → Knows g c → Knows later c) → EachNeeded h cs → AllKnown g cs → AllKnown later cs
all_kept g later h [] more n k = tt
all_kept g later h (c ∷ cs) more n k = (more c n.0 k.0, all_kept g later h cs more n.1 k.1)

pub asked_is_kept : AskedIsKept
asked_is_kept base xs h a env n kept within asked = record {
  is = asks_stay (truth_of base) (truth_of xs) a Plain env n asked.is (agrees_less n.heap h within kept.agrees);
  known = all_kept (ground_of base) (ground_of xs) n.heap n.claims (knows_less n.heap h within kept.knows).more (asks_held (truth_of base) a Plain env n asked.is) asked.known;
}
