-- Token steps, one after the other.
use Rattle.std.proofs.Common.{◌≡◌, ℕ, ◌+◌, ◌-◌, ◌≤◌, Bool, true, false, List, [], ◌∷◌, map, ℤ, pos, ◌+ℤ◌, ◌-ℤ◌, ◌≤ℤ◌, if◌then◌else◌, refl, sym, subst, ◌∙◌, arith}
use Rattle.std.specs.Ordering.{int_eq}
use Rattle.std.proofs.lemmas.Int.{ints}
use Rattle.fsl_core.specs.declared.act.Step.{Step}
use Rattle.fsl_core.specs.declared.mode.Rung.{Rung}
use Rattle.fsl_core.specs.logic.States.{State}
use Rattle.fsl_core.specs.logic.Terms.{expr_of}
use Rattle.fsl_core.specs.logic.Tokens.{step_of, token_steps}
use Rattle.fsl_lin.specs.Numbers.{Numbers}
use Rattle.fsl_meaning.specs.Heaps.{Key as key, Heap, some_of, less, Truth, Ground, IsBounded}
use Rattle.fsl_meaning.specs.States.{All, Fits}
use Rattle.fsl_meaning.specs.Branches.{Lands}
use Rattle.fsl_meaning.proofs.Calculus.{lands_then, lands_give, lands_as}
use Rattle.fsl_meaning.proofs.Deciding.{equal, is_equal}
use Rattle.fsl_meaning.proofs.Joining.{bounded_less}
use Rattle.fsl_asserted.specs.Exact.{exact}
use Rattle.fsl_asserted.specs.Needs.{bank_number}
use Rattle.fsl_kept.specs.Changes.{grounded, allowing, with_more}
use Rattle.fsl_kept.specs.Results.{Steps}
use Rattle.fsl_kept.proofs.Banks.{allowed_is, minted_bounds, step_fits}
use Rattle.fsl_kept.proofs.Locals.{if_other}
use Rattle.fsl_updated.specs.Steps.{amount_of, stepped, tokens_stepped, step_truth, step_heap, steps_heap, MayStep, MakesSteps}

-- ---- bounds where tokens were burned

line_burned : (n k : ℕ) (b : ℤ) → n ≤ k → pos k ≤ℤ b → pos (k - n) ≤ℤ (b -ℤ pos n)
line_burned n k b l h = omega (arith, ints)

line_other : (k : ℕ) (b : ℤ) → pos k ≤ℤ b → pos (k - 0) ≤ℤ b
line_other k b h = let e : k - 0 ≡ k = omega arith in subst (λ (n : ℕ). pos n ≤ℤ b) (sym e) h

line_minus : (a b : ℕ) → a - b ≤ a
line_minus a b = omega arith

other_bank : (number b : ℤ) (c : Bool) → int_eq number b ≡ false → int_eq b number ≡ c → c ≡ false
other_bank number b false e d = refl
other_bank number b true e d = let same : int_eq number b ≡ true = is_equal number b (sym (equal b number d)) in absurd (let f : false ≡ true = sym e ∙ same in cc)

tokens_by : (t : Truth) (h : Heap) (number b : ℤ) (n : ℕ) (c : Bool) → int_eq number b ≡ c → n ≤ h (key.Tokens number) → pos (h (key.Tokens b)) ≤ℤ t.bank b
    → pos (h (key.Tokens b) - (if c then n else 0)) ≤ℤ (allowing number (t.bank number -ℤ pos n) t).bank b
tokens_by t h number b n true e enough l =
    let same : number ≡ b = equal number b e in
    subst (λ (z : ℤ). pos (h (key.Tokens z) - n) ≤ℤ (allowing number (t.bank number -ℤ pos n) t).bank z) same
    (subst (λ (z : ℤ). pos (h (key.Tokens number) - n) ≤ℤ z) (sym (allowed_is t number (t.bank number -ℤ pos n)))
    (line_burned n (h (key.Tokens number)) (t.bank number) enough (subst (λ (z : ℤ). pos (h (key.Tokens z)) ≤ℤ t.bank z) (sym same) l)))
tokens_by t h number b n false e enough l =
    subst (λ (z : ℤ). pos (h (key.Tokens b) - 0) ≤ℤ z) (sym (if_other (int_eq b number) (t.bank number -ℤ pos n) (t.bank b) (other_bank number b (int_eq b number) e refl)))
    (line_other (h (key.Tokens b)) (t.bank b) l)

burned_bounds : (t : Truth) (h : Heap) (number : ℤ) (n : ℕ) → n ≤ h (key.Tokens number) → IsBounded t h → IsBounded (allowing number (t.bank number -ℤ pos n) t) (less h (key.Tokens number) n)
burned_bounds t h number n enough b =
    let rest = bounded_less (less h (key.Tokens number) n) (λ q. line_minus (h q) (some_of (key.Tokens number) n q)) b in
    record { cells = rest.cells; tokens = λ c. tokens_by t h number c n (int_eq number c) refl enough (b.tokens c); alone = rest.alone; once = rest.once }

-- ---- one step

pub record IsMade (g : Ground) (slots : List ℤ) (mint : Bool) (number z : ℤ) (h : Heap) (s : State) (w : Numbers) : Type 0 where
  pub may : MayStep mint number z h
  pub bounded : IsBounded (allowing number (stepped mint (g.truth.bank number) z) g.truth) (tokens_stepped mint number (amount_of z) h)
  pub fits : Fits slots (All (grounded g (allowing number (stepped mint (g.truth.bank number) z) g.truth)) (tokens_stepped mint number (amount_of z) h)) w s

is_amount : (z : ℤ) (n : ℕ) → z ≡ pos n → z ≡ pos (amount_of z)
is_amount z n e = subst (λ (x : ℤ). x ≡ pos (amount_of x)) (sym e) refl

made_of : (g : Ground) {slots : List ℤ} {w : Numbers} {s : State} {h : Heap} (mint : Bool) (number z : ℤ) → IsBounded g.truth h → Steps mint g slots number z h s w
    → IsMade g slots mint number z h s w
made_of g {slots = slots} {w = w} {s = s} {h = h} true number z bounds c = record {
  may = record { is = is_amount z c.amount c.is; there = c.there; enough = λ e. absurd (let d : true ≡ false = e in cc) };
  bounded = subst (λ (x : ℤ). IsBounded (allowing number (g.truth.bank number +ℤ x) g.truth) (with_more h (key.Tokens number) (amount_of x))) (sym c.is)
      (minted_bounds g.truth h number c.amount bounds);
  fits = subst (λ (x : ℤ). Fits slots (All (grounded g (allowing number (g.truth.bank number +ℤ x) g.truth)) (with_more h (key.Tokens number) (amount_of x))) w s) (sym c.is) c.fits;
}
made_of g {slots = slots} {w = w} {s = s} {h = h} false number z bounds c = record {
  may = record { is = is_amount z c.amount c.is; there = c.there; enough = λ e. subst (λ (x : ℤ). amount_of x ≤ h (key.Tokens number)) (sym c.is) c.enough };
  bounded = subst (λ (x : ℤ). IsBounded (allowing number (g.truth.bank number -ℤ x) g.truth) (less h (key.Tokens number) (amount_of x))) (sym c.is)
      (burned_bounds g.truth h number c.amount c.enough bounds);
  fits = subst (λ (x : ℤ). Fits slots (All (grounded g (allowing number (g.truth.bank number -ℤ x) g.truth)) (less h (key.Tokens number) (amount_of x))) w s) (sym c.is) c.fits;
}

-- ---- cells

line_more : (n : ℕ) → 0 + n ≡ n
line_more n = omega arith

line_less : (n : ℕ) → n - 0 ≡ n
line_less n = omega arith

step_cell : (mint : Bool) (number : ℤ) (n : ℕ) (h : Heap) (r : Rung) (l : ℤ) → tokens_stepped mint number n h (key.Cell r l) ≡ h (key.Cell r l)
step_cell true number n h r l = line_more (h (key.Cell r l))
step_cell false number n h r l = line_less (h (key.Cell r l))

-- steps leave cells as they are
pub steps_cell : (slots : List ℤ) (xs : List Step) (h : Heap) (r : Rung) (l : ℤ) → steps_heap slots xs h (key.Cell r l) ≡ h (key.Cell r l)
steps_cell slots [] h r l = refl
steps_cell slots (x ∷ xs) h r l =
    steps_cell slots xs (step_heap slots x h) r l ∙ step_cell x.mint (bank_number x.bank slots) (amount_of (exact x.n slots)) h r l

-- ---- all steps

each_step : (g : Ground) {slots : List ℤ} {v : Numbers} {s : State} (xs : List Step) (h : Heap) → IsBounded g.truth h → Fits slots (All g h) v s
    → Lands s.next v (λ u t w. MakesSteps g slots xs h t w) (token_steps (map (step_of expr_of) xs) s)
each_step g {s = s} [] h bounds fit = lands_give tt s (record { may = tt; bounded = bounds; fits = fit })
each_step g {slots = slots} (x ∷ xs) h bounds fit =
    lands_then (step_fits x bounds fit) (λ u t w r c.
    let made = made_of g x.mint (bank_number x.bank slots) (exact x.n slots) bounds c in
    lands_as (each_step (grounded g (step_truth slots x g.truth)) xs (step_heap slots x h) made.bounded made.fits)
    (λ u2 t2 w2 r2 k. record { may = (made.may, k.may); bounded = k.bounded; fits = k.fits }))

pub steps_fit : {g : Ground} {slots : List ℤ} {v : Numbers} {s : State} {h : Heap} (xs : List Step) → IsBounded g.truth h → Fits slots (All g h) v s
    → Lands s.next v (λ u t w. MakesSteps g slots xs h t w) (token_steps (map (step_of expr_of) xs) s)
steps_fit {g = g} {h = h} xs bounds fit = each_step g xs h bounds fit
