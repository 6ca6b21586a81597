-- Banks of tokens: made, minted from, burned.
use Rattle.std.proofs.Common.{◌≡◌, ℕ, ◌+◌, ◌-◌, ◌≤◌, ◌^◌, Bool, true, false, List, ◌∷◌, ◌++◌, ℤ, pos, ◌+ℤ◌, ◌≤ℤ◌, if◌then◌else◌, refl, ap, sym, subst, ◌∙◌, arith}
use Rattle.std.specs.Ordering.{int_eq}
use Rattle.std.specs.Prelude.{slice_set}
use Rattle.std.proofs.lemmas.Int.{ints}
use Rattle.fsl_core.specs.declared.act.Step.{Step}
use Rattle.fsl_core.specs.declared.chunk.Chunk.{Chunk}
use Rattle.fsl_core.specs.declared.chunk.Chunk.TheVariants as chunk
use Rattle.fsl_core.specs.declared.mode.Rung.TheVariants.{Plain, Up, Down, Msg}
use Rattle.fsl_core.specs.declared.verdict.Kind.TheVariants as kind
use Rattle.fsl_core.specs.logic.States.{State}
use Rattle.fsl_core.specs.logic.Terms.{expr_of}
use Rattle.fsl_core.specs.logic.Chunks.{Found, Count, put, authority_of}
use Rattle.fsl_core.specs.logic.Joining.{nought}
use Rattle.fsl_core.specs.logic.Producing.{bank_of}
use Rattle.fsl_core.specs.logic.Tokens.{new_bank, mint, burn, minted, step_of, token_step}
use Rattle.fsl_lin.specs.Combination.{Combination}
use Rattle.fsl_lin.specs.Numbers.{Numbers}
use Rattle.fsl_meaning.specs.Means.{Means}
use Rattle.fsl_meaning.specs.Heaps.{Key as key, Heap, some_of, less, Holds, Truth, Ground, IsBounded, Agrees}
use Rattle.fsl_meaning.specs.States.{OwnsBank, Stands, Owns, All, Fits}
use Rattle.fsl_meaning.specs.Branches.{Lands}
use Rattle.fsl_meaning.proofs.Terms.{means_more, means_as, means_plus, means_minus, means_constant}
use Rattle.fsl_meaning.proofs.Calculus.{lands_then, lands_give, lands_as, lands_end, tells_then}
use Rattle.fsl_meaning.proofs.Facts.{proved_equal, lands_symbol}
use Rattle.fsl_meaning.proofs.Deciding.{equal, is_equal}
use Rattle.fsl_meaning.proofs.Kept.{owns_kept}
use Rattle.fsl_meaning.proofs.Owned.{all_lasts, insert, IsOut, tells_find_or, lands_add}
use Rattle.fsl_meaning.proofs.Readings.{authority_read}
use Rattle.fsl_meaning.proofs.Joining.{tells_fitting, lands_tokens, bounded_less}
use Rattle.fsl_meaning.proofs.Slots.{all_get}
use Rattle.fsl_asserted.specs.Exact.{exact}
use Rattle.fsl_asserted.specs.Needs.{bank_number}
use Rattle.fsl_asserted.proofs.Asking.{natural_of, some_there, part_within}
use Rattle.fsl_asserted.proofs.Consuming.{tells_at_most}
use Rattle.fsl_asserted.proofs.Consumed.{lands_consume_tokens}
use Rattle.fsl_asserted.proofs.Terms.{reads_term}
use Rattle.fsl_kept.specs.Changes.{grounded, allowing, with_more}
use Rattle.fsl_kept.specs.Results.{Mints, Burns, Steps}
use Rattle.fsl_kept.proofs.Locals.{lands_set, if_other, if_same, knows_same}

-- a new bank has no tokens
pub new_bank_fits : {g : Ground} {slots : List ℤ} {h : Heap} {v : Numbers} {s : State} (slot : ℕ) (number : ℤ) (more : Heap) → Fits slots (All g h) v s → g.truth.bank number ≡ pos 0
    → Holds (some_of (key.Bank number) 1) h more → Lands s.next v (λ u t w. Fits (slice_set slots slot number) (All g more) w t) (new_bank slot s)
new_bank_fits {g = g} {h = h} slot number more fit empty holds =
    lands_then (lands_symbol number (all_lasts g h) fit) (λ b t w r f.
    lands_then (lands_add (chunk.Auth b nought) (some_of (key.Bank number) 1) more f.0
    (record { number = number; bank_is = f.1; count_is = means_as (sym empty) (means_constant (pos 0)); there = some_there (key.Bank number) 1 }) holds) (λ u t2 w2 r2 f2.
    lands_set slot f2 (means_more r2 f.1)))

-- ---- another number

allowed_by : (t : Truth) (number n b : ℤ) (c : Bool) → int_eq b number ≡ c → (b ≡ number → ⊥) → (allowing number n t).bank b ≡ t.bank b
allowed_by t number n b true e d = absurd (d (equal b number e))
allowed_by t number n b false e d = if_other (int_eq b number) n (t.bank b) e

pub allowed_agrees : (t : Truth) (h : Heap) (number n : ℤ) → (1 ≤ h (key.Bank number) → ⊥) → Agrees t (allowing number n t) h
allowed_agrees t h number n none = record {
  value = λ r l x some e. e;
  out = λ l p some. refl;
  bank = λ b some. allowed_by t number n b (int_eq b number) refl (λ same. none (subst (λ (z : ℤ). 1 ≤ h (key.Bank z)) same some));
}

pub allowed_is : (t : Truth) (number n : ℤ) → (allowing number n t).bank number ≡ n
allowed_is t number n = if_same (int_eq number number) n (t.bank number) (is_equal number number refl)

line_alone : (m r h : ℕ) → 1 ≤ m → m + r ≤ h → h ≤ 1 → 1 ≤ r → ⊥
line_alone m r h i j k l = omega arith

-- who has the authority may say another number
pub lands_renumber : {g : Ground} {slots : List ℤ} {v : Numbers} {s : State} {h : Heap} {number x : ℤ} {bank : Combination} (f : Found Chunk Count) (n : Combination) → Fits slots (All g h) v s → IsBounded g.truth h
    → (out : IsOut g slots v s (authority_of bank) h f) → Means s.next v bank number → Means s.next v n x
    → Lands s.next v (λ u t w. Fits slots (All (grounded g (allowing number x g.truth)) h) w t) (put f (chunk.Auth f.is.bank n) s)
lands_renumber {g = g} {slots = slots} {v = v} {s = s} {h = h} {number = number} {x = x} {bank = bank} f n fit bounds out bank_is n_is =
    let r = authority_read bank s.facts out.item f.is out.reads_as in
    let own : OwnsBank g s.next v f.is.bank f.is.n out.mine = subst (λ (c : Chunk). Stands g s.next v c out.mine) r.0 out.fits.owns.stands in
    let same : own.number ≡ number = proved_equal fit.one fit.facts own.bank_is bank_is r.1 in
    let there : 1 ≤ out.mine (key.Bank number) = subst (λ (b : ℤ). 1 ≤ out.mine (key.Bank b)) same own.there in
    let later = grounded g (allowing number x g.truth) in
    let none : 1 ≤ out.rest (key.Bank number) → ⊥ = line_alone (out.mine (key.Bank number)) (out.rest (key.Bank number)) (h (key.Bank number)) there (out.holds (key.Bank number)) (bounds.alone number) in
    let others : Owns later s.next v (f.before ++ f.behind) out.rest =
    owns_kept later (knows_same g (allowing number x g.truth) out.rest) (allowed_agrees g.truth out.rest number x none) out.fits.owns.others in
    lands_give tt (record s { chunks = f.before ++ chunk.Auth f.is.bank n ∷ f.behind }) (record {
      one = fit.one;
      facts = fit.facts;
      env = fit.env;
      owns = record {
        each = insert later s.next v f.before (chunk.Auth f.is.bank n) f.behind out.mine out.rest h out.holds
            (record { number = number; bank_is = means_as same own.bank_is; count_is = means_as (sym (allowed_is g.truth number x)) n_is; there = there }) others.each;
      };
    })

-- the number that an authority says
authority_is : {g : Ground} {slots : List ℤ} {v : Numbers} {s : State} {h : Heap} {number : ℤ} {bank : Combination} (f : Found Chunk Count) → Fits slots (All g h) v s
    → (out : IsOut g slots v s (authority_of bank) h f) → Means s.next v bank number → (1 ≤ h (key.Bank number)) × Means s.next v f.is.n (g.truth.bank number)
authority_is {g = g} {v = v} {s = s} {h = h} {number = number} {bank = bank} f fit out bank_is =
    let r = authority_read bank s.facts out.item f.is out.reads_as in
    let own : OwnsBank g s.next v f.is.bank f.is.n out.mine = subst (λ (c : Chunk). Stands g s.next v c out.mine) r.0 out.fits.owns.stands in
    let same : own.number ≡ number = proved_equal fit.one fit.facts own.bank_is bank_is r.1 in
    let there : 1 ≤ out.mine (key.Bank number) = subst (λ (b : ℤ). 1 ≤ out.mine (key.Bank b)) same own.there in
    (part_within out.mine out.rest h (key.Bank number) 1 out.holds there, means_as (ap g.truth.bank same) own.count_is)

-- ---- minting

line_cells : (a b c d m : ℕ) → a + (b + (c + d)) ≤ m → (0 + a) + ((0 + b) + ((0 + c) + (0 + d))) ≤ m
line_cells a b c d m h = omega arith

line_one : (a m : ℕ) → a ≤ m → 0 + a ≤ m
line_one a m h = omega arith

line_tokens : (n k : ℕ) (b : ℤ) → pos k ≤ℤ b → pos (n + k) ≤ℤ (b +ℤ pos n)
line_tokens n k b h = omega (arith, ints)

line_other : (k : ℕ) (b : ℤ) → pos k ≤ℤ b → pos (0 + k) ≤ℤ b
line_other k b h = omega (arith, ints)

apart : (number b : ℤ) → int_eq number b ≡ false → b ≡ number → ⊥
apart number b e same = let d : int_eq number b ≡ true = is_equal number b (sym same) in let f : false ≡ true = sym e ∙ d in cc

tokens_by : (t : Truth) (h : Heap) (number b : ℤ) (n : ℕ) (c : Bool) → int_eq number b ≡ c → pos (h (key.Tokens b)) ≤ℤ t.bank b
    → pos ((if c then n else 0) + h (key.Tokens b)) ≤ℤ (allowing number (t.bank number +ℤ pos n) t).bank b
tokens_by t h number b n true e l =
    let same : number ≡ b = equal number b e in
    subst (λ (z : ℤ). pos (n + h (key.Tokens b)) ≤ℤ z) (sym (ap (λ (z : ℤ). (allowing number (t.bank number +ℤ pos n) t).bank z) (sym same) ∙ allowed_is t number (t.bank number +ℤ pos n)))
    (line_tokens n (h (key.Tokens b)) (t.bank number) (subst (λ (z : ℤ). pos (h (key.Tokens b)) ≤ℤ t.bank z) (sym same) l))
tokens_by t h number b n false e l =
    subst (λ (z : ℤ). pos (0 + h (key.Tokens b)) ≤ℤ z) (sym (allowed_by t number (t.bank number +ℤ pos n) b (int_eq b number) refl (apart number b e))) (line_other (h (key.Tokens b)) (t.bank b) l)

pub minted_bounds : (t : Truth) (h : Heap) (number : ℤ) (n : ℕ) → IsBounded t h → IsBounded (allowing number (t.bank number +ℤ pos n) t) (with_more h (key.Tokens number) n)
minted_bounds t h number n b = record {
  cells = λ l. line_cells (h (key.Cell Plain l)) (h (key.Cell Up l)) (h (key.Cell Down l)) (h (key.Cell Msg l)) (2 ^ 63) (b.cells l);
  tokens = λ c. tokens_by t h number c n (int_eq number c) refl (b.tokens c);
  alone = λ c. line_one (h (key.Bank c)) 1 (b.alone c);
  once = λ l p. line_one (h (key.Permission l p)) 1 (b.once l p);
}

line_self : (a : ℕ) → a ≤ a
line_self a = omega arith

pub mint_fits : {g : Ground} {slots : List ℤ} {v : Numbers} {s : State} {h : Heap} {number z : ℤ} (bank k : Combination) → IsBounded g.truth h → Fits slots (All g h) v s
    → Means s.next v bank number → Means s.next v k z → Lands s.next v (λ u t w. Mints g slots number z h t w) (mint bank k s)
mint_fits {g = g} {slots = slots} {h = h} {number = number} {z = z} bank k bounds fit bank_is k_is =
    tells_then _ (tells_find_or kind.Token (authority_of bank) fit) (λ f out.
    let said = authority_is f fit out bank_is in
    tells_then _ (tells_at_most kind.Token nought k fit (means_constant (pos 0)) k_is) (λ u l.
    let n = natural_of z l in
    let amount_is = means_as n.is k_is in
    let one = key.Tokens number in
    tells_then _ (tells_fitting (means_plus said.1 amount_is)) (λ sum sum_is.
    lands_then (lands_renumber f sum fit bounds out bank_is sum_is) (λ u2 t w r f2.
    lands_as (lands_tokens bank k (with_more h one n.amount) f2
    (record { number = number; amount = n.amount; bank_is = means_more r bank_is; count_is = means_more r amount_is; there = some_there one n.amount })
    (λ q. line_self (some_of one n.amount q + h q)) (minted_bounds g.truth h number n.amount bounds))
    (λ u3 t3 w3 r3 fits. record { amount = n.amount; is = n.is; there = said.0; fits = fits })))))

-- ---- burning

line_minus : (a b : ℕ) → a - b ≤ a
line_minus a b = omega arith

pub burn_fits : {g : Ground} {slots : List ℤ} {v : Numbers} {s : State} {h : Heap} {number z : ℤ} (bank k : Combination) → IsBounded g.truth h → Fits slots (All g h) v s
    → Means s.next v bank number → Means s.next v k z → Lands s.next v (λ u t w. Burns g slots number z h t w) (burn bank k s)
burn_fits {g = g} {slots = slots} {h = h} {number = number} {z = z} bank k bounds fit bank_is k_is =
    tells_then _ (tells_find_or kind.Token (authority_of bank) fit) (λ f0 out0.
    let said0 = authority_is f0 fit out0 bank_is in
    lands_then (lands_consume_tokens bank k fit bank_is k_is) (λ u t w r c.
    let n = c.count.amount in
    let left = less h (key.Tokens number) n in
    let bounds2 = bounded_less left (λ q. line_minus (h q) (some_of (key.Tokens number) n q)) bounds in
    tells_then _ (tells_find_or kind.Token (authority_of bank) c.fits) (λ f out.
    let said = authority_is f c.fits out (means_more r bank_is) in
    tells_then _ (tells_fitting (means_minus said.1 (means_as c.count.is (means_more r k_is)))) (λ rest rest_is.
    lands_as (lands_renumber f rest c.fits bounds2 out (means_more r bank_is) rest_is) (λ u2 t2 w2 r2 fits.
    record { amount = n; is = c.count.is; there = said0.0; enough = c.enough; fits = fits })))))

-- ---- steps

minted_fits : {g : Ground} {slots : List ℤ} {v : Numbers} {s : State} {h : Heap} {number z : ℤ} (more : Bool) (bank k : Combination) → IsBounded g.truth h → Fits slots (All g h) v s
    → Means s.next v bank number → Means s.next v k z → Lands s.next v (λ u t w. Steps more g slots number z h t w) (minted more bank k s)
minted_fits true bank k bounds fit bank_is k_is = mint_fits bank k bounds fit bank_is k_is
minted_fits false bank k bounds fit bank_is k_is = burn_fits bank k bounds fit bank_is k_is

pub step_fits : {g : Ground} {slots : List ℤ} {v : Numbers} {s : State} {h : Heap} (step : Step) → IsBounded g.truth h → Fits slots (All g h) v s
    → Lands s.next v (λ u t w. Steps step.mint g slots (bank_number step.bank slots) (exact step.n slots) h t w) (token_step (step_of expr_of step) s)
step_fits step bounds fit =
    lands_end _ (tells_then _ (reads_term step.n fit fit.env) (λ k k_is. minted_fits step.mint (bank_of step.bank _) k bounds fit (all_get step.bank fit.env) k_is))
