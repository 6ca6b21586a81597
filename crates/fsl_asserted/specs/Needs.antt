-- What an assertion asks for: a heap and claims, at a rung and with the numbers of the variables; and the numbers of
-- the variables with its binders. It asks for nothing at all where it is false.
use Rattle.std.specs.Prelude.{ℕ, zero, suc, ◌+◌, Bool, List, [], ◌∷◌, ◌++◌, Option, Some, None, ℤ, pos, negsuc, get_or, slice_set, if◌then◌else◌}
use Rattle.std.specs.Ordering.{int_eq}
use Rattle.fsl_core.specs.declared.assertion.Asrt.{Asrt}
use Rattle.fsl_core.specs.declared.assertion.Asrt.TheOpen.{Asrt-F}
use Rattle.fsl_core.specs.declared.assertion.Asrt.TheFolds.{fold-Asrt}
use Rattle.fsl_core.specs.declared.assertion.Pat.{Pat}
use Rattle.fsl_core.specs.declared.assertion.Pat.TheVariants as pat
use Rattle.fsl_core.specs.declared.expr.Expr.{Expr}
use Rattle.fsl_core.specs.declared.mode.Rung.{Rung}
use Rattle.fsl_core.specs.declared.mode.Rung.TheVariants.{Up, Down}
use Rattle.fsl_core.specs.Values.{with_value}
use Rattle.fsl_meaning.specs.Heaps.{Cell, Permission, Tokens, Bank, Heap, nothing, some_of, Truth, Claim, IsInit, MayWrite, MayRead, MayUpdate, all_in}
use Rattle.fsl_asserted.specs.Exact.{exact, exact_all, exact_cond}

pub record Need : Type 0 where
  pub heap : Heap
  pub claims : List Claim
  pub env : List ℤ

abbrev pub Asks : Type 0
Asks = Rung → List ℤ → Option Need

abbrev pub need : Heap → List Claim → List ℤ → Need
need heap claims env = record { heap = heap; claims = claims; env = env }

abbrev pub only_if : {X : Type 0} → Bool → Option X → Option X
only_if test o = if test then o else None

-- a share is at least 1
abbrev pub positive : ℤ → Option ℕ
positive (pos zero) = None
positive (pos (suc n)) = Some (suc n)
positive (negsuc n) = None

abbrev pub natural : ℤ → Option ℕ
natural (pos n) = Some n
natural (negsuc n) = None

-- a pattern held against what is said of a value
abbrev pub matched : Pat → Option ℤ → List ℤ → Option (List ℤ)
matched pat.Any said xs = Some xs
matched (pat.Bind slot) said xs = with_value said (λ x. Some (slice_set xs slot x))
matched (pat.Is e) said xs = with_value said (λ x. only_if (int_eq x (exact e xs)) (Some xs))

abbrev pub points_asked : Truth → Expr → Expr → Pat → Asks
points_asked t at share pat rung xs =
    with_value (positive (exact share xs)) (λ k. with_value (matched pat (t.value (exact at xs)) xs) (λ ys. Some (need (some_of (Cell rung (exact at xs)) k) [] ys)))

abbrev pub claim_asked : Claim → Asks
claim_asked c rung xs = Some (need nothing (c ∷ []) xs)

abbrev pub acq_asked : Truth → Expr → ℕ → List Expr → ℕ → List Expr → Asks
acq_asked t at inv args part out rung xs =
    only_if (all_in (t.out (exact at xs) part) (exact_all out xs)) (Some (need (some_of (Permission (exact at xs) part) 1) (MayRead (exact at xs) inv (exact_all args xs) ∷ []) xs))

-- the number of the bank of a slot
abbrev pub bank_number : ℕ → List ℤ → ℤ
bank_number bank xs = get_or xs bank (pos 0)

abbrev pub tok_asked : ℕ → Expr → Asks
tok_asked bank n rung xs = with_value (natural (exact n xs)) (λ k. Some (need (some_of (Tokens (bank_number bank xs)) k) [] xs))

abbrev pub auth_asked : Truth → ℕ → Expr → Asks
auth_asked t bank n rung xs = only_if (int_eq (t.bank (bank_number bank xs)) (exact n xs)) (Some (need (some_of (Bank (bank_number bank xs)) 1) [] xs))

abbrev pub both_asked : Need → Need → Need
both_asked n m = need (λ k. n.heap k + m.heap k) (n.claims ++ m.claims) m.env

abbrev pub all_asked : List Asks → Asks
all_asked [] rung xs = Some (need nothing [] xs)
all_asked (a ∷ rest) rung xs = with_value (a rung xs) (λ n. with_value (all_asked rest rung n.env) (λ m. Some (both_asked n m)))

abbrev pub asks_step : Truth → Asrt-F Asks → Asks
asks_step t Asrt-F.Emp rung xs = Some (need nothing [] xs)
asks_step t (Asrt-F.Fact cond) rung xs = only_if (exact_cond cond xs) (Some (need nothing [] xs))
asks_step t (Asrt-F.Points at share pat) rung xs = points_asked t at share pat rung xs
asks_step t (Asrt-F.Init at) rung xs = claim_asked (IsInit rung (exact at xs)) rung xs
asks_step t (Asrt-F.Rel at inst) rung xs = claim_asked (MayWrite (exact at xs) inst.inv (exact_all inst.args xs)) rung xs
asks_step t (Asrt-F.Acq at inst part out) rung xs = acq_asked t at inst.inv inst.args part out rung xs
asks_step t (Asrt-F.RmwAcq at inst) rung xs = claim_asked (MayUpdate (exact at xs) inst.inv (exact_all inst.args xs)) rung xs
asks_step t (Asrt-F.Tok bank n) rung xs = tok_asked bank n rung xs
asks_step t (Asrt-F.Auth bank n) rung xs = auth_asked t bank n rung xs
asks_step t (Asrt-F.Choice cond a b) rung xs = if exact_cond cond xs then a rung xs else b rung xs
asks_step t (Asrt-F.Up a) rung xs = a Up xs
asks_step t (Asrt-F.Down a) rung xs = a Down xs
asks_step t (Asrt-F.Both parts) rung xs = all_asked parts rung xs

abbrev pub asks : Truth → Asrt → Asks
asks t = fold-Asrt Asks (asks_step t)
