-- Token steps one after the other: how many tokens of each bank there may be behind them, and what the thread then has.
use Rattle.std.specs.Prelude.{◌≡◌, ℕ, ◌≤◌, Bool, true, false, List, [], ◌∷◌, ℤ, pos, negsuc, ◌+ℤ◌, ◌-ℤ◌}
use Rattle.fsl_core.specs.declared.act.Step.{Step}
use Rattle.fsl_core.specs.logic.States.{State}
use Rattle.fsl_lin.specs.Numbers.{Numbers}
use Rattle.fsl_meaning.specs.Heaps.{Tokens, Bank, Heap, less, Truth, Ground, IsBounded}
use Rattle.fsl_meaning.specs.States.{All, Fits}
use Rattle.fsl_asserted.specs.Exact.{exact}
use Rattle.fsl_asserted.specs.Needs.{bank_number}
use Rattle.fsl_kept.specs.Changes.{grounded, allowing, with_more}

-- as a number of tokens
abbrev pub amount_of : ℤ → ℕ
amount_of (pos n) = n
amount_of (negsuc n) = 0

-- z more or less
abbrev pub stepped : Bool → ℤ → ℤ → ℤ
stepped true n z = n +ℤ z
stepped false n z = n -ℤ z

abbrev pub tokens_stepped : Bool → ℤ → ℕ → Heap → Heap
tokens_stepped true number n h = with_more h (Tokens number) n
tokens_stepped false number n h = less h (Tokens number) n

abbrev pub step_truth : List ℤ → Step → Truth → Truth
step_truth slots x t = allowing (bank_number x.bank slots) (stepped x.mint (t.bank (bank_number x.bank slots)) (exact x.n slots)) t

abbrev pub step_heap : List ℤ → Step → Heap → Heap
step_heap slots x h = tokens_stepped x.mint (bank_number x.bank slots) (amount_of (exact x.n slots)) h

abbrev pub steps_truth : List ℤ → List Step → Truth → Truth
steps_truth slots [] t = t
steps_truth slots (x ∷ xs) t = steps_truth slots xs (step_truth slots x t)

abbrev pub steps_heap : List ℤ → List Step → Heap → Heap
steps_heap slots [] h = h
steps_heap slots (x ∷ xs) h = steps_heap slots xs (step_heap slots x h)

-- the authority is there, and so are tokens that are burned
pub record MayStep (mint : Bool) (number z : ℤ) (h : Heap) : Type 0 where
  pub is : z ≡ pos (amount_of z)
  pub there : 1 ≤ h (Bank number)
  pub enough : mint ≡ false → amount_of z ≤ h (Tokens number)

abbrev pub AllMayStep : List ℤ → List Step → Heap → Type 0
AllMayStep slots [] h = Unit {0}
AllMayStep slots (x ∷ xs) h = MayStep x.mint (bank_number x.bank slots) (exact x.n slots) h × AllMayStep slots xs (step_heap slots x h)

-- all steps were made
pub record MakesSteps (g : Ground) (slots : List ℤ) (xs : List Step) (h : Heap) (s : State) (w : Numbers) : Type 0 where
  pub may : AllMayStep slots xs h
  pub bounded : IsBounded (steps_truth slots xs g.truth) (steps_heap slots xs h)
  pub fits : Fits slots (All (grounded g (steps_truth slots xs g.truth)) (steps_heap slots xs h)) w s
