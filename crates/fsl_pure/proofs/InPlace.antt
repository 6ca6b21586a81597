-- Arrays whose places are changed one by one.
use Rattle.std.proofs.Common.{◌≡◌, ℕ, ◌+◌, ◌<◌, ◌≤◌, inl, inr, List, length, set, ℤ, pos, refl, sym, ap, subst, ◌∙◌, arith}
use Rattle.std.proofs.lemmas.Int.{ints}
use Rattle.std.proofs.lemmas.List.{length-set, get_or-set_same, get_or-set_other, get_or_past}
use Rattle.std.proofs.lemmas.Bool.{cases_eq, cases_lt}
use Rattle.fsl_lin.specs.Numbers.{listed}
use Rattle.fsl_lin.specs.Sizes.{IsSize}

-- f was put in place before i, and from there on all is as it was
pub record InPlace (f : ℕ → ℤ → ℤ) (bound : ℕ) (old now : List ℤ) (i : ℕ) : Type 0 where
  pub long : length now ≡ length old
  pub done : (j : ℕ) → j < i → listed now j ≡ f j (listed old j)
  pub left : (j : ℕ) → i ≤ j → listed now j ≡ listed old j
  pub size : (j : ℕ) → j < i → IsSize bound (listed now j)

pub in_place_start : (f : ℕ → ℤ → ℤ) (bound : ℕ) (old : List ℤ) → InPlace f bound old old 0
in_place_start f bound old = record {
  long = refl;
  done = λ j h. absurd (omega arith);
  left = λ j h. refl;
  size = λ j h. absurd (omega arith);
}

pub in_place_step : {f : ℕ → ℤ → ℤ} {bound : ℕ} {old now : List ℤ} {i : ℕ} (x : ℤ) → InPlace f bound old now i → i < length now
    → x ≡ f i (listed now i) → IsSize bound x → InPlace f bound old (set now i x) (i + 1)
in_place_step {f = f} {bound = bound} {old = old} {now = now} {i = i} x h within is size =
    let same : listed (set now i x) i ≡ x = get_or-set_same now i x (pos 0) within in
    record {
      long = length-set now i x ∙ h.long;
      done = λ j k. elim (cases_eq j i) [
        | inl e ↦ ap (listed (set now i x)) e ∙ same ∙ is ∙ ap (f i) (h.left i (omega arith)) ∙ sym (ap (λ (m : ℕ). f m (listed old m)) e)
        | inr d ↦ get_or-set_other now i j x (pos 0) d ∙ h.done j (omega arith)
      ];
      left = λ j k. get_or-set_other now i j x (pos 0) (λ e. let s : j ≡ i = e in omega arith) ∙ h.left j (omega arith);
      size = λ j k. elim (cases_eq j i) [
        | inl e ↦ subst (IsSize bound) (sym (ap (listed (set now i x)) e ∙ same)) size
        | inr d ↦ subst (IsSize bound) (sym (get_or-set_other now i j x (pos 0) d)) (h.size j (omega arith))
      ];
    }

pub in_place_end : {f : ℕ → ℤ → ℤ} {bound : ℕ} {old now : List ℤ} {i : ℕ} → InPlace f bound old now i → length now ≤ i
    → ((j : ℕ) → length now ≤ j → f j (pos 0) ≡ pos 0) → (j : ℕ) → listed now j ≡ f j (listed old j)
in_place_end {f = f} {bound = bound} {old = old} {now = now} {i = i} h whole zero j = elim (cases_lt j i) [
  | inl l ↦ h.done j l
  | inr l ↦
      let past : listed now j ≡ pos 0 = get_or_past now j (pos 0) (omega arith) in
      past ∙ sym (zero j (omega arith)) ∙ ap (f j) (sym past ∙ h.left j l)
]

pub in_place_sizes : {f : ℕ → ℤ → ℤ} {bound : ℕ} {old now : List ℤ} {i : ℕ} → InPlace f bound old now i → length now ≤ i
    → (j : ℕ) → IsSize bound (listed now j)
in_place_sizes {f = f} {bound = bound} {old = old} {now = now} {i = i} h whole j = elim (cases_lt j i) [
  | inl l ↦ h.size j l
  | inr l ↦
      let past : listed now j ≡ pos 0 = get_or_past now j (pos 0) (omega arith) in
      rw past (record { low = omega (arith, ints); high = omega (arith, ints) })
]
