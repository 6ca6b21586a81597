-- The events of a thread by their numbers: which they are, and that the last one is the greatest.
use Rattle.std.proofs.Common.{◌≡◌, ◌≤◌, ◌+◌, ℕ, zero, suc, Bool, if◌then◌else◌, ◌==◌, ◌⊎◌, inl, inr, List, [], ◌∷◌, Some, None, slice_get, subst, sym, refl, ap, ◌∙◌, arith}
use Rattle.std.proofs.lemmas.Bool.{cases_Bool, eqb-true, eq-eqb}
use Rattle.fsl_graph.specs.declared.event.Event.{Event}
use Rattle.fsl_graph.specs.Sequenced.{In}
use Rattle.fsl_graph.specs.Execution.{numbered_of}

-- d is the last of these
abbrev pub EndsIn : ℕ → List ℕ → Type 0
EndsIn d [] = ⊥
EndsIn d (x ∷ xs) = ((x ≡ d) × (xs ≡ [])) ⊎ EndsIn d xs

-- xs behind n, where the test says so
abbrev after : Bool → ℕ → List ℕ → List ℕ
after c n xs = if c then n ∷ xs else xs

pub ends_in : (d : ℕ) (xs : List ℕ) → EndsIn d xs → In d xs
ends_in d [] h = elim h [ ]
ends_in d (x ∷ xs) (inl e) = inl (sym e.0)
ends_in d (x ∷ xs) (inr i) = inr (ends_in d xs i)

-- event i of a list is among those of its thread
pub of_thread : (t n b i : ℕ) (xs : List Event) (y : Event) → slice_get xs i ≡ Some y → y.thread ≡ t → b ≡ n + i → In b (numbered_of t n xs)
of_thread t n b i [] y h s e = absurd (let f : None ≡ Some y = h in cc)
of_thread t n b zero (x ∷ xs) y h s e =
    let f : Some x ≡ Some y = h in
    let k : x ≡ y = cc in
    let q : x.thread ≡ t = ap (λ (z : Event). z.thread) k ∙ s in
    let m : b ≡ n = omega arith in
    subst (λ (c : Bool). In b (after c n (numbered_of t (suc n) xs))) (sym (eq-eqb x.thread t q)) (inl m)
of_thread t n b (suc i) (x ∷ xs) y h s e =
    let r = of_thread t (suc n) b i xs y h s (omega arith) in
    elim (cases_Bool (x.thread == t)) [
      | inl a ↦ subst (λ (c : Bool). In b (after c n (numbered_of t (suc n) xs))) (sym a) (inr r)
      | inr a ↦ subst (λ (c : Bool). In b (after c n (numbered_of t (suc n) xs))) (sym a) r
    ]

pub record IsOf (t n : ℕ) (xs : List Event) (b : ℕ) : Type 0 where
  pub index : ℕ
  pub event : Event
  pub number : b ≡ n + index
  pub is : slice_get xs index ≡ Some event
  pub thread : event.thread ≡ t

of_more : (t n : ℕ) (x : Event) (xs : List Event) (b : ℕ) → IsOf t (suc n) xs b → IsOf t n (x ∷ xs) b
of_more t n x xs b h = let e = h.number in record { index = suc h.index; event = h.event; number = omega arith; is = h.is; thread = h.thread }

-- and only such are among them
pub thread_of_number : (t n : ℕ) (xs : List Event) (b : ℕ) → In b (numbered_of t n xs) → IsOf t n xs b
thread_of_number t n [] b i = elim i [ ]
thread_of_number t n (x ∷ xs) b i = elim (cases_Bool (x.thread == t)) [
  | inl a ↦
      let j : (b ≡ n) ⊎ In b (numbered_of t (suc n) xs) = subst (λ (c : Bool). In b (after c n (numbered_of t (suc n) xs))) a i in
      elim j [
        | inl e ↦ record { index = 0; event = x; number = omega arith; is = refl; thread = eqb-true x.thread t a }
        | inr k ↦ of_more t n x xs b (thread_of_number t (suc n) xs b k)
      ]
  | inr a ↦ of_more t n x xs b (thread_of_number t (suc n) xs b
      (subst (λ (c : Bool). In b (after c n (numbered_of t (suc n) xs))) a i))
]

greatest_first : (t n : ℕ) (xs : List Event) (d b : ℕ) → (EndsIn d (numbered_of t (suc n) xs) → In b (numbered_of t (suc n) xs) → b ≤ d)
    → (b ≡ n) ⊎ In b (numbered_of t (suc n) xs) → EndsIn d (n ∷ numbered_of t (suc n) xs) → b ≤ d
greatest_first t n xs d b f (inl e) (inl k) = let l = k.0 in omega arith
greatest_first t n xs d b f (inl e) (inr k) =
    let o = thread_of_number t (suc n) xs d (ends_in d (numbered_of t (suc n) xs) k) in
    let m = o.number in
    omega arith
greatest_first t n xs d b f (inr j) (inl k) = elim (subst (λ (ys : List ℕ). In b ys) k.1 j) [ ]
greatest_first t n xs d b f (inr j) (inr k) = f k j

-- the last of them is the greatest
pub greatest : (t n : ℕ) (xs : List Event) (d b : ℕ) → EndsIn d (numbered_of t n xs) → In b (numbered_of t n xs) → b ≤ d
greatest t n [] d b h i = elim i [ ]
greatest t n (x ∷ xs) d b h i = elim (cases_Bool (x.thread == t)) [
  | inl a ↦
      let j : (b ≡ n) ⊎ In b (numbered_of t (suc n) xs) = subst (λ (c : Bool). In b (after c n (numbered_of t (suc n) xs))) a i in
      let k : EndsIn d (n ∷ numbered_of t (suc n) xs) = subst (λ (c : Bool). EndsIn d (after c n (numbered_of t (suc n) xs))) a h in
      greatest_first t n xs d b (greatest t (suc n) xs d b) j k
  | inr a ↦ greatest t (suc n) xs d b
      (subst (λ (c : Bool). EndsIn d (after c n (numbered_of t (suc n) xs))) a h)
      (subst (λ (c : Bool). In b (after c n (numbered_of t (suc n) xs))) a i)
]
