-- Graphs whose first thread starts two others by one Fork and waits for both by one Join, where all return 0.
use Rattle.std.proofs.Common.{◌≡◌, ◌<◌, ℕ, zero, suc, true, inl, inr, List, [], ◌∷◌, Some, None, slice_get, ℤ, pos, refl, sym, ap, subst, ◌∙◌, arith}
use Rattle.fsl_core.specs.declared.label.Ended.{Ended}
use Rattle.fsl_core.specs.declared.label.Label.TheVariants as label
use Rattle.fsl_core.specs.Moves.{returned}
use Rattle.fsl_graph.specs.declared.event.Event.{Event}
use Rattle.fsl_graph.specs.declared.graph.Graph.{Graph}
use Rattle.fsl_graph.specs.Events.{Is}
use Rattle.fsl_graph.specs.Execution.{Starts, Awaits}
use Rattle.fsl_graph.specs.Graphs.{does}
use Rattle.fsl_graph.specs.Sequenced.{In}
use Rattle.fsl_graph.proofs.Threads.{one_event}
use Rattle.fsl_graph_examples.proofs.Testing.{is_fork, is_join, only_at, only_is}

abbrev pub the_fork : Event
the_fork = does 0 (label.Fork (1 ∷ 2 ∷ []))

abbrev pub both_ended : List Ended
both_ended = record { thread = 1; value = pos 0 } ∷ record { thread = 2; value = pos 0 } ∷ []

abbrev pub the_join : Event
the_join = does 0 (label.Join both_ended)

pub no_zero : In 0 (1 ∷ 2 ∷ []) → ⊥
no_zero (inl e) = absurd (omega (arith, e))
no_zero (inr (inl e)) = absurd (omega (arith, e))
no_zero (inr (inr i)) = elim i [ ]

-- ---- event k is the Fork

pub starts_two : (g : Graph) (k : ℕ) → only_at is_fork k g ≡ true → Is g k the_fork → (e t : ℕ) → Starts g e t → (e ≡ k) × In t (1 ∷ 2 ∷ [])
starts_two g k alone there e t s =
    let at : e ≡ k = only_is is_fork k g e s.event alone s.is (ap is_fork s.forks) in
    let same : the_fork ≡ s.event = one_event g k the_fork s.event there (subst (λ (n : ℕ). Is g n s.event) at s.is) in
    let f : label.Fork (1 ∷ 2 ∷ []) ≡ label.Fork s.children = ap (λ (x : Event). x.label) same ∙ s.forks in
    let c : 1 ∷ 2 ∷ [] ≡ s.children = cc in
    (at, subst (λ (xs : List ℕ). In t xs) (sym c) s.child)

pub forks_two : (g : Graph) (k : ℕ) → Is g k the_fork → (t : ℕ) → 0 < t → t < 3 → (e : ℕ) × Starts g e t
forks_two g k there t a b = (k, record { event = the_fork; is = there; children = 1 ∷ 2 ∷ []; forks = refl; child = one_or_two t a b })
  where
    one_or_two : (t : ℕ) → 0 < t → t < 3 → In t (1 ∷ 2 ∷ [])
    one_or_two zero a b = absurd (omega (arith, a))
    one_or_two (suc zero) a b = inl refl
    one_or_two (suc (suc zero)) a b = inr (inl refl)
    one_or_two (suc (suc (suc t))) a b = absurd (omega (arith, b))

-- ---- event k is the Join

ended_with : (i : ℕ) (r : Ended) → slice_get both_ended i ≡ Some r → (r.thread < 3) × (r.value ≡ pos 0)
ended_with zero r h = let f : Some (record { thread = 1; value = pos 0 }) ≡ Some r = h in let same : record { thread = 1; value = pos 0 } ≡ r = cc in
    (subst (λ (z : Ended). z.thread < 3) same (omega arith), subst (λ (z : Ended). z.value ≡ pos 0) same refl)
ended_with (suc zero) r h = let f : Some (record { thread = 2; value = pos 0 }) ≡ Some r = h in let same : record { thread = 2; value = pos 0 } ≡ r = cc in
    (subst (λ (z : Ended). z.thread < 3) same (omega arith), subst (λ (z : Ended). z.value ≡ pos 0) same refl)
ended_with (suc (suc i)) r h = absurd (let f : None ≡ Some r = h in cc)

pub joins_two : (g : Graph) (k : ℕ) → only_at is_join k g ≡ true → Is g k the_join → (e t : ℕ) (v : ℤ) → Awaits g e t v → (t < 3) × (returned (pos 0) ≡ returned v)
joins_two g k alone there e t v a =
    let at : e ≡ k = only_is is_join k g e a.event alone a.is (ap is_join a.joins) in
    let same : the_join ≡ a.event = one_event g k the_join a.event there (subst (λ (n : ℕ). Is g n a.event) at a.is) in
    let f : label.Join both_ended ≡ label.Join a.results = ap (λ (x : Event). x.label) same ∙ a.joins in
    let c : both_ended ≡ a.results = cc in
    let r = ended_with a.entry a.ended (subst (λ (xs : List Ended). slice_get xs a.entry ≡ Some a.ended) (sym c) a.among) in
    (subst (λ (n : ℕ). n < 3) a.thread r.0, ap returned (sym r.1 ∙ a.value))
