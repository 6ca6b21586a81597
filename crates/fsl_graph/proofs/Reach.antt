-- Which members of a list lead to one another, as a test, and the first of some: one that no other leads to.
use Rattle.std.proofs.Common.{◌≡◌, ℕ, Bool, true, ◌&&◌, ◌||◌, inl, inr, List, [], ◌∷◌, subst, refl}
use Rattle.std.specs.Bool.{Decides}
use Rattle.std.proofs.lemmas.Bool.{or_cases, or_left, or_right, and_parts, and_from, cases_Bool}
use Rattle.fsl_graph.specs.Sequenced.{Relation, Path, In}
use Rattle.fsl_graph.specs.Sequenced.Path.{one}
use Rattle.fsl_graph.proofs.Paths.{path_append}

-- a path from a to b whose inner nodes are among these
abbrev pub reach : (ℕ → ℕ → Bool) → List ℕ → ℕ → ℕ → Bool
reach e [] a b = e a b
reach e (v ∷ vs) a b = reach e vs a b || (reach e vs a v && reach e vs v b)

pub reach_edge : (e : ℕ → ℕ → Bool) (vs : List ℕ) (a b : ℕ) → e a b ≡ true → reach e vs a b ≡ true
reach_edge e [] a b h = h
reach_edge e (v ∷ vs) a b h = or_left (reach e vs a b) _ (reach_edge e vs a b h)

pub reach_path : (R : Relation) (e : ℕ → ℕ → Bool) → ((a b : ℕ) → Decides (e a b) (R a b)) → (vs : List ℕ) (a b : ℕ) → reach e vs a b ≡ true → Path R a b
reach_path R e d [] a b h = one ((d a b).0 h)
reach_path R e d (v ∷ vs) a b h = elim (or_cases (reach e vs a b) (reach e vs a v && reach e vs v b) h) [
  | inl l ↦ reach_path R e d vs a b l
  | inr r ↦
      let p = and_parts (reach e vs a v) (reach e vs v b) r in
      path_append (reach_path R e d vs a v p.0) (reach_path R e d vs v b p.1)
]

-- through the node that was listed last
reach_through : (e : ℕ → ℕ → Bool) (v : ℕ) (vs : List ℕ) (a b : ℕ) → reach e vs a v ≡ true → reach e vs v b ≡ true → reach e (v ∷ vs) a b ≡ true
reach_through e v vs a b h k = or_right (reach e vs a b) _ (and_from (reach e vs a v) (reach e vs v b) h k)

-- what leads to the node that was listed last, does so by the others
reach_to : (e : ℕ → ℕ → Bool) (v : ℕ) (vs : List ℕ) (a : ℕ) → reach e (v ∷ vs) a v ≡ true → reach e vs a v ≡ true
reach_to e v vs a h = elim (or_cases (reach e vs a v) (reach e vs a v && reach e vs v v) h) [
  | inl l ↦ l
  | inr r ↦ (and_parts (reach e vs a v) (reach e vs v v) r).0
]

reach_on : (e : ℕ → ℕ → Bool) (v : ℕ) (vs : List ℕ) (b : ℕ) → reach e (v ∷ vs) v b ≡ true → reach e vs v b ≡ true
reach_on e v vs b h = elim (or_cases (reach e vs v b) (reach e vs v v && reach e vs v b) h) [
  | inl l ↦ l
  | inr r ↦ (and_parts (reach e vs v v) (reach e vs v b) r).1
]

-- paths go on at each listed node
pub reach_more : (e : ℕ → ℕ → Bool) (vs : List ℕ) (a v b : ℕ) → In v vs → reach e vs a v ≡ true → reach e vs v b ≡ true → reach e vs a b ≡ true
reach_more e [] a v b i h k = elim i [ ]
reach_more e (w ∷ ws) a v b (inl s) h k =
    let x = subst (λ (n : ℕ). reach e (w ∷ ws) a n ≡ true) s h in
    let y = subst (λ (n : ℕ). reach e (w ∷ ws) n b ≡ true) s k in
    reach_through e w ws a b (reach_to e w ws a x) (reach_on e w ws b y)
reach_more e (w ∷ ws) a v b (inr i) h k = elim (or_cases (reach e ws a v) (reach e ws a w && reach e ws w v) h) [
  | inl l ↦ elim (or_cases (reach e ws v b) (reach e ws v w && reach e ws w b) k) [
    | inl m ↦ or_left (reach e ws a b) _ (reach_more e ws a v b i l m)
    | inr m ↦
        let p = and_parts (reach e ws v w) (reach e ws w b) m in
        reach_through e w ws a b (reach_more e ws a v w i l p.0) p.1
  ]
  | inr l ↦
      let p = and_parts (reach e ws a w) (reach e ws w v) l in
      elim (or_cases (reach e ws v b) (reach e ws v w && reach e ws w b) k) [
        | inl m ↦ reach_through e w ws a b p.0 (reach_more e ws w v b i p.1 m)
        | inr m ↦ reach_through e w ws a b p.0 (and_parts (reach e ws v w) (reach e ws w b) m).1
      ]
]

-- m is one of xs, and none of them leads to it
pub record IsFirst (e : ℕ → ℕ → Bool) (vs xs : List ℕ) (m : ℕ) : Type 0 where
  pub among : In m xs
  pub first : (y : ℕ) → In y xs → reach e vs y m ≡ true → ⊥

-- where nothing leads to itself, some member of a list is its first
pub first_of : (e : ℕ → ℕ → Bool) (vs : List ℕ) → ((a : ℕ) → reach e vs a a ≡ true → ⊥)
    → (x : ℕ) (xs : List ℕ) → ((y : ℕ) → In y (x ∷ xs) → In y vs) → (m : ℕ) × IsFirst e vs (x ∷ xs) m
first_of e vs n x [] all = (
  x,
  record {
    among = inl refl;
    first = λ y i h. elim i [ inl s ↦ n x (subst (λ (z : ℕ). reach e vs z x ≡ true) s h) | inr j ↦ elim j [ ] ];
  },
)
first_of e vs n x (z ∷ xs) all =
    let p = first_of e vs n z xs (λ y i. all y (inr i)) in
    elim (cases_Bool (reach e vs x p.0)) [
      | inl t ↦ (
        x,
        record {
          among = inl refl;
          first = λ y i h. elim i [
            | inl s ↦ n x (subst (λ (z : ℕ). reach e vs z x ≡ true) s h)
            | inr j ↦ p.1.first y j (reach_more e vs y x p.0 (all x (inl refl)) h t)
          ];
        },
      )
      | inr f ↦ (
        p.0,
        record {
          among = inr p.1.among;
          first = λ y i h. elim i [
            | inl s ↦ absurd (let k = subst (λ (z : ℕ). reach e vs z p.0 ≡ true) s h in let g = f in cc)
            | inr j ↦ p.1.first y j h
          ];
        },
      )
    ]
