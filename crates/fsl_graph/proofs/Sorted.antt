-- Members of a list put into a forward order, one first member after the other.
use Rattle.std.proofs.Common.{◌≡◌, ◌<◌, ◌≤◌, ℕ, zero, suc, Bool, ◌⊎◌, inl, inr, List, [], ◌∷◌, length, subst, sym, arith}
use Rattle.std.specs.Bool.{Decides}
use Rattle.std.proofs.lemmas.Bool.{cases_eq}
use Rattle.fsl_graph.specs.Sequenced.{Relation, Path, In}
use Rattle.fsl_graph.specs.Orders.{IsForwardFrom}
use Rattle.fsl_graph.proofs.Reach.{reach_edge, reach_path, first_of}

-- x before xs, but where it is m
abbrev kept : (x m : ℕ) → (x ≡ m) ⊎ (x ≡ m → ⊥) → List ℕ → List ℕ
kept x m (inl s) xs = xs
kept x m (inr d) xs = x ∷ xs

-- the members but m
abbrev without : ℕ → List ℕ → List ℕ
without m [] = []
without m (x ∷ xs) = kept x m (cases_eq x m) (without m xs)

kept_in : (x m : ℕ) (c : (x ≡ m) ⊎ (x ≡ m → ⊥)) (xs : List ℕ) (y : ℕ) → In y (kept x m c xs) → (y ≡ x) × (y ≡ m → ⊥) ⊎ In y xs
kept_in x m (inl s) xs y i = inr i
kept_in x m (inr d) xs y (inl e) = inl (e, λ s. d (cc))
kept_in x m (inr d) xs y (inr i) = inr i

in_kept : (x m : ℕ) (c : (x ≡ m) ⊎ (x ≡ m → ⊥)) (xs : List ℕ) (y : ℕ) → (y ≡ m → ⊥) → (y ≡ x) ⊎ In y xs → In y (kept x m c xs)
in_kept x m (inl s) xs y n (inl e) = absurd (n (cc))
in_kept x m (inl s) xs y n (inr i) = i
in_kept x m (inr d) xs y n i = i

kept_length : (x m : ℕ) (c : (x ≡ m) ⊎ (x ≡ m → ⊥)) (xs : List ℕ) → length (kept x m c xs) ≤ suc (length xs)
kept_length x m (inl s) xs = omega arith
kept_length x m (inr d) xs = omega arith

without_in : (m : ℕ) (xs : List ℕ) (y : ℕ) → In y (without m xs) → In y xs × (y ≡ m → ⊥)
without_in m [] y i = elim i [ ]
without_in m (x ∷ xs) y i = elim (kept_in x m (cases_eq x m) (without m xs) y i) [
  | inl p ↦ (inl p.0, p.1)
  | inr j ↦ let p = without_in m xs y j in (inr p.0, p.1)
]

in_without : (m : ℕ) (xs : List ℕ) (y : ℕ) → In y xs → (y ≡ m → ⊥) → In y (without m xs)
in_without m [] y i n = elim i [ ]
in_without m (x ∷ xs) y (inl e) n = in_kept x m (cases_eq x m) (without m xs) y n (inl e)
in_without m (x ∷ xs) y (inr i) n = in_kept x m (cases_eq x m) (without m xs) y n (inr (in_without m xs y i n))

without_length : (m : ℕ) (xs : List ℕ) → length (without m xs) ≤ length xs
without_length m [] = omega arith
without_length m (x ∷ xs) = let h = without_length m xs in let k = kept_length x m (cases_eq x m) (without m xs) in omega arith

-- it takes some away, where there are
kept_less : (x m : ℕ) (c : (x ≡ m) ⊎ (x ≡ m → ⊥)) (xs : List ℕ) → x ≡ m → length (kept x m c xs) ≤ length xs
kept_less x m (inl s) xs e = omega arith
kept_less x m (inr d) xs e = absurd (d e)

without_less : (m : ℕ) (xs : List ℕ) → In m xs → length (without m xs) < length xs
without_less m [] i = elim i [ ]
without_less m (x ∷ xs) (inl e) =
    let h = without_length m xs in
    let k = kept_less x m (cases_eq x m) (without m xs) (sym e) in
    omega arith
without_less m (x ∷ xs) (inr i) = let h = without_less m xs i in let k = kept_length x m (cases_eq x m) (without m xs) in omega arith

-- what is to be put in order behind what is done
pub record IsLeft (R : Relation) (vs done xs : List ℕ) : Type 0 where
  pub listed : (y : ℕ) → In y xs → In y vs
  pub before : (a b : ℕ) → R a b → In b xs → In a done ⊎ In a xs
  pub apart : (y : ℕ) → In y xs → In y done → ⊥

pub record IsSorted (R : Relation) (done xs order : List ℕ) : Type 0 where
  pub forward : IsForwardFrom R done order
  pub every : (y : ℕ) → In y xs → In y order
  pub only : (y : ℕ) → In y order → In y xs

left_next : (R : Relation) (vs done xs : List ℕ) (m : ℕ) → IsLeft R vs done xs → IsLeft R vs (m ∷ done) (without m xs)
left_next R vs done xs m l = record {
  listed = λ y i. l.listed y (without_in m xs y i).0;
  before = λ a b r i. elim (l.before a b r (without_in m xs b i).0) [
    | inl d ↦ inl (inr d)
    | inr x ↦ elim (cases_eq a m) [ inl s ↦ inl (inl s) | inr n ↦ inr (in_without m xs a x n) ]
  ];
  apart = λ y i d. let p = without_in m xs y i in elim d [ inl s ↦ p.1 s | inr j ↦ l.apart y p.0 j ];
}

-- the first one, and then the others
sorted_next : (R : Relation) (done xs order : List ℕ) (m : ℕ) → In m xs → ((a : ℕ) → R a m → In a done) → (In m done → ⊥)
    → IsSorted R (m ∷ done) (without m xs) order → IsSorted R done xs (m ∷ order)
sorted_next R done xs order m i before fresh s = record {
  forward = (before, fresh, s.forward);
  every = λ y j. elim (cases_eq y m) [ inl e ↦ inl e | inr n ↦ inr (s.every y (in_without m xs y j n)) ];
  only = λ y j. elim j [ inl e ↦ subst (λ (n : ℕ). In n xs) (sym e) i | inr k ↦ (without_in m xs y (s.only y k)).0 ];
}

pub sorted : (R : Relation) (e : ℕ → ℕ → Bool) → ((a b : ℕ) → Decides (e a b) (R a b)) → ((a : ℕ) → Path R a a → ⊥)
    → (vs : List ℕ) (n : ℕ) (done xs : List ℕ) → length xs ≤ n → IsLeft R vs done xs → (order : List ℕ) × IsSorted R done xs order
sorted R e d acyclic vs n done [] short l = ([], record { forward = tt; every = λ y i. i; only = λ y i. i })
sorted R e d acyclic vs zero done (x ∷ xs) short l = absurd (omega arith)
sorted R e d acyclic vs (suc n) done (x ∷ xs) short l =
    let p = first_of e vs (λ a h. acyclic a (reach_path R e d vs a a h)) x xs l.listed in
    let less : length (without p.0 (x ∷ xs)) < length (x ∷ xs) = without_less p.0 (x ∷ xs) p.1.among in
    let rest = sorted R e d acyclic vs n (p.0 ∷ done) (without p.0 (x ∷ xs)) (omega arith) (left_next R vs done (x ∷ xs) p.0 l) in (
      p.0 ∷ rest.0,
      sorted_next R done (x ∷ xs) rest.0 p.0 p.1.among
          (λ a r. elim (l.before a p.0 r p.1.among) [ inl i ↦ i | inr i ↦ absurd (p.1.first a i (reach_edge e vs a p.0 ((d a p.0).1 r))) ])
          (l.apart p.0 p.1.among) rest.1,
    )
