-- Paths along a relation, put together and followed.
use Rattle.std.proofs.Common.{◌≡◌, ℕ, ◌⊎◌, inl, inr, List, [], ◌∷◌, ◌++◌, subst, sym}
use Rattle.fsl_graph.specs.Sequenced.{Relation, Path, In}
use Rattle.fsl_graph.specs.Sequenced.Path.{one, more}
use Rattle.fsl_graph.specs.Orders.{IsClosed, IsForwardFrom}

pub path_append : {R : Relation} {a b c : ℕ} → Path R a b → Path R b c → Path R a c
path_append (one r) q = more r q
path_append (more r p) q = more r (path_append p q)

-- a path along R is one along S, where each step is a path along S
pub path_map : {R S : Relation} → ((a b : ℕ) → R a b → Path S a b) → {a b : ℕ} → Path R a b → Path S a b
path_map f (one r) = f _ _ r
path_map f (more r p) = path_append (f _ _ r) (path_map f p)

-- none or more steps, and then a path; and the other way round
pub path_behind : {R : Relation} {a b c : ℕ} → (a ≡ b) ⊎ Path R a b → Path R b c → Path R a c
path_behind {R = R} {c = c} (inl e) p = subst (λ (n : ℕ). Path R n c) (sym e) p
path_behind (inr q) p = path_append q p

pub path_before : {R : Relation} {a b c : ℕ} → Path R a b → (b ≡ c) ⊎ Path R b c → Path R a c
path_before {R = R} {a = a} p (inl e) = subst (λ (n : ℕ). Path R a n) e p
path_before p (inr q) = path_append p q

-- what is closed under the steps is closed under paths
pub closed_path : {R : Relation} (done : List ℕ) → IsClosed R done → (a b : ℕ) → Path R a b → In b done → In a done
closed_path done c a b (one r) h = c _ _ r h
closed_path done c a b (more r p) h = c _ _ r (closed_path done c _ _ p h)

pub closed_more : {R : Relation} (done : List ℕ) (b : ℕ) → IsClosed R done → ((a : ℕ) → R a b → In a done) → IsClosed R (b ∷ done)
closed_more {R = R} done b c f x y r (inl e) = inr (f x (subst (λ (n : ℕ). R x n) e r))
closed_more done b c f x y r (inr i) = inr (c x y r i)

pub in_left : (x : ℕ) (xs ys : List ℕ) → In x xs → In x (xs ++ ys)
in_left x [] ys i = elim i [ ]
in_left x (z ∷ xs) ys (inl e) = inl e
in_left x (z ∷ xs) ys (inr i) = inr (in_left x xs ys i)

pub in_right : (x : ℕ) (xs ys : List ℕ) → In x ys → In x (xs ++ ys)
in_right x [] ys i = i
in_right x (z ∷ xs) ys i = inr (in_right x xs ys i)

pub in_parts : (x : ℕ) (xs ys : List ℕ) → In x (xs ++ ys) → In x xs ⊎ In x ys
in_parts x [] ys i = inr i
in_parts x (z ∷ xs) ys (inl e) = inl (inl e)
in_parts x (z ∷ xs) ys (inr i) = elim (in_parts x xs ys i) [ inl l ↦ inl (inr l) | inr r ↦ inr r ]

-- whatever leads to an event of the part that goes forward is done, or stands in it too
pub forward_from : (R : Relation) (done front back : List ℕ) → IsForwardFrom R done (front ++ back) → (a b : ℕ) → R a b → In b front → In a done ⊎ In a front
forward_from R done [] back f a b r i = elim i [ ]
forward_from R done (x ∷ front) back f a b r (inl e) = inl (f.0 a (subst (λ (n : ℕ). R a n) e r))
forward_from R done (x ∷ front) back f a b r (inr i) = elim (forward_from R (x ∷ done) front back f.2 a b r i) [
  | inl (inl e) ↦ inr (inl e)
  | inl (inr d) ↦ inl d
  | inr j ↦ inr (inr j)
]
