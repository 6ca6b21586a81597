-- The two ends of a difference.
use Rattle.std.proofs.Common.{ℕ, zero, suc, ◌≤◌, Bool, true, false, cond, ◌&&◌, eqb, List, ℤ, pos, negsuc, neg_ℤ, Option, Some, None, IfSome, subst, arith}
use Rattle.std.specs.Ordering.{int_eq}
use Rattle.fsl_lin.specs.declared.edge.Edge.{Edge}
use Rattle.fsl_lin.specs.Numbers.{Numbers, most, listed}
use Rattle.fsl_lin.specs.Facts.{end_at, ends, edge_from, edge_of}
use Rattle.fsl_lin.proofs.Arrays.{most_is}

-- ends of at most this place
abbrev AreEnds : ℕ → Option (ℕ × ℕ) → Type 0
AreEnds k o = IfSome o (λ p. (p.0 ≤ k) × (p.1 ≤ k))

end_within : (k x y : ℕ) (zero one first less second : Bool) → x ≤ k → y ≤ k
    → AreEnds (suc k) (cond zero (Some (x, y)) (cond (one && first) (Some (suc k, y)) (cond (less && second) (Some (x, suc k)) None)))
end_within k x y true one first less second h l = (omega arith, omega arith)
end_within k x y false true true less second h l = (omega arith, omega arith)
end_within k x y false true false true true h l = (omega arith, omega arith)
end_within k x y false true false true false h l = tt
end_within k x y false true false false second h l = tt
end_within k x y false false first true true h l = (omega arith, omega arith)
end_within k x y false false first true false h l = tt
end_within k x y false false first false second h l = tt

end_at_within : (c : ℤ) (k : ℕ) (o : Option (ℕ × ℕ)) → AreEnds k o → AreEnds (suc k) (end_at c (suc k) o)
end_at_within c k None h = tt
end_at_within c k (Some (x, y)) h = end_within k x y (int_eq c (pos 0)) (int_eq c (pos 1)) (eqb x 0) (int_eq c (negsuc 0)) (eqb y 0) h.0 h.1

pub ends_within : (k : ℕ) (n : Numbers) → AreEnds k (ends k n)
ends_within zero n = (omega arith, omega arith)
ends_within (suc k) n = end_at_within (n (suc k)) k (ends k n) (ends_within k n)

edge_picked : (k x y : ℕ) (c : ℤ) (b : Bool) → (x ≤ k) × (y ≤ k)
    → IfSome (cond b None (Some (let e : Edge = record { from = x; to = y; bound = c } in e))) (λ e. (e.from ≤ k) × (e.to ≤ k))
edge_picked k x y c true h = tt
edge_picked k x y c false h = h

edge_in : (k : ℕ) (c : ℤ) (o : Option (ℕ × ℕ)) → AreEnds k o → IfSome (edge_from c o) (λ e. (e.from ≤ k) × (e.to ≤ k))
edge_in k c None h = tt
edge_in k c (Some (x, y)) h = edge_picked k x y (neg_ℤ c) (eqb x 0 && eqb y 0) h

pub edge_within : (ns : List ℤ) → IfSome (edge_of (listed ns)) (λ e. (e.from ≤ 512) × (e.to ≤ 512))
edge_within ns =
    subst (λ (k : ℕ). IfSome (edge_of (listed ns)) (λ e. (e.from ≤ k) × (e.to ≤ k))) most_is
    (edge_in most (listed ns 0) (ends most (listed ns)) (ends_within most (listed ns)))
