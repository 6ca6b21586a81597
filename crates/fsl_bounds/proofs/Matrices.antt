-- The rows of a matrix say what `least` says, and stay a matrix with one more edge.
use Rattle.std.proofs.Common.{◌≡◌, ℕ, zero, suc, ◌<◌, ◌≤◌, Bool, true, false, cond, eqb, ltb, inl, inr, List, [], ◌∷◌, length, get_or, Option, Some, None, IfSome, ℤ, pos, refl, ap, sym, subst, ◌∙◌, arith}
use Rattle.std.proofs.lemmas.Int.{ints}
use Rattle.std.proofs.lemmas.Bool.{cases_lt, lt-ltb, le-ltb, ne_eqb, cond-true, cond-false}
use Rattle.std.proofs.lemmas.List.{get_or_past}
use Rattle.std.proofs.lemmas.List.Elements.{All-cons, All-nil}
use Rattle.fsl_lin.specs.declared.edge.Edge.{Edge}
use Rattle.fsl_lin.specs.Walks.{Totals, lesser, through, with_edge, is_below, least, closes}
use Rattle.fsl_bounds.specs.Matrix.{nodes_of, entry, Closed, IsSmall, AreSmall, IsSmallEdge, AreRowsAfter, IsMatrix}
use Rattle.fsl_bounds.proofs.Least.{feasible_more, least_closed}
use Rattle.fsl_bounds.proofs.Range.{least_size}

lesser_none : (o p : Option ℤ) → p ≡ None → lesser o p ≡ o
lesser_none None p h = h
lesser_none (Some a) p h = rw h refl

through_none : (o : Option ℤ) (c : ℤ) (p : Option ℤ) → p ≡ None → through o c p ≡ None
through_none None c p h = refl
through_none (Some a) c p h = rw h refl

-- no walk leads to a node that no edge names, but from itself
into_outside : (es : List Edge) (u v : ℕ) → nodes_of es ≤ v → (u ≡ v → ⊥) → least es u v ≡ None
into_outside [] u v h k = cond-false (eqb u v) (Some (pos 0)) None (ne_eqb u v k)
into_outside (e ∷ es) u v h k =
    let on : least es e.to v ≡ None = into_outside es e.to v (omega arith) (λ s. let t : e.to ≡ v = s in omega arith) in
    lesser_none (least es u v) (through (least es u e.from) e.bound (least es e.to v)) (through_none (least es u e.from) e.bound (least es e.to v) on)
    ∙ into_outside es u v (omega arith) k

from_outside : (es : List Edge) (u v : ℕ) → nodes_of es ≤ u → least es u v ≡ cond (eqb u v) (Some (pos 0)) None
from_outside [] u v h = refl
from_outside (e ∷ es) u v h =
    let to : least es u e.from ≡ None = from_outside es u e.from (omega arith)
    ∙ cond-false (eqb u e.from) (Some (pos 0)) None (ne_eqb u e.from (λ s. let t : u ≡ e.from = s in omega arith)) in
    lesser_none (least es u v) (through (least es u e.from) e.bound (least es e.to v)) (rw to refl)
    ∙ from_outside es u v (omega arith)

pub entry_is : (es : List Edge) (rows : List (List (Option ℤ))) → IsMatrix es rows → (u v : ℕ) → entry rows u v ≡ least es u v
entry_is es rows m u v = elim (cases_lt u (length rows)) [
  | inl l ↦ cond-true (ltb u (length rows)) (get_or (get_or rows u []) v None) (cond (eqb u v) (Some (pos 0)) None) (lt-ltb u (length rows) l)
      ∙ elim (cases_lt v (length rows)) [
        | inl k ↦ m.each u v l k
        | inr k ↦
            let s = m.square u l in
            let n = m.many in
            get_or_past (get_or rows u []) v None (omega arith) ∙ sym (into_outside es u v (omega arith) (λ e. let t : u ≡ v = e in omega arith))
      ]
  | inr l ↦ cond-false (ltb u (length rows)) (get_or (get_or rows u []) v None) (cond (eqb u v) (Some (pos 0)) None) (le-ltb u (length rows) l)
      ∙ sym (from_outside es u v (let n = m.many in omega arith))
]

pub entries_are : (es : List Edge) (rows : List (List (Option ℤ))) → IsMatrix es rows → entry rows ≡ least es
entries_are es rows m = λ i u v. entry_is es rows m u v i

pub closed_entries : (es : List Edge) (rows : List (List (Option ℤ))) → IsMatrix es rows → Closed (entry rows)
closed_entries es rows m = subst Closed (sym (entries_are es rows m)) (least_closed es m.feasible)

if_some : (P : ℤ → Type 0) (o : Option ℤ) → ((a : ℤ) → o ≡ Some a → P a) → IfSome o P
if_some P None h = tt
if_some P (Some a) h = h a refl

trivial : (t : Bool) → IfSome (cond t (Some (pos 0)) None) IsSmall
trivial true = record { low = omega (arith, ints); high = omega (arith, ints) }
trivial false = tt

pub small_entries : (es : List Edge) (rows : List (List (Option ℤ))) → IsMatrix es rows → AreSmall rows
small_entries es rows m u v = rw (entry_is es rows m u v) (elim (cases_lt u (nodes_of es)) [
  | inl l ↦ if_some IsSmall (least es u v) (λ a h. least_size es u v a m.feasible m.small (let n = m.many in let f = m.few in omega arith) l h)
  | inr l ↦ rw (from_outside es u v l) (trivial (eqb u v))
])

pub matrix_after : (es : List Edge) (rows after : List (List (Option ℤ))) (e : Edge) (many : ℕ)
    → IsMatrix es rows → AreRowsAfter rows e many after → many ≡ nodes_of (e ∷ es) → e.from < 513 → e.to < 513 → IsSmallEdge e
    → closes es e ≡ false → IsMatrix (e ∷ es) after
matrix_after es rows after e many m r n from to small opens =
    let l = r.long in
    let old = m.many in
    let few = m.few in
    record {
      many = omega arith;
      few = omega arith;
      square = λ u h. let k = (r.each u (omega arith)).long in omega arith;
      each = λ u v h k. (r.each u (omega arith)).each v (omega arith) ∙ ap (λ (d : Totals). with_edge d e u v) (entries_are es rows m);
      feasible = feasible_more es e m.feasible opens;
      small = All-cons IsSmallEdge e es small m.small;
    }

one_row : (u v : ℕ) → u < 1 → v < 1 → get_or (get_or ((Some (pos 0) ∷ []) ∷ []) u []) v None ≡ least [] u v
one_row zero zero h k = refl
one_row zero (suc v) h k = absurd (omega arith)
one_row (suc u) v h k = absurd (omega arith)

one_square : (u : ℕ) → u < 1 → length (get_or ((Some (pos 0) ∷ []) ∷ []) u []) ≡ 1
one_square zero h = refl
one_square (suc u) h = absurd (omega arith)

pub matrix_empty : IsMatrix [] ((Some (pos 0) ∷ []) ∷ [])
matrix_empty = record {
  many = refl;
  few = omega arith;
  square = one_square;
  each = one_row;
  feasible = refl;
  small = All-nil IsSmallEdge;
}

pub closes_is : (es : List Edge) (rows : List (List (Option ℤ))) (e : Edge) → IsMatrix es rows → is_below (entry rows e.to e.from) e.bound ≡ closes es e
closes_is es rows e m = ap (λ (o : Option ℤ). is_below o e.bound) (entry_is es rows m e.to e.from)
