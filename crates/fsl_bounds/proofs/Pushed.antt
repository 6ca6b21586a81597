-- Rows and items that are pushed one by one.
use Rattle.std.proofs.Common.{◌≡◌, ℕ, ◌+◌, ◌<◌, false, cond, eqb, ltb, inl, inr, List, [], ◌∷◌, ◌++◌, length, get_or, Option, Some, None, ℤ, pos, sym, subst, ◌∙◌, arith}
use Rattle.std.proofs.lemmas.Bool.{cases_lt, cond-true, lt-ltb}
use Rattle.std.proofs.lemmas.List.{get_or_append_left, get_or_push, length-append}
use Rattle.fsl_lin.specs.declared.edge.Edge.{Edge}
use Rattle.fsl_lin.specs.Walks.{with_edge}
use Rattle.fsl_bounds.specs.Matrix.{entry, Closed, improves, IsRowAfter}
use Rattle.fsl_bounds.proofs.Closed.{row_stays}

-- what holds at each index holds after a push, where it holds of what is pushed
pub each_pushed : {X : Type 0} (P : ℕ → X → Type 0) (xs : List X) (y d : X) (n : ℕ) → length xs ≡ n → ((k : ℕ) → k < n → P k (get_or xs k d)) → P n y
    → (k : ℕ) → k < n + 1 → P k (get_or (xs ++ y ∷ []) k d)
each_pushed P xs y d n l h p k below =
    elim (cases_lt k n) [
      | inl less ↦ rw (get_or_append_left xs (y ∷ []) d k (omega arith)) (h k less)
      | inr most ↦
          let e : n ≡ k = omega arith in
          subst (λ (m : ℕ). P m (get_or (xs ++ y ∷ []) m d)) e (rw (get_or_push xs y d n l) p)
    ]

pub row_pushed : (rows : List (List (Option ℤ))) (e : Edge) (u v : ℕ) (items more : List (Option ℤ)) (item : Option ℤ)
    → IsRowAfter rows e u v items → item ≡ with_edge (entry rows) e u v → more ≡ items ++ item ∷ [] → IsRowAfter rows e u (v + 1) more
row_pushed rows e u v items more item h is pushed =
    rw pushed (record {
      long = let l = h.long in omega (arith, length-append items (item ∷ []));
      each = each_pushed (λ w x. x ≡ with_edge (entry rows) e u w) items item None v h.long h.each is;
    })

-- the rows before one, each with its items
pub record RowsSoFar (rows : List (List (Option ℤ))) (e : Edge) (many u : ℕ) (after : List (List (Option ℤ))) : Type 0 where
  pub long : length after ≡ u
  pub each : (w : ℕ) → w < u → IsRowAfter rows e w many (get_or after w [])

pub rows_pushed : (rows : List (List (Option ℤ))) (e : Edge) (many u : ℕ) (after more : List (List (Option ℤ))) (row : List (Option ℤ))
    → RowsSoFar rows e many u after → IsRowAfter rows e u many row → more ≡ after ++ row ∷ [] → RowsSoFar rows e many (u + 1) more
rows_pushed rows e many u after more row h is pushed =
    rw pushed (record {
      long = let l = h.long in omega (arith, length-append after (row ∷ []));
      each = each_pushed (λ w r. IsRowAfter rows e w many r) after row [] u h.long h.each is;
    })

-- a row that the edge makes no better is that of the edges with it
pub row_kept : (rows : List (List (Option ℤ))) (e : Edge) (u : ℕ) (row : List (Option ℤ)) → Closed (entry rows) → u < length rows
    → length (get_or rows u []) ≡ length rows → improves (entry rows) e u ≡ false → row ≡ get_or rows u [] → IsRowAfter rows e u (length rows) row
row_kept rows e u row k within square same is =
    rw is (record {
      long = square;
      each = λ v h.
          sym (cond-true (ltb u (length rows)) (get_or (get_or rows u []) v None) (cond (eqb u v) (Some (pos 0)) None) (lt-ltb u (length rows) within))
          ∙ sym (row_stays (entry rows) e u k same v);
    })
